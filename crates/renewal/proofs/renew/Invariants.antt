-- `renewal::renew` meets its contract. Assumes nothing.
use Prim.Native.Nat.{◌+◌}
use Rattle.renewal.specs.Passes.{Going}
use Rattle.renewal.proofs.renew.Given as goal

abbrev pub invariant-loop-p : goal.invariant-loop-p
invariant-loop-p l = Going l.table l.initial.cache l.cache l.u l.p

abbrev pub decreases-loop-p : goal.decreases-loop-p
decreases-loop-p l = l.p.at + l.p.entries
