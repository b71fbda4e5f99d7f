-- `koprzywist::whole_lines` meets its contract. Assumes nothing.
use mathlib.Core.Path.{◌≡◌}
use Prim.Native.Nat.{◌-◌}
use lib.ListN.{length}
use Rattle.koprzywist.specs.Blocks.{Lines}
use Rattle.koprzywist.proofs.whole_lines.Given as goal

abbrev pub invariant-loop-next : goal.invariant-loop-next
invariant-loop-next l =
    (length l.table ≡ length l.initial.table)
    × (length l.cache ≡ length l.initial.cache)
    × (length l.out ≡ length l.initial.out)
    × Lines l.block l.initial.table l.initial.cache l.initial.out l.initial.reached l.table l.cache l.out l.reached

abbrev pub decreases-loop-next : goal.decreases-loop-next
decreases-loop-next l = length l.block - l.reached.at
