-- `table::descend` meets its contract. Assumes nothing.
use Prim.Native.Nat.{◌+◌, ◌-◌}
use Rattle.prefix.specs.Addresses.{ipv4_bits}
use Rattle.table.specs.Turns.{Going}
use Rattle.table.proofs.descend.Given as goal

abbrev pub invariant-loop-next : goal.invariant-loop-next
invariant-loop-next l = Going l.nodes.store.now (ipv4_bits l.sought.address) l.sought.length l.w

abbrev pub decreases-loop-next : goal.decreases-loop-next
decreases-loop-next l = l.sought.length + 1 - l.w.examined
