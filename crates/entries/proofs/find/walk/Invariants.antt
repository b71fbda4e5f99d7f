-- `entries::find::walk` meets its contract. Assumes nothing.
use Prim.Native.Nat.{◌-◌}
use Rattle.prefix.specs.Addresses.{ipv4_bits}
use Rattle.entries.specs.Walks.{Going}
use Rattle.entries.proofs.find.walk.Given as goal

abbrev pub invariant-loop : goal.invariant-loop
invariant-loop l = Going l.slots.store.now (ipv4_bits l.x) l.at (33 - l.counter)
