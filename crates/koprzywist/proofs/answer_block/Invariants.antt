-- `koprzywist::answer_block` meets its contract. Assumes nothing.
use mathlib.Core.Path.{◌≡◌}
use Prim.Native.Nat.{◌-◌, ◌≤◌}
use lib.ListN.{length}
use Rattle.koprzywist.specs.Blocks.{from, Lines}
use Rattle.koprzywist.proofs.answer_block.Given as goal

abbrev pub invariant-loop-at : goal.invariant-loop-at
invariant-loop-at l =
    (l.at ≤ length l.block)
    × (length l.table ≡ length l.initial.table)
    × (length l.cache ≡ length l.initial.cache)
    × (length l.out ≡ length l.initial.out)
    × Lines l.block l.initial.table l.initial.cache l.initial.out (from 0 l.initial.tallies) l.table l.cache l.out (from l.at l.tallies)

abbrev pub decreases-loop-at : goal.decreases-loop-at
decreases-loop-at l = length l.block - l.at
