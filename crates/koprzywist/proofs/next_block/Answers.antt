-- `koprzywist::next_block` is safe. Assumes nothing.
use Rattle.std.proofs.Common.{length-take-le}
use native.Mathlib.Omega.{arith}
use Rattle.koprzywist.proofs.Rounds.{answered_inside}
use Rattle.koprzywist.proofs.next_block.Goals as goal

pub overflow_sub-n : goal.overflow_sub-n
overflow_sub-n c = omega (arith, answered_inside _ c.in_ok-answered.ensures.is, length-take-le _ _ c.in-Some.ensures)

pub copy_within-requires-clause-in_bounds : goal.copy_within-requires-clause-in_bounds
copy_within-requires-clause-in_bounds c =
    omega (arith, answered_inside _ c.in_ok-answered.ensures.is, length-take-le _ _ c.in-Some.ensures, c.in-Some.ensures, c.min-bytes.ensures)
