-- `koprzywist::run` is safe. Assumes nothing.
use Rattle.std.proofs.Common.{sym, length-take-le}
use native.Mathlib.Omega.{arith}
use Rattle.koprzywist.proofs.Stepping.{printed_inside}
use Rattle.koprzywist.proofs.run.Goals as goal

pub slice_bounds-write_all-end : goal.slice_bounds-write_all-end
slice_bounds-write_all-end c = printed_inside _ _ _ _ _ c.write_line-n.ensures (omega arith)

pub slice_bounds-write_all-end-2 : goal.slice_bounds-write_all-end-2
slice_bounds-write_all-end-2 c = sym (length-take-le _ _ (printed_inside _ _ _ _ _ c.write_line-n.ensures (omega arith)))
