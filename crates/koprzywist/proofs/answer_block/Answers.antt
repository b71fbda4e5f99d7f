-- `koprzywist::answer_block` meets its contract. Assumes nothing.
use Rattle.std.proofs.Common.{rules, sym, length-take-le}
use Rattle.koprzywist.specs.Blocks.{at_start}
use Rattle.koprzywist.proofs.Rounds.{nothing_waits, and_round, round_inside, round_onward, failed, all_written}
use Rattle.koprzywist.proofs.answer_block.Goals as goal

pub loop-at-init : goal.loop-at-init
loop-at-init c = (search rules, search rules, search rules, search rules, at_start)

pub slice_bounds-write_all-end : goal.slice_bounds-write_all-end
slice_bounds-write_all-end c = nothing_waits c.whole_lines-reached.ensures.lines

pub slice_bounds-write_all-end-in-loop-at : goal.slice_bounds-write_all-end-in-loop-at
slice_bounds-write_all-end-in-loop-at c = sym (length-take-le _ _ (nothing_waits c.whole_lines-reached.ensures.lines))

pub returns-in_err-write_all : goal.returns-in_err-write_all
returns-in_err-write_all c =
    let round = c.whole_lines-reached.ensures in
    failed _ _ _ round.lines round.stopped _ _ _ _ c.loop-at.invariant.4 _ c.from_residual.ensures.0

pub returns-then-reached-at : goal.returns-then-reached-at
returns-then-reached-at c =
    let round = c.whole_lines-reached.ensures in
    record { is = all_written _ _ _ round.lines round.stopped _ _ _ _ c.loop-at.invariant.4 c.loop-at.invariant.3 c.if-reached-at.true }

pub loop-at-smaller : goal.loop-at-smaller
loop-at-smaller c =
    let round = c.whole_lines-reached.ensures in
    round_onward _ _ _ round.lines round.stopped c.loop-at.invariant.0 c.if-reached-at.false

pub loop-at-preserved : goal.loop-at-preserved
loop-at-preserved c =
    let round = c.whole_lines-reached.ensures in
    (round_inside _ _ _ round.lines round.stopped c.loop-at.invariant.0, search rules, search rules, search rules, and_round _ c.loop-at.invariant.4 round.lines)
