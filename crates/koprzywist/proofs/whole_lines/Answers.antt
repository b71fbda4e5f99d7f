-- `koprzywist::whole_lines` meets its contract. Assumes nothing.
use borrow.Author.Rules.{rules}
use Rattle.koprzywist.specs.Blocks.{at_start}
use Rattle.koprzywist.proofs.Stepping.{step_onward, and_step, stopped_there, lines_left}
use Rattle.koprzywist.proofs.whole_lines.Goals as goal

pub loop-next-init : goal.loop-next-init
loop-next-init c = (search rules, search rules, search rules, at_start)

pub loop-next-smaller : goal.loop-next-smaller
loop-next-smaller c = step_onward _ c.in-Some.ensures

pub loop-next-preserved : goal.loop-next-preserved
loop-next-preserved c = (search rules, search rules, search rules, and_step _ c.in-Some.ensures c.loop-next.invariant.3)

pub returns : goal.returns
returns c = record {
  lines = lines_left c.in_default.ensures c.loop-next.invariant.3;
  stopped = stopped_there c.in_default.ensures _ c.loop-next.invariant.2;
}
