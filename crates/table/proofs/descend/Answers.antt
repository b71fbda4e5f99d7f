-- `table::descend` meets its contract. Assumes nothing.
use borrow.Author.Rules.{rules}
use Rattle.table.proofs.Turning.{start, turned_less, turned_going, turned_over}
use Rattle.table.proofs.descend.Goals as goal

pub loop-next-init : goal.loop-next-init
loop-next-init c = search (rules, start)

pub loop-next-smaller : goal.loop-next-smaller
loop-next-smaller c = search (rules, turned_less)

pub loop-next-preserved : goal.loop-next-preserved
loop-next-preserved c = search (rules, turned_going)

pub returns : goal.returns
returns c = search (rules, turned_over)
