-- `renewal::renew` meets its contract. Assumes nothing.
use Rattle.renewal.proofs.Going.{going_start, going_on, going_done}
use borrow.Author.Rules.{rules}
use Rattle.renewal.proofs.renew.Goals as goal

pub loop-p-init : goal.loop-p-init
loop-p-init c = search (rules, going_start)

pub loop-p-preserved : goal.loop-p-preserved
loop-p-preserved c = search (rules, going_on)

pub returns : goal.returns
returns c = search (rules, going_done)
