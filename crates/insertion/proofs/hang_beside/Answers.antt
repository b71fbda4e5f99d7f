-- `insertion::hang_beside` meets its contract. Assumes nothing.
use Rattle.insertion.proofs.HangLaws.{beside_hung}
use borrow.Author.Rules.{rules}
use Rattle.insertion.proofs.hang_beside.Goals as goal

pub returns : goal.returns
returns c = search (rules, beside_hung)
