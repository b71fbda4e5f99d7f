-- `insertion::hang_first` meets its contract. Assumes nothing.
use Rattle.insertion.proofs.HangLaws.{first_hung}
use borrow.Author.Rules.{rules}
use Rattle.insertion.proofs.hang_first.Goals as goal

pub returns : goal.returns
returns c = search (rules, first_hung)
