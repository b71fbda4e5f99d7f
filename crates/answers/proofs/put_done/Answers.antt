-- `answers::put_done` meets its contract. Assumes nothing.
use Rattle.answers.proofs.WritingLaws.{wrote_done}
use borrow.Author.Rules.{rules}
use Rattle.answers.proofs.put_done.Goals as goal

pub returns : goal.returns
returns c = search (rules, wrote_done)
