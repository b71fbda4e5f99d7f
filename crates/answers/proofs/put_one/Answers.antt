-- `answers::put_one` meets its contract. Assumes nothing.
use Rattle.answers.proofs.WritingLaws.{wrote_both}
use borrow.Author.Rules.{rules}
use Rattle.answers.proofs.put_one.Goals as goal

pub returns : goal.returns
returns c = search (rules, wrote_both)
