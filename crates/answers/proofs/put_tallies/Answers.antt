-- `answers::put_tallies` meets its contract. Assumes nothing.
use Rattle.answers.proofs.WritingLaws.{wrote_tallies}
use borrow.Author.Rules.{rules}
use Rattle.answers.proofs.put_tallies.Goals as goal

pub returns : goal.returns
returns c = search (rules, wrote_tallies)
