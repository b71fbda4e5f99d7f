-- `answers::put` meets its contract. Assumes nothing.
use Rattle.answers.proofs.WritingLaws.{wrote_both, room_for_number, number_ends}
use borrow.Author.Rules.{rules}
use Rattle.answers.proofs.put.Goals as goal

pub put_number-requires : goal.put_number-requires
put_number-requires c = search (rules, room_for_number)

pub returns : goal.returns
returns c = search (rules, wrote_both, number_ends)
