-- `insertion::insert_entry` meets its contract. Assumes nothing.
use Rattle.insertion.proofs.InsertLaws.{insert_kept, insert_holds}
use borrow.Author.Rules.{rules}
use Rattle.insertion.proofs.insert_entry.Goals as goal

pub returns : goal.returns
returns c = search (rules, insert_kept, insert_holds)
