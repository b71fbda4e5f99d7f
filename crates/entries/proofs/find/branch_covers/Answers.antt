-- `entries::find::branch_covers` meets its contract. Assumes nothing.
use Rattle.entries.proofs.EntryLaws.{covers_read}
use borrow.Author.Rules.{rules}
use Rattle.entries.proofs.find.branch_covers.Goals as goal

pub returns : goal.returns
returns c = search (rules, covers_read)
