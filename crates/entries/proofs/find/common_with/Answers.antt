-- `entries::find::common_with` meets its contract. Assumes nothing.
use Rattle.entries.proofs.EntryLaws.{common_read}
use borrow.Author.Rules.{rules}
use Rattle.entries.proofs.find.common_with.Goals as goal

pub returns : goal.returns
returns c = search (rules, common_read)
