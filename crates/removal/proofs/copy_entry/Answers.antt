-- `removal::copy_entry` meets its contract. Assumes nothing.
use Rattle.removal.proofs.Moving.{long_entry, copies}
use borrow.Author.Rules.{rules}
use Rattle.removal.proofs.copy_entry.Goals as goal

pub returns-then-n-gt32 : goal.returns-then-n-gt32
returns-then-n-gt32 c = search (rules, long_entry)

pub returns : goal.returns
returns c = search (rules, copies)
