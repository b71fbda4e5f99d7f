-- `removal::fill_entry` meets its contract. Assumes nothing.
use Rattle.removal.proofs.Moving.{fill_same, fill_other}
use borrow.Author.Rules.{rules}
use Rattle.removal.proofs.fill_entry.Goals as goal

pub returns-then-s-t : goal.returns-then-s-t
returns-then-s-t c = search (rules, fill_same)

pub returns : goal.returns
returns c = search (rules, fill_other)
