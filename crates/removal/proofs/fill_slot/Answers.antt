-- `removal::fill_slot` meets its contract. Assumes nothing.
use Rattle.removal.proofs.Moving.{slot_same, slot_other}
use borrow.Author.Rules.{rules}
use Rattle.removal.proofs.fill_slot.Goals as goal

pub returns-then-entries-t : goal.returns-then-entries-t
returns-then-entries-t c = search (rules, slot_same)

pub returns : goal.returns
returns c = search (rules, slot_other)
