-- `removal::move_entry` meets its contract. Assumes nothing.
use Rattle.removal.proofs.Moving.{moves}
use borrow.Author.Rules.{rules}
use Rattle.removal.proofs.move_entry.Goals as goal

pub returns : goal.returns
returns c = search (rules, moves)
