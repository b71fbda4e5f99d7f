-- `lookup::store_entry` meets its contract. Assumes nothing.
use Rattle.lookup.proofs.Storing.{stored}
use borrow.Author.Rules.{rules}
use Rattle.lookup.proofs.store_entry.Goals as goal

pub returns : goal.returns
returns c = search (rules, stored, c.in_ok-held.ensures)
