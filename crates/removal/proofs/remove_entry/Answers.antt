-- `removal::remove_entry` meets its contract. Assumes nothing.
use Rattle.removal.proofs.Closing.{counted_kept, counted_removes}
use borrow.Author.Rules.{rules}
use Rattle.removal.proofs.remove_entry.Goals as goal

pub returns : goal.returns
returns c = search (rules, counted_kept, counted_removes)
