-- `slots::set_entry` meets its contract. Assumes nothing.
use borrow.Author.Rules.{rules}
use Rattle.slots.specs.Stores.{put_entry}
use Rattle.slots.proofs.set_entry.Goals as goal

pub returns : goal.returns
unfolding put_entry
returns c = search rules
