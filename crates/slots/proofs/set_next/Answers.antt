-- `slots::set_next` meets its contract. Assumes nothing.
use borrow.Author.Rules.{rules}
use Rattle.slots.specs.Stores.{put_next}
use Rattle.slots.proofs.set_next.Goals as goal

pub returns : goal.returns
unfolding put_next
returns c = search rules
