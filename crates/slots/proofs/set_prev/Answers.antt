-- `slots::set_prev` meets its contract. Assumes nothing.
use borrow.Author.Rules.{rules}
use Rattle.slots.specs.Stores.{put_prev}
use Rattle.slots.proofs.set_prev.Goals as goal

pub returns : goal.returns
unfolding put_prev
returns c = search rules
