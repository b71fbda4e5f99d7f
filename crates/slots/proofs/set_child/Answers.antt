-- `slots::set_child` meets its contract. Assumes nothing.
use borrow.Author.Rules.{rules}
use Rattle.slots.specs.Stores.{put_child}
use Rattle.slots.proofs.set_child.Goals as goal

pub returns : goal.returns
unfolding put_child
returns c = search rules
