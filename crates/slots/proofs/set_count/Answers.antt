-- `slots::set_count` meets its contract. Assumes nothing.
use borrow.Author.Rules.{rules}
use Rattle.slots.specs.Stores.{put_count}
use Rattle.slots.proofs.set_count.Goals as goal

pub returns : goal.returns
unfolding put_count
returns c = search rules
