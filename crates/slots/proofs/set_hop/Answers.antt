-- `slots::set_hop` meets its contract. Assumes nothing.
use borrow.Author.Rules.{rules}
use Rattle.slots.specs.Stores.{put_hop}
use Rattle.slots.proofs.set_hop.Goals as goal

pub returns : goal.returns
unfolding put_hop
returns c = search rules
