-- `slots::set_up_cache` meets its contract. Assumes nothing.
use borrow.Author.Rules.{rules}
use Rattle.slots.specs.Stores.{emptied, put_count, put_child, put_prev, put_next}
use Rattle.slots.proofs.set_up_cache.Goals as goal

pub returns : goal.returns
unfolding emptied put_count put_child put_prev put_next
returns c = search rules
