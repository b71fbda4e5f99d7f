-- `cache::set_up` meets its contract. Assumes nothing.
use Rattle.cache.proofs.Fresh.{cache_set_up}
use borrow.Author.Rules.{rules}
use Rattle.cache.proofs.set_up.Goals as goal

pub returns : goal.returns
returns c = search (rules, cache_set_up)
