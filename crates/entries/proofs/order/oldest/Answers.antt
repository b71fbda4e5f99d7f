-- `entries::order::oldest` meets its contract. Assumes nothing.
use borrow.Author.Rules.{rules}
use Rattle.entries.proofs.Ordering.{oldest_is}
use Rattle.entries.proofs.order.oldest.Goals as goal

pub returns : goal.returns
returns c = search (rules, oldest_is)
