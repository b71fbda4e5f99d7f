-- `entries::order::to_front` meets its contract. Assumes nothing.
use Rattle.entries.proofs.Ordering.{used_kept, used_holds}
use borrow.Author.Rules.{rules}
use Rattle.entries.proofs.order.to_front.Goals as goal

pub returns : goal.returns
returns c = search (rules, used_kept, used_holds)
