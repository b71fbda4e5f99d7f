-- `entries::order::push_front` meets its contract. Assumes nothing.
use Rattle.entries.proofs.Ordering.{far_first, pushed}
use borrow.Author.Rules.{rules}
use Rattle.entries.proofs.order.push_front.Goals as goal

pub returns-then-entries-first : goal.returns-then-entries-first
returns-then-entries-first c = search (rules, far_first)

pub returns : goal.returns
returns c = search (rules, pushed)
