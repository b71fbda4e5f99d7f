-- `entries::order::take_place` meets its contract. Assumes nothing.
use Rattle.entries.proofs.Ordering.{far_prev, far_next, replaced}
use borrow.Author.Rules.{rules}
use Rattle.entries.proofs.order.take_place.Goals as goal

pub returns-then-entries-before : goal.returns-then-entries-before
returns-then-entries-before c = search (rules, far_prev)

pub returns-then-entries-after : goal.returns-then-entries-after
returns-then-entries-after c = search (rules, far_next)

pub returns : goal.returns
returns c = search (rules, replaced)
