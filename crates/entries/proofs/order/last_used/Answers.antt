-- `entries::order::last_used` meets its contract. Assumes nothing.
use borrow.Author.Rules.{rules}
use Rattle.entries.proofs.Ordering.{oldest_found, oldest_none}
use Rattle.entries.proofs.order.last_used.Goals as goal

pub returns : goal.returns
returns c = search (rules, oldest_found)

pub returns-then-last-eq0 : goal.returns-then-last-eq0
returns-then-last-eq0 c = search (rules, oldest_none)
