-- `withdraw::withdraw_at` meets its contract. Assumes nothing.
use Rattle.withdraw.proofs.Withdrawals.{at_branch, at_no_routes, route_at, at_route}
use borrow.Author.Rules.{rules}
use Rattle.withdraw.proofs.withdraw_at.Goals as goal

pub returns-then-mark_of-eq0 : goal.returns-then-mark_of-eq0
returns-then-mark_of-eq0 c = search (rules, at_branch)

pub returns-then-h-eq0 : goal.returns-then-h-eq0
returns-then-h-eq0 c = search (rules, at_no_routes)

pub remove-requires : goal.remove-requires
remove-requires c = search (rules, route_at)

pub returns : goal.returns
returns c = search (rules, at_route)
