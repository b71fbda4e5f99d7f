-- `table::better` meets its contract. Assumes nothing.
use Rattle.table.proofs.Reading.{better_route, better_branch}
use borrow.Author.Rules.{rules}
use Rattle.table.proofs.better.Goals as goal

pub returns-then-mark_of-eq0 : goal.returns-then-mark_of-eq0
returns-then-mark_of-eq0 c = search (rules, better_branch)

pub returns-else-mark_of-eq0 : goal.returns-else-mark_of-eq0
returns-else-mark_of-eq0 c = search (rules, better_route)
