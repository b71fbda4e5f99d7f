-- `table::counted` meets its contract. Assumes nothing.
use Rattle.table.proofs.Checking.{count_route, count_branch}
use borrow.Author.Rules.{rules}
use Rattle.table.proofs.counted.Goals as goal

pub returns-then-mark_of-ne0 : goal.returns-then-mark_of-ne0
returns-then-mark_of-ne0 c = search (rules, count_route)

pub returns-else-mark_of-ne0 : goal.returns-else-mark_of-ne0
returns-else-mark_of-ne0 c = search (rules, count_branch)
