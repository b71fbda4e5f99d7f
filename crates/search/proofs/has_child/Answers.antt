-- `search::has_child` meets its contract. Assumes nothing.
use Rattle.search.proofs.RoutesInside.{child_left, child_right}
use borrow.Author.Rules.{rules}
use borrow.Author.Tests.{ne_eqb}
use Rattle.search.proofs.has_child.Goals as goal

pub returns-then-child_of-ne0 : goal.returns-then-child_of-ne0
returns-then-child_of-ne0 c = rw (ne_eqb c.child_of.result 0 c.if-child_of-ne0.true) (search (rules, child_left))

pub returns-else-child_of-ne0 : goal.returns-else-child_of-ne0
returns-else-child_of-ne0 c = search (rules, child_right)
