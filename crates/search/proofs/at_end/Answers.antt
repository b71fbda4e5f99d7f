-- `search::at_end` meets its contract. Assumes nothing.
use Rattle.search.proofs.Lengths.{end_node, end_leaf}
use borrow.Author.Rules.{rules}
use Rattle.search.proofs.at_end.Goals as goal

pub returns-then-has_child : goal.returns-then-has_child
returns-then-has_child c = search (rules, end_node)

pub returns-else-has_child : goal.returns-else-has_child
returns-else-has_child c = search (rules, end_leaf)
