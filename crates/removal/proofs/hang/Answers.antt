-- `removal::hang` meets its contract. Assumes nothing.
use Rattle.removal.proofs.Moving.{far_cell, far_node, hangs}
use borrow.Author.Rules.{rules}
use Rattle.removal.proofs.hang.Goals as goal

pub returns-then-entries-cell : goal.returns-then-entries-cell
returns-then-entries-cell c = far_cell _ _ c.if-entries-cell.true

pub returns-then-entries-x : goal.returns-then-entries-x
returns-then-entries-x c = far_node _ _ c.if-entries-x.true

pub returns : goal.returns
returns c = search (rules, hangs)
