-- `table::owned` meets its contract. Assumes nothing.
use Rattle.table.proofs.Judging.{cell_one, cell_far, cell_points}
use borrow.Author.Rules.{rules}
use Rattle.table.proofs.owned.Goals.{then-cell-eq1-via-then-cell-eq1, then-cell-eq1-via-else-cell-eq1+then-nodes-cell}
use Rattle.table.proofs.owned.Goals as goal

pub returns-then-cell-eq1 : goal.returns-then-cell-eq1
returns-then-cell-eq1 c = elim c.then-cell-eq1.branch [
  | then-cell-eq1-via-then-cell-eq1 w ↦ search (rules, cell_one)
  | then-cell-eq1-via-else-cell-eq1+then-nodes-cell w ↦ search (rules, cell_far)
]

pub returns : goal.returns
returns c = search (rules, cell_points)
