-- `table::child_ok` meets its contract. Assumes nothing.
use Rattle.table.proofs.Judging.{cell_empty, cell_out, cell_goes_on, cell_back}
use borrow.Author.Rules.{rules}
use Rattle.table.proofs.child_ok.Goals.{then-nodes-p-via-then-nodes-p, then-nodes-p-via-else-nodes-p+then-up_of-cell}
use Rattle.table.proofs.child_ok.Goals as goal

pub returns-then-p-eq0 : goal.returns-then-p-eq0
returns-then-p-eq0 c = search (rules, cell_empty)

pub returns-then-nodes-p : goal.returns-then-nodes-p
returns-then-nodes-p c = elim c.then-nodes-p.branch [
  | then-nodes-p-via-then-nodes-p w ↦ search (rules, cell_out)
  | then-nodes-p-via-else-nodes-p+then-up_of-cell w ↦ search (rules, cell_back)
]

pub returns : goal.returns
returns c = search (rules, cell_goes_on)
