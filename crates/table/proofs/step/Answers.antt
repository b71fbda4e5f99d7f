-- `table::step` meets its contract. Assumes nothing.
use Rattle.table.proofs.Turning.{over_none, over_out, over_many, parted, on}
use borrow.Author.Rules.{rules}
use Rattle.table.proofs.step.Goals.{then-at-eq0-via-then-at-eq0, then-at-eq0-via-else-at-eq0+then-nodes-at, then-at-eq0-via-else-at-eq0+else-nodes-at+then-sought-w}
use Rattle.table.proofs.step.Goals as goal

pub returns-then-at-eq0 : goal.returns-then-at-eq0
returns-then-at-eq0 c = elim c.then-at-eq0.branch [
  | then-at-eq0-via-then-at-eq0 w ↦ search (rules, over_none)
  | then-at-eq0-via-else-at-eq0+then-nodes-at w ↦ search (rules, over_out)
  | then-at-eq0-via-else-at-eq0+else-nodes-at+then-sought-w w ↦ search (rules, over_many)
]

pub returns-then-holds : goal.returns-then-holds
returns-then-holds c = search (rules, on)

pub returns : goal.returns
returns c = search (rules, parted)
