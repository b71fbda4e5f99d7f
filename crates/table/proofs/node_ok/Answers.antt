-- `table::node_ok` meets its contract. Assumes nothing.
use Rattle.table.proofs.Checking.{node_long, node_mark, passed_on, node_fine, node_up}
use borrow.Author.Rules.{rules}
use Rattle.table.proofs.node_ok.Goals.{then-node-gt32-via-then-node-gt32, then-node-gt32-via-else-node-gt32+then-not-mark_ok, then-node-gt32-via-else-node-gt32+else-not-mark_ok+then-not-owned, then-node-gt32-via-else-node-gt32+else-not-mark_ok+else-not-owned+then-not-child_ok}
use Rattle.table.proofs.node_ok.Goals as goal

pub owned-requires-clause-its_cell : goal.owned-requires-clause-its_cell
owned-requires-clause-its_cell c = search (rules, node_up)

pub returns-then-node-gt32 : goal.returns-then-node-gt32
returns-then-node-gt32 c = elim c.then-node-gt32.branch [
  | then-node-gt32-via-then-node-gt32 w ↦ search (rules, node_long)
  | then-node-gt32-via-else-node-gt32+then-not-mark_ok w ↦ search (rules, node_mark)
  | then-node-gt32-via-else-node-gt32+else-not-mark_ok+then-not-owned w ↦ search (rules, passed_on)
  | then-node-gt32-via-else-node-gt32+else-not-mark_ok+else-not-owned+then-not-child_ok w ↦ search (rules, passed_on)
]

pub returns : goal.returns
returns c = search (rules, node_fine)
