-- `insertion::hang_entry` meets its contract. Assumes nothing.
use Rattle.insertion.proofs.HangLaws.{far_node, far_cell, beside}
use borrow.Author.Rules.{rules}
use Rattle.insertion.proofs.hang_entry.Goals as goal

pub returns-then-entries-x : goal.returns-then-entries-x
returns-then-entries-x c = search (rules, far_node)

pub returns-then-entries-cell : goal.returns-then-entries-cell
returns-then-entries-cell c = search (rules, far_cell)

pub hang_beside-requires : goal.hang_beside-requires
hang_beside-requires c = search (rules, beside)
