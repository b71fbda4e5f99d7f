-- `removal::move_branch` meets its contract. Assumes nothing.
use Rattle.removal.proofs.Moving.{far_left, far_right, far_up, moves_branch}
use borrow.Author.Rules.{rules}
use Rattle.removal.proofs.move_branch.Goals as goal

pub returns-then-entries-left : goal.returns-then-entries-left
returns-then-entries-left c = search (rules, far_left)

pub returns-then-entries-right : goal.returns-then-entries-right
returns-then-entries-right c = search (rules, far_right)

pub returns-then-entries-cell : goal.returns-then-entries-cell
returns-then-entries-cell c = search (rules, far_up)

pub returns : goal.returns
returns c = search (rules, moves_branch)
