-- `removal::take_out` meets its contract. Assumes nothing.
use Rattle.removal.proofs.Closing.{gone_only, gone_near, gone_far, gone_beside}
use borrow.Author.Rules.{rules}
use Rattle.removal.proofs.take_out.Goals as goal

pub returns-then-entries-eq1 : goal.returns-then-entries-eq1
returns-then-entries-eq1 c = search (rules, gone_only)

pub returns-then-cell-lt2 : goal.returns-then-cell-lt2
returns-then-cell-lt2 c = search (rules, gone_near)

pub returns-then-entries-cell : goal.returns-then-entries-cell
returns-then-entries-cell c = search (rules, gone_far)

pub returns : goal.returns
returns c = search (rules, gone_beside)
