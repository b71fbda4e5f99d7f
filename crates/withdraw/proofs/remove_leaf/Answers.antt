-- `withdraw::remove_leaf` meets its contract. Assumes nothing.
use Rattle.withdraw.proofs.Removing.{gone_root, gone_far, gone_self, gone_leaf, gone_both}
use borrow.Author.Rules.{rules}
use Rattle.withdraw.proofs.remove_leaf.Goals as goal
use Rattle.withdraw.proofs.remove_leaf.Goals.{then-h-parent-via-then-h-parent, then-h-parent-via-else-h-parent+then-parent-p}

pub returns-then-parent-eq0 : goal.returns-then-parent-eq0
returns-then-parent-eq0 c = search (rules, gone_root)

pub returns-then-h-parent : goal.returns-then-h-parent
returns-then-h-parent c = elim c.then-h-parent.branch [
  | then-h-parent-via-then-h-parent w ↦ search (rules, gone_far)
  | then-h-parent-via-else-h-parent+then-parent-p w ↦ search (rules, gone_self)
]

pub returns-then-mark_of-ne0 : goal.returns-then-mark_of-ne0
returns-then-mark_of-ne0 c = search (rules, gone_leaf)

pub returns : goal.returns
returns c = search (rules, gone_both)
