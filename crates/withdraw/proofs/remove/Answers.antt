-- `withdraw::remove` meets its contract. Assumes nothing.
use Rattle.withdraw.proofs.Removing.{gone_right, gone_left, gone_hop}
use borrow.Author.Rules.{rules}
use Rattle.withdraw.proofs.remove.Goals as goal
use Rattle.withdraw.proofs.remove.Goals.{in-0-default, in-0-default-2}

pub returns-in_default : goal.returns-in_default
returns-in_default c = search (rules, gone_hop)

pub returns-in-0-default : goal.returns-in-0-default
returns-in-0-default c = elim c.in-0-default-1.branch [
  | in-0-default w ↦ search (rules, gone_right)
  | in-0-default-2 w ↦ search (rules, gone_left)
]
