-- `withdraw::withdraw` meets its contract. Assumes nothing.
use Rattle.verdicts.proofs.Stopping.{not_read, last_room, last_at, last_own}
use Rattle.withdraw.proofs.Withdrawals.{none_contains, last_shorter}
use borrow.Author.Rules.{rules}
use Rattle.withdraw.proofs.withdraw.Goals as goal
use Rattle.withdraw.proofs.withdraw.Goals.{then-p-eq0-via-then-p-eq0, then-p-eq0-via-else-p-eq0+then-length_of-prefix}

pub returns-in_err-h : goal.returns-in_err-h
returns-in_err-h c = search (rules, not_read)

pub returns-then-p-eq0 : goal.returns-then-p-eq0
returns-then-p-eq0 c = elim c.then-p-eq0.branch [
  | then-p-eq0-via-then-p-eq0 w ↦ search (rules, none_contains)
  | then-p-eq0-via-else-p-eq0+then-length_of-prefix w ↦ search (rules, last_shorter)
]

pub length_of-requires : goal.length_of-requires
length_of-requires c = search (rules, last_room)

pub withdraw_at-requires : goal.withdraw_at-requires
withdraw_at-requires c = search (rules, last_at)

pub returns : goal.returns
returns c = search (rules, last_own)
