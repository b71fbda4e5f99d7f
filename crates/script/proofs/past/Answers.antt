-- `script::past` meets its contract. Assumes nothing.
use Rattle.std.proofs.Common.{rules}
use Rattle.script.proofs.LineEnds.{past_end, past_mark, past_other}
use Rattle.script.proofs.past.Goals as goal

pub returns-in_err-get : goal.returns-in_err-get
returns-in_err-get c = rw c.from_residual.ensures (search (rules, past_end))

pub returns-then-branch-mark : goal.returns-then-branch-mark
returns-then-branch-mark c = search (rules, past_mark)

pub returns : goal.returns
returns c = search (rules, past_other)
