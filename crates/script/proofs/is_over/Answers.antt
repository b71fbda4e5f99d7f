-- `script::is_over` meets its contract. Assumes nothing.
use Rattle.std.proofs.Common.{rules}
use Rattle.script.proofs.LineEnds.{over_at, over_at_end}
use Rattle.script.proofs.is_over.Goals as goal

pub returns-in-Some : goal.returns-in-Some
returns-in-Some c = search (rules, over_at)

pub returns-in-None : goal.returns-in-None
returns-in-None c = search (rules, over_at_end)
