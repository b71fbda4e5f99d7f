-- `search::least` meets its contract. Assumes nothing.
use Rattle.search.proofs.Lengths.{least_past, least_none, least_end}
use borrow.Author.Rules.{rules}
use Rattle.search.proofs.least.Goals as goal

pub returns-then-stop-ne0 : goal.returns-then-stop-ne0
returns-then-stop-ne0 c = search (rules, least_past)

pub returns-then-stop-eq0 : goal.returns-then-stop-eq0
returns-then-stop-eq0 c = search (rules, least_none)

pub returns : goal.returns
returns c = search (rules, least_end)
