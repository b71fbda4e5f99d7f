-- `search::lies_inside` meets its contract. Assumes nothing.
use Rattle.search.proofs.RoutesInside.{lies_none, lies_shorter, lies_covered}
use borrow.Author.Rules.{rules}
use Rattle.search.proofs.lies_inside.Goals.{then-p-eq0-via-then-p-eq0, then-p-eq0-via-else-p-eq0+then-length_of-sought}
use Rattle.search.proofs.lies_inside.Goals as goal

pub returns-then-p-eq0 : goal.returns-then-p-eq0
returns-then-p-eq0 c = elim c.then-p-eq0.branch [
  | then-p-eq0-via-then-p-eq0 w ↦ search (rules, lies_none)
  | then-p-eq0-via-else-p-eq0+then-length_of-sought w ↦ search (rules, lies_shorter)
]

pub returns : goal.returns
returns c = search (rules, lies_covered)
