-- `search::inside_at` meets its contract. Assumes nothing.
use Rattle.search.proofs.RoutesInside.{inside_none, inside_shorter, inside_own}
use borrow.Author.Rules.{rules}
use Rattle.search.proofs.inside_at.Goals.{then-last-eq0-via-then-last-eq0, then-last-eq0-via-else-last-eq0+then-length_of-sought}
use Rattle.search.proofs.inside_at.Goals as goal

pub returns-then-last-eq0 : goal.returns-then-last-eq0
returns-then-last-eq0 c = elim c.then-last-eq0.branch [
  | then-last-eq0-via-then-last-eq0 w ↦ search (rules, inside_none)
  | then-last-eq0-via-else-last-eq0+then-length_of-sought w ↦ search (rules, inside_shorter)
]

pub returns : goal.returns
returns c = search (rules, inside_own)
