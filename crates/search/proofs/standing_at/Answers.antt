-- `search::standing_at` meets its contract. Assumes nothing.
use Rattle.search.proofs.Standings.{standing_none, standing_match}
use borrow.Author.Rules.{rules}
use Rattle.search.proofs.standing_at.Goals as goal

pub returns-then-route-eq0 : goal.returns-then-route-eq0
returns-then-route-eq0 c = search (rules, standing_none)

pub returns : goal.returns
returns c = search (rules, standing_match)
