-- `search::matched` meets its contract. Assumes nothing.
use Rattle.search.proofs.Answers.{matched_none, matched_some}
use borrow.Author.Rules.{rules}
use Rattle.search.proofs.matched.Goals as goal

pub returns-then-mark-eq0 : goal.returns-then-mark-eq0
returns-then-mark-eq0 c = search (rules, matched_none)

pub returns : goal.returns
returns c = search (rules, matched_some)
