-- `search::answer_at` meets its contract. Assumes nothing.
use Rattle.search.proofs.Answers.{answer_none, answer_match}
use borrow.Author.Rules.{rules}
use Rattle.search.proofs.answer_at.Goals as goal

pub returns-then-best-eq0 : goal.returns-then-best-eq0
returns-then-best-eq0 c = search (rules, answer_none)

pub returns : goal.returns
returns c = search (rules, answer_match)
