-- `search::past` meets its contract. Assumes nothing.
use Rattle.search.proofs.Lengths.{too_long, past_fits, past_is}
use borrow.Author.Rules.{rules}
use Rattle.search.proofs.past.Goals as goal

pub returns-then-own-gt32 : goal.returns-then-own-gt32
returns-then-own-gt32 c = search (rules, too_long)

pub overflow_add-result : goal.overflow_add-result
overflow_add-result c = search (rules, past_fits)

pub returns : goal.returns
returns c = search (rules, past_is)
