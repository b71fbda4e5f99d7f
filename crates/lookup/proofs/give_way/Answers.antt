-- `lookup::give_way` meets its contract. Assumes nothing.
use Rattle.lookup.proofs.Storing.{no_oldest, others_left, one_evicted}
use borrow.Author.Rules.{rules}
use Rattle.lookup.proofs.give_way.Goals as goal

pub returns-in_default : goal.returns-in_default
returns-in_default c = search (rules, no_oldest)

pub returns : goal.returns
returns c = search (rules, others_left, one_evicted)
