-- `lookup::hit` meets its contract. Assumes nothing.
use Rattle.lookup.proofs.Storing.{used}
use borrow.Author.Rules.{rules}
use Rattle.lookup.proofs.hit.Goals as goal

pub returns : goal.returns
returns c = search (rules, used)
