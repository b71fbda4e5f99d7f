-- `pairs::covered` meets its contract. Assumes nothing.
use borrow.Author.Rules.{rules}
use Rattle.pairs.proofs.CheckLaws.{covered_nothing, covered_inside, covered_hop}
use Rattle.pairs.proofs.covered.Goals as goal

pub returns-in_default : goal.returns-in_default
returns-in_default c = search (rules, covered_nothing)

pub returns-then-s : goal.returns-then-s
returns-then-s c = search (rules, covered_inside)

pub returns : goal.returns
returns c = search (rules, covered_hop)
