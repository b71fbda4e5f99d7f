-- `pairs::all_covered` meets its contract. Assumes nothing.
use borrow.Author.Rules.{rules}
use Rattle.pairs.proofs.CheckLaws.{passed_none, slot_wrong, passed_on, last_passed, all_passed}
use Rattle.pairs.proofs.all_covered.Goals as goal

pub loop-i-init : goal.loop-i-init
loop-i-init c = search (rules, passed_none)

pub returns-then-not-covered : goal.returns-then-not-covered
returns-then-not-covered c = search (rules, slot_wrong)

pub loop-i-preserved : goal.loop-i-preserved
loop-i-preserved c = search (rules, passed_on)

pub returns-else-not-covered : goal.returns-else-not-covered
returns-else-not-covered c = search (rules, last_passed)

pub returns : goal.returns
returns c = search (rules, all_passed)
