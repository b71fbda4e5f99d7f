-- `entries::find::step` meets its contract. Assumes nothing.
use Rattle.entries.proofs.WalkLaws.{ends_here, ends_miss, goes_on}
use borrow.Author.Rules.{rules}
use Rattle.entries.proofs.find.step.Goals as goal

pub returns-then-at-eq0 : goal.returns-then-at-eq0
returns-then-at-eq0 c = search (rules, ends_here)

pub returns-then-not-branch_covers : goal.returns-then-not-branch_covers
returns-then-not-branch_covers c = search (rules, ends_miss)

pub returns : goal.returns
returns c = search (rules, goes_on)
