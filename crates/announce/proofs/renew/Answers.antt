-- `announce::renew` meets its contract. Assumes nothing.
use Rattle.announce.proofs.Announcements.{at_route, at_branch, at_branch_full}
use borrow.Author.Rules.{rules}
use Rattle.announce.proofs.renew.Goals as goal

pub returns-then-mark_of-ne0 : goal.returns-then-mark_of-ne0
returns-then-mark_of-ne0 c = search (rules, at_route)

pub returns-then-h : goal.returns-then-h
returns-then-h c = search (rules, at_branch)

pub returns : goal.returns
returns c = search (rules, at_branch_full)
