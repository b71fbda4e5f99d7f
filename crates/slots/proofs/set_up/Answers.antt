-- `slots::set_up` meets its contract. Assumes nothing.
use borrow.Author.Rules.{rules}
use Rattle.slots.proofs.Ups.{put_up_entry, put_up_branch}
use Rattle.slots.proofs.set_up.Goals as goal

pub returns-then-x-eq0 : goal.returns-then-x-eq0
returns-then-x-eq0 c = search (rules, put_up_entry)

pub returns : goal.returns
returns c = search (rules, put_up_branch)
