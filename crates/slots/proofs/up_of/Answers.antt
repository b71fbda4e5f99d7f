-- `slots::up_of` meets its contract. Assumes nothing.
use borrow.Author.Rules.{rules}
use Rattle.slots.proofs.Ups.{up_entry, up_branch}
use Rattle.slots.proofs.up_of.Goals as goal

pub returns-then-x-eq0 : goal.returns-then-x-eq0
returns-then-x-eq0 c = search (rules, up_entry)

pub returns-else-x-eq0 : goal.returns-else-x-eq0
returns-else-x-eq0 c = search (rules, up_branch)
