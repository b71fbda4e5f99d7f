-- `cache::check::branch_ok` meets its contract. Assumes nothing.
use Rattle.entries.proofs.EntryLaws.{entry_size}
use Rattle.slots.proofs.ReadLaws.{read_branch}
use borrow.Author.Rules.{rules}
use Rattle.cache.proofs.check.branch_ok.Goals as goal

pub returns-then-child_ok : goal.returns-then-child_ok
returns-then-child_ok c = search (rules, entry_size, read_branch)

pub returns-else-child_ok : goal.returns-else-child_ok
returns-else-child_ok c = search (rules, entry_size, read_branch)
