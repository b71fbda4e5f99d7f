-- `cache::check::longer` meets its contract. Assumes nothing.
use Rattle.cache.proofs.NodeChecks.{longer_none, longer_short, longer_entry, longer_branch}
use borrow.Author.Rules.{rules}
use Rattle.cache.proofs.check.longer.Goals as goal

pub returns-then-m-gt31 : goal.returns-then-m-gt31
returns-then-m-gt31 c = search (rules, longer_none, longer_short)

pub returns-then-x-eq0 : goal.returns-then-x-eq0
returns-then-x-eq0 c = search (rules, longer_entry)

pub returns-else-x-eq0 : goal.returns-else-x-eq0
returns-else-x-eq0 c = search (rules, longer_branch)
