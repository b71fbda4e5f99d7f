-- `cache::check::child_ok` meets its contract. Assumes nothing.
use Rattle.cache.proofs.NodeChecks.{child_out, child_stray, child_root, child_on}
use borrow.Author.Rules.{rules}
use Rattle.cache.proofs.check.child_ok.Goals as goal

pub returns-then-not-node_ok : goal.returns-then-not-node_ok
returns-then-not-node_ok c = search (rules, child_out, child_stray)

pub returns-then-i-eq0 : goal.returns-then-i-eq0
returns-then-i-eq0 c = search (rules, child_root)

pub returns-else-i-eq0 : goal.returns-else-i-eq0
returns-else-i-eq0 c = search (rules, child_on)
