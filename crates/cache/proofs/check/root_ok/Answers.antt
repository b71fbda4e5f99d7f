-- `cache::check::root_ok` meets its contract. Assumes nothing.
use Rattle.cache.proofs.NodeChecks.{root_empty}
use borrow.Author.Rules.{rules}
use Rattle.cache.proofs.check.root_ok.Goals as goal

pub returns-then-slots-eq0 : goal.returns-then-slots-eq0
returns-then-slots-eq0 c = search (rules, root_empty)
