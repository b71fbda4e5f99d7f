-- `cache::check::hangs` meets its contract. Assumes nothing.
use Rattle.cache.proofs.NodeChecks.{hangs_out, hangs_at}
use borrow.Author.Rules.{rules}
use Rattle.cache.proofs.check.hangs.Goals as goal

pub returns-then-cell_ok : goal.returns-then-cell_ok
returns-then-cell_ok c = search (rules, hangs_at)

pub returns-else-cell_ok : goal.returns-else-cell_ok
returns-else-cell_ok c = search (rules, hangs_out)
