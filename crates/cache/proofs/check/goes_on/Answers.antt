-- `cache::check::goes_on` meets its contract. Assumes nothing.
use Rattle.cache.proofs.NodeChecks.{goes_short, goes_aside, goes_on}
use borrow.Author.Rules.{rules}
use Rattle.cache.proofs.check.goes_on.Goals as goal

pub returns-then-not-longer : goal.returns-then-not-longer
returns-then-not-longer c = search (rules, goes_short)

pub returns-then-bit_at-side : goal.returns-then-bit_at-side
returns-then-bit_at-side c = search (rules, goes_on)

pub returns-else-bit_at-side : goal.returns-else-bit_at-side
returns-else-bit_at-side c = search (rules, goes_aside)
