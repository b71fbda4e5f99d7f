-- `cache::check::check_entries` meets its contract. Assumes nothing.
use borrow.Author.Rules.{rules}
use Rattle.cache.proofs.EntryChecks.{check_root, check_slot, passed_on, check_all}
use Rattle.cache.proofs.check.check_entries.Goals as goal

pub returns-then-not-root_ok : goal.returns-then-not-root_ok
returns-then-not-root_ok c = search (rules, check_root)

pub returns-then-not-slot_ok : goal.returns-then-not-slot_ok
returns-then-not-slot_ok c = search (rules, check_slot)

pub loop-i-preserved : goal.loop-i-preserved
loop-i-preserved c = search (rules, passed_on)

pub returns : goal.returns
returns c = search (rules, check_all, passed_on)
