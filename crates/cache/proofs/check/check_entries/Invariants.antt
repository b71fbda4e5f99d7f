-- `cache::check::check_entries` meets its contract. Assumes nothing.
use Rattle.cache.proofs.EntryChecks.{Passed}
use Rattle.cache.proofs.check.check_entries.Given as goal

abbrev pub invariant-loop-i : goal.invariant-loop-i
invariant-loop-i l = Passed l.slots.store.now l.i
