-- `cache::check::ring_ok` meets its contract. Assumes nothing.
use Rattle.slots.specs.Layout.{cache_of}
use Rattle.cache.proofs.RingChecks.{Round}
use Rattle.cache.proofs.check.ring_ok.Given as goal

abbrev pub invariant-loop-k : goal.invariant-loop-k
invariant-loop-k l = Round l.slots.count (cache_of l.slots.store.now) l.k l.at
