-- `cache::check::ring_ok` meets its contract. Assumes nothing.
use borrow.Author.Rules.{rules}
use Rattle.cache.proofs.RingChecks.{round_start, round_out, round_torn, round_closed, round_on, round_open}
use Rattle.cache.proofs.check.ring_ok.Goals as goal
use Rattle.cache.proofs.check.ring_ok.Goals.{then-slots-next-via-then-slots-next, then-slots-next-via-else-slots-next+then-prev_of-at}

pub loop-k-init : goal.loop-k-init
loop-k-init c = search (rules, round_start)

pub returns-then-slots-next : goal.returns-then-slots-next
returns-then-slots-next c = elim c.then-slots-next.branch [
  | then-slots-next-via-then-slots-next w ↦ search (rules, round_out)
  | then-slots-next-via-else-slots-next+then-prev_of-at w ↦ search (rules, round_torn)
]

pub returns-then-next-eq0 : goal.returns-then-next-eq0
returns-then-next-eq0 c = search (rules, round_closed)

pub loop-k-preserved : goal.loop-k-preserved
loop-k-preserved c = search (rules, round_on)

pub returns-else-next-eq0 : goal.returns-else-next-eq0
returns-else-next-eq0 c = search (rules, round_open)
