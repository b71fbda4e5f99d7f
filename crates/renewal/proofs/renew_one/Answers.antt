-- `renewal::renew_one` meets its contract. Assumes nothing.
use Rattle.renewal.proofs.Judging.{untouched, no_match, route_inside, own_withdrawn, stays_fresh}
use borrow.Author.Rules.{rules}
use Rattle.renewal.proofs.renew_one.Goals as goal
use Rattle.renewal.proofs.renew_one.Goals.{then-s-via-then-s, then-s-via-else-s+then-withdrawn}

pub returns-then-not-touches-clause-turns : goal.returns-then-not-touches-clause-turns
returns-then-not-touches-clause-turns c = search (rules, untouched)

pub returns-in_default-clause-turns : goal.returns-in_default-clause-turns
returns-in_default-clause-turns c = search (rules, no_match)

pub returns-then-s-clause-turns : goal.returns-then-s-clause-turns
returns-then-s-clause-turns c = elim c.then-s.branch [ then-s-via-then-s w ↦ search (rules, route_inside) | then-s-via-else-s+then-withdrawn w ↦ search (rules, own_withdrawn) ]

pub returns-clause-turns : goal.returns-clause-turns
returns-clause-turns c = search (rules, stays_fresh)
