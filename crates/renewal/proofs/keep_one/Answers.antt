-- `renewal::keep_one` meets its contract. Assumes nothing.
use Rattle.renewal.proofs.Turning.{has_hop, high_hop, gives_hop}
use borrow.Author.Rules.{rules}
use Rattle.renewal.proofs.keep_one.Goals as goal
use Rattle.renewal.proofs.keep_one.Goals.{then-old-hop-via-then-old-hop, then-old-hop-via-else-old-hop+then-hop-gt-HIGHEST_HOP}

pub returns-then-old-hop-clause-keeps : goal.returns-then-old-hop-clause-keeps
returns-then-old-hop-clause-keeps c = elim c.then-old-hop.branch [ then-old-hop-via-then-old-hop w ↦ search (rules, has_hop) | then-old-hop-via-else-old-hop+then-hop-gt-HIGHEST_HOP w ↦ search (rules, high_hop) ]

pub returns-clause-keeps : goal.returns-clause-keeps
returns-clause-keeps c = search (rules, gives_hop)
