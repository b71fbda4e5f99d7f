-- `lookup::miss` meets its contract. Assumes nothing.
use Rattle.lookup.proofs.Looking.{dropped, too_long, bad_hop, missed}
use borrow.Author.Rules.{rules}
use Rattle.lookup.proofs.miss.Goals as goal

pub returns-in_default : goal.returns-in_default
returns-in_default c = search (rules, dropped)

pub returns-then-n-gt32 : goal.returns-then-n-gt32
returns-then-n-gt32 c = search (rules, too_long)

pub returns-then-found-gt-HIGHEST_HOP : goal.returns-then-found-gt-HIGHEST_HOP
returns-then-found-gt-HIGHEST_HOP c = search (rules, bad_hop)

pub returns : goal.returns
returns c = search (rules, missed)
