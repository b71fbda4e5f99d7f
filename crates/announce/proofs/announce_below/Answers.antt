-- `announce::announce_below` meets its contract. Assumes nothing.
use Rattle.announce.proofs.Belonging.{sought_own, sought_long, cell_fits, adds_after}
use borrow.Author.Rules.{rules}
use Rattle.announce.proofs.announce_below.Goals as goal

pub returns-then-own-route : goal.returns-then-own-route
returns-then-own-route c = search (rules, sought_own)

pub returns-then-own-gt31 : goal.returns-then-own-gt31
returns-then-own-gt31 c = search (rules, sought_long)

pub overflow_add-cell : goal.overflow_add-cell
overflow_add-cell c = search (rules, cell_fits)

pub add-requires : goal.add-requires
add-requires c = search (rules, adds_after)
