-- `table::below` meets its contract. Assumes nothing.
use Rattle.table.proofs.Reading.{below_bit, below_none}
use borrow.Author.Rules.{rules}
use Rattle.table.proofs.below.Goals as goal

pub returns-then-own-sought : goal.returns-then-own-sought
returns-then-own-sought c = search (rules, below_bit)

pub returns-else-own-sought : goal.returns-else-own-sought
returns-else-own-sought c = search (rules, below_none)
