-- `table::holds` meets its contract. Assumes nothing.
use Rattle.table.proofs.Reading.{holds_not, holds_is}
use borrow.Author.Rules.{rules}
use borrow.Author.Tests.{lt-leb}
use Rattle.table.proofs.holds.Goals as goal

pub returns-else-own-sought : goal.returns-else-own-sought
returns-else-own-sought c = rw (lt-leb c.args.own c.args.sought.length c.if-own-sought.false) (search (rules, holds_not))

pub returns-then-own-sought : goal.returns-then-own-sought
returns-then-own-sought c = search (rules, holds_is)
