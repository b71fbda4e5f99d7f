-- `table::set_up` meets its contract. Assumes nothing.
use Rattle.table.proofs.Fresh.{table_set_up}
use borrow.Author.Rules.{rules}
use Rattle.table.proofs.set_up.Goals as goal

pub returns : goal.returns
returns c = search (rules, table_set_up)
