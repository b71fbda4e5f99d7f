-- `updates::update_table` meets its contract. Assumes nothing.
use Rattle.updates.proofs.Updating.{refused}
use borrow.Author.Rules.{rules}
use Rattle.updates.proofs.update_table.Goals as goal

pub returns-in_err-check : goal.returns-in_err-check
returns-in_err-check c = search (rules, refused)
