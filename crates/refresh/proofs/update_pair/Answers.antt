-- `refresh::update_pair` meets its contract. Assumes nothing.
use Rattle.slots.proofs.HeaderLaws.{header_shaped}
use Rattle.refresh.proofs.UpdateLaws.{check_refused, table_refused, all_done}
use borrow.Author.Rules.{rules}
use Rattle.refresh.proofs.update_pair.Goals as goal

pub returns-in_err-check-clause-update_promise : goal.returns-in_err-check-clause-update_promise
returns-in_err-check-clause-update_promise c = search (rules, check_refused)

pub returns-in_err-update_table-clause-update_promise : goal.returns-in_err-update_table-clause-update_promise
returns-in_err-update_table-clause-update_promise c = search (rules, header_shaped, table_refused)

pub returns-clause-update_promise : goal.returns-clause-update_promise
returns-clause-update_promise c = search (rules, header_shaped, all_done)
