-- `removal::remove_beside` meets its contract. Assumes nothing.
use Rattle.removal.proofs.Moving.{removes_beside}
use borrow.Author.Rules.{rules}
use Rattle.removal.proofs.remove_beside.Goals as goal

pub returns : goal.returns
returns c = search (rules, removes_beside)
