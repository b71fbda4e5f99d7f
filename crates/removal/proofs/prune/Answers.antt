-- `removal::prune` meets its contract. Assumes nothing.
use Rattle.removal.proofs.Moving.{prunes}
use borrow.Author.Rules.{rules}
use Rattle.removal.proofs.prune.Goals as goal

pub returns : goal.returns
returns c = search (rules, prunes)
