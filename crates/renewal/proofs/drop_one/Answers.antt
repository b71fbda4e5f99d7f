-- `renewal::drop_one` meets its contract. Assumes nothing.
use Rattle.renewal.proofs.Turning.{drops}
use borrow.Author.Rules.{rules}
use Rattle.renewal.proofs.drop_one.Goals as goal

pub returns-clause-drops : goal.returns-clause-drops
returns-clause-drops c = search (rules, drops)
