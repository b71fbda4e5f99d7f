-- `announce::growing::leaf_of` meets its contract. Assumes nothing.
use Rattle.announce.proofs.Making.{leaf_made}
use borrow.Author.Rules.{rules}
use Rattle.announce.proofs.growing.leaf_of.Goals as goal

pub returns : goal.returns
returns c = search (rules, leaf_made)
