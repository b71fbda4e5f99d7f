-- `removal::put_branch` meets its contract. Assumes nothing.
use Rattle.removal.specs.Removal.{branched}
use Rattle.removal.proofs.put_branch.Goals as goal

pub returns : goal.returns
unfolding branched
returns c = cc
