-- `insertion::fork` meets its contract. Assumes nothing.
use Rattle.insertion.specs.Hangs.{forked}
use Rattle.insertion.proofs.fork.Goals as goal

pub returns : goal.returns
unfolding forked
returns c = cc
