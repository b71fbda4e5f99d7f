-- `entries::order::put_between` meets its contract. Assumes nothing.
use Rattle.entries.specs.Changed.{between}
use Rattle.entries.proofs.order.put_between.Goals as goal

pub returns : goal.returns
unfolding between
returns c = cc
