-- `slots::set_branch` meets its contract. Assumes nothing.
use borrow.Author.Rules.{rules}
use Rattle.slots.specs.Stores.{put_branch}
use Rattle.slots.proofs.set_branch.Goals as goal

pub returns : goal.returns
unfolding put_branch
returns c = search rules
