-- `announce::Newcomer::add_beside` meets its contract. Assumes nothing.
use Rattle.announce.proofs.Announcements.{bit_most, fork_added}
use Rattle.prefix.proofs.BitLaws.{bit_small}
use borrow.Author.Rules.{rules}
use Rattle.announce.proofs.Newcomer.add_beside.Goals as goal

pub above_of-branch-requires : goal.above_of-branch-requires
above_of-branch-requires c = search (rules, bit_small)

pub overflow_sub-other : goal.overflow_sub-other
overflow_sub-other c = search (rules, bit_most)

pub add_fork-requires : goal.add_fork-requires
add_fork-requires c = search (rules, bit_small)

pub returns : goal.returns
returns c = search (rules, fork_added)
