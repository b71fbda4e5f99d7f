-- `announce::Newcomer::add` meets its contract. Assumes nothing.
use Rattle.announce.proofs.Announcements.{new_full, is_roomy, no_spare, leaf_added}
use borrow.Author.Rules.{rules}
use Rattle.announce.proofs.Newcomer.add.Goals as goal

pub returns-then-h : goal.returns-then-h
returns-then-h c = search (rules, new_full)

pub returns-then-h-2 : goal.returns-then-h-2
returns-then-h-2 c = search (rules, no_spare)

pub add_leaf-requires : goal.add_leaf-requires
add_leaf-requires c = search (rules, is_roomy)

pub returns-then-self-eq0 : goal.returns-then-self-eq0
returns-then-self-eq0 c = search (rules, leaf_added)

pub add_at_node-requires : goal.add_at_node-requires
add_at_node-requires c = search (rules, is_roomy)
