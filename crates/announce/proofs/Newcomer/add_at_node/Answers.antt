-- `announce::Newcomer::add_at_node` meets its contract. Assumes nothing.
use Rattle.prefix.proofs.BitLaws.{bit_small}
use Rattle.announce.proofs.Announcements.{is_meeting, long_node, above_added}
use borrow.Author.Rules.{rules}
use Rattle.announce.proofs.Newcomer.add_at_node.Goals as goal

pub returns-then-own-gt32 : goal.returns-then-own-gt32
returns-then-own-gt32 c = search (rules, long_node)

pub above_of-node-requires : goal.above_of-node-requires
above_of-node-requires c = search (rules, bit_small)

pub add_above-requires : goal.add_above-requires
add_above-requires c = search (rules, bit_small)

pub returns-then-r-agreed : goal.returns-then-r-agreed
returns-then-r-agreed c =
    let pre = c.requires in
    let meets = is_meeting _ _ _ _ _ _ c.length_of-own.ensures (search rules) c.address_of-there.ensures c.common_bits-agreed.ensures in
    above_added _ _ _ _ _ _ _ pre.comes pre.roomy.route pre.roomy.two_nodes _ pre.some_below _ _ meets _ c.if-r-agreed.true c.bit_at-side.ensures _ c.above_of-node.ensures (search rules)

pub add_beside-requires : goal.add_beside-requires
add_beside-requires c = search (rules, is_meeting)
