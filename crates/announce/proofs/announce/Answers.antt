-- `announce::announce` meets its contract. Assumes nothing.
use Rattle.verdicts.proofs.Stopping.{not_read}
use Rattle.announce.proofs.Belonging.{is_sought, first_adds}
use borrow.Author.Rules.{rules}
use Rattle.announce.proofs.announce.Goals as goal

pub returns-in_err-header : goal.returns-in_err-header
returns-in_err-header c = search (rules, not_read)

pub add-requires : goal.add-requires
add-requires c = record {
  comes = first_adds _ _ (record { prefix = c.args.prefix; hop = c.args.hop }) _ c.in_ok-header.ensures c.args.prefix.short c.requires.hop
      c.descend-stop.ensures (search rules);
}

pub announce_below-requires : goal.announce_below-requires
announce_below-requires c = search (rules, is_sought)
