-- `sizes::slot::write` meets its contract. Assumes nothing.
use borrow.Author.Rules.{rules}
use Rattle.sizes.proofs.PartLaws.{slot_part}
use Rattle.sizes.proofs.slot.write.Goals as goal

pub returns : goal.returns
returns c = search (rules, slot_part)
