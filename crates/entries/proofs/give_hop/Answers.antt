-- `entries::give_hop` meets its contract. Assumes nothing.
use Rattle.entries.proofs.HopLaws.{hop_kept, hop_given}
use borrow.Author.Rules.{rules}
use Rattle.entries.proofs.give_hop.Goals as goal

pub returns : goal.returns
returns c = search (rules, hop_kept, hop_given)
