-- `entries::find::side_of` meets its contract. Assumes nothing.
use native.Mathlib.Omega.{arith}
use Rattle.prefix.specs.Addresses.{address_bits}
use Rattle.prefix.proofs.BitLaws.{bit_small}
use Rattle.entries.proofs.WalkLaws.{side_is, side_slot}
use borrow.Author.Rules.{rules}
use Rattle.entries.proofs.find.side_of.Goals as goal

pub overflow_add-result : goal.overflow_add-result
overflow_add-result c = omega (arith, bit_small (address_bits c.args.x) _ _ c.bit_at.ensures)

pub returns : goal.returns
returns c = search (rules, side_is, side_slot)
