-- `prefix::Address::bit_at` meets its contract. Assumes nothing.
use mathlib.Core.Path.{sym, ap, ◌∙◌}
use native.Mathlib.Omega.{arith}
use Rattle.prefix.specs.Bits.{digit}
use Rattle.prefix.proofs.AddressLaws.{at_high, at_low}
use Rattle.prefix.proofs.Address.bit_at.Goals as goal

pub returns-then-index-lt64 : goal.returns-then-index-lt64
returns-then-index-lt64 g c =
    let s = c in
    let either = c.if-index-lt64.either in
    c.half_bit.ensures ∙ sym (ap digit (at_high s.args.self s.args.index (omega arith)))

pub returns-else-index-lt64 : goal.returns-else-index-lt64
returns-else-index-lt64 g c =
    let s = c in
    c.half_bit-else-index-lt64.ensures ∙ sym (ap digit (at_low s.args.self s.args.index (omega arith)))
