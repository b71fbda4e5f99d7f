-- `prefix::half_bit` meets its contract. Assumes nothing.
use mathlib.Core.Path.{sym, ap, ◌∙◌}
use Prim.Native.Nat.{◌-◌, ◌/◌, ◌^◌}
use native.Mathlib.Omega.{arith}
use Rattle.prefix.specs.Bits.{digit}
use Rattle.prefix.proofs.BitLaws.{bits_at, digit_bit}
use Rattle.prefix.proofs.half_bit.Goals as goal

pub returns : goal.returns
returns c =
    let x = c.args.x in
    let i = c.args.index in
    sym (ap digit (bits_at 64 i (63 - i) x (omega arith)) ∙ digit_bit (x / 2 ^ (63 - i)))
