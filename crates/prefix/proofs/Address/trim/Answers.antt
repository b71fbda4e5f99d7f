-- `prefix::Address::trim` meets its contract. Assumes nothing.
use mathlib.Core.Path.{sym, ap, ◌∙◌}
use mathlib.Core.List.{◌++◌}
use native.Mathlib.Omega.{arith}
use Rattle.prefix.specs.Bits.{Bits, bits}
use Rattle.prefix.proofs.AddressLaws.{trimmed_high, trimmed_low}
use Rattle.prefix.proofs.Address.trim.Goals as goal

pub returns-then-n-le64 : goal.returns-then-n-le64
returns-then-n-le64 g c =
    let s = c in
    let either = c.if-n-le64.either in
    ap (λ (l : Bits). l ++ bits 64 0) c.half_trim.ensures ∙ sym (trimmed_high s.args.self s.args.n (omega arith))

pub returns-else-n-le64 : goal.returns-else-n-le64
returns-else-n-le64 g c =
    let s = c in
    ap (λ (l : Bits). bits 64 s.args.self.high ++ l) c.half_trim-else-n-le64.ensures ∙ sym (trimmed_low s.args.self s.args.n (omega arith))
