-- `prefix::Address::agreement` meets its contract. Assumes nothing.
use native.Mathlib.Omega.{arith}
use Rattle.prefix.proofs.BitLaws.{common_word_le}
use Rattle.prefix.proofs.AddressLaws.{common_halves}
use Rattle.prefix.proofs.Address.agreement.Goals as goal

pub returns-then-this-le-HALF : goal.returns-then-this-le-HALF
returns-then-this-le-HALF g c =
    let s = c in
    let either = c.then-this-le-HALF.either in
    record {
      near = λ h. omega (arith, common_halves s.args.self s.args.other);
      far = λ h. omega (arith, common_halves s.args.self s.args.other);
    }

pub overflow_add-result : goal.overflow_add-result
overflow_add-result g c =
    let s = c in
    omega (arith, common_word_le 64 s.args.self.low s.args.other.low)

pub returns : goal.returns
returns g c =
    let s = c in
    record {
      near = λ h. omega (arith, common_halves s.args.self s.args.other);
      far = λ h. omega (arith, common_halves s.args.self s.args.other);
    }
