-- `prefix::half_trim` meets its contract. Assumes nothing.
use Prim.Native.Nat.{◌-◌, ◌/◌}
use native.Mathlib.Omega.{arith}
use Rattle.prefix.proofs.BitLaws.{trim_shifts}
use borrow.Author.Rules.{rules}
use Rattle.prefix.proofs.half_trim.Goals as goal

pub returns : goal.returns
returns c =
    let s = c in trim_shifts 64 s.args.n ((64 - s.args.n) / 2) (64 - s.args.n - (64 - s.args.n) / 2) s.args.x (search rules) (omega arith)
