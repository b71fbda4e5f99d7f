-- `answers::put_number` meets its contract. Assumes nothing.
use Rattle.std.proofs.Common.{arith, ◌≡◌, ◌+◌, length}
use Rattle.answers.specs.Answers.{decimal}
use Rattle.answers.proofs.WritingLaws.{wrote_number, room_for_digits}
use Rattle.answers.proofs.put_number.Goals as goal

pub write_digits-requires : goal.write_digits-requires
write_digits-requires c =
    let its_end : c.args.at + c.digits.result ≡ c.args.at + length (decimal c.args.n) = omega (arith, c.digits.ensures) in
    (room_for_digits _ _ _ (omega (arith, c.ranges.n.fits)) its_end, omega (arith, c.digits.ensures, c.requires))

pub returns : goal.returns
returns c =
    let its_end : c.args.at + c.digits.result ≡ c.args.at + length (decimal c.args.n) = omega (arith, c.digits.ensures) in
    wrote_number _ _ _ (omega (arith, c.ranges.n.fits)) its_end _ _ _ c.requires c.write_digits.ensures.start c.write_digits.ensures.written c.write_digits.ensures.before
