-- `answers::digits` meets its contract. Assumes nothing.
use Rattle.std.proofs.Common.{sym, arith}
use Rattle.answers.proofs.DecimalLaws.{digits_of_power, one_digit}
use Rattle.answers.proofs.digits.Goals as goal

pub returns-in-Some : goal.returns-in-Some
returns-in-Some c = sym (digits_of_power _ _ c.in-Some.ensures.power_le c.in-Some.ensures.next_power_gt (omega (arith, c.ranges.n.fits)))

pub returns-in-None : goal.returns-in-None
returns-in-None c = rw c.in-None.ensures.none one_digit
