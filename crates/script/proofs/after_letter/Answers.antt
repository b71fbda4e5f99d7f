-- `script::after_letter` meets its contract. Assumes nothing.
use Rattle.script.proofs.LineLaws.{letter_only, letter_address, letter_address_more, letter_address_other}
use Rattle.script.proofs.after_letter.Goals as goal

pub returns-in_default : goal.returns-in_default
returns-in_default c = letter_only _ _ _ c.in_default.ensures

pub returns-then-is_over : goal.returns-then-is_over
returns-then-is_over c = rw (c.ok_or.ensures.value, c.then_some.ensures) (letter_address _ _ _ _ c.in-Some.ensures _ c.is_over.ensures c.if-is_over.true)

pub returns-in_default-past : goal.returns-in_default-past
returns-in_default-past c = letter_address_other _ _ _ _ c.in-Some.ensures _ c.is_over.ensures c.if-is_over.false c.in_default-past.ensures

pub returns : goal.returns
returns c = letter_address_more _ _ _ _ c.in-Some.ensures _ c.is_over.ensures _ _ c.in-Some-past.ensures c.after_address.ensures
