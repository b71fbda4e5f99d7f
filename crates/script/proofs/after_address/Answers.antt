-- `script::after_address` meets its contract. Assumes nothing.
use Rattle.script.proofs.LineLaws.{address_only, address_and_length, address_length_more, address_length_other}
use Rattle.script.proofs.after_address.Goals as goal

pub returns-in_default : goal.returns-in_default
returns-in_default c = address_only _ _ _ _ c.in_default.ensures

pub returns-then-is_over : goal.returns-then-is_over
returns-then-is_over c = rw (c.ok_or.ensures.value, c.then_some.ensures) (address_and_length _ _ _ _ _ c.in-Some.ensures _ c.is_over.ensures c.if-is_over.true)

pub returns-in_default-past : goal.returns-in_default-past
returns-in_default-past c = address_length_other _ _ _ _ _ c.in-Some.ensures _ c.is_over.ensures c.if-is_over.false c.in_default-past.ensures

pub returns : goal.returns
returns c = address_length_more _ _ _ _ _ c.in-Some.ensures _ c.is_over.ensures _ _ c.in-Some-past.ensures c.after_length.ensures
