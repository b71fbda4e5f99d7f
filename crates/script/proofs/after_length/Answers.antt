-- `script::after_length` meets its contract. Assumes nothing.
use Rattle.script.proofs.LineLaws.{length_only, length_and_hop, more_than_hop}
use Rattle.script.proofs.after_length.Goals as goal

pub returns-in_default : goal.returns-in_default
returns-in_default c = length_only _ _ _ _ _ c.in_default.ensures

pub returns-then-is_over : goal.returns-then-is_over
returns-then-is_over c = rw (c.ok_or.ensures.value, c.then_some.ensures) (length_and_hop _ _ _ _ _ _ c.in-Some.ensures _ c.is_over.ensures c.if-is_over.true)

pub returns : goal.returns
returns c = more_than_hop _ _ _ _ _ _ c.in-Some.ensures _ c.is_over.ensures c.if-is_over.false
