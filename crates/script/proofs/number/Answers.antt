-- `script::number` meets its contract: after digits of the value so far, the rest is read as it is from the start. Assumes nothing.
use Rattle.std.proofs.Common.{rules, ◌≡◌, [], drop}
use Rattle.script.specs.Reading.{run}
use Rattle.script.proofs.NumberLaws.{number_behind, counted_start, over_at_end, over_at_other, number_read, nothing_read, one_more_digit, number_too_large_from}
use Rattle.script.proofs.number.Goals.{else-loop-byte-test, then-loop-byte-test+then-not-is_ascii_digit}
use Rattle.script.proofs.number.Goals as goal

pub returns-in_err-byte-items : goal.returns-in_err-byte-items
returns-in_err-byte-items c = rw c.from_residual.ensures (search (rules, number_behind))

pub loop-byte-init : goal.loop-byte-init
loop-byte-init c = (search rules, search rules, counted_start _ _)

pub returns-then-largest-value : goal.returns-then-largest-value
returns-then-largest-value c =
    let (inside, _, rest, _) = c.in_ok-byte-items.ensures.lookup.0 in
    number_too_large_from _ _ _ _ _ c.loop-byte.invariant.2 _ rest inside _ c.loop-byte.invariant.0 c.loop-byte-test.true (search rules) c.if-largest-value.true

pub loop-byte-preserved : goal.loop-byte-preserved
loop-byte-preserved c =
    let (inside, _, rest, _) = c.in_ok-byte-items.ensures.lookup.0 in
    (search rules, search rules, one_more_digit c.args.most _ _ _ _ c.loop-byte.invariant.2 _ rest inside _ c.loop-byte.invariant.0 c.loop-byte-test.true (search rules))

pub returns-then-at-end : goal.returns-then-at-end
returns-then-at-end c =
    let (inside, _, rest, _) = c.in_ok-byte-items.ensures.lookup.0 in
    let over : run (drop c.loop-byte.end c.args.block.now) ≡ [] = elim c.loop-byte-test.branch [
      | else-loop-byte-test w ↦ over_at_end _ _ _ _ rest inside _ c.loop-byte.invariant.0 w.loop-byte-test.false
      | then-loop-byte-test+then-not-is_ascii_digit w ↦ over_at_other _ _ _ _ rest inside _ c.loop-byte.invariant.0 w.loop-byte-test.true (search rules)
    ] in
    search (rules, number_read)

pub returns : goal.returns
returns c =
    let (inside, _, rest, _) = c.in_ok-byte-items.ensures.lookup.0 in
    let over : run (drop c.loop-byte.end c.args.block.now) ≡ [] = elim c.loop-byte-test.branch [
      | else-loop-byte-test w ↦ over_at_end _ _ _ _ rest inside _ c.loop-byte.invariant.0 w.loop-byte-test.false
      | then-loop-byte-test+then-not-is_ascii_digit w ↦ over_at_other _ _ _ _ rest inside _ c.loop-byte.invariant.0 w.loop-byte-test.true (search rules)
    ] in
    search (rules, nothing_read)
