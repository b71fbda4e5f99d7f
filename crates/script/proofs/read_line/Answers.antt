-- `script::read_line` meets its contract. Assumes nothing.
use Rattle.std.proofs.Common.{arith}
use Rattle.script.proofs.LineLaws.{read_none, feed_after_start, read_too_long, read_whole}
use Rattle.script.proofs.read_line.Goals as goal

pub returns-in_err-feed : goal.returns-in_err-feed
returns-in_err-feed c = rw c.from_residual.ensures (read_none _ _ _ c.read_fields-seen.ensures c.in_err-feed.ensures.value)

pub overflow_sub-feed : goal.overflow_sub-feed
overflow_sub-feed c = feed_after_start _ _ _ c.read_fields-seen.ensures _ c.in_ok-feed.ensures.value

pub returns-then-feed-at-gt-LONGEST : goal.returns-then-feed-at-gt-LONGEST
returns-then-feed-at-gt-LONGEST c = read_too_long _ _ _ c.read_fields-seen.ensures _ c.in_ok-feed.ensures.value c.in_ok-feed.ensures.passable (omega (arith, c.if-feed-at-gt-LONGEST.true))

pub returns : goal.returns
returns c = read_whole _ _ _ c.read_fields-seen.ensures _ c.in_ok-feed.ensures.value c.in_ok-feed.ensures.passable (omega (arith, c.if-feed-at-gt-LONGEST.false))
