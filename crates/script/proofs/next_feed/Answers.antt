-- `script::next_feed` meets its contract. Assumes nothing.
use Rattle.std.proofs.Common.{rules}
use Rattle.script.proofs.LineEnds.{rest_is}
use Rattle.script.proofs.FeedLaws.{feed_behind, feed_ahead, no_feed_ahead}
use Rattle.script.proofs.next_feed.Goals as goal

pub returns-in_err-get-clause-value : goal.returns-in_err-get-clause-value
returns-in_err-get-clause-value c = rw c.from_residual.ensures (search (rules, feed_behind))

pub returns-in_err-ahead-clause-value : goal.returns-in_err-ahead-clause-value
returns-in_err-ahead-clause-value c =
    let (inside, _, rest, _) = c.in_ok-get.ensures.lookup.0 in
    rw c.from_residual-in_err-ahead.ensures (no_feed_ahead _ _ inside (rw (← rest_is _ _ _ rest) c.in_err-ahead.ensures))

pub returns-clause-value : goal.returns-clause-value
returns-clause-value c =
    let (inside, _, rest, _) = c.in_ok-get.ensures.lookup.0 in
    feed_ahead _ _ inside (rw (← rest_is _ _ _ rest) c.in_ok-ahead.ensures)
