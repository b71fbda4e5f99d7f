-- `script::call` meets its contract. Assumes nothing.
use Rattle.std.proofs.Common.{rules}
use Rattle.script.proofs.LineLaws.{fields_at_end, fields_at_feed, fields_no_letter, fields_read}
use Rattle.script.proofs.call.Goals as goal

pub returns-in_default : goal.returns-in_default
returns-in_default c = search (rules, fields_at_end)

pub returns-then-letter-eq-FEED : goal.returns-then-letter-eq-FEED
returns-then-letter-eq-FEED c = search (rules, fields_at_feed)

pub returns-in_default-past : goal.returns-in_default-past
returns-in_default-past c = search (rules, fields_no_letter)

pub returns : goal.returns
returns c = search (rules, fields_read)
