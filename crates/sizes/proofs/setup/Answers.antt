-- `sizes::setup` meets its contract. Assumes nothing.
use Rattle.sizes.proofs.SizeLaws.{no_limit, large_limit, short_store, enough_store}
use borrow.Author.Rules.{rules}
use Rattle.sizes.proofs.setup.Goals as goal

pub returns-then-limit-eq0 : goal.returns-then-limit-eq0
returns-then-limit-eq0 c = search (rules, no_limit)

pub returns-then-limit-gt-LARGEST_LIMIT : goal.returns-then-limit-gt-LARGEST_LIMIT
returns-then-limit-gt-LARGEST_LIMIT c = search (rules, large_limit)

pub returns-then-words-WORDS_EACH : goal.returns-then-words-WORDS_EACH
returns-then-words-WORDS_EACH c = search (rules, short_store)

pub returns : goal.returns
returns c = search (rules, enough_store)
