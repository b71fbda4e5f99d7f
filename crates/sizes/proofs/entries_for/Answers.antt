-- `sizes::entries_for` meets its contract. Assumes nothing.
use Rattle.sizes.proofs.SizeLaws.{too_small, too_large, right_size}
use borrow.Author.Rules.{rules}
use Rattle.sizes.proofs.entries_for.Goals as goal

pub returns-then-bytes-lt-SMALLEST_FIGURE : goal.returns-then-bytes-lt-SMALLEST_FIGURE
returns-then-bytes-lt-SMALLEST_FIGURE c = search (rules, too_small)

pub returns-then-bytes-gt-LARGEST_FIGURE : goal.returns-then-bytes-gt-LARGEST_FIGURE
returns-then-bytes-gt-LARGEST_FIGURE c = search (rules, too_large)

pub returns : goal.returns
returns c = search (rules, right_size)
