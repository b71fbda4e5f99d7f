-- `entries::find::find_entry` meets its contract. Assumes nothing.
use Rattle.entries.proofs.FindLaws.{miss_empty, no_slot, too_long, miss, hit}
use borrow.Author.Rules.{rules}
use Rattle.entries.proofs.find.find_entry.Goals as goal

pub returns-then-slots-eq0 : goal.returns-then-slots-eq0
returns-then-slots-eq0 c = search (rules, miss_empty)

pub returns-then-slot-eq0 : goal.returns-then-slot-eq0
returns-then-slot-eq0 c = search (rules, no_slot)

pub returns-then-n-gt32 : goal.returns-then-n-gt32
returns-then-n-gt32 c = search (rules, too_long)

pub returns-then-shared-n : goal.returns-then-shared-n
returns-then-shared-n c = search (rules, miss)

pub returns : goal.returns
returns c = search (rules, hit)
