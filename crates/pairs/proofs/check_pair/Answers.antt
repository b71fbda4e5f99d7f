-- `pairs::check_pair` meets its contract. Assumes nothing.
use Rattle.std.proofs.Common.{not, ap}
use borrow.Author.Rules.{rules}
use Rattle.pairs.proofs.CheckLaws.{table_wrong, table_sound, cache_wrong, cache_sound, pair_broken}
use Rattle.pairs.proofs.check_pair.Goals as goal

pub returns-then-not-check : goal.returns-then-not-check
returns-then-not-check c = search (rules, table_wrong)

pub returns-then-not-check_entries : goal.returns-then-not-check_entries
returns-then-not-check_entries c = search (rules, cache_wrong)

pub returns-in_default : goal.returns-in_default
returns-in_default c = search (rules, pair_broken)

pub all_covered-requires-clause-sound_table : goal.all_covered-requires-clause-sound_table
all_covered-requires-clause-sound_table c = search (rules, table_sound)

pub all_covered-requires-clause-sound_entries : goal.all_covered-requires-clause-sound_entries
all_covered-requires-clause-sound_entries c = rw c.in-Ok.ensures.same (cache_sound _ _ c.check_entries.ensures (ap not c.if-not-check_entries.false))

pub returns : goal.returns
returns c = rw (← c.in-Ok.ensures.same) c.all_covered.ensures
