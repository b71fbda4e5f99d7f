-- `pairs::all_covered` meets its contract. Assumes nothing.
use Rattle.pairs.proofs.CheckLaws.{Passed}
use Rattle.pairs.proofs.all_covered.Given as goal

abbrev pub invariant-loop-i : goal.invariant-loop-i
invariant-loop-i l = Passed l.table l.slots.store.now l.i
