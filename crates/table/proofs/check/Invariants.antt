-- `table::check` meets its contract. Assumes nothing.
use Rattle.table.specs.Checks.{Passed}
use Rattle.table.proofs.check.Given as goal

abbrev pub invariant-loop-p : goal.invariant-loop-p
invariant-loop-p l = Passed l.nodes.store.now l.p l.routes
