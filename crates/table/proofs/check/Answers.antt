-- `table::check` meets its contract. Assumes nothing.
use borrow.Author.Rules.{rules}
use Rattle.table.proofs.Checking.{check_start, check_all}
use Rattle.table.proofs.check.Goals.{else-loop-p-test, then-loop-p-test+else-not-node_ok+else-p-p-end}
use Rattle.table.proofs.check.Goals as goal

pub loop-p-init : goal.loop-p-init
loop-p-init c = search (rules, check_start)

pub returns : goal.returns
returns c = rw (← c.in-Ok.ensures.same) (elim c.loop-p-test.branch [
  | else-loop-p-test w ↦ rw w.routes-is (search (rules, check_all))
  | then-loop-p-test+else-not-node_ok+else-p-p-end w ↦ rw w.routes-is (search (rules, check_all))
])
