-- `entries::find::walk` meets its contract. Assumes nothing.
use borrow.Author.Rules.{rules}
use Rattle.entries.proofs.WalkLaws.{start, walk_out, walk_over, walk_further}
use Rattle.entries.proofs.find.walk.Goals as goal

pub loop-init : goal.loop-init
loop-init c = search (rules, start)

pub loop-preserved : goal.loop-preserved
loop-preserved c = search (rules, walk_further)

pub returns-in_default : goal.returns-in_default
returns-in_default c = search (rules, walk_over)

pub returns : goal.returns
returns c = search (rules, walk_out)
