-- `lookup::look_up` meets its contract. Assumes nothing.
use Rattle.lookup.proofs.Looking.{looked_hit}
use borrow.Author.Rules.{rules}
use Rattle.lookup.proofs.look_up.Goals as goal

pub returns-in-Ok : goal.returns-in-Ok
returns-in-Ok c = record { looked_up = search (rules, looked_hit); unfit = λ n. absurd (n c.in_ok-h.ensures.0) }

pub returns-in-Err-clause-unfit : goal.returns-in-Err-clause-unfit
returns-in-Err-clause-unfit c = λ n. absurd (n c.in_ok-h.ensures.0)
