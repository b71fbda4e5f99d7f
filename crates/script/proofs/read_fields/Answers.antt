-- `script::read_fields` meets its contract. Assumes nothing.
use Rattle.script.proofs.LineLaws.{bad_or_seen}
use Rattle.script.proofs.read_fields.Goals as goal

pub returns-in-Ok : goal.returns-in-Ok
returns-in-Ok c = bad_or_seen _ _ _ _ c.in-Ok.ensures

pub returns-in-Err : goal.returns-in-Err
returns-in-Err c = bad_or_seen _ _ _ _ c.in-Err.ensures
