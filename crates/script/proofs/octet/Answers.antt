-- `script::octet` meets its contract. Assumes nothing.
use Rattle.script.proofs.AddressLaws.{octet_none, octet_read, octet_unmarked}
use Rattle.script.proofs.octet.Goals as goal

pub returns-in_err-octet : goal.returns-in_err-octet
returns-in_err-octet c = rw c.from_residual.ensures (octet_none _ _ c.in_err-octet.ensures)

pub returns-in_err-end : goal.returns-in_err-end
returns-in_err-end c = rw c.from_residual-in_err-end.ensures (octet_unmarked _ _ _ c.in_ok-octet.ensures c.in_err-end.ensures)

pub returns : goal.returns
returns c = octet_read _ _ _ c.in_ok-octet.ensures _ c.in_ok-end.ensures
