-- `script::address` meets its contract. Assumes nothing.
use Rattle.std.proofs.Common.{rules}
use Rattle.script.proofs.AddressLaws.{octet_small, four_octets, address_none_1, address_none_2, address_none_3, address_none_4, address_read}
use Rattle.script.proofs.address.Goals as goal

pub returns-in_err-a : goal.returns-in_err-a
returns-in_err-a c = rw c.from_residual.ensures (address_none_1 _ _ c.in_err-a.ensures)

pub returns-in_err-b : goal.returns-in_err-b
returns-in_err-b c = rw c.from_residual-in_err-b.ensures (address_none_2 _ _ _ c.in_ok-a.ensures c.in_err-b.ensures)

pub returns-in_err-c : goal.returns-in_err-c
returns-in_err-c c = rw c.from_residual-in_err-c.ensures (address_none_3 _ _ _ c.in_ok-a.ensures _ c.in_ok-b.ensures c.in_err-c.ensures)

pub returns-in_err-d : goal.returns-in_err-d
returns-in_err-d c = rw c.from_residual-in_err-d.ensures (address_none_4 _ _ _ c.in_ok-a.ensures _ c.in_ok-b.ensures _ c.in_ok-c.ensures c.in_err-d.ensures)

pub overflow_cast-octets-4 : goal.overflow_cast-octets-4
overflow_cast-octets-4 c = let d = octet_small _ _ _ c.in_ok-d.ensures in search rules

pub returns : goal.returns
returns c = address_read _ _ _ c.in_ok-a.ensures _ c.in_ok-b.ensures _ c.in_ok-c.ensures _ c.in_ok-d.ensures _ (four_octets _ _ _ _ _ c.from_be_bytes.ensures)
