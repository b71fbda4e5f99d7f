-- `answers::put_address` meets its contract. Assumes nothing.
use Rattle.std.proofs.Common.{arith}
use Rattle.answers.proofs.WritingLaws.{wrote_address}
use Rattle.answers.proofs.put_address.Goals as goal

pub returns-clause-written : goal.returns-clause-written
returns-clause-written c =
    wrote_address _ (omega (arith, c.ranges.address.fits)) _ c.to_be_bytes.ensures c.put_octet-i.ensures.written c.put_octet-j.ensures.written c.put_octet-k.ensures.written c.put_octet.ensures.written
