-- `answers::put_octet` meets its contract. Assumes nothing.
use Rattle.std.proofs.Common.{rules, arith}
use Rattle.answers.proofs.WritingLaws.{wrote_both, room_for_octet, octet_ends}
use Rattle.answers.proofs.put_octet.Goals as goal

pub put_number-requires : goal.put_number-requires
put_number-requires c = room_for_octet _ _ _ _ _ _ c.put_word-i.ensures c.requires.one_byte (omega (arith, c.ranges.octet.fits)) (search rules) c.requires.room

pub returns-clause-written : goal.returns-clause-written
returns-clause-written c = search (rules, wrote_both)

pub returns-clause-upper_bound : goal.returns-clause-upper_bound
returns-clause-upper_bound c = octet_ends _ _ _ _ _ _ c.put_word-i.ensures c.requires.one_byte (omega (arith, c.ranges.octet.fits)) _ _ c.put_number.ensures
