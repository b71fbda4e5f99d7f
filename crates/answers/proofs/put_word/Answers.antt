-- `answers::put_word` meets its contract. Assumes nothing.
use native.Mathlib.Omega.{arith}
use Rattle.answers.proofs.WritingLaws.{wrote_word}
use Rattle.answers.proofs.put_word.Goals as goal

pub returns : goal.returns
returns c = wrote_word _ _ _ _ _ c.copy_from_slice.ensures.after (omega arith) c.requires
