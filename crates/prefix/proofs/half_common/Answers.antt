-- `prefix::half_common` meets its contract. Assumes nothing.
use mathlib.Core.Path.{sym}
use Rattle.prefix.proofs.BitLaws.{common_word}
use Rattle.prefix.proofs.half_common.Goals as goal

pub returns : goal.returns
returns c = sym (common_word 64 c.args.x c.args.y c.ranges.x.fits c.ranges.y.fits)
