-- `table::goes_on` meets its contract. Assumes nothing.
use Rattle.table.proofs.Judging.{goes_root, goes_short, goes_long, goes_aside, goes_on}
use borrow.Author.Rules.{rules}
use Rattle.table.proofs.goes_on.Goals.{then-own-n-via-then-own-n, then-own-n-via-else-own-n+then-own-gt32, then-own-n-via-else-own-n+else-own-gt32+then-bit_at-cell}
use Rattle.table.proofs.goes_on.Goals as goal

pub returns-then-cell-eq0 : goal.returns-then-cell-eq0
returns-then-cell-eq0 c = search (rules, goes_root)

pub returns-then-own-n : goal.returns-then-own-n
returns-then-own-n c = elim c.then-own-n.branch [
  | then-own-n-via-then-own-n w ↦ search (rules, goes_short)
  | then-own-n-via-else-own-n+then-own-gt32 w ↦ search (rules, goes_long)
  | then-own-n-via-else-own-n+else-own-gt32+then-bit_at-cell w ↦ goes_aside _ _ _ c.requires.a_cell c.if-cell-eq0.false (search rules) (search rules) (search rules) c.requires.pointed_at _ _
      c.length_of-n.ensures c.length_of-own.ensures w.if-own-n.false w.if-own-gt32.false _ c.address_of-a.ensures _ w.bit_at.ensures w.if-bit_at-cell.true
]

pub returns : goal.returns
returns c = search (rules, goes_on)
