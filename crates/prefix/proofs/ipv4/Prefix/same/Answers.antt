-- `prefix::ipv4::Prefix::same` meets its contract. Assumes nothing.
use mathlib.Core.Path.{sym, ◌∙◌}
use borrow.Author.Tests.{ne_eqb}
use Rattle.prefix.proofs.Overlaps.{same_read, other_length}
use Rattle.prefix.proofs.ipv4.Prefix.same.Goals as goal

pub returns-then-self-other : goal.returns-then-self-other
returns-then-self-other c =
    rw (← c.if-self-other.true) (c.covers.ensures ∙ same_read c.args.self.address c.args.other.address c.args.self.length c.args.self.short)

pub returns-else-self-other : goal.returns-else-self-other
returns-else-self-other c =
    ne_eqb c.args.self.length c.args.other.length c.if-self-other.false
    ∙ sym (other_length c.args.self.address c.args.other.address c.args.self.length c.args.other.length c.args.self.short c.args.other.short c.if-self-other.false)
