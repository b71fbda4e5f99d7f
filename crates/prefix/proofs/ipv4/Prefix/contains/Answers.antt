-- `prefix::ipv4::Prefix::contains` meets its contract. Assumes nothing.
use mathlib.Core.Path.{◌∙◌}
use Rattle.prefix.proofs.Overlaps.{contains_ipv4}
use Rattle.prefix.proofs.ipv4.Prefix.contains.Goals as goal

pub returns : goal.returns
returns c = c.covers.ensures ∙ contains_ipv4 c.args.self.length c.args.self.address c.args.x c.args.self.short
