-- `prefix::ipv4::Prefix::cleared` meets its contract. Assumes nothing.
use mathlib.Core.Path.{ap, ◌∙◌}
use lib.ListN.{take}
use Rattle.prefix.proofs.Trimming.{take_of_trimmed}
use Rattle.prefix.specs.Addresses.{address_bits}
use Rattle.prefix.proofs.ipv4.Prefix.cleared.Goals as goal

pub returns : goal.returns
returns c = c.to_ipv4.ensures ∙ ap (take 32) c.trim.ensures ∙ take_of_trimmed 32 c.args.self.length (address_bits c.args.self.address)
