-- `prefix::Address::common_bits` meets its contract. Assumes nothing.
use mathlib.Core.Path.{sym, ◌∙◌}
use Rattle.prefix.specs.Prefix.{common}
use Rattle.prefix.specs.Addresses.{address_bits}
use Rattle.prefix.proofs.AddressLaws.{common_cap, min_within}
use Rattle.prefix.proofs.Address.common_bits.Goals as goal

pub returns : goal.returns
returns g c =
    c.min.ensures
    ∙ min_within g.row.WIDTH c.agreement.result (common (address_bits c.args.self) (address_bits c.args.a)) c.args.n
    c.agreement.ensures.near c.agreement.ensures.far c.requires.within
    ∙ sym (common_cap c.args.n c.args.self c.args.a)
