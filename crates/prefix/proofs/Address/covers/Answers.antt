-- `prefix::Address::covers` meets its contract. Assumes nothing.
use mathlib.Core.Path.{sym, ◌∙◌}
use native.Mathlib.Omega.{arith}
use Rattle.prefix.specs.Prefix.{common}
use Rattle.prefix.specs.Addresses.{address_bits}
use Rattle.prefix.proofs.Tests.{contains_common}
use Rattle.prefix.proofs.AddressLaws.{length_address, leb_within}
use Rattle.prefix.proofs.Address.covers.Goals as goal

pub returns : goal.returns
returns g c =
    let s = c in
    leb_within g.row.WIDTH c.agreement.result (common (address_bits s.args.self) (address_bits s.args.x)) s.args.n
    c.agreement.ensures.near c.agreement.ensures.far c.requires.within
    ∙ sym (contains_common s.args.n (address_bits s.args.self) (address_bits s.args.x) (omega (arith, length_address s.args.self)))
