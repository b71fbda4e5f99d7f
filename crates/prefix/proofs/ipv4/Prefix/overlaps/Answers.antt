-- `prefix::ipv4::Prefix::overlaps` meets its contract. Assumes nothing.
use mathlib.Core.Path.{ap, ◌∙◌}
use Prim.Native.Nat.{ℕ}
use lib.ListN.{take}
use Rattle.prefix.specs.Prefix.{contains}
use Rattle.prefix.specs.Addresses.{address_bits}
use Rattle.prefix.proofs.Overlaps.{overlap_read}
use Rattle.prefix.proofs.ipv4.Prefix.overlaps.Goals as goal

pub returns : goal.returns
returns c =
    c.covers.ensures
    ∙ ap (λ (k : ℕ). contains (take k (address_bits c.args.self.address)) (address_bits c.args.other.address)) c.min-shorter.ensures
    ∙ overlap_read c.args.self.address c.args.other.address c.args.self.length c.args.other.length c.args.self.short c.args.other.short
