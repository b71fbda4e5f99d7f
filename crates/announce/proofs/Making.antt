-- The nodes that an announcement makes. Assumes nothing.
use mathlib.Core.Path.{◌≡◌, refl}
use Prim.Native.Nat.{ℕ, ◌<◌}
use native.Mathlib.Omega.{arith}
use lib.ListN.{take}
use Rattle.prefix.specs.Bits.{Bits, bits}
use Rattle.prefix.specs.Prefix.{trimmed}
use Rattle.prefix.specs.Addresses.{address_bits, ipv4_bits}
use Rattle.prefix.specs.declared.Address.{Address}
use Rattle.prefix.proofs.Trimming.{take_trimmed, take_of_trimmed}
use Rattle.nodes.specs.declared.Node.{Node}
use Rattle.announce.specs.Writes.{NodeOf, only_child}

-- a word of an address's first n bits
pub leaf_made : (a : Address) (n mark up x : ℕ) → bits 32 x ≡ trimmed n (ipv4_bits a)
    → NodeOf (take n (ipv4_bits a)) n mark 0 0 up (record { address = x; length = n; mark = mark; left = 0; right = 0; up = up })
leaf_made a n mark up x e =
    record { spells = rw (e, take_trimmed); its_length = refl; its_mark = refl; its_left = refl; its_right = refl; its_up = refl }

module _ (P : Bits) (n mark side p up : ℕ) (node : Node) (leaf : NodeOf P n mark 0 0 up node) where
  pub child_left : side ≡ 0 → NodeOf P n mark (only_child side p 0) (only_child side p 1) up (record { address = node.address; length = node.length; mark = node.mark; left = p; right = node.right; up = node.up })
  child_left e = record { spells = leaf.spells; its_length = leaf.its_length; its_mark = leaf.its_mark; its_left = rw e; its_right = rw e leaf.its_right; its_up = leaf.its_up }

  pub child_right : side < 2 → ¬ (side ≡ 0) → NodeOf P n mark (only_child side p 0) (only_child side p 1) up (record { address = node.address; length = node.length; mark = node.mark; left = node.left; right = p; up = node.up })
  child_right l ne =
      let e : side ≡ 1 = omega arith in
      record { spells = leaf.spells; its_length = leaf.its_length; its_mark = leaf.its_mark; its_left = rw e leaf.its_left; its_right = rw e; its_up = leaf.its_up }
