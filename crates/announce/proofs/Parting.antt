-- Where a prefix and that of a node part: what the agreed bits tell. Assumes nothing.
use mathlib.Core.Path.{◌≡◌, refl, sym, ◌∙◌}
use mathlib.Core.Bool.{Bool, true, false}
use Prim.Native.Nat.{ℕ, ◌≤◌, ◌<◌}
use native.Mathlib.Decide.{dec_le}
use native.Mathlib.Omega.{arith}
use lib.ListN.{length, take, get_or}
use lib.Seq.{take-take, get_or-take, length-take-le}
use borrow.Author.Tests.{le-leb, lt-leb}
use Rattle.prefix.specs.Bits.{one?, digit}
use Rattle.prefix.specs.Prefix.{contains, common, shared}
use Rattle.prefix.specs.Addresses.{address_bits, ipv4_bits}
use Rattle.prefix.specs.declared.Address.{Address}
use Rattle.prefix.proofs.Order.{⊑_eq, ⊑_of_eq, below_<}
use Rattle.prefix.proofs.Common.{common_take, shared_length, shared_fork}
use Rattle.prefix.proofs.Tests.{contains_⊑, not_⊑, contains_common}
use Rattle.prefix.proofs.AddressLaws.{length_address}
use Rattle.table.proofs.Reading.{length_sought}

pub bit_digit : (b : Bool) → one? (digit b) ≡ b
bit_digit false = refl
bit_digit true = refl

module _ (a there : Address) (n own agreed : ℕ) (short : n ≤ 32) (own_short : own ≤ 32) (is_agreed : agreed ≡ common (address_bits a) (take own (address_bits there))) where
  sought : take n (ipv4_bits a) ≡ take n (address_bits a)
  sought = take-take n 32 (address_bits a) short

  own_length : length (take own (address_bits there)) ≡ own
  own_length = length-take-le own (address_bits there) (omega (arith, length_address there))

  pub covers_node : n ≤ agreed → contains (take n (ipv4_bits a)) (take own (address_bits there)) ≡ true
  covers_node l = rw (sought) (contains_common n (address_bits a) (take own (address_bits there)) (omega (arith, length_address a)) ∙ le-leb n _ (omega arith))

  -- the bit of the node's address after the agreed ones
  pub node_side : (i side : ℕ) → i < own → side ≡ digit (get_or (address_bits there) i false) → one? side ≡ get_or (take own (address_bits there)) i false
  node_side i side l e = rw (e, bit_digit) (sym (get_or-take own (address_bits there) i false l))

  module _ (out : contains (take own (address_bits there)) (take n (ipv4_bits a)) ≡ false) where
    pub node_longer : n ≤ agreed → n < own
    node_longer l = go (dec_le own n)
      where
        go : Dec (own ≤ n) → n < own
        go (no ne) = omega arith
        go (yes le) = absurd (not_⊑ _ _ out (⊑_of_eq (sym (⊑_eq (contains_⊑ _ _ (covers_node l)) (omega (arith, own_length, length_sought a n short))))))

    module _ (parts : agreed < n) where
      pub not_covers_node : contains (take n (ipv4_bits a)) (take own (address_bits there)) ≡ false
      not_covers_node = rw (sought) (contains_common n (address_bits a) (take own (address_bits there)) (omega (arith, length_address a)) ∙ lt-leb n _ (omega arith))

      pub common_agreed : common (take n (ipv4_bits a)) (take own (address_bits there)) ≡ agreed
      common_agreed = rw (sought) (omega (arith, common_take n (address_bits a) (take own (address_bits there))))

      pub shared_agreed : shared (take n (ipv4_bits a)) (take own (address_bits there)) ≡ take agreed (ipv4_bits a)
      unfolding shared
      shared_agreed = rw common_agreed (take-take agreed n (ipv4_bits a) (omega arith))

      pub agreed_shorter : agreed < own
      agreed_shorter =
          let f = shared_fork _ _ (not_⊑ _ _ not_covers_node) (not_⊑ _ _ out) in
          omega (arith, below_< f.2, shared_length (take n (ipv4_bits a)) (take own (address_bits there)), common_agreed, own_length)
