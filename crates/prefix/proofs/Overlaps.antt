-- Prefixes that overlap, contain an address or are the same: what a comparison of leading bits tells. Assumes nothing.
use mathlib.Core.Path.{◌≡◌, refl, sym, ap, subst, ◌∙◌}
use mathlib.Core.Bool.{Bool, true, false, ◌||◌, ◌&&◌}
use mathlib.Core.List.{[], ◌∷◌}
use Prim.Native.Nat.{ℕ, ◌≤◌, ◌<◌, min}
use native.Mathlib.Omega.{arith}
use lib.ListN.{length, take}
use lib.Seq.{take-take}
use lib.Dec.{ltb, eqb}
use borrow.Author.Tests.{ltb-true, ltb-false}
use Rattle.std.proofs.Math.Nat.{min-eq_left, min-eq_right}
use Rattle.prefix.specs.Bits.{Bits}
use Rattle.prefix.specs.Prefix.{contains, overlap, same, ◌⊑◌}
use Rattle.prefix.specs.Addresses.{address_bits, ipv4_bits, prefix_bits}
use Rattle.prefix.specs.declared.Address.{Address}
use Rattle.prefix.specs.declared.ipv4.Prefix.{Prefix}
use Rattle.prefix.proofs.Booleans.{is_false, clash}
use Rattle.prefix.proofs.Order.{⊑_of_eq, ⊑_eq, take_len, take_⊑, ⊑_take}
use Rattle.prefix.proofs.Tests.{contains_⊑, ⊑_contains, contains_of_take, eq_same, ne_same}
use Rattle.prefix.proofs.AddressLaws.{length_address, length_ipv4, prefix_32}

-- if they do, the shorter contains the longer
pub overlap_shorter : (p q : Bits) → length p ≤ length q → overlap p q ≡ contains p q
unfolding overlap
overlap_shorter p q l = go (contains p q) refl
  where
    go : (b : Bool) → contains p q ≡ b → (b || contains q p) ≡ b
    go true e = refl
    go false e = is_false (λ f. let h = contains_⊑ q p f in clash (⊑_contains (⊑_of_eq (sym (⊑_eq h l)))) e)

pub overlap_longer : (p q : Bits) → length q ≤ length p → overlap p q ≡ contains q p
unfolding overlap
overlap_longer p q l = or_swap (contains p q) (contains q p) ∙ overlap_shorter q p l
  where
    or_swap : (a b : Bool) → (a || b) ≡ (b || a)
    or_swap true true = refl
    or_swap true false = refl
    or_swap false true = refl
    or_swap false false = refl

-- the first m bits of either are those of the other
pub covers_swap : (m : ℕ) (x y : Bits) → m ≤ length x → m ≤ length y → contains (take m x) y ≡ contains (take m y) x
covers_swap m x y h k = go (contains (take m x) y) (contains (take m y) x) (swapped x y h) (swapped y x k)
  where
    swapped : (u v : Bits) → m ≤ length u → contains (take m u) v ≡ true → contains (take m v) u ≡ true
    swapped u v l e =
        let same_bits : take m v ≡ take m u = subst (λ (i : ℕ). take i v ≡ take m u) (take_len m u l) (⊑_take (contains_⊑ (take m u) v e)) in
        ⊑_contains (subst (λ (q : Bits). q ⊑ u) (sym same_bits) (take_⊑ m u))

    go : (b d : Bool) → (b ≡ true → d ≡ true) → (d ≡ true → b ≡ true) → b ≡ d
    go true d f g = sym (f refl)
    go false d f g = sym (is_false (λ e. clash (g e) refl))

-- ---- prefixes of an IPv4 address

-- what is read of 128 bits is so of the first 32
pub contains_ipv4 : (n : ℕ) (a x : Address) → n ≤ 32 → contains (take n (address_bits a)) (address_bits x) ≡ contains (take n (ipv4_bits a)) (ipv4_bits x)
contains_ipv4 n a x h = sym (prefix_32 n a x h) ∙ ap (λ (l : Bits). contains l (ipv4_bits x)) (sym (take-take n 32 (address_bits a) h))

-- two prefixes overlap where they agree in the bits of the shorter
module _ (a b : Address) (n m : ℕ) (short : n ≤ 32) (short' : m ≤ 32) where
  a_length : length (take n (ipv4_bits a)) ≡ n
  a_length = take_len n (ipv4_bits a) (omega (arith, length_ipv4 a, short))

  b_length : length (take m (ipv4_bits b)) ≡ m
  b_length = take_len m (ipv4_bits b) (omega (arith, length_ipv4 b, short'))

  pub overlap_read : contains (take (min n m) (address_bits a)) (address_bits b) ≡ overlap (take n (ipv4_bits a)) (take m (ipv4_bits b))
  overlap_read = go (ltb m n) refl
    where
      go : (t : Bool) → ltb m n ≡ t → contains (take (min n m) (address_bits a)) (address_bits b) ≡ overlap (take n (ipv4_bits a)) (take m (ipv4_bits b))
      go false z =
          let l = ltb-false m n z in
          ap (λ (k : ℕ). contains (take k (address_bits a)) (address_bits b)) (min-eq_left l)
          ∙ contains_ipv4 n a b short
          ∙ sym (contains_of_take m (take n (ipv4_bits a)) (ipv4_bits b) (omega (arith, a_length)))
          ∙ sym (overlap_shorter (take n (ipv4_bits a)) (take m (ipv4_bits b)) (omega (arith, a_length, b_length)))
      go true z =
          let l : m ≤ n = omega (arith, ltb-true m n z) in
          ap (λ (k : ℕ). contains (take k (address_bits a)) (address_bits b)) (min-eq_right l)
          ∙ contains_ipv4 m a b short'
          ∙ covers_swap m (ipv4_bits a) (ipv4_bits b) (omega (arith, length_ipv4 a)) (omega (arith, length_ipv4 b, short'))
          ∙ sym (contains_of_take n (take m (ipv4_bits b)) (ipv4_bits a) (omega (arith, b_length)))
          ∙ sym (overlap_longer (take n (ipv4_bits a)) (take m (ipv4_bits b)) (omega (arith, a_length, b_length)))

  -- those of different lengths are not the same
  pub other_length : ¬ (n ≡ m) → same (take n (ipv4_bits a)) (take m (ipv4_bits b)) ≡ false
  other_length ne = ne_same (λ z. ne (sym a_length ∙ ap length z ∙ b_length))

-- those of one length are where the one contains the other's address
pub same_read : (a b : Address) (n : ℕ) → n ≤ 32 → contains (take n (address_bits a)) (address_bits b) ≡ same (take n (ipv4_bits a)) (take n (ipv4_bits b))
same_read a b n short = contains_ipv4 n a b short ∙ go (contains (take n (ipv4_bits a)) (ipv4_bits b)) refl
  where
    size : length (take n (ipv4_bits a)) ≡ n
    size = take_len n (ipv4_bits a) (omega (arith, length_ipv4 a))

    go : (r : Bool) → contains (take n (ipv4_bits a)) (ipv4_bits b) ≡ r → r ≡ same (take n (ipv4_bits a)) (take n (ipv4_bits b))
    go true c =
        sym (eq_same (sym (subst (λ (m : ℕ). take m (ipv4_bits b) ≡ take n (ipv4_bits a)) size (⊑_take (contains_⊑ (take n (ipv4_bits a)) (ipv4_bits b) c)))))
    go false c =
        sym (ne_same (λ z. clash (⊑_contains (subst (λ (q : Bits). q ⊑ ipv4_bits b) (sym z) (take_⊑ n (ipv4_bits b)))) c))
