-- Laws of the 128 bits of an address. Assumes nothing.
use mathlib.Core.Path.{◌≡◌, refl, sym, ap, ap₂, ◌∙◌}
use mathlib.Core.Bool.{Bool, true, false}
use mathlib.Core.Logic.{◌⊎◌, inl, inr}
use mathlib.Core.List.{◌++◌}
use Prim.Native.Nat.{ℕ, ◌+◌, ◌-◌, ◌*◌, ◌/◌, ◌^◌, ◌≤◌, ◌<◌, min}
use native.Mathlib.Omega.{arith}
use Rattle.std.proofs.Math.Nat.{min-eq_left}
use lib.ListN.{length, take, get_or, replicate, length-append}
use lib.Seq.{length-take-le, take-append-le, take-take, get_or-take}
use lib.Dec.{leb, ltb}
use borrow.Author.Tests.{ltb-true, ltb-false, le-leb}
use lib.Pow.{shl-shr}
use Rattle.prefix.specs.Bits.{Bits, bits}
use Rattle.prefix.specs.Prefix.{contains, common, trimmed, prefix_of}
use Rattle.prefix.proofs.BitLaws.{length_bits, take_bits, bits_zero, trim_bits, common_word_less, common_word_full, word_at, word_past}
use Rattle.prefix.proofs.Common.{common_sym, common_take, common_of_take}
use Rattle.prefix.proofs.Tests.{contains_of_take}
use Rattle.prefix.proofs.Trimming.{trimmed_append, trimmed_all, trimmed_none, take_of_trimmed}
use Rattle.prefix.specs.Addresses.{address_bits, ipv4_bits}
use Rattle.prefix.specs.declared.Address.{Address}

pub length_address : (a : Address) → length (address_bits a) ≡ 128
length_address a = simp (length-append, length_bits)

-- ---- the two halves

abbrev pub same : ℕ → ℕ → ℕ
same x y = common (bits 64 x) (bits 64 y)

module _ (x y : Address) where
  pub common_high : same x.high y.high < 64 → common (address_bits x) (address_bits y) ≡ same x.high y.high
  common_high h = common_word_less 64 x.high y.high (bits 64 x.low) (bits 64 y.low) h

  pub common_low : 64 ≤ same x.high y.high → common (address_bits x) (address_bits y) ≡ 64 + same x.low y.low
  common_low h = common_word_full 64 x.high y.high (bits 64 x.low) (bits 64 y.low) h

  -- the high half decides, or agrees whole
  pub common_halves : ((same x.high y.high < 64) × (common (address_bits x) (address_bits y) ≡ same x.high y.high))
      ⊎ ((64 ≤ same x.high y.high) × (common (address_bits x) (address_bits y) ≡ 64 + same x.low y.low))
  common_halves = go (ltb (same x.high y.high) 64) refl
    where
      go : (t : Bool) → ltb (same x.high y.high) 64 ≡ t
          → ((same x.high y.high < 64) × (common (address_bits x) (address_bits y) ≡ same x.high y.high))
          ⊎ ((64 ≤ same x.high y.high) × (common (address_bits x) (address_bits y) ≡ 64 + same x.low y.low))
      go true e = let h = ltb-true (same x.high y.high) 64 e in inl (h, common_high h)
      go false e = let h = ltb-false (same x.high y.high) 64 e in inr (h, common_low h)

module _ (a : Address) where
  pub at_high : (i : ℕ) → i < 64 → get_or (address_bits a) i false ≡ get_or (bits 64 a.high) i false
  at_high i h = word_at 64 a.high (bits 64 a.low) i h

  pub at_low : (i : ℕ) → 64 ≤ i → get_or (address_bits a) i false ≡ get_or (bits 64 a.low) (i - 64) false
  at_low i h = word_past 64 a.high (bits 64 a.low) i h

  trimmed_halves : (n : ℕ) → trimmed n (address_bits a) ≡ trimmed n (bits 64 a.high) ++ trimmed (n - 64) (bits 64 a.low)
  trimmed_halves n =
      trimmed_append n (bits 64 a.high) (bits 64 a.low)
      ∙ ap (λ (k : ℕ). trimmed n (bits 64 a.high) ++ trimmed (n - k) (bits 64 a.low)) (length_bits 64 a.high)

  pub trimmed_high : (n : ℕ) → n ≤ 64 → trimmed n (address_bits a) ≡ trimmed n (bits 64 a.high) ++ bits 64 0
  trimmed_high n h =
      let z : n - 64 ≡ 0 = omega arith in
      trimmed_halves n ∙ ap (λ (l : Bits). trimmed n (bits 64 a.high) ++ l)
      (ap (λ (k : ℕ). trimmed k (bits 64 a.low)) z ∙ trimmed_none (bits 64 a.low) ∙ ap (λ (k : ℕ). replicate k false) (length_bits 64 a.low) ∙ sym (bits_zero 64))

  pub trimmed_low : (n : ℕ) → 64 ≤ n → trimmed n (address_bits a) ≡ bits 64 a.high ++ trimmed (n - 64) (bits 64 a.low)
  trimmed_low n h =
      trimmed_halves n ∙ ap (λ (l : Bits). l ++ trimmed (n - 64) (bits 64 a.low)) (trimmed_all n (bits 64 a.high) (rw length_bits h))

  pub take_high : (n : ℕ) → n ≤ 64 → take n (address_bits a) ≡ take n (bits 64 a.high)
  take_high n h = take-append-le n (bits 64 a.high) (bits 64 a.low) (rw length_bits h)

-- at most n
pub common_cap : (n : ℕ) (x a : Address) → common (address_bits x) (take n (address_bits a)) ≡ min n (common (address_bits x) (address_bits a))
common_cap n x a =
    common_sym (address_bits x) (take n (address_bits a)) ∙ common_take n (address_bits a) (address_bits x)
    ∙ ap (min n) (common_sym (address_bits a) (address_bits x))

-- ---- IPv4: the first 32 bits

pub length_ipv4 : (a : Address) → length (ipv4_bits a) ≡ 32
length_ipv4 a = length-take-le 32 (address_bits a) (omega (arith, length_address a))

-- the first 32 bits of a are x
pub first_word : (a : Address) → take 32 (address_bits a) ≡ bits 32 (a.high / 2 ^ 32)
first_word a = take_high a 32 (omega arith) ∙ take_bits 64 32 32 a.high refl

abbrev pub ipv4 : ℕ → Address
ipv4 x = record { high = x * 2 ^ 32; low = 0 }

pub bits_of_ipv4 : (x : ℕ) → take 32 (address_bits (ipv4 x)) ≡ bits 32 x
bits_of_ipv4 x = first_word (ipv4 x) ∙ ap (bits 32) (shl-shr x 32)

pub ipv4_zeros : (x : ℕ) → address_bits (ipv4 x) ≡ trimmed 32 (address_bits (ipv4 x))
ipv4_zeros x =
    let h : ℕ = x * 2 ^ 32 in
    let e : bits 64 h ≡ trimmed 32 (bits 64 h) = ap (λ (k : ℕ). bits 64 (k * 2 ^ 32)) (sym (shl-shr x 32)) ∙ trim_bits 64 32 32 h refl in
    ap (λ (l : Bits). l ++ bits 64 0) e ∙ sym (trimmed_high (ipv4 x) 32 (omega arith))

module _ (n : ℕ) (a x : Address) (h : n ≤ 32) where
  short : length (take n (address_bits a)) ≤ 32
  short = omega (arith, length-take-le n (address_bits a) (omega (arith, length_address a)))

  pub prefix_32 : contains (take n (address_bits a)) (take 32 (address_bits x)) ≡ contains (take n (address_bits a)) (address_bits x)
  prefix_32 = contains_of_take 32 (take n (address_bits a)) (address_bits x) short

  pub common_32 : common (take n (address_bits a)) (take 32 (address_bits x)) ≡ common (take n (address_bits a)) (address_bits x)
  common_32 = common_of_take 32 (take n (address_bits a)) (address_bits x) short

-- what is proved of 128 bits is so of 32
module _ (n u v : ℕ) (a x : Address) (h : n ≤ 32) (ea : take 32 (address_bits a) ≡ bits 32 u) (ex : take 32 (address_bits x) ≡ bits 32 v) where
  pub take_32 : take n (address_bits a) ≡ prefix_of 32 u n
  take_32 = sym (take-take n 32 (address_bits a) h) ∙ ap (take n) ea

  pub ipv4_contains : contains (take n (address_bits a)) (address_bits x) ≡ contains (prefix_of 32 u n) (bits 32 v)
  ipv4_contains = sym (prefix_32 n a x h) ∙ ap₂ contains take_32 ex

  pub ipv4_common : common (take n (address_bits a)) (address_bits x) ≡ common (prefix_of 32 u n) (bits 32 v)
  ipv4_common = sym (common_32 n a x h) ∙ ap₂ common take_32 ex

pub ipv4_bit : (i u : ℕ) (a : Address) → i < 32 → take 32 (address_bits a) ≡ bits 32 u → get_or (address_bits a) i false ≡ get_or (bits 32 u) i false
ipv4_bit i u a h e = sym (get_or-take 32 (address_bits a) i false h) ∙ ap (λ (l : Bits). get_or l i false) e

pub ipv4_trimmed : (n u : ℕ) (a r : Address) → take 32 (address_bits a) ≡ bits 32 u → address_bits r ≡ trimmed n (address_bits a) → take 32 (address_bits r) ≡ trimmed n (bits 32 u)
ipv4_trimmed n u a r ea er = ap (take 32) er ∙ take_of_trimmed 32 n (address_bits a) ∙ ap (trimmed n) ea

-- ---- a number that is Common where it is less than the width, and else no less than the width

module _ (w r c n : ℕ) (near : r < w → r ≡ c) (far : w ≤ r → w ≤ c) (h : n ≤ w) where
  pub leb_within : leb n r ≡ leb n c
  leb_within = go (ltb r w) refl
    where
      go : (t : Bool) → ltb r w ≡ t → leb n r ≡ leb n c
      go true e = ap (leb n) (near (ltb-true r w e))
      go false e = let k = ltb-false r w e in let l = far k in le-leb n r (omega arith) ∙ sym (le-leb n c (omega arith))

  pub min_within : min n r ≡ min n c
  min_within = go (ltb r w) refl
    where
      go : (t : Bool) → ltb r w ≡ t → min n r ≡ min n c
      go true e = ap (min n) (near (ltb-true r w e))
      go false e = let k = ltb-false r w e in let l = far k in min-eq_left (omega arith) ∙ sym (min-eq_left (omega arith))
