-- Laws of p ⊑ x, p contains x, and of Below p b x, x goes on from p with the bit b. Assumes nothing.
use mathlib.Core.Path.{◌≡◌, refl, sym, ◌∙◌}
use mathlib.Core.Bool.{Bool, Bool-discrete}
use mathlib.Core.List.{[], ◌∷◌, ◌++◌}
use mathlib.Core.Logic.{◌⊎◌, inl, inr, ◌↔◌}
use Prim.Native.Nat.{ℕ, zero, suc, ◌≤◌, ◌<◌, zero-le, suc-le-suc}
use native.Mathlib.Nat.{le_of_suc-le-suc, not-suc-le-zero}
use native.Mathlib.Decide.{dec_le}
use native.Mathlib.Omega.{arith}
use lib.ListN.{length, take, length-take}
use Rattle.prefix.specs.Bits.{Bits}
use Rattle.prefix.specs.Prefix.{◌⊑◌, ⊑nil, ⊑cons, Below, here, there}

pub ⊑_refl : (x : Bits) → x ⊑ x
⊑_refl [] = ⊑nil
⊑_refl (a ∷ x) = ⊑cons refl (⊑_refl x)

pub ⊑_of_eq : {x y : Bits} → x ≡ y → x ⊑ y
⊑_of_eq {x} {y} e = rw e (⊑_refl y)

pub ⊑_trans : {x y z : Bits} → x ⊑ y → y ⊑ z → x ⊑ z
⊑_trans ⊑nil q = ⊑nil
⊑_trans (⊑cons e p) (⊑cons f q) = ⊑cons (e ∙ f) (⊑_trans p q)

pub ⊑_length : {x y : Bits} → x ⊑ y → length x ≤ length y
⊑_length ⊑nil = zero-le
⊑_length (⊑cons e p) = suc-le-suc (⊑_length p)

pub ⊑_antisym : {x y : Bits} → x ⊑ y → y ⊑ x → x ≡ y
⊑_antisym ⊑nil ⊑nil = refl
⊑_antisym (⊑cons e p) (⊑cons f q) = let h = ⊑_antisym p q in cc

-- of two prefixes of one list the shorter contains the longer
pub ⊑_by_length : {x y z : Bits} → x ⊑ z → y ⊑ z → length x ≤ length y → x ⊑ y
⊑_by_length ⊑nil q h = ⊑nil
⊑_by_length (⊑cons e p) ⊑nil h = absurd (not-suc-le-zero h)
⊑_by_length (⊑cons e p) (⊑cons f q) h = ⊑cons (e ∙ sym f) (⊑_by_length p q (le_of_suc-le-suc h))

pub ⊑_eq : {x y : Bits} → x ⊑ y → length y ≤ length x → x ≡ y
⊑_eq {x} {y} p h = ⊑_antisym p (⊑_by_length (⊑_refl y) p h)

pub ⊑_total : {x y z : Bits} → x ⊑ z → y ⊑ z → (x ⊑ y) ⊎ (y ⊑ x)
⊑_total {x} {y} p q = go (dec_le (length x) (length y))
  where
    go : Dec (length x ≤ length y) → (x ⊑ y) ⊎ (y ⊑ x)
    go (yes l) = inl (⊑_by_length p q l)
    go (no n) = inr (⊑_by_length q p (omega arith))

⊑cons_inv : {a b : Bool} {x y : Bits} → a ∷ x ⊑ b ∷ y → (a ≡ b) × (x ⊑ y)
⊑cons_inv (⊑cons e p) = (e, p)

pub ⊑_dec : (x y : Bits) → Dec (x ⊑ y)
⊑_dec [] y = yes ⊑nil
⊑_dec (a ∷ x) [] = no (λ (h : a ∷ x ⊑ []). elim h [ ])
⊑_dec (a ∷ x) (b ∷ y) = go (Bool-discrete a b) (⊑_dec x y)
  where
    go : Dec (a ≡ b) → Dec (x ⊑ y) → Dec (a ∷ x ⊑ b ∷ y)
    go (yes e) (yes p) = yes (⊑cons e p)
    go (yes e) (no n) = no (λ h. n (⊑cons_inv h).1)
    go (no n) d = no (λ h. n (⊑cons_inv h).0)

-- ---- the first n bits

pub take_⊑ : (n : ℕ) (x : Bits) → take n x ⊑ x
take_⊑ zero x = ⊑nil
take_⊑ (suc n) [] = ⊑nil
take_⊑ (suc n) (a ∷ x) = ⊑cons refl (take_⊑ n x)

pub take_len : (n : ℕ) (x : Bits) → n ≤ length x → length (take n x) ≡ n
take_len n x h = simp length-take (omega arith)

pub ⊑_take : {p x : Bits} → p ⊑ x → take (length p) x ≡ p
⊑_take ⊑nil = refl
⊑_take (⊑cons e h) = let k = ⊑_take h in cc

-- ---- Below

pub below_is : (p : Bits) (b : Bool) (q : Bits) → Below p b q ↔ p ++ (b ∷ []) ⊑ q
below_is p b q = (to, from p q)
  where
    to : {p q : Bits} → Below p b q → p ++ (b ∷ []) ⊑ q
    to (here e) = ⊑cons e ⊑nil
    to (there e h) = ⊑cons e (to h)

    from : (p q : Bits) → p ++ (b ∷ []) ⊑ q → Below p b q
    from [] (c ∷ q) (⊑cons e h) = here e
    from (a ∷ p) (c ∷ q) (⊑cons e h) = there e (from p q h)
    from [] [] x'' = elim x'' [ ]
    from (a ∷ p) [] x3 = elim x3 [ ]

pub below_⊑ : {p q : Bits} {b : Bool} → Below p b q → p ⊑ q
below_⊑ (here e) = ⊑nil
below_⊑ (there e h) = ⊑cons e (below_⊑ h)

pub below_< : {p q : Bits} {b : Bool} → Below p b q → length p < length q
below_< (here e) = suc-le-suc zero-le
below_< (there e h) = suc-le-suc (below_< h)

pub below_trans : {p q r : Bits} {b : Bool} → Below p b q → q ⊑ r → Below p b r
below_trans (here e) (⊑cons f q) = here (e ∙ f)
below_trans (there e h) (⊑cons f q) = there (e ∙ f) (below_trans h q)

pub below_bit : {p q : Bits} {b c : Bool} → Below p b q → Below p c q → b ≡ c
below_bit (here e) (here f) = e ∙ sym f
below_bit (there e h) (there f g) = below_bit h g

-- a prefix of z that is longer than p goes on from p as z does
pub below_by_length : {p q z : Bits} {b : Bool} → Below p b z → q ⊑ z → length p < length q → Below p b q
below_by_length (here e) ⊑nil h = absurd (not-suc-le-zero h)
below_by_length (here e) (⊑cons f q) h = here (e ∙ sym f)
below_by_length (there e p) ⊑nil h = absurd (not-suc-le-zero h)
below_by_length (there e p) (⊑cons f q) h = there (e ∙ sym f) (below_by_length p q (le_of_suc-le-suc h))

-- a prefix of q is all of q, or q goes on from it
pub ⊑_cases : {p q : Bits} → p ⊑ q → (p ≡ q) ⊎ ((b : Bool) × Below p b q)
⊑_cases (⊑nil {x = []}) = inl refl
⊑_cases (⊑nil {x = c ∷ y}) = inr (c, here refl)
⊑_cases (⊑cons {a = a} {b = c} {p = x} {x = y} e p) = go (⊑_cases p)
  where
    go : (x ≡ y) ⊎ ((b : Bool) × Below x b y) → (a ∷ x ≡ c ∷ y) ⊎ ((b : Bool) × Below (a ∷ x) b (c ∷ y))
    go (inl f) = inl (cc)
    go (inr h) = inr (h.0, there e h.1)
