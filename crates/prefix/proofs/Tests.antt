-- The tests on prefixes are facts on ⊑. Assumes nothing.
use mathlib.Core.Path.{◌≡◌, refl, sym, ◌∙◌}
use mathlib.Core.List.{[], ◌∷◌}
use mathlib.Core.Bool.{Bool, true, false, ◌&&◌, beq, false≢true}
use mathlib.Core.Logic.{◌⊎◌, inl, inr}
use Prim.Native.Nat.{ℕ, zero, suc, ◌≤◌, ◌<◌}
use native.Mathlib.Omega.{arith}
use lib.ListN.{length, take}
use lib.Dec.{leb, leb-zero, leb-suc-zero, leb-suc-suc}
use mathlib.Core.Path.{ap}
use mathlib.Core.Bool.{cond}
use borrow.Author.Tests.{ltb-true, lt-ltb}
use Rattle.prefix.specs.Bits.{Bits}
use Rattle.prefix.specs.Prefix.{contains, strictly_inside, overlap, same, common, ◌⊑◌, ⊑nil, ⊑cons}
use Rattle.prefix.proofs.Booleans.{or_false, and_true, is_false, clash, beq_eq, beq_refl}
use Rattle.prefix.proofs.Order.{⊑_refl, ⊑_antisym, ⊑_total}

pub contains_⊑ : (p x : Bits) → contains p x ≡ true → p ⊑ x
unfolding contains
contains_⊑ [] x e = ⊑nil
contains_⊑ (a ∷ p) [] e = absurd (false≢true e)
contains_⊑ (a ∷ p) (b ∷ x) e = let h = and_true (beq a b) _ e in ⊑cons (beq_eq a b h.0) (contains_⊑ p x h.1)

pub ⊑_contains : {p x : Bits} → p ⊑ x → contains p x ≡ true
unfolding contains
⊑_contains ⊑nil = refl
⊑_contains (⊑cons {a = a} {b = b} e p) = rw (e, beq_refl b) (⊑_contains p)

pub ⊑_not : {p x : Bits} → ¬ (p ⊑ x) → contains p x ≡ false
⊑_not {p} {x} n = is_false (λ e. n (contains_⊑ p x e))

pub not_⊑ : (p x : Bits) → contains p x ≡ false → ¬ (p ⊑ x)
not_⊑ p x e h = clash (⊑_contains h) e

-- the first n bits of p contain x where Common is at least n
pub contains_common : (n : ℕ) (p x : Bits) → n ≤ length p → contains (take n p) x ≡ leb n (common p x)
unfolding contains common
contains_common zero p x h = sym (leb-zero (common p x))
contains_common (suc n) [] x h = absurd (omega arith)
contains_common (suc n) (a ∷ p) [] h = sym (leb-suc-zero n)
contains_common (suc n) (a ∷ p) (b ∷ x) h = go (beq a b) (contains_common n p x (omega arith))
  where
    go : (t : Bool) → contains (take n p) x ≡ leb n (common p x) → (t && contains (take n p) x) ≡ leb (suc n) (cond t (suc (common p x)) 0)
    go true e = e ∙ sym (leb-suc-suc n (common p x))
    go false e = sym (leb-suc-zero n)

-- what lies past the length of p does not matter
pub contains_of_take : (m : ℕ) (p x : Bits) → length p ≤ m → contains p (take m x) ≡ contains p x
unfolding contains
contains_of_take m [] x h = refl
contains_of_take zero (b ∷ p) x h = absurd (omega arith)
contains_of_take (suc m) (b ∷ p) [] h = refl
contains_of_take (suc m) (b ∷ p) (c ∷ x) h = ap (λ (t : Bool). beq b c && t) (contains_of_take m p x (omega arith))

pub same_eq : (p q : Bits) → same p q ≡ true → p ≡ q
unfolding same
same_eq p q e = let h = and_true (contains p q) _ e in ⊑_antisym (contains_⊑ p q h.0) (contains_⊑ q p h.1)

pub eq_same : {p q : Bits} → p ≡ q → same p q ≡ true
unfolding same
eq_same {p} {q} e = rw (e, ⊑_contains (⊑_refl q))

pub ne_same : {p q : Bits} → ¬ (p ≡ q) → same p q ≡ false
ne_same {p} {q} n = is_false (λ e. n (same_eq p q e))

-- q lies strictly inside p
pub strict_⊑ : (q p : Bits) → strictly_inside q p ≡ true → (p ⊑ q) × (length p < length q)
unfolding strictly_inside
strict_⊑ q p e = let h = and_true (contains p q) _ e in (contains_⊑ p q h.0, ltb-true (length p) (length q) h.1)

pub ⊑_strict : {q p : Bits} → p ⊑ q → length p < length q → strictly_inside q p ≡ true
unfolding strictly_inside
⊑_strict {q} {p} h l = rw (⊑_contains h, lt-ltb (length p) (length q) l)

pub apart_⊑ : (p q : Bits) → overlap p q ≡ false → (¬ (p ⊑ q)) × (¬ (q ⊑ p))
unfolding overlap
apart_⊑ p q e = let h = or_false (contains p q) _ e in (not_⊑ p q h.0, not_⊑ q p h.1)

pub ⊑_apart : {p q : Bits} → ¬ (p ⊑ q) → ¬ (q ⊑ p) → overlap p q ≡ false
unfolding overlap
⊑_apart {p} {q} n m = rw (⊑_not n, ⊑_not m)

pub apart_sym : (p q : Bits) → overlap p q ≡ false → overlap q p ≡ false
apart_sym p q e = let h = apart_⊑ p q e in ⊑_apart h.1 h.0

-- two prefixes that contain one list overlap
pub apart_not : {p q x : Bits} → overlap p q ≡ false → p ⊑ x → q ⊑ x → ⊥
apart_not {p} {q} e h k = go (⊑_total h k)
  where
    go : (p ⊑ q) ⊎ (q ⊑ p) → ⊥
    go (inl l) = (apart_⊑ p q e).0 l
    go (inr l) = (apart_⊑ p q e).1 l
