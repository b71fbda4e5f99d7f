-- Laws of Common and of the longest common prefix. Assumes nothing.
use mathlib.Core.Path.{◌≡◌, refl, sym, ap, ap₂, ◌∙◌}
use mathlib.Core.Bool.{Bool, true, false, not, cond, beq}
use mathlib.Core.List.{[], ◌∷◌, ◌++◌}
use Prim.Native.Nat.{ℕ, zero, suc, ◌+◌, ◌≤◌, ◌<◌, min}
use native.Mathlib.Nat.{zero-add, suc-add, zero-min, min-zero, suc-min-suc}
use native.Mathlib.Decide.{dec_le}
use native.Mathlib.Omega.{arith}
use lib.ListN.{length, take}
use Rattle.prefix.specs.Bits.{Bits}
use Rattle.prefix.specs.Prefix.{common, shared, ◌⊑◌, ⊑nil, ⊑cons, Below, here, there}
use Rattle.prefix.proofs.Booleans.{beq_eq, beq_refl, beq_sym}
use Rattle.prefix.proofs.Order.{⊑_trans, ⊑_length, ⊑_by_length, ⊑_eq, ⊑_of_eq, take_⊑, take_len, below_is, below_⊑, below_bit, below_by_length}

-- ---- Common

pub common_sym : (x y : Bits) → common x y ≡ common y x
unfolding common
common_sym [] [] = refl
common_sym [] (b ∷ y) = refl
common_sym (a ∷ x) [] = refl
common_sym (a ∷ x) (b ∷ y) = ap₂ (λ (t : Bool) (n : ℕ). cond t (suc n) 0) (beq_sym a b) (common_sym x y)

pub common_le : (x y : Bits) → common x y ≤ length x
unfolding common
common_le [] y = omega arith
common_le (a ∷ x) [] = omega arith
common_le (a ∷ x) (b ∷ y) = go (beq a b) (common_le x y)
  where
    go : (t : Bool) → common x y ≤ length x → cond t (suc (common x y)) 0 ≤ suc (length x)
    go true h = omega arith
    go false h = omega arith

-- the lists agree so far
pub common_agree : (x y : Bits) → take (common x y) x ≡ take (common x y) y
unfolding common
common_agree [] [] = refl
common_agree [] (b ∷ y) = refl
common_agree (a ∷ x) [] = refl
common_agree (a ∷ x) (b ∷ y) = go (beq a b) refl (common_agree x y)
  where
    go : (t : Bool) → beq a b ≡ t → take (common x y) x ≡ take (common x y) y
        → take (cond t (suc (common x y)) 0) (a ∷ x) ≡ take (cond t (suc (common x y)) 0) (b ∷ y)
    go true e h = ap₂ ◌∷◌ (beq_eq a b e) h
    go false e h = refl

-- of the first n bits
pub common_take : (n : ℕ) (x y : Bits) → common (take n x) y ≡ min n (common x y)
unfolding common
common_take zero x y = sym (zero-min (common x y))
common_take (suc n) [] y = sym (min-zero (suc n))
common_take (suc n) (a ∷ x) [] = sym (min-zero (suc n))
common_take (suc n) (a ∷ x) (b ∷ y) = go (beq a b) (common_take n x y)
  where
    go : (t : Bool) → common (take n x) y ≡ min n (common x y) → cond t (suc (common (take n x) y)) 0 ≡ min (suc n) (cond t (suc (common x y)) 0)
    go true e = ap suc e ∙ sym (suc-min-suc n (common x y))
    go false e = sym (min-zero (suc n))

-- lists of equal length with more behind them
pub common_append_less : (p q r s : Bits) → length p ≡ length q → common p q < length p → common (p ++ r) (q ++ s) ≡ common p q
unfolding common
common_append_less [] q r s e h = absurd (omega arith)
common_append_less (a ∷ p) [] r s e h = absurd (omega arith)
common_append_less (a ∷ p) (b ∷ q) r s e h = go (beq a b) (common_append_less p q r s (omega arith)) h
  where
    go : (t : Bool) → (common p q < length p → common (p ++ r) (q ++ s) ≡ common p q) → cond t (suc (common p q)) 0 < suc (length p)
        → cond t (suc (common (p ++ r) (q ++ s))) 0 ≡ cond t (suc (common p q)) 0
    go true f h = ap suc (f (omega arith))
    go false f h = refl

pub common_append_full : (p q r s : Bits) → length p ≡ length q → length p ≤ common p q → common (p ++ r) (q ++ s) ≡ length p + common r s
unfolding common
common_append_full [] [] r s e h = sym (zero-add (common r s))
common_append_full [] (b ∷ q) r s e h = absurd (omega arith)
common_append_full (a ∷ p) [] r s e h = absurd (omega arith)
common_append_full (a ∷ p) (b ∷ q) r s e h = go (beq a b) (common_append_full p q r s (omega arith)) h
  where
    go : (t : Bool) → (length p ≤ common p q → common (p ++ r) (q ++ s) ≡ length p + common r s) → suc (length p) ≤ cond t (suc (common p q)) 0
        → cond t (suc (common (p ++ r) (q ++ s))) 0 ≡ suc (length p) + common r s
    go true f h = ap suc (f (omega arith)) ∙ sym (suc-add (length p) (common r s))
    go false f h = absurd (omega arith)

-- what lies past the length of p does not matter
pub common_of_take : (m : ℕ) (p x : Bits) → length p ≤ m → common p (take m x) ≡ common p x
unfolding common
common_of_take m [] x h = refl
common_of_take zero (b ∷ p) x h = absurd (omega arith)
common_of_take (suc m) (b ∷ p) [] h = refl
common_of_take (suc m) (b ∷ p) (c ∷ x) h = ap (λ (n : ℕ). cond (beq b c) (suc n) 0) (common_of_take m p x (omega arith))

-- ---- the longest common prefix

pub shared_length : (x y : Bits) → length (shared x y) ≡ common x y
unfolding shared
shared_length x y = take_len (common x y) x (common_le x y)

pub shared_comm : (x y : Bits) → shared x y ≡ shared y x
unfolding shared
shared_comm x y = common_agree x y ∙ ap (λ (n : ℕ). take n y) (common_sym x y)

pub shared_left : (x y : Bits) → shared x y ⊑ x
unfolding shared
shared_left x y = take_⊑ (common x y) x

pub shared_right : (x y : Bits) → shared x y ⊑ y
shared_right x y = rw shared_comm (shared_left y x)

pub shared_great : {z x y : Bits} → z ⊑ x → z ⊑ y → z ⊑ shared x y
unfolding shared common
shared_great ⊑nil q = ⊑nil
shared_great (⊑cons {b = b} e p) (⊑cons {b = c} f q) =
    let z : b ≡ c = sym e ∙ f in
    rw (z, beq_refl c) (⊑cons f (shared_great p q))

-- a prefix of both is no longer than Common
pub le_common : {p x q : Bits} → p ⊑ x → p ⊑ q → length p ≤ common x q
le_common {p} {x} {q} h k = omega (arith, ⊑_length (shared_great h k), shared_length x q)

-- a prefix of x no longer than Common contains q
pub common_⊑ : {p x q : Bits} → p ⊑ x → length p ≤ common x q → p ⊑ q
common_⊑ {p} {x} {q} h l = ⊑_trans (⊑_by_length h (shared_left x q) (omega (arith, shared_length x q))) (shared_right x q)

pub common_lt : {x q : Bits} → ¬ (q ⊑ x) → length q ≤ length x → common x q < length x
common_lt {x} {q} n l = go (dec_le (length x) (common x q))
  where
    go : Dec (length x ≤ common x q) → common x q < length x
    go (yes h) =
        let e : shared x q ≡ x = ⊑_eq (shared_left x q) (omega (arith, shared_length x q)) in
        let k : x ⊑ q = ⊑_trans (⊑_of_eq (sym e)) (shared_right x q) in
        absurd (n (⊑_of_eq (sym (⊑_eq k l))))
    go (no h) = omega arith

pub below_shared : {p x y : Bits} {b : Bool} → Below p b x → Below p b y → Below p b (shared x y)
below_shared {p} {x} {y} {b} h g = (below_is p b (shared x y)).1 (shared_great ((below_is p b x).0 h) ((below_is p b y).0 g))

-- two lists neither of which contains the other part after their longest common prefix
pub shared_fork : (x y : Bits) → ¬ (x ⊑ y) → ¬ (y ⊑ x) → (b : Bool) × Below (shared x y) b x × Below (shared x y) (not b) y
unfolding shared common
shared_fork [] y n m = absurd (n ⊑nil)
shared_fork (a ∷ x) [] n m = absurd (m ⊑nil)
shared_fork (true ∷ x) (true ∷ y) n m = let h = shared_fork x y (λ p. n (⊑cons refl p)) (λ p. m (⊑cons refl p)) in (h.0, there refl h.1, there refl h.2)
shared_fork (true ∷ x) (false ∷ y) n m = (true, here refl, here refl)
shared_fork (false ∷ x) (true ∷ y) n m = (false, here refl, here refl)
shared_fork (false ∷ x) (false ∷ y) n m = let h = shared_fork x y (λ p. n (⊑cons refl p)) (λ p. m (⊑cons refl p)) in (h.0, there refl h.1, there refl h.2)

-- where two lists part is their longest common prefix
pub shared_parted : {p x y : Bits} {b c : Bool} → Below p b x → Below p c y → ¬ (b ≡ c) → shared x y ≡ p
shared_parted {p} {x} {y} h g n = sym (⊑_eq (shared_great (below_⊑ h) (below_⊑ g)) (short (dec_le (length (shared x y)) (length p))))
  where
    short : Dec (length (shared x y) ≤ length p) → length (shared x y) ≤ length p
    short (yes l) = l
    short (no m) = absurd (n (below_bit (below_by_length h (shared_left x y) (omega arith)) (below_by_length g (shared_right x y) (omega arith))))
