-- Laws of the first n bits with zeros after them. Assumes nothing.
use mathlib.Core.Path.{◌≡◌, refl, sym, ap, ap₂, ◌∙◌}
use mathlib.Core.Bool.{false}
use mathlib.Core.List.{[], ◌∷◌, ◌++◌}
use Prim.Native.Nat.{ℕ, zero, suc, ◌-◌, ◌≤◌, min}
use native.Mathlib.Nat.{zero-sub, sub-zero, suc-sub-suc, min-zero, suc-min-suc}
use native.Mathlib.Omega.{arith}
use lib.ListN.{length, take, replicate}
use Rattle.prefix.specs.Bits.{Bits}
use Rattle.prefix.specs.Prefix.{trimmed}

pub length_trimmed : (n : ℕ) (l : Bits) → length (trimmed n l) ≡ length l
unfolding trimmed
length_trimmed n [] = refl
length_trimmed zero (b ∷ l) = ap suc (length_trimmed zero l)
length_trimmed (suc n) (b ∷ l) = ap suc (length_trimmed n l)

pub trimmed_split : (n : ℕ) (l : Bits) → trimmed n l ≡ take n l ++ replicate (length l - n) false
unfolding trimmed
trimmed_split zero [] = refl
trimmed_split (suc n) [] = rw zero-sub
trimmed_split zero (b ∷ l) = simp (trimmed_split zero l, sub-zero)
trimmed_split (suc n) (b ∷ l) = rw (trimmed_split n l, suc-sub-suc)

pub take_trimmed : (n : ℕ) (l : Bits) → take n (trimmed n l) ≡ take n l
unfolding trimmed
take_trimmed zero l = refl
take_trimmed (suc n) [] = refl
take_trimmed (suc n) (b ∷ l) = ap (λ (r : Bits). b ∷ r) (take_trimmed n l)

pub trimmed_append : (n : ℕ) (p q : Bits) → trimmed n (p ++ q) ≡ trimmed n p ++ trimmed (n - length p) q
unfolding trimmed
trimmed_append n [] q = rw sub-zero
trimmed_append zero (b ∷ p) q = simp (trimmed_append zero p q, zero-sub)
trimmed_append (suc n) (b ∷ p) q = rw (trimmed_append n p q, suc-sub-suc)

pub trimmed_min : (n : ℕ) (l : Bits) → trimmed (min (length l) n) l ≡ trimmed n l
unfolding trimmed
trimmed_min n [] = refl
trimmed_min zero (b ∷ l) = rw min-zero
trimmed_min (suc n) (b ∷ l) = rw (suc-min-suc, trimmed_min n l)

pub trimmed_take : (n : ℕ) (p q : Bits) → length p ≡ length q → take n p ≡ take n q → trimmed n p ≡ trimmed n q
trimmed_take n p q e h = trimmed_split n p ∙ ap₂ (λ (l : Bits) (m : ℕ). l ++ replicate (m - n) false) h e ∙ sym (trimmed_split n q)

pub trimmed_longer : (m n : ℕ) (l : Bits) → n ≤ m → trimmed m (trimmed n l) ≡ trimmed n l
unfolding trimmed
trimmed_longer m n [] h = refl
trimmed_longer zero zero (b ∷ l) h = ap (λ (r : Bits). false ∷ r) (trimmed_longer zero zero l (omega arith))
trimmed_longer (suc m) zero (b ∷ l) h = ap (λ (r : Bits). false ∷ r) (trimmed_longer m zero l (omega arith))
trimmed_longer zero (suc n) (b ∷ l) h = absurd (omega arith)
trimmed_longer (suc m) (suc n) (b ∷ l) h = ap (λ (r : Bits). b ∷ r) (trimmed_longer m n l (omega arith))

pub trimmed_all : (n : ℕ) (l : Bits) → length l ≤ n → trimmed n l ≡ l
unfolding trimmed
trimmed_all n [] h = refl
trimmed_all zero (b ∷ l) h = absurd (omega arith)
trimmed_all (suc n) (b ∷ l) h = ap (λ (r : Bits). b ∷ r) (trimmed_all n l (omega arith))

pub trimmed_none : (l : Bits) → trimmed 0 l ≡ replicate (length l) false
unfolding trimmed
trimmed_none [] = refl
trimmed_none (b ∷ l) = ap (λ (r : Bits). false ∷ r) (trimmed_none l)

pub take_of_trimmed : (m n : ℕ) (l : Bits) → take m (trimmed n l) ≡ trimmed n (take m l)
unfolding trimmed
take_of_trimmed zero n l = refl
take_of_trimmed (suc m) n [] = refl
take_of_trimmed (suc m) zero (b ∷ l) = ap (λ (r : Bits). false ∷ r) (take_of_trimmed m zero l)
take_of_trimmed (suc m) (suc n) (b ∷ l) = ap (λ (r : Bits). b ∷ r) (take_of_trimmed m n l)
