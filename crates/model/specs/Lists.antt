-- The functions on lists that the definitions use, and the two relations that the statements use. Assumes nothing.
use Rattle.std.specs.Prelude.{ℕ, max, Bool, false, cond, ◌||◌, ltb}
use mathlib.Core.List.{List, [], ◌∷◌, Memᴰ}
use Rattle.std.proofs.Math.Option.{Option, none, some}

module _ {A : Type 0} where
  -- those that pass the test, in their order
  unfoldable pub keep : (A → Bool) → List A → List A
  keep test [] = []
  keep test (x ∷ l) = cond (test x) (x ∷ keep test l) (keep test l)

  -- whether any passes
  unfoldable pub any : (A → Bool) → List A → Bool
  any test [] = false
  any test (x ∷ l) = test x || any test l

  -- the first that passes
  unfoldable pub first : (A → Bool) → List A → Option A
  first test [] = none
  first test (x ∷ l) = cond (test x) (some x) (first test l)

  -- all but the first that passes, in their order
  unfoldable pub omit : (A → Bool) → List A → List A
  omit test [] = []
  omit test (x ∷ l) = cond (test x) l (x ∷ omit test l)

  -- x, or what is bigger than x
  unfoldable pub bigger : (A → ℕ) → A → Option A → Option A
  bigger size x none = some x
  bigger size x (some y) = cond (ltb (size x) (size y)) (some y) (some x)

  -- the one of the greatest size
  unfoldable pub biggest : (A → ℕ) → List A → Option A
  biggest size [] = none
  biggest size (x ∷ l) = bigger size x (biggest size l)

-- the largest number, 0 of none
unfoldable pub largest : List ℕ → ℕ
largest [] = 0
largest (n ∷ l) = max n (largest l)

-- ---- for the statements

infix 40 ◌∈◌
abbrev pub ◌∈◌ : {A : Type 0} → A → List A → Type 0
x ∈ l = Memᴰ x l

-- R holds of each element and each later one
pub data Pairwise {A : Type 0} (R : A → A → Type 0) : List A → Type 0 where
  p_nil : Pairwise R []
  p_cons : {x : A} {l : List A} → ((y : A) → y ∈ l → R x y) → Pairwise R l → Pairwise R (x ∷ l)
