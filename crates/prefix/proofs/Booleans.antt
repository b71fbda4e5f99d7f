-- Laws of tests. Assumes nothing.
use mathlib.Core.Path.{◌≡◌, refl, sym, ◌∙◌}
use mathlib.Core.Bool.{Bool, true, false, not, ◌&&◌, ◌||◌, beq, true≢false, false≢true}
use mathlib.Core.Logic.{◌⊎◌, inl, inr}

pub or_false : (a b : Bool) → (a || b) ≡ false → (a ≡ false) × (b ≡ false)
or_false true b e = absurd (true≢false e)
or_false false b e = (refl, e)

pub or_true : (a b : Bool) → (a || b) ≡ true → (a ≡ true) ⊎ (b ≡ true)
or_true true b e = inl refl
or_true false b e = inr e

pub or_right : (a b : Bool) → b ≡ true → (a || b) ≡ true
or_right true b e = refl
or_right false b e = e

pub and_true : (a b : Bool) → (a && b) ≡ true → (a ≡ true) × (b ≡ true)
and_true true b e = (refl, e)
and_true false b e = absurd (false≢true e)

pub not_false : (b : Bool) → not b ≡ true → b ≡ false
not_false true e = absurd (false≢true e)
not_false false e = refl

pub either : (b : Bool) → (b ≡ true) ⊎ (b ≡ false)
either true = inl refl
either false = inr refl

-- a test is false if it cannot be true
pub is_false : {b : Bool} → (b ≡ true → ⊥) → b ≡ false
is_false {b = true} n = absurd (n refl)
is_false {b = false} n = refl

pub is_true : {b : Bool} → (b ≡ false → ⊥) → b ≡ true
is_true {b = true} n = refl
is_true {b = false} n = absurd (n refl)

pub clash : {b : Bool} → b ≡ true → b ≡ false → ⊥
clash e f = true≢false (sym e ∙ f)

-- ---- two bits

pub beq_eq : (a b : Bool) → beq a b ≡ true → a ≡ b
beq_eq true true e = refl
beq_eq false false e = refl
beq_eq true false e = sym e
beq_eq false true e = e

pub beq_refl : (b : Bool) → beq b b ≡ true
beq_refl true = refl
beq_refl false = refl

pub beq_sym : (a b : Bool) → beq a b ≡ beq b a
beq_sym true true = refl
beq_sym true false = refl
beq_sym false true = refl
beq_sym false false = refl

pub not_ne : (b : Bool) → ¬ (not b ≡ b)
not_ne true e = false≢true e
not_ne false e = true≢false e

pub bool_other : (b d : Bool) → ¬ (b ≡ d) → b ≡ not d
bool_other true true n = absurd (n refl)
bool_other true false n = refl
bool_other false true n = refl
bool_other false false n = absurd (n refl)
