-- Tests taken apart. Assumes nothing.
use Prim.Native.Nat.{ℕ}
use native.Mathlib.Omega.{arith}
use mathlib.Core.Path.{◌≡◌, refl}
use mathlib.Core.Bool.{Bool, true, false, ◌&&◌}

-- by whether a test holds
pub by_cases : {P : Type 0} (t : Bool) → (t ≡ true → P) → (t ≡ false → P) → P
by_cases true yes' no' = yes' refl
by_cases false yes' no' = no' refl

pub both_true : (t u : Bool) → (t && u) ≡ true → (t ≡ true) × (u ≡ true)
both_true true u h = (refl, h)
both_true false u h = (h, let z : ◌≡◌ {A = ℕ} 0 1 = cc in absurd (omega arith))
