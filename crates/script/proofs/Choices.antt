-- What a choice by a test tells of the test. Assumes nothing.
use mathlib.Core.Path.{◌≡◌, refl}
use mathlib.Core.Bool.{Bool, true, false, cond}
use Rattle.std.specs.Prelude.{Some, None}

pub picked : {A : Type 0} (t : Bool) (x : A) {y : A} → cond t (Some x) None ≡ Some y → (t ≡ true) × (y ≡ x)
picked true x h = (refl, cc)
picked false x h = absurd cc

pub not_picked : {A : Type 0} (t : Bool) (x : A) → cond t (Some x) None ≡ None → t ≡ false
not_picked true x h = absurd cc
not_picked false x h = refl
