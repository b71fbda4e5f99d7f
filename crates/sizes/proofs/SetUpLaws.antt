-- What set-up's answer tells of the store, for either need. Assumes nothing.
use mathlib.Core.Path.{◌≡◌, sym, subst}
use mathlib.Core.List.{List}
use Prim.Native.Nat.{ℕ, ◌≤◌}
use lib.ListN.{length}
use Rattle.std.specs.Prelude.{Result, OnOk, Ok, Err}
use Rattle.sizes.specs.Sizes.{LegalLimit, setup_for}
use Rattle.sizes.specs.BothStores.{SetUp}
use Rattle.sizes.specs.declared.SetupError.{SetupError}
use Rattle.sizes.proofs.SizeLaws.{setup_done}

module _ (need : ℕ → ℕ) (words limit : ℕ) where
  pub accepted : (r : Result (Unit {0}) SetupError) → r ≡ setup_for need words limit → OnOk r (LegalLimit limit × (need limit ≤ words))
  accepted r answer = subst (λ x. OnOk x (LegalLimit limit × (need limit ≤ words))) (sym answer) (setup_done need words limit)

-- what is made of the store, said in another way
pub set_up_makes : (need : ℕ → ℕ) (Made Makes : List ℕ → List ℕ → ℕ → Type 0) (w w' : List ℕ) (limit : ℕ) (r : Result (Unit {0}) SetupError)
    → (LegalLimit limit → need limit ≤ length w → Made w w' limit → Makes w w' limit) → SetUp need Made w w' limit r → SetUp need Makes w w' limit r
set_up_makes need Made Makes w w' limit (Ok x) f s =
    record { answer = s.answer; done = let a = accepted need (length w) limit (Ok x) s.answer in f a.0 a.1 s.done; refused = s.refused }
set_up_makes need Made Makes w w' limit (Err e) f s = record { answer = s.answer; done = s.done; refused = s.refused }
