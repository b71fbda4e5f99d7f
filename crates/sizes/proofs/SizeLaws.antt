-- One law for each answer of the size calculation and of set-up. Assumes nothing.
use mathlib.Core.Path.{◌≡◌, refl}
use mathlib.Core.Bool.{Bool, true, false, cond, ◌||◌}
use Prim.Native.Nat.{ℕ, ◌-◌, ◌/◌, ◌≤◌, ◌<◌}
use native.Mathlib.Omega.{arith}
use lib.Dec.{eqb, ltb}
use borrow.Author.Tests.{lt-ltb, le-ltb, eq-eqb, ne_eqb, eqb-false, ltb-false}
use Rattle.sizes.specs.Sizes.{LegalLimit, setup_for, entries_for}
use Rattle.std.specs.Prelude.{Ok, Err, OnOk}
use Rattle.sizes.specs.declared.SetupError.{SetupError}
use Rattle.sizes.specs.declared.SizeError.TheVariants.{TooSmall, TooLarge}
use Rattle.sizes.specs.declared.SetupError.TheVariants.{ShortStore, BadLimit}

pub too_small : (B : ℕ) → B < 4128 → Err TooSmall ≡ entries_for B
too_small B h = rw (lt-ltb B 4128 h)

pub too_large : (B : ℕ) → 4128 ≤ B → 33558559 < B → Err TooLarge ≡ entries_for B
too_large B l h = rw (le-ltb B 4128 l, lt-ltb 33558559 B h)

pub right_size : (B : ℕ) → 4128 ≤ B → B ≤ 33558559 → Ok ((B - 4096) / 32) ≡ entries_for B
right_size B l h = rw (le-ltb B 4128 l, le-ltb 33558559 B h)

positive : (n : ℕ) → (n ≡ 0 → ⊥) → 1 ≤ n
positive n h = omega arith

module _ (need : ℕ → ℕ) (words limit : ℕ) where
  pub no_limit : limit ≡ 0 → Err BadLimit ≡ setup_for need words limit
  no_limit e = rw (eq-eqb limit 0 e)

  pub large_limit : (limit ≡ 0 → ⊥) → 1048576 < limit → Err BadLimit ≡ setup_for need words limit
  large_limit n h = rw (ne_eqb limit 0 n, lt-ltb 1048576 limit h)

  pub short_store : (limit ≡ 0 → ⊥) → limit ≤ 1048576 → words < need limit → Err ShortStore ≡ setup_for need words limit
  short_store n l h = rw (ne_eqb limit 0 n, le-ltb 1048576 limit l, lt-ltb words (need limit) h)

  pub enough_store : (limit ≡ 0 → ⊥) → limit ≤ 1048576 → need limit ≤ words → Ok tt ≡ setup_for need words limit
  enough_store n l h = rw (ne_eqb limit 0 n, le-ltb 1048576 limit l, le-ltb words (need limit) h)

  -- what an accepted set-up says of the limit and the store
  pub setup_done : OnOk (setup_for need words limit) (LegalLimit limit × (need limit ≤ words))
  setup_done = go (eqb limit 0) refl (ltb 1048576 limit) refl (ltb words (need limit)) refl
    where
      go : (a : Bool) → eqb limit 0 ≡ a → (b : Bool) → ltb 1048576 limit ≡ b → (s : Bool) → ltb words (need limit) ≡ s
          → OnOk {E = SetupError} (cond (a || b) (Err BadLimit) (cond s (Err ShortStore) (Ok (tt {0})))) (LegalLimit limit × (need limit ≤ words))
      go true ea b eb s es = tt {0}
      go false ea true eb s es = tt {0}
      go false ea false eb true es = tt {0}
      go false ea false eb false es = ((positive limit (eqb-false limit 0 ea), ltb-false 1048576 limit eb), ltb-false words (need limit) es)
