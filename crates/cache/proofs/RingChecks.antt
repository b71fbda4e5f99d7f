-- The walk along the ring of use, step by step, and why each of its answers is right. Assumes nothing.
use mathlib.Core.Path.{◌≡◌, refl, sym, ap, ◌∙◌}
use mathlib.Core.Bool.{false}
use mathlib.Core.List.{List}
use mathlib.Core.Logic.{◌⊎◌, inl, inr}
use Prim.Native.Nat.{ℕ, suc, ◌+◌, ◌≤◌, ◌<◌}
use native.Mathlib.Numerals.{add-one}
use native.Mathlib.Omega.{arith}
use lib.Dec.{eqb}
use borrow.Author.Tests.{eqb-true, eqb-false}
use Rattle.lru_cache.specs.Slots.{Cache}
use Rattle.lru_cache.specs.Sound.{along, Ring}
use Rattle.lru_cache.specs.Checks.{Walked}
use Rattle.lru_cache.proofs.Checking.{walked_start, walked_step, walked_ring}
use Rattle.sizes.specs.BothStores.{slot_word, word}
use Rattle.slots.specs.Layout.{cache_of}
use Rattle.slots.proofs.ReadLaws.{read_prev, read_next}
use Rattle.cache.specs.Checks.{Decides}
use Rattle.cache.proofs.NodeChecks.{refuse}

-- after k steps the walk is at a slot in use, and not back at slot 0
pub record Round (n : ℕ) (c : Cache) (k at : ℕ) : Type 0 where
  pub walked : Walked n k c
  pub is_at : at ≡ along c 0 k
  pub in_use : at ≤ n
  pub first : (k ≡ 0) ⊎ (¬ (at ≡ 0))

pub round_start : (n : ℕ) (w : List ℕ) → Round n (cache_of w) 0 0
unfolding along
round_start n w = record { walked = walked_start; is_at = refl; in_use = omega arith; first = inl refl }

module _ (n : ℕ) (w : List ℕ) (k at : ℕ) (R : Round n (cache_of w) k at) (low : k ≤ n) (next : ℕ) (is : next ≡ word w (slot_word at 3)) where
  next_is : next ≡ (cache_of w).next at
  next_is = is ∙ read_next w at

  next_along : next ≡ along (cache_of w) 0 (suc k)
  unfolding along
  next_along = next_is ∙ ap (cache_of w).next R.is_at

  pub round_out : n < next → Decides (Ring n (cache_of w)) false
  round_out l = refuse (λ g. omega (arith, next_along, g.within k low))

  module _ (in_use : next ≤ n) (back : ℕ) (is-back : back ≡ word w (slot_word next 2)) where
    back_is : back ≡ (cache_of w).prev next
    back_is = is-back ∙ read_prev w next

    pub round_torn : ¬ (back ≡ at) → Decides (Ring n (cache_of w)) false
    round_torn d = refuse (λ g. d (back_is ∙ ap (cache_of w).prev next_along ∙ g.undone k low ∙ sym R.is_at))

    module _ (undone : back ≡ at) where
      walked : Walked n (suc k) (cache_of w)
      walked = walked_step k at R.walked R.is_at R.first (rw (← next_is) in_use) (rw (← next_is) (sym back_is ∙ undone))

      pub round_closed : next ≡ 0 → Decides (Ring n (cache_of w)) (eqb k n)
      round_closed z = record {
        yes = λ e. let s : k ≡ n = eqb-true k n e in walked_ring (rw s at walked) (rw (← s) (sym next_along ∙ z));
        no = λ e g. let s : ¬ (k ≡ n) = eqb-false k n e in g.others (suc k) (omega arith) (sym next_along ∙ z);
      }

      pub round_on : ¬ (next ≡ 0) → Round n (cache_of w) (k + 1) next
      round_on z = rw add-one (record { walked = walked; is_at = next_along; in_use = in_use; first = inr z })

      -- all slots but slot 0 are behind it
      pub round_open : ¬ (next ≡ 0) → n ≤ k → Decides (Ring n (cache_of w)) false
      round_open z l = refuse (λ g. let e : k ≡ n = omega arith in z (next_along ∙ ap (λ j. along (cache_of w) 0 (suc j)) e ∙ g.back))
