-- The line from a place of a block on: its first byte, and the line from a later place. Assumes nothing.
use Prim.Native.Nat.{ℕ, zero, suc, ◌+◌, ◌-◌, ◌≤◌, ◌<◌}
use native.Mathlib.Numerals.{add-one}
use native.Mathlib.Omega.{arith}
use mathlib.Core.Path.{◌≡◌, refl, sym, ◌∙◌}
use mathlib.Core.Bool.{true, false}
use mathlib.Core.List.{List, [], ◌∷◌}
use lib.ListN.{length, drop, get_or, drop_of_length-le, length-drop}
use lib.Seq.{drop-cons, drop-drop, take-length}
use lib.Dec.{eqb}
use Rattle.std.specs.Prelude.{Some, None, slice_range}
use borrow.Author.Tests.{eq-eqb, ne_eqb, eqb-true, eqb-false}
use Rattle.script.specs.Blocks.{before, feed, line_from, line_end}
use Rattle.script.specs.Reading.{over, marked, past}
use Rattle.script.proofs.Choices.{picked, not_picked}
use Rattle.answers.proofs.Booleans.{by_cases}

-- what a slice holds from a place on
pub rest_is : (l t : List ℕ) (at : ℕ) → t ≡ slice_range l at (length l) → t ≡ drop at l
rest_is l t at is = is ∙ rw (← length-drop at l) (take-length (drop at l))

-- what stands before a mark, from a later place on
pub drop_before : (m n : ℕ) (t : List ℕ) → n ≤ length (before m t) → drop n (before m t) ≡ before m (drop n t)
unfolding before
drop_before m zero t h = refl
drop_before m (suc n) [] h = absurd (omega arith)
drop_before m (suc n) (b ∷ t) h =
    by_cases (eqb b m)
    (λ e. let k : suc n ≤ 0 = rw e at h in absurd (omega arith))
    (λ e. let k : suc n ≤ suc (length (before m t)) = rw e at h in rw e (drop_before m n t (omega arith)))

module _ (l : List ℕ) (at : ℕ) where
  pub line_at_end : length l ≤ at → line_from l at ≡ []
  unfolding line_from before
  line_at_end h = rw (drop_of_length-le l h)

  module _ (inside : at < length l) where
    pub line_at_feed : get_or l at 0 ≡ feed → line_from l at ≡ []
    unfolding line_from before
    line_at_feed h = rw (drop-cons l at 0 inside, eq-eqb _ _ h)

    pub line_goes_on : (get_or l at 0 ≡ feed → ⊥) → line_from l at ≡ get_or l at 0 ∷ line_from l (at + 1)
    unfolding line_from before
    line_goes_on h = rw (drop-cons l at 0 inside, ne_eqb _ _ h, add-one)

  module _ (n : ℕ) (within : n ≤ length (line_from l at)) where
    pub line_later : line_from l (at + n) ≡ drop n (line_from l at)
    unfolding line_from
    line_later = rw (← drop-drop n at l) (sym (drop_before feed n (drop at l) within))

    pub end_later : line_end l (at + n) ≡ line_end l at
    unfolding line_end
    end_later =
        let e : length (line_from l (at + n)) ≡ length (line_from l at) - n = rw (line_later, length-drop) in
        omega arith

  -- ---- the answers of `is_over`

  pub over_at_end : length l ≤ at → true ≡ over (line_from l at)
  unfolding over
  over_at_end h = rw (line_at_end h)

  pub over_at : at < length l → eqb (get_or l at 0) feed ≡ over (line_from l at)
  unfolding over
  over_at inside =
      by_cases (eqb (get_or l at 0) feed)
      (λ e. e ∙ sym (rw (line_at_feed inside (eqb_is e))))
      (λ e. e ∙ sym (rw (line_goes_on inside (eqb_is_not e))))
    where
      eqb_is : eqb (get_or l at 0) feed ≡ true → get_or l at 0 ≡ feed
      eqb_is e = eqb-true _ _ e

      eqb_is_not : eqb (get_or l at 0) feed ≡ false → get_or l at 0 ≡ feed → ⊥
      eqb_is_not e = eqb-false _ _ e

-- ---- the answers of `past`, and what they tell

module _ (mark : ℕ) (l : List ℕ) (at : ℕ) where
  pub past_end : length l ≤ at → None ≡ past mark l at
  unfolding past marked
  past_end h = rw (drop_of_length-le l h)

  module _ (inside : at < length l) where
    pub past_mark : get_or l at 0 ≡ mark → Some (at + 1) ≡ past mark l at
    unfolding past marked
    past_mark h = rw (drop-cons l at 0 inside, eq-eqb _ _ h)

    pub past_other : (get_or l at 0 ≡ mark → ⊥) → None ≡ past mark l at
    unfolding past marked
    past_other h = rw (drop-cons l at 0 inside, ne_eqb _ _ h)

  pub mark_there : {i : ℕ} → Some i ≡ past mark l at → (marked mark (drop at l) ≡ true) × (i ≡ at + 1)
  unfolding past
  mark_there h = picked (marked mark (drop at l)) (at + 1) (sym h)

  pub no_mark_there : None ≡ past mark l at → marked mark (drop at l) ≡ false
  unfolding past
  no_mark_there h = not_picked (marked mark (drop at l)) (at + 1) (sym h)
