-- One law for each answer of the search for a line feed, and for the turn that goes on from i. Assumes nothing.
use Prim.Native.Nat.{ℕ, ◌+◌, ◌-◌, ◌≤◌, ◌<◌}
use native.Mathlib.Omega.{arith}
use native.Mathlib.Nat.{add-zero}
use mathlib.Core.Path.{◌≡◌, refl, sym, ◌∙◌}
use mathlib.Core.Bool.{true, cond}
use mathlib.Core.List.{List, [], ◌∷◌}
use lib.ListN.{length, drop, length-drop}
use lib.Dec.{ltb, eqb}
use borrow.Author.Tests.{lt-ltb, le-ltb, ltb-true, ltb-false}
use Rattle.script.specs.Blocks.{before, feed, line_from, line_end}
use Rattle.script.specs.Reading.{feed_at}
use Rattle.script.proofs.LineEnds.{line_at_end}
use Rattle.std.specs.Prelude.{Some, None, position, ◌==◌}
use Rattle.std.specs.List.{position_or_len}
use Rattle.answers.proofs.Booleans.{by_cases}
use Rattle.script.proofs.Choices.{picked, not_picked}

-- the place of the first mark is how many bytes stand before it
first_is_before : (m : ℕ) (t : List ℕ) → position_or_len (λ b. b == m) t ≡ length (before m t)
unfolding before
first_is_before m [] = refl
first_is_before m (b ∷ t) = by_cases (eqb b m) (λ e. rw e) (λ e. rw (e, first_is_before m t) (omega arith))

first_feed : (t : List ℕ) → position (λ b. b == feed) t ≡ cond (ltb (length (before feed t)) (length t)) (Some (length (before feed t))) None
first_feed t = rw (← first_is_before feed t)

module _ (l : List ℕ) (from : ℕ) where
  pub feed_behind : length l ≤ from → None ≡ feed_at l from
  unfolding feed_at line_end
  feed_behind h = rw (line_at_end l from h, add-zero, le-ltb _ _ h)

  pub feed_ahead : {i : ℕ} → from ≤ length l → Some i ≡ position (λ b. b == feed) (drop from l) → Some (from + i) ≡ feed_at l from
  unfolding feed_at line_end line_from
  feed_ahead {i} h is =
      let (t, place) = picked (ltb (length (before feed (drop from l))) (length (drop from l))) (length (before feed (drop from l))) (sym (is ∙ first_feed (drop from l))) in
      let inside : i < length l - from = rw (← length-drop from l) (omega (arith, ltb-true _ _ t, place)) in
      rw (← place, lt-ltb (from + i) (length l) (omega arith))

  pub no_feed_ahead : from ≤ length l → None ≡ position (λ b. b == feed) (drop from l) → None ≡ feed_at l from
  unfolding feed_at line_end line_from
  no_feed_ahead h is =
      let t = not_picked (ltb (length (before feed (drop from l))) (length (drop from l))) (length (before feed (drop from l))) (sym (is ∙ first_feed (drop from l))) in
      let behind : length l - from ≤ length (before feed (drop from l)) = rw (← length-drop from l) (ltb-false _ _ t) in
      rw (le-ltb (from + length (before feed (drop from l))) (length l) (omega arith))

  -- ---- what an answer tells

  pub no_feed_inside : None ≡ feed_at l from → length l ≤ line_end l from
  unfolding feed_at
  no_feed_inside h = ltb-false _ _ (not_picked (ltb (line_end l from) (length l)) (line_end l from) (sym h))

  module _ (i : ℕ) (told : Some i ≡ feed_at l from) where
    place : (ltb (line_end l from) (length l) ≡ true) × (i ≡ line_end l from)
    unfolding feed_at
    place = picked (ltb (line_end l from) (length l)) (line_end l from) (sym told)

    pub feed_place : i ≡ line_end l from
    feed_place = place.1

    pub feed_inside : i < length l
    feed_inside = omega (arith, ltb-true (line_end l from) (length l) place.0, place.1)
