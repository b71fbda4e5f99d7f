-- One law for each answer of the reader's loop over digits, and for the turn that goes on: v after the digits from at to i. Assumes nothing.
use Prim.Native.Nat.{ℕ, suc, ◌+◌, ◌-◌, ◌*◌, ◌≤◌, ◌<◌}
use native.Mathlib.Nat.{le_trans}
use native.Mathlib.Numerals.{add-one}
use native.Mathlib.Omega.{arith}
use mathlib.Core.Path.{◌≡◌, refl, sym, ap, ◌∙◌}
use mathlib.Core.Bool.{Bool, true, false, cond, ◌&&◌, and-false}
use mathlib.Core.List.{List, [], ◌∷◌}
use lib.ListN.{length, drop, get_or, drop_of_length-le, length-drop}
use Rattle.std.proofs.Common.{get_or-drop}
use lib.Seq.{drop-cons}
use lib.Dec.{leb}
use borrow.Author.Tests.{le-leb, lt-leb, leb-true}
use Rattle.script.specs.Lines.{digit, digits, value_from, number}
use Rattle.script.specs.Reading.{run, ended, number_at}
use Rattle.script.proofs.RunLaws.{digits_run}
use Rattle.script.proofs.LineEnds.{rest_is}
use Rattle.std.specs.Prelude.{Option, Some, None, slice_range}
use Rattle.std.specs.Char.{is_ascii_digit}
use Rattle.script.specs.declared.Found.{Found}
use Rattle.answers.proofs.Booleans.{both_true}

-- ---- numbers of digits

pub number_of_digits : (most : ℕ) (x : List ℕ) → 0 < length x → digits x ≡ true → value_from 0 x ≤ most → number most x ≡ Some (value_from 0 x)
unfolding number
number_of_digits most [] k h m = absurd (omega arith)
number_of_digits most (b ∷ x) k h m = rw (h, le-leb _ _ m)

number_too_large : (most : ℕ) (x : List ℕ) → most < value_from 0 x → number most x ≡ None
unfolding number
number_too_large most [] h = refl
number_too_large most (b ∷ x) h = rw (lt-leb _ _ h, and-false)

number_of_none : (most : ℕ) (x : List ℕ) → length x ≡ 0 → number most x ≡ None
unfolding number
number_of_none most [] h = refl
number_of_none most (b ∷ x) h = absurd (omega arith)

picked : (t : Bool) (w : ℕ) {v : ℕ} → cond t (Some w) None ≡ Some v → (t ≡ true) × (w ≡ v)
picked true w h = (refl, cc)
picked false w h = let z : ◌≡◌ {A = ℕ} 0 1 = cc in absurd (omega arith)

pub number_small : (most : ℕ) (x : List ℕ) {v : ℕ} → number most x ≡ Some v → v ≤ most
unfolding number
number_small most [] h = let z : ◌≡◌ {A = ℕ} 0 1 = cc in absurd (omega arith)
number_small most (b ∷ x) h =
    let (t, same) = picked (digits (b ∷ x) && leb (value_from 0 (b ∷ x)) most) (value_from 0 (b ∷ x)) h in
    let small : value_from 0 (b ∷ x) ≤ most = leb-true _ _ (both_true (digits (b ∷ x)) (leb (value_from 0 (b ∷ x)) most) t).1 in
    omega arith

-- a value only grows
grows : (l : List ℕ) (v : ℕ) → v ≤ value_from v l
unfolding value_from
grows [] v = omega arith
grows (b ∷ l) v = le_trans (omega arith) (grows l (v * 10 + (b - 48)))

pub ended_some : (o : Option ℕ) (end : ℕ) (f : Found) → Some f ≡ ended o end → (o ≡ Some f.value) × (f.end ≡ end)
unfolding ended
ended_some None end f h = absurd cc
ended_some (Some w) end f h =
    let same : f ≡ record { value = w; end = end } = cc in
    rw same (refl, refl)

pub ended_none : (o : Option ℕ) (end : ℕ) → None ≡ ended o end → o ≡ None
unfolding ended
ended_none None end h = refl
ended_none (Some w) end h = absurd cc

-- ---- the loop

-- the digits from i on go on with the value v as those from at on do from the start
pub record Counted (l : List ℕ) (at v i : ℕ) : Type 0 where
  pub value : value_from v (run (drop i l)) ≡ value_from 0 (run (drop at l))
  pub end : i + length (run (drop i l)) ≡ at + length (run (drop at l))

pub counted_start : (l : List ℕ) (at : ℕ) → Counted l at 0 at
counted_start l at = record { value = refl; end = refl }

module _ (l : List ℕ) (i : ℕ) where
  pub run_at_end : length l ≤ i → run (drop i l) ≡ []
  unfolding run
  run_at_end h = rw (drop_of_length-le l h)

  module _ (inside : i < length l) where
    run_other : is_ascii_digit (get_or l i 0) ≡ false → run (drop i l) ≡ []
    unfolding run digit
    run_other h = rw (drop-cons l i 0 inside, h)

    run_goes_on : is_ascii_digit (get_or l i 0) ≡ true → run (drop i l) ≡ get_or l i 0 ∷ run (drop (i + 1) l)
    unfolding run digit
    run_goes_on h = rw (drop-cons l i 0 inside, h, add-one)

pub number_behind : (most : ℕ) (l : List ℕ) (at : ℕ) → length l < at → None ≡ number_at most l at
unfolding number_at ended number
number_behind most l at h = rw (run_at_end l at (omega arith))

-- t is the rest of the block, and k how many of its bytes were digits
module _ (l : List ℕ) (at i : ℕ) (t : List ℕ) (rest : t ≡ slice_range l at (length l)) (within : at ≤ length l) (k : ℕ) (so_far : i ≡ at + k) where
  its_length : length t ≡ length l - at
  its_length = rw (rest_is l t at rest) (length-drop at l)

  pub over_at_end : length t ≤ k → run (drop i l) ≡ []
  over_at_end h = run_at_end l i (omega (arith, its_length))

  module _ (more : k < length t) where
    inside : i < length l
    inside = omega (arith, its_length)

    its_byte : get_or t k 0 ≡ get_or l i 0
    its_byte = rw (so_far, rest_is l t at rest) (get_or-drop at l k 0)

    pub over_at_other : is_ascii_digit (get_or t k 0) ≡ false → run (drop i l) ≡ []
    over_at_other h = run_other l i inside (ap is_ascii_digit (sym its_byte) ∙ h)

    digit_there : is_ascii_digit (get_or t k 0) ≡ true → run (drop i l) ≡ get_or t k 0 ∷ run (drop (i + 1) l)
    digit_there h = rw its_byte (run_goes_on l i inside (ap is_ascii_digit (sym its_byte) ∙ h))

module _ (most v : ℕ) (l : List ℕ) (at i : ℕ) (K : Counted l at v i) where
  pub number_read : run (drop i l) ≡ [] → v ≤ most → at < i → Some (record { value = v; end = i }) ≡ number_at most l at
  unfolding number_at ended
  number_read e small k =
      let value : v ≡ value_from 0 (run (drop at l)) = unfold value_from in rw e at K.value in
      let end : i + 0 ≡ at + length (run (drop at l)) = rw e at K.end in
      let is : number most (run (drop at l)) ≡ Some v = number_of_digits most (run (drop at l)) (omega arith) (digits_run (drop at l)) (omega arith) ∙ rw (← value) in
      let place : i ≡ at + length (run (drop at l)) = omega arith in
      rw (is, ← place)

  pub nothing_read : run (drop i l) ≡ [] → i ≤ at → None ≡ number_at most l at
  unfolding number_at ended
  nothing_read e k =
      let end : i + 0 ≡ at + length (run (drop at l)) = rw e at K.end in
      rw (number_of_none most (run (drop at l)) (omega arith))

  module _ (t : List ℕ) (rest : t ≡ slice_range l at (length l)) (within : at ≤ length l) (k : ℕ) (so_far : i ≡ at + k) (more : k < length t) (is_digit : is_ascii_digit (get_or t k 0) ≡ true) where
    goes_on : run (drop i l) ≡ get_or t k 0 ∷ run (drop (i + 1) l)
    goes_on = digit_there l at i t rest within k so_far more is_digit

    pub one_more_digit : Counted l at (v * 10 + (get_or t k 0 - 48)) (i + 1)
    one_more_digit = record {
      value = unfold value_from in rw goes_on at K.value;
      end = let e : i + suc (length (run (drop (i + 1) l))) ≡ at + length (run (drop at l)) = rw goes_on at K.end in omega arith;
    }

    pub number_too_large_from : most < v * 10 + (get_or t k 0 - 48) → None ≡ number_at most l at
    unfolding number_at ended
    number_too_large_from h =
        let bound = grows (run (drop (i + 1) l)) (v * 10 + (get_or t k 0 - 48)) in
        let same = one_more_digit.value in
        rw (number_too_large most (run (drop at l)) (omega arith))
