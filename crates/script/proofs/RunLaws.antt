-- The digits that a list starts with, and what follows them: the first part of the list is those digits, or it is no number. Assumes nothing.
use Prim.Native.Nat.{ℕ, suc, ◌≤◌, ◌<◌}
use native.Mathlib.Omega.{arith}
use mathlib.Core.Path.{◌≡◌, refl, sym}
use mathlib.Core.Bool.{true, false, true≢false}
use mathlib.Core.List.{List, [], ◌∷◌}
use lib.ListN.{length, drop}
use lib.Dec.{eqb}
use Rattle.std.specs.Prelude.{Some, None}
use Rattle.script.specs.Lines.{digit, digits, number, onto, parts, both, numbers}
use Rattle.script.specs.Blocks.{before}
use Rattle.script.specs.Reading.{run, over, marked, closed}
use Rattle.script.proofs.Splitting.{no_mark, parts_first}
use Rattle.answers.proofs.Booleans.{by_cases}

pub digits_run : (t : List ℕ) → digits (run t) ≡ true
unfolding run digits
digits_run [] = refl
digits_run (b ∷ t) = by_cases (digit b) (λ e. rw e (rw (e, digits_run t))) (λ e. rw e)

-- what follows the digits
unfoldable pub behind : List ℕ → List ℕ
behind t = drop (length (run t)) t

module _ (m : ℕ) (small : m < 48) where
  pub run_before : (t : List ℕ) → run (before m t) ≡ run t
  unfolding run before
  run_before [] = refl
  run_before (b ∷ t) =
      by_cases (digit b)
      (λ d. rw (no_mark b m d small, d, run_before t))
      (λ d. by_cases (eqb b m) (λ e. rw (e, d)) (λ e. rw (e, d)))

  pub run_within : (t : List ℕ) → length (run t) ≤ length (before m t)
  unfolding run before
  run_within [] = omega arith
  run_within (b ∷ t) = by_cases (digit b) (λ d. rw (no_mark b m d small, d) (omega (arith, run_within t))) (λ d. rw d (omega arith))

  -- a mark or the end follows
  pub first_is_run : (t : List ℕ) → closed m (behind t) ≡ true → before m t ≡ run t
  unfolding run before behind closed
  first_is_run [] h = refl
  first_is_run (b ∷ t) h =
      by_cases (digit b)
      (λ d. let k : closed m (behind t) ≡ true = rw d at h in rw (no_mark b m d small, d, first_is_run t k))
      (λ d. let k : eqb b m ≡ true = rw d at h in rw (k, d))

  -- anything else
  first_not_digits : (t : List ℕ) → closed m (behind t) ≡ false → digits (before m t) ≡ false
  unfolding run before behind closed digits
  first_not_digits [] h = absurd (true≢false h)
  first_not_digits (b ∷ t) h =
      by_cases (digit b)
      (λ d. let k : closed m (behind t) ≡ false = rw d at h in rw (no_mark b m d small, d, first_not_digits t k))
      (λ d. let k : eqb b m ≡ false = rw d at h in rw (k, d))

  -- ---- the parts, by what follows

  pub parts_over : (t : List ℕ) → over (behind t) ≡ true → parts m t ≡ run t ∷ []
  unfolding run behind over parts onto
  parts_over [] h = refl
  parts_over (b ∷ t) h =
      by_cases (digit b)
      (λ d. let k : over (behind t) ≡ true = rw d at h in rw (no_mark b m d small, d, parts_over t k))
      (λ d. let k : false ≡ true = rw d at h in absurd (true≢false (sym k)))

  pub parts_marked : (t : List ℕ) → marked m (behind t) ≡ true → parts m t ≡ run t ∷ parts m (drop (suc (length (run t))) t)
  unfolding run behind marked parts onto
  parts_marked [] h = absurd (true≢false (sym h))
  parts_marked (b ∷ t) h =
      by_cases (digit b)
      (λ d. let k : marked m (behind t) ≡ true = rw d at h in rw (no_mark b m d small, d, parts_marked t k))
      (λ d. let k : eqb b m ≡ true = rw d at h in rw (k, d))

  number_not_digits : (most : ℕ) (x : List ℕ) → digits x ≡ false → number most x ≡ None
  unfolding number
  number_not_digits most [] h = refl
  number_not_digits most (b ∷ x) h = rw h

  numbers_first : (most : ℕ) (t : List ℕ) → number most (before m t) ≡ None → numbers most (parts m t) ≡ None
  unfolding numbers both
  numbers_first most t h = let (ps, is) = parts_first m t in rw (is, h)

  pub numbers_other : (most : ℕ) (t : List ℕ) → closed m (behind t) ≡ false → numbers most (parts m t) ≡ None
  numbers_other most t h = numbers_first most t (number_not_digits most (before m t) (first_not_digits t h))

  -- no digit, or a value too large
  pub numbers_none : (most : ℕ) (t : List ℕ) → number most (run t) ≡ None → numbers most (parts m t) ≡ None
  numbers_none most t h =
      by_cases (closed m (behind t))
      (λ c. numbers_first most t (rw (first_is_run t c) h))
      (λ c. numbers_other most t c)

  pub numbers_over : (most : ℕ) (t : List ℕ) → over (behind t) ≡ true → numbers most (parts m t) ≡ both (number most (run t)) (Some [])
  unfolding numbers
  numbers_over most t h = rw (parts_over t h)

  pub numbers_marked : (most : ℕ) (t : List ℕ) → marked m (behind t) ≡ true
      → numbers most (parts m t) ≡ both (number most (run t)) (numbers most (parts m (drop (suc (length (run t))) t)))
  unfolding numbers
  numbers_marked most t h = rw (parts_marked t h)

-- a list is over, or its mark follows, or neither
pub closed_of : (m : ℕ) (t : List ℕ) → over t ≡ false → marked m t ≡ false → closed m t ≡ false
unfolding over marked closed
closed_of m [] h k = absurd (true≢false h)
closed_of m (b ∷ t) h k = k

pub closed_over : (m : ℕ) (t : List ℕ) → over t ≡ true → closed m t ≡ true
unfolding over closed
closed_over m [] h = refl
closed_over m (b ∷ t) h = absurd (true≢false (sym h))

pub closed_marked : (m : ℕ) (t : List ℕ) → marked m t ≡ true → closed m t ≡ true
unfolding marked closed
closed_marked m [] h = absurd (true≢false (sym h))
closed_marked m (b ∷ t) h = h
