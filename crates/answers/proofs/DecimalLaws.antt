-- A number in decimal: its last digit and those before it, and how many there are. Assumes nothing.
use Prim.Native.Nat.{ℕ, zero, suc, ◌+◌, ◌*◌, ◌/◌, ◌%◌, ◌^◌, ◌≤◌, ◌<◌}
use native.Mathlib.Nat.{pow-suc}
use native.Mathlib.Omega.{arith}
use mathlib.Core.Path.{◌≡◌, sym, ◌∙◌}
use mathlib.Core.List.{[], ◌∷◌, ◌++◌}
use lib.ListN.{length, length-append}
use lib.Dec.{ltb}
use borrow.Author.Tests.{lt-ltb, le-ltb}
use Rattle.answers.specs.Answers.{decimal_in, decimal, dotted, answer_of, room}
use Rattle.std.specs.Fmt as library
use Rattle.std.proofs.lemmas.Fmt.{decimal_by_steps}
use Rattle.answers.specs.declared.Said.{Said}
use Rattle.answers.specs.declared.Said.TheVariants.{Done, Hit, Miss, Drop, Refused, Bad, Tallies}
use Rattle.answers.proofs.Booleans.{by_cases}

-- one place more changes nothing where there are enough
more_places : (k n : ℕ) → n < 10 ^ suc k → decimal_in (suc (suc k)) n ≡ decimal_in (suc k) n
unfolding decimal_in
more_places zero n h = rw (lt-ltb n 10 (omega arith))
more_places (suc k) n h =
    by_cases (ltb n 10) (λ e. rw e)
    (λ e.
    let h' : n < 10 ^ suc k * 10 = rw pow-suc at h in
    rw (e, more_places k (n / 10) (omega arith)))

pub decimal_digit : (n : ℕ) → n < 10 → decimal n ≡ (48 + n) ∷ []
unfolding decimal decimal_in
decimal_digit n h = rw (lt-ltb n 10 h)

pub decimal_more : (n : ℕ) → 10 ≤ n → n < 2 ^ 32 → decimal n ≡ decimal (n / 10) ++ ((48 + n % 10) ∷ [])
unfolding decimal
decimal_more n h k = last_digit ∙ rw (more_places 8 (n / 10) (omega arith))
  where
    last_digit : decimal_in 10 n ≡ decimal_in 9 (n / 10) ++ ((48 + n % 10) ∷ [])
    last_digit = unfold decimal_in in rw (le-ltb n 10 h)

-- std's own text of a number
pub same_decimal : (n : ℕ) → n < 2 ^ 32 → library.decimal n ≡ decimal n
same_decimal n h = decimal_by_steps (λ m digits. m < 2 ^ 32 → digits ≡ decimal m) (λ m small k. sym (decimal_digit m small)) (λ m digits large before k. rw (decimal_more m large k, before (omega arith))) n (omega arith) h

-- ---- how many digits

-- by the power of ten below it
pub digits_of_power : (k n : ℕ) → 10 ^ k ≤ n → n < 10 * 10 ^ k → n < 2 ^ 32 → length (decimal n) ≡ k + 1
digits_of_power zero n h k fits = rw (decimal_digit n (omega arith)) (omega arith)
digits_of_power (suc k) n h small fits =
    let low : 10 ^ k * 10 ≤ n = rw pow-suc at h in
    let high : n < 10 * (10 ^ k * 10) = rw pow-suc at small in
    rw (decimal_more n (omega arith) fits, length-append, digits_of_power k (n / 10) (omega arith) (omega arith) (omega arith)) (omega arith)

at_most : (places n : ℕ) → length (decimal_in places n) ≤ places
unfolding decimal_in
at_most zero n = omega arith
at_most (suc k) n =
    by_cases (ltb n 10) (λ e. rw e (omega arith))
    (λ e. rw (e, length-append) (omega (arith, at_most k (n / 10))))

pub ten_digits : (n : ℕ) → length (decimal n) ≤ 10
unfolding decimal
ten_digits n = at_most 10 n

few_digits : (j places n : ℕ) → n < 10 ^ suc j → length (decimal_in places n) ≤ suc j
unfolding decimal_in
few_digits j zero n h = omega arith
few_digits zero (suc k) n h = rw (lt-ltb n 10 (omega arith)) (omega arith)
few_digits (suc j) (suc k) n h =
    by_cases (ltb n 10) (λ e. rw e (omega arith))
    (λ e.
    let h' : n < 10 ^ suc j * 10 = rw pow-suc at h in
    rw (e, length-append) (omega (arith, few_digits j k (n / 10) (omega arith))))

pub one_digit : 1 ≡ length (decimal 0)
one_digit = rw (decimal_digit 0 (omega arith))

pub three_digits : (n : ℕ) → n < 256 → length (decimal n) ≤ 3
unfolding decimal
three_digits n h = few_digits 2 10 n (omega arith)

pub dotted_length : (a : ℕ) → length (dotted a) ≤ 22
unfolding dotted
dotted_length a =
    simp length-append
    (omega (arith, ten_digits (a / 2 ^ 24), three_digits (a / 2 ^ 16 % 256) (omega arith), three_digits (a / 2 ^ 8 % 256) (omega arith), three_digits (a % 256) (omega arith)))

-- no line that is printed is longer than the room that it asks for
pub line_fits : (s : Said) → length (answer_of s) ≤ room
unfolding answer_of
line_fits (Done removed changed) = simp length-append (omega (arith, ten_digits removed, ten_digits changed))
line_fits (Hit hop) = simp length-append (omega (arith, ten_digits hop))
line_fits (Miss hop address long examined) =
    simp length-append
    (omega (arith, ten_digits hop, dotted_length address, ten_digits long, ten_digits examined))
line_fits (Drop examined) = simp length-append (omega (arith, ten_digits examined))
line_fits (Refused number) = simp length-append (omega (arith, ten_digits number))
line_fits Bad = omega arith
line_fits (Tallies hits misses drops) =
    simp length-append (omega (arith, ten_digits hits, ten_digits misses, ten_digits drops))
