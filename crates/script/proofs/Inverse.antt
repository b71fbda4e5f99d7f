-- What is printed is read back: a number, an address, and a line of each command. Assumes nothing.
use Prim.Native.Nat.{ℕ, zero, suc, ◌+◌, ◌-◌, ◌*◌, ◌/◌, ◌%◌, ◌^◌, ◌≤◌, ◌<◌}
use native.Mathlib.Nat.{pow-suc}
use native.Mathlib.Omega.{arith}
use mathlib.Core.Path.{◌≡◌, refl, ap, ◌∙◌}
use mathlib.Core.Bool.{true, not}
use mathlib.Core.List.{List, [], ◌∷◌, ◌++◌, append_assoc}
use lib.ListN.{length, length-append}
use lib.Dec.{ltb, eqb}
use borrow.Author.Tests.{le-leb, lt-ltb, ltb-true, eq-eqb, not-true}
use Rattle.std.specs.Prelude.{Some}
use Rattle.answers.specs.Text.{text}
use Rattle.script.specs.Lines.{digit, digits, value_from, number, onto, parts, both, numbers, four, address, only, call, fields, line_of, largest, space, point}
use Rattle.answers.specs.Answers.{decimal_in, decimal, said, dotted}
use Rattle.script.specs.declared.Line.TheVariants.{Announce, Withdraw, Look}
use Rattle.answers.proofs.Booleans.{by_cases, both_true}
use Rattle.script.proofs.Splitting.{free, digits_free, parts_last}
use Rattle.script.proofs.NumberLaws.{number_of_digits}
use Rattle.answers.proofs.DecimalLaws.{ten_digits, dotted_length}

-- ---- numbers

digits_append : (x y : List ℕ) → digits x ≡ true → digits y ≡ true → digits (x ++ y) ≡ true
unfolding digits
digits_append [] y h k = k
digits_append (b ∷ x) y h k =
    let (d, ds) = both_true (digit b) (digits x) h in
    rw (d, digits_append x y ds k)

value_append : (x y : List ℕ) (v : ℕ) → value_from v (x ++ y) ≡ value_from (value_from v x) y
unfolding value_from
value_append [] y v = refl
value_append (b ∷ x) y v = value_append x y (v * 10 + (b - 48))

bit_digit : (n : ℕ) → n < 10 → digits ((48 + n) ∷ []) ≡ true
unfolding digits digit
bit_digit n h = rw (le-leb 48 (48 + n) (omega arith), le-leb (48 + n) 57 (omega arith))

decimal_digits : (places n : ℕ) → digits (decimal_in places n) ≡ true
unfolding decimal_in
decimal_digits zero n = unfold digits in refl
decimal_digits (suc k) n =
    by_cases (ltb n 10) (λ e. rw e (bit_digit n (ltb-true _ _ e)))
    (λ e. rw e (digits_append (decimal_in k (n / 10)) _ (decimal_digits k (n / 10)) (bit_digit (n % 10) (omega arith))))

decimal_value : (places n : ℕ) → n < 10 ^ places → 0 < places → value_from 0 (decimal_in places n) ≡ n
unfolding decimal_in
decimal_value zero n h k = absurd (omega arith)
decimal_value (suc zero) n h k = rw (lt-ltb n 10 (omega arith)) (unfold value_from in omega arith)
decimal_value (suc (suc j)) n h k =
    let h' : n < 10 ^ suc j * 10 = rw pow-suc at h in
    let before : value_from 0 (decimal_in (suc j) (n / 10)) ≡ n / 10 = decimal_value (suc j) (n / 10) (omega arith) (omega arith) in
    by_cases (ltb n 10) (λ e. rw e (unfold value_from in omega arith))
    (λ e. rw (e, value_append (decimal_in (suc j) (n / 10)), before) (unfold value_from in omega arith))

some_digit : (k n : ℕ) → 0 < length (decimal_in (suc k) n)
unfolding decimal_in
some_digit k n = by_cases (ltb n 10) (λ e. rw e (omega arith)) (λ e. rw (e, length-append) (omega arith))

-- a printed number is read back, where it is not above the most
pub number_is_read : (most n : ℕ) → n < 2 ^ 32 → n ≤ most → number most (decimal n) ≡ Some n
unfolding decimal
number_is_read most n h k =
    let v : value_from 0 (decimal_in 10 n) ≡ n = decimal_value 10 n (omega arith) (omega arith) in
    number_of_digits most (decimal_in 10 n) (some_digit 9 n) (decimal_digits 10 n) (omega arith) ∙ ap Some v

-- ---- addresses

decimal_free : (m n : ℕ) → m < 48 → free m (decimal n) ≡ true
unfolding decimal
decimal_free m n k = digits_free m (decimal_in 10 n) k (decimal_digits 10 n)

free_append : (m : ℕ) (x y : List ℕ) → free m x ≡ true → free m y ≡ true → free m (x ++ y) ≡ true
unfolding free
free_append m [] y h k = k
free_append m (b ∷ x) y h k =
    let (d, ds) = both_true (not (eqb b m)) (free m x) h in
    rw (d, free_append m x y ds k)

parts_more : (m : ℕ) (x y : List ℕ) → free m x ≡ true → parts m (x ++ (m ∷ y)) ≡ x ∷ parts m y
unfolding parts free onto
parts_more m [] y h = rw (eq-eqb m m refl)
parts_more m (b ∷ x) y h =
    let (d, ds) = both_true (not (eqb b m)) (free m x) h in
    rw (not-true (eqb b m) d, parts_more m x y ds)

parts_of_decimal : (m n : ℕ) (y : List ℕ) → m < 48 → parts m (decimal n ++ (m ∷ y)) ≡ decimal n ∷ parts m y
parts_of_decimal m n y k = parts_more m (decimal n) y (decimal_free m n k)

octets : (a : ℕ) → parts point (dotted a) ≡ decimal (a / 2 ^ 24) ∷ decimal (a / 2 ^ 16 % 256) ∷ decimal (a / 2 ^ 8 % 256) ∷ decimal (a % 256) ∷ []
unfolding dotted
octets a =
    let k : point < 48 = omega arith in
    simp append_assoc
    (rw (parts_of_decimal point (a / 2 ^ 24) _ k, parts_of_decimal point (a / 2 ^ 16 % 256) _ k, parts_of_decimal point (a / 2 ^ 8 % 256) _ k, parts_last point (decimal (a % 256)) (decimal_free point (a % 256) k)))

octet_is_read : (n : ℕ) → n < 256 → number 255 (decimal n) ≡ Some n
octet_is_read n h = number_is_read 255 n (omega arith) (omega arith)

-- a printed address is read back
pub address_is_read : (a : ℕ) → a < 2 ^ 32 → address (dotted a) ≡ Some a
unfolding address numbers both four
address_is_read a h =
    rw (octets a, octet_is_read (a / 2 ^ 24) (omega arith), octet_is_read (a / 2 ^ 16 % 256) (omega arith), octet_is_read (a / 2 ^ 8 % 256) (omega arith), octet_is_read (a % 256) (omega arith))
    (ap Some (omega arith))

-- ---- lines

point_free : (n : ℕ) → free space (point ∷ decimal n) ≡ true
unfolding free
point_free n = decimal_free space n (omega arith)

dotted_free : (a : ℕ) → free space (dotted a) ≡ true
unfolding dotted
dotted_free a =
    free_append space _ _
    (free_append space _ _ (free_append space (decimal (a / 2 ^ 24)) _ (decimal_free space _ (omega arith)) (point_free (a / 2 ^ 16 % 256))) (point_free (a / 2 ^ 8 % 256)))
    (point_free (a % 256))

-- a printed line is read as the call that it names
module _ (a : ℕ) (ha : a < 2 ^ 32) where
  pub look_is_read : line_of (text "L " ++ dotted a) ≡ Look a
  unfolding line_of parts onto fields numbers call only
  look_is_read =
      let short : length (text "L " ++ dotted a) ≤ 64 = omega (arith, dotted_length a) in
      rw (le-leb _ 64 short, parts_last space (dotted a) (dotted_free a), address_is_read a ha)

  module _ (n : ℕ) (hn : n < 2 ^ 32) where
    pub withdraw_is_read : line_of (text "W " ++ dotted a ++ said " " n) ≡ Withdraw a n
    unfolding line_of parts onto fields numbers both call only
    withdraw_is_read =
        let short : length (text "W " ++ dotted a ++ said " " n) ≤ 64 = simp length-append (omega (arith, dotted_length a, ten_digits n)) in
        rw (le-leb _ 64 short, parts_more space (dotted a) (decimal n) (dotted_free a), parts_last space (decimal n) (decimal_free space n (omega arith)), address_is_read a ha, number_is_read largest n hn (omega arith))

    pub announce_is_read : (h : ℕ) → h < 2 ^ 32 → line_of (text "A " ++ dotted a ++ said " " n ++ said " " h) ≡ Announce a n h
    unfolding line_of parts onto fields numbers both call only
    announce_is_read h hh =
        let short : length (text "A " ++ dotted a ++ said " " n ++ said " " h) ≤ 64 = simp length-append (omega (arith, dotted_length a, ten_digits n, ten_digits h)) in
        rw (le-leb _ 64 short, append_assoc (dotted a), parts_more space (dotted a) _ (dotted_free a), parts_of_decimal space n (decimal h) (omega arith), parts_last space (decimal h) (decimal_free space h (omega arith)), address_is_read a ha, number_is_read largest n hn (omega arith), number_is_read largest h hh (omega arith))
