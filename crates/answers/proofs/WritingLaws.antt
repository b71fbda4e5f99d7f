-- One law for each answer of the functions that write. Assumes nothing.
use Prim.Native.Nat.{ℕ, ◌+◌, ◌-◌, ◌/◌, ◌%◌, ◌^◌, ◌≤◌, ◌<◌}
use native.Mathlib.Omega.{arith}
use mathlib.Core.Path.{◌≡◌, refl, sym, ◌∙◌}
use mathlib.Core.List.{List, ◌++◌, append_assoc}
use lib.ListN.{length, take, drop, get_or, length-append}
use Rattle.std.proofs.lemmas.List.{take-append-drop}
use lib.Seq.{drop-drop}
use Rattle.std.proofs.lemmas.List.Edits.{sets-eq}
use Rattle.std.specs.Fmt as library
use Rattle.std.specs.Int.{to_be_bytes}
use mir.Syntax.{w32}
use borrow.Rule.Slice.PartMut.{put_mid}
use borrow.Author.Tests.{le-leb, lt-leb}
use Rattle.answers.specs.Answers.{decimal, said, dotted, answer_of, room, Printed}
use Rattle.answers.specs.Text.{text}
use Rattle.answers.specs.Writing.{Written}
use Rattle.answers.specs.declared.Said.{Said}
use Rattle.answers.specs.declared.Said.TheVariants.{Done, Hit, Miss, Drop, Refused, Bad, Tallies}
use Rattle.answers.proofs.Storing.{sets_append}
use Rattle.answers.proofs.DecimalLaws.{same_decimal, ten_digits, three_digits}

-- ---- one after the other

pub wrote_both : {l m q : List ℕ} {at i r : ℕ} {x y : List ℕ} → Written l m at x i → Written m q i y r → Written l q at (x ++ y) r
wrote_both {l} {m} {q} {at} {i} {r} {x} {y} v w = record {
  stored = rw (w.stored, v.stored, v.ended, sets_append x l y at);
  ended = rw (w.ended, v.ended, length-append) (omega arith);
}

-- ---- a word, and a number

-- the part of the buffer is the word
module _ (l part w : List ℕ) (at size : ℕ) where
  pub wrote_word : part ≡ w → size ≡ length w → at + length w ≤ length l → Written l (put_mid at size l part) at w (at + length w)
  wrote_word is its_size room = record {
    stored = rw (is, its_size, sets-eq w l at room, append_assoc, drop-drop);
    ended = refl;
  }

module _ (at n end : ℕ) (fits : n < 2 ^ 32) (its_end : end ≡ at + length (decimal n)) where
  pub room_for_digits : length (library.decimal n) ≤ end
  room_for_digits = rw (same_decimal n fits) (omega arith)

  -- the digits stand before the end
  pub wrote_number : (l q : List ℕ) (start : ℕ) → at + length (decimal n) ≤ length l → start + length (library.decimal n) ≡ end → drop start q ≡ library.decimal n ++ drop end l → take start q ≡ take start l → Written l q at (decimal n) end
  wrote_number l q start room begins written before =
      let same_length : length (library.decimal n) ≡ length (decimal n) = rw (same_decimal n fits) in
      let at_start : start ≡ at = omega arith in
      let digits : drop at q ≡ decimal n ++ drop (at + length (decimal n)) l = rw (at_start, same_decimal n fits, its_end) at written in
      let earlier : take at q ≡ take at l = rw at_start at before in
      record {
        stored = sym (take-append-drop at q) ∙ rw (sets-eq (decimal n) l at room, digits, earlier, append_assoc);
        ended = its_end;
      }

-- ---- a word and a number

module _ (l m w : List ℕ) (at i n : ℕ) (v : Written l m at w i) where
  pub room_for_number : length m ≡ length l → at + length w + 10 ≤ length l → i + length (decimal n) ≤ length m
  room_for_number k h = omega (arith, ten_digits n, v.ended)

  pub number_ends : (q : List ℕ) (r : ℕ) → Written m q i (decimal n) r → r ≤ at + length w + 10
  number_ends q r u = omega (arith, ten_digits n, v.ended, u.ended)

-- ---- an address

module _ (l m mark : List ℕ) (at i n : ℕ) (v : Written l m at mark i) (one : length mark ≡ 1) (octet : n < 256) where
  pub room_for_octet : length m ≡ length l → at + 4 ≤ length l → i + length (decimal n) ≤ length m
  room_for_octet k h = omega (arith, three_digits n octet, v.ended)

  pub octet_ends : (q : List ℕ) (r : ℕ) → Written m q i (decimal n) r → r ≤ at + 4
  octet_ends q r u = omega (arith, three_digits n octet, v.ended, u.ended)

-- the address's bytes are its octets
module _ (a : ℕ) (fits : a < 2 ^ 32) (bytes : List ℕ) (are : bytes ≡ to_be_bytes w32 a) where
  first_octet : get_or bytes 0 0 ≡ a / 16777216
  first_octet = rw are (omega arith)

  second_octet : get_or bytes 1 0 ≡ a / 65536 % 256
  second_octet = rw are

  third_octet : get_or bytes 2 0 ≡ a / 256 % 256
  third_octet = rw are

  last_octet : get_or bytes 3 0 ≡ a % 256
  last_octet = rw are

  pub wrote_address :
      {l m₁ m₂ m₃ q : List ℕ} {at i j k r : ℕ}
      → Written l m₁ at (text " " ++ decimal (get_or bytes 0 0)) i
      → Written m₁ m₂ i (said "." (get_or bytes 1 0)) j
      → Written m₂ m₃ j (said "." (get_or bytes 2 0)) k
      → Written m₃ q k (said "." (get_or bytes 3 0)) r
      → Written l q at (text " " ++ dotted a) r
  unfolding dotted
  wrote_address w₁ w₂ w₃ w₄ = rw (first_octet, second_octet, third_octet, last_octet) at (wrote_both (wrote_both (wrote_both w₁ w₂) w₃) w₄)

-- ---- the lines

module _ {l m₁ m₂ : List ℕ} {at i j : ℕ} where
  module _ {m₃ : List ℕ} {k : ℕ} where
    pub wrote_done : (r c : ℕ) → Written l m₁ at (said "ok " r) i → Written m₁ m₂ i (said " " c) j → Written m₂ m₃ j (text "\n") k → Written l m₃ at (answer_of (Done r c)) k
    unfolding answer_of
    wrote_done r c w₁ w₂ w₃ = wrote_both (wrote_both w₁ w₂) w₃

    module _ {m₄ : List ℕ} {n : ℕ} where
      pub wrote_tallies : (h m d : ℕ) → Written l m₁ at (said "hits " h) i → Written m₁ m₂ i (said " misses " m) j → Written m₂ m₃ j (said " drops " d) k → Written m₃ m₄ k (text "\n") n → Written l m₄ at (answer_of (Tallies h m d)) n
      unfolding answer_of
      wrote_tallies h m d w₁ w₂ w₃ w₄ = wrote_both (wrote_both (wrote_both w₁ w₂) w₃) w₄

      pub wrote_miss : {m₅ : List ℕ} {o : ℕ} (h a b x : ℕ) → Written l m₁ at (said "miss " h) i → Written m₁ m₂ i (text " " ++ dotted a) j → Written m₂ m₃ j (said "/" b) k → Written m₃ m₄ k (said " " x) n → Written m₄ m₅ n (text "\n") o → Written l m₅ at (answer_of (Miss h a b x)) o
      unfolding answer_of
      wrote_miss h a b x w₁ w₂ w₃ w₄ w₅ = let w = wrote_both (wrote_both (wrote_both (wrote_both w₁ w₂) w₃) w₄) w₅ in rw (append_assoc (decimal h) (text " ") (dotted a)) w

module _ (s : Said) (at : ℕ) (l : List ℕ) where
  pub no_room : length l < at + room → Printed s at l l at
  no_room h = record { stored = rw (lt-leb _ _ h); ended = rw (lt-leb _ _ h) }

  module _ (long : room ≤ length l) (inside : at ≤ length l - room) (q : List ℕ) (r : ℕ) where
    printed : {t : Said} → s ≡ t → Written l q at (answer_of t) r → Printed s at l q r
    printed e w =
        let h : at + room ≤ length l = omega arith in
        record { stored = rw (le-leb _ _ h, e) w.stored; ended = rw (le-leb _ _ h, e) w.ended }

    pub printed_done : (removed changed : ℕ) → s ≡ Done removed changed → Written l q at (answer_of (Done removed changed)) r → Printed s at l q r
    printed_done removed changed e w = printed e w

    pub printed_hit : (hop : ℕ) → s ≡ Hit hop → Written l q at (said "hit " hop ++ text "\n") r → Printed s at l q r
    unfolding answer_of
    printed_hit hop e w = printed e w

    pub printed_miss : (h a b x : ℕ) → s ≡ Miss h a b x → Written l q at (answer_of (Miss h a b x)) r → Printed s at l q r
    printed_miss h a b x e w = printed e w

    pub printed_drop : (examined : ℕ) → s ≡ Drop examined → Written l q at (said "drop " examined ++ text "\n") r → Printed s at l q r
    unfolding answer_of
    printed_drop examined e w = printed e w

    pub printed_refused : (number : ℕ) → s ≡ Refused number → Written l q at (said "refused " number ++ text "\n") r → Printed s at l q r
    unfolding answer_of
    printed_refused number e w = printed e w

    pub printed_bad : s ≡ Bad → Written l q at (text "bad\n") r → Printed s at l q r
    unfolding answer_of
    printed_bad e w = printed e w

    pub printed_tallies : (h m d : ℕ) → s ≡ Tallies h m d → Written l q at (answer_of (Tallies h m d)) r → Printed s at l q r
    printed_tallies h m d e w = printed e w
