-- One law for each answer of the functions that read a whole line. Assumes nothing.
use Prim.Native.Nat.{ℕ, suc, ◌+◌, ◌-◌, ◌^◌, ◌≤◌, ◌<◌}
use native.Mathlib.Omega.{arith}
use mathlib.Core.Path.{◌≡◌, refl, sym, ◌∙◌, ap}
use mathlib.Core.Bool.{Bool, true, false, cond, true≢false}
use mathlib.Core.List.{List, [], ◌∷◌}
use lib.ListN.{length, drop, get_or, length-drop}
use lib.Dec.{eqb}
use borrow.Author.Tests.{le-leb, lt-leb, eqb-true}
use Rattle.script.specs.Lines.{both, numbers, onto, parts, address, only, call, fields, line_of, largest, longest, space}
use Rattle.script.specs.Blocks.{before, feed, line_from, line_end, LineRead}
use Rattle.script.specs.Reading.{number_at, over, marked, past, closed, field_end, AddressRead, feed_at, lettered, SeenTo, CallSeen}
use Rattle.script.proofs.LineEnds.{line_at_end, line_at_feed, line_goes_on, line_later, end_later, mark_there, no_mark_there}
use Rattle.script.proofs.RunLaws.{behind, numbers_other, numbers_none, numbers_over, numbers_marked, closed_of, closed_over, closed_marked}
use Rattle.script.proofs.AddressLaws.{marked_before, marked_length, none_there, number_there, line_behind, end_behind, mark_behind, line_beyond, end_beyond}
use Rattle.answers.proofs.Booleans.{by_cases}
use Rattle.script.proofs.Splitting.{parts_first}
use Rattle.script.proofs.FeedLaws.{no_feed_inside, feed_place, feed_inside}
use Rattle.script.proofs.Callers.{ends_after}
use Rattle.script.specs.declared.Line.{Line}
use Rattle.script.specs.declared.Line.TheVariants.{Announce, Withdraw, Look, Bad}
use Rattle.std.specs.Prelude.{Option, Some, None, Result, Ok, Err, MatchResult, ok_or}
use Rattle.std.specs.Bool.{then_some}
use Rattle.script.specs.declared.Found.{Found}
use Rattle.script.specs.declared.Seen.{Seen}

-- ---- the letter, after no number, one and two

module _ (letter : ℕ) (l : List ℕ) (at to : ℕ) (same : line_end l to ≡ line_end l at) where
  by_letter : (c : ℕ) (x : Line) → CallSeen l at (cond (only c (letter ∷ [])) x Bad) (ok_or (then_some (eqb letter c) (record { line = x; to = to })) to)
  unfolding only
  by_letter c x =
      by_cases (eqb letter c)
      (λ e. rw e (record { is = record { its_line = refl; same_line = same } }))
      (λ e. rw e (record { is = record { is_bad = refl; same_line = same } }))

  look_by_letter : (a : ℕ) → CallSeen l at (lettered letter a (Some [])) (ok_or (then_some (eqb letter 76) (record { line = Look a; to = to })) to)
  unfolding call
  look_by_letter a = by_letter 76 (Look a)

  withdraw_by_letter : (a n : ℕ) → CallSeen l at (lettered letter a (Some (n ∷ []))) (ok_or (then_some (eqb letter 87) (record { line = Withdraw a n; to = to })) to)
  unfolding call
  withdraw_by_letter a n = by_letter 87 (Withdraw a n)

  announce_by_letter : (a n hop : ℕ) → CallSeen l at (lettered letter a (Some (n ∷ hop ∷ []))) (ok_or (then_some (eqb letter 65) (record { line = Announce a n hop; to = to })) to)
  unfolding call
  announce_by_letter a n hop = by_letter 65 (Announce a n hop)

-- ---- a line of a known form

-- no call, of which nothing is passed
no_call : {line : Line} {l : List ℕ} {at : ℕ} → line ≡ Bad → CallSeen l at line (Err at)
no_call bad = record { is = record { is_bad = bad; same_line = refl } }

-- a call that is seen from a later place of the line on
seen_from : {line₁ line₂ : Line} {l : List ℕ} {at later : ℕ} (r : Result Seen ℕ) → line₁ ≡ line₂ → line_end l later ≡ line_end l at → CallSeen l later line₂ r → CallSeen l at line₁ r
seen_from (Ok seen) is same S = record { is = record { its_line = S.is.its_line ∙ sym is; same_line = S.is.same_line ∙ same } }
seen_from (Err to) is same S = record { is = record { is_bad = is ∙ S.is.is_bad; same_line = S.is.same_line ∙ same } }

-- no numbers, and three numbers or more
bad_none : (letter a : ℕ) {o : Option (List ℕ)} → o ≡ None → lettered letter a o ≡ Bad
unfolding call
bad_none letter a h = rw h

bad_three : (letter a n h : ℕ) (o : Option ℕ) (q : Option (List ℕ)) → lettered letter a (both (Some n) (both (Some h) (both o q))) ≡ Bad
unfolding call both
bad_three letter a n h None q = refl
bad_three letter a n h (Some x) None = refl
bad_three letter a n h (Some x) (Some ns) = refl

module _ (letter a : ℕ) (l : List ℕ) (at : ℕ) where
  no_number : None ≡ number_at largest l at → numbers largest (parts space (line_from l at)) ≡ None
  no_number h = numbers_none space (omega arith) largest (line_from l at) (none_there largest l at h)

  module _ (f : Found) (told : Some f ≡ number_at largest l at) where
    space_is : space ≡ feed → ⊥
    space_is z = omega arith

    last_number : over (line_from l f.end) ≡ true → numbers largest (parts space (line_from l at)) ≡ Some (f.value ∷ [])
    last_number h =
        numbers_over space (omega arith) largest (line_from l at) (rw (← line_behind largest l at f told) h)
        ∙ rw (number_there largest l at f told) (unfold both in refl)

    more_numbers : marked space (drop f.end l) ≡ true → numbers largest (parts space (line_from l at)) ≡ both (Some f.value) (numbers largest (parts space (line_from l (f.end + 1))))
    more_numbers h =
        numbers_marked space (omega arith) largest (line_from l at) (sym (mark_behind largest l at f told space space_is) ∙ h)
        ∙ rw (number_there largest l at f told, line_beyond largest l at f told space space_is h)

    other_number : over (line_from l f.end) ≡ false → marked space (drop f.end l) ≡ false → numbers largest (parts space (line_from l at)) ≡ None
    other_number h k =
        numbers_other space (omega arith) largest (line_from l at)
        (closed_of space (behind (line_from l at)) (rw (← line_behind largest l at f told) h) (sym (mark_behind largest l at f told space space_is) ∙ k))

  -- ---- `after_length`

  module _ (n : ℕ) where
    pub length_only : None ≡ number_at largest l at → CallSeen l at (lettered letter a (both (Some n) (numbers largest (parts space (line_from l at))))) (Err at)
    length_only h = no_call (bad_none letter a (unfold both in rw (no_number h)))

    module _ (f : Found) (told : Some f ≡ number_at largest l at) (b : Bool) (over-is : b ≡ over (line_from l f.end)) where
      pub length_and_hop : b ≡ true → CallSeen l at (lettered letter a (both (Some n) (numbers largest (parts space (line_from l at))))) (ok_or (then_some (eqb letter 65) (record { line = Announce a n f.value; to = f.end })) f.end)
      length_and_hop h = rw (last_number f told (sym over-is ∙ h)) (unfold both in announce_by_letter letter l at f.end (end_behind largest l at f told) a n f.value)

      pub more_than_hop : b ≡ false → CallSeen l at (lettered letter a (both (Some n) (numbers largest (parts space (line_from l at))))) (Err at)
      more_than_hop h =
          no_call
          (by_cases (marked space (drop f.end l))
          (λ m. let (ps, first) = parts_first space (line_from l (f.end + 1)) in rw (more_numbers f told m, first) (unfold numbers in bad_three letter a n f.value _ _))
          (λ m. bad_none letter a (unfold both in rw (other_number f told (sym over-is ∙ h) m))))

  -- ---- `after_address`

  pub address_only : None ≡ number_at largest l at → CallSeen l at (lettered letter a (numbers largest (parts space (line_from l at)))) (Err at)
  address_only h = no_call (bad_none letter a (no_number h))

  module _ (f : Found) (told : Some f ≡ number_at largest l at) (b : Bool) (over-is : b ≡ over (line_from l f.end)) where
    pub address_and_length : b ≡ true → CallSeen l at (lettered letter a (numbers largest (parts space (line_from l at)))) (ok_or (then_some (eqb letter 87) (record { line = Withdraw a f.value; to = f.end })) f.end)
    address_and_length h = rw (last_number f told (sym over-is ∙ h)) (withdraw_by_letter letter l at f.end (end_behind largest l at f told) a f.value)

    pub address_length_other : b ≡ false → None ≡ past space l f.end → CallSeen l at (lettered letter a (numbers largest (parts space (line_from l at)))) (Err at)
    address_length_other h k = no_call (bad_none letter a (other_number f told (sym over-is ∙ h) (no_mark_there space l f.end k)))

    pub address_length_more : (next : ℕ) (r : Result Seen ℕ) → Some next ≡ past space l f.end
        → CallSeen l next (lettered letter a (both (Some f.value) (numbers largest (parts space (line_from l next))))) r
        → CallSeen l at (lettered letter a (numbers largest (parts space (line_from l at)))) r
    address_length_more next r k S =
        let (there, place) = mark_there space l f.end k in
        seen_from r
        (ap (lettered letter a) (more_numbers f told there ∙ rw place))
        (rw place (end_beyond largest l at f told space (space_is f told) there)) S

-- ---- `after_letter`

-- the first part, by what follows it
parts_to_end : (m : ℕ) (t : List ℕ) → over (drop (length (before m t)) t) ≡ true → parts m t ≡ before m t ∷ []
unfolding parts before onto over
parts_to_end m [] h = refl
parts_to_end m (b ∷ t) h =
    by_cases (eqb b m)
    (λ e. let k : false ≡ true = rw e at h in absurd (true≢false (sym k)))
    (λ e. let k : over (drop (length (before m t)) t) ≡ true = rw e at h in rw (e, parts_to_end m t k))

parts_to_mark : (m : ℕ) (t : List ℕ) → marked m (drop (length (before m t)) t) ≡ true → parts m t ≡ before m t ∷ parts m (drop (suc (length (before m t))) t)
unfolding parts before onto marked
parts_to_mark m [] h = absurd (true≢false (sym h))
parts_to_mark m (b ∷ t) h =
    by_cases (eqb b m) (λ e. rw e)
    (λ e. let k : marked m (drop (length (before m t)) t) ≡ true = rw e at h in rw (e, parts_to_mark m t k))

before_within : (m : ℕ) (t : List ℕ) → length (before m t) ≤ length t
unfolding before
before_within m [] = omega arith
before_within m (b ∷ t) = by_cases (eqb b m) (λ e. rw e (omega arith)) (λ e. rw e (omega (arith, before_within m t)))

fields_of : (w : List ℕ) (m : ℕ) (t : List ℕ) → (ps : List (List ℕ)) × (fields (w ∷ parts m t) ≡ call w (address (before m t)) (numbers largest ps))
unfolding fields
fields_of w m t = let (ps, is) = parts_first m t in (ps, rw is)

fields_two : (w p : List ℕ) (ps : List (List ℕ)) (a : ℕ) → address p ≡ Some a → fields (w ∷ p ∷ ps) ≡ call w (Some a) (numbers largest ps)
unfolding fields
fields_two w p ps a h = rw h

numbers_empty : numbers largest [] ≡ Some []
unfolding numbers
numbers_empty = refl

call_no_address : (w : List ℕ) (o : Option (List ℕ)) → call w None o ≡ Bad
unfolding call
call_no_address w o = refl

module _ (letter : ℕ) (l : List ℕ) (at : ℕ) where
  no_address_there : address (before space (line_from l at)) ≡ None → fields ((letter ∷ []) ∷ parts space (line_from l at)) ≡ Bad
  no_address_there h = let (ps, is) = fields_of (letter ∷ []) space (line_from l at) in rw (is, h) (call_no_address (letter ∷ []) (numbers largest ps))

  pub letter_only : AddressRead l at None → CallSeen l at (fields ((letter ∷ []) ∷ parts space (line_from l at))) (Err at)
  letter_only R = no_call (no_address_there R.is)

  module _ (f : Found) (R : AddressRead l at (Some f)) (b : Bool) (over-is : b ≡ over (line_from l f.end)) where
    module _ (shut : closed space (line_from l f.end) ≡ true) where
      its_address_is : address (before space (line_from l at)) ≡ Some f.value
      its_address_is = R.is.its_address ∙ rw shut

      place : f.end ≡ at + length (before space (line_from l at))
      place = unfold field_end in R.is.its_end shut

      behind_field : line_from l f.end ≡ drop (length (before space (line_from l at))) (line_from l at)
      behind_field = rw place (line_later l at (length (before space (line_from l at))) (before_within space (line_from l at)))

    pub letter_address : b ≡ true → CallSeen l at (fields ((letter ∷ []) ∷ parts space (line_from l at))) (ok_or (then_some (eqb letter 76) (record { line = Look f.value; to = f.end })) f.end)
    letter_address h =
        let shut = closed_over space (line_from l f.end) (sym over-is ∙ h) in
        let last : over (drop (length (before space (line_from l at))) (line_from l at)) ≡ true = rw (← behind_field shut) (sym over-is ∙ h) in
        rw (parts_to_end space (line_from l at) last, fields_two (letter ∷ []) (before space (line_from l at)) [] f.value (its_address_is shut), numbers_empty)
        (look_by_letter letter l at f.end R.is.same_line f.value)

    marked_there : marked space (line_from l f.end) ≡ marked space (drop f.end l)
    marked_there = unfold line_from in marked_before space feed (drop f.end l) (λ z. omega arith)

    pub letter_address_more : (next : ℕ) (r : Result Seen ℕ) → Some next ≡ past space l f.end
        → CallSeen l next (lettered letter f.value (numbers largest (parts space (line_from l next)))) r
        → CallSeen l at (fields ((letter ∷ []) ∷ parts space (line_from l at))) r
    letter_address_more next r k S =
        let (there, next_is) = mark_there space l f.end k in
        let shut = closed_marked space (line_from l f.end) (marked_there ∙ there) in
        let n = length (before space (line_from l at)) in
        let marked_here : marked space (drop n (line_from l at)) ≡ true = rw (← behind_field shut) (marked_there ∙ there) in
        let some_left : 0 < length (line_from l at) - n = rw length-drop at (marked_length space (drop n (line_from l at)) marked_here) in
        let at_next : next ≡ at + suc n = omega (arith, place shut, next_is) in
        let beyond : line_from l next ≡ drop (suc n) (line_from l at) = rw at_next (line_later l at (suc n) (omega arith)) in
        let ends : line_end l next ≡ line_end l at = rw at_next (end_later l at (suc n) (omega arith)) in
        seen_from r
        (rw (parts_to_mark space (line_from l at) marked_here, ← beyond, fields_two (letter ∷ []) (before space (line_from l at)) (parts space (line_from l next)) f.value (its_address_is shut)))
        ends S

    pub letter_address_other : b ≡ false → None ≡ past space l f.end → CallSeen l at (fields ((letter ∷ []) ∷ parts space (line_from l at))) (Err at)
    letter_address_other h k =
        no_call (no_address_there (R.is.its_address ∙ rw (closed_of space (line_from l f.end) (sym over-is ∙ h) (marked_there ∙ no_mark_there space l f.end k))))

-- ---- `call`

fields_empty : fields (parts space []) ≡ Bad
unfolding fields parts
fields_empty = refl

call_of_no_letter : (w : List ℕ) → ((c : ℕ) → only c w ≡ false) → (o : Option ℕ) (p : Option (List ℕ)) → call w o p ≡ Bad
unfolding call
call_of_no_letter w f None p = refl
call_of_no_letter w f (Some a) None = refl
call_of_no_letter w f (Some a) (Some []) = rw (f 76)
call_of_no_letter w f (Some a) (Some (n ∷ [])) = rw (f 87)
call_of_no_letter w f (Some a) (Some (n ∷ h ∷ [])) = rw (f 65)
call_of_no_letter w f (Some a) (Some (n ∷ h ∷ x ∷ ns)) = refl

fields_of_no_letter : (w : List ℕ) (ps : List (List ℕ)) → ((c : ℕ) → only c w ≡ false) → fields (w ∷ ps) ≡ Bad
unfolding fields
fields_of_no_letter w [] f = refl
fields_of_no_letter w (p ∷ ps) f = call_of_no_letter w f (address p) (numbers largest ps)

-- a space is no letter
call_of_space : (o : Option ℕ) (p : Option (List ℕ)) → call (space ∷ []) o p ≡ Bad
unfolding call only
call_of_space None p = refl
call_of_space (Some a) None = refl
call_of_space (Some a) (Some []) = refl
call_of_space (Some a) (Some (n ∷ [])) = refl
call_of_space (Some a) (Some (n ∷ h ∷ [])) = refl
call_of_space (Some a) (Some (n ∷ h ∷ x ∷ ns)) = refl

no_space : (b : ℕ) (t : List ℕ) → marked space t ≡ false → fields (parts space (b ∷ t)) ≡ Bad
unfolding parts onto marked
no_space b [] h =
    by_cases (eqb b space)
    (λ e. rw e (fields_of_no_letter [] _ (λ c. unfold only in refl)))
    (λ e. rw e (unfold fields in refl))
no_space b (c ∷ t) h =
    by_cases (eqb b space)
    (λ e. rw e (fields_of_no_letter [] _ (λ c. unfold only in refl)))
    (λ e. let (ps, is) = parts_first space t in rw (e, h, is) (fields_of_no_letter _ _ (λ c. unfold only in refl)))

-- with a space in its second place, a line is its first byte and the fields after it
with_space : (b : ℕ) (t : List ℕ) → fields (parts space (b ∷ space ∷ t)) ≡ fields ((b ∷ []) ∷ parts space t)
unfolding parts onto
with_space b t =
    by_cases (eqb b space)
    (λ e.
    let is : b ≡ space = eqb-true b space e in
    let (ps, first) = fields_of (space ∷ []) space t in
    rw (e, is, first) (fields_of_no_letter [] _ (λ c. unfold only in refl) ∙ sym (call_of_space (address (before space t)) (numbers largest ps))))
    (λ e. rw e)

marked_is : (m : ℕ) (t : List ℕ) → marked m t ≡ true → t ≡ m ∷ drop 1 t
unfolding marked
marked_is m [] h = absurd (true≢false (sym h))
marked_is m (b ∷ t) h = rw (eqb-true b m h)

module _ (l : List ℕ) (at : ℕ) where
  empty_line : line_from l at ≡ [] → CallSeen l at (fields (parts space (line_from l at))) (Err at)
  empty_line h = no_call (rw h fields_empty)

  pub fields_at_end : length l ≤ at → CallSeen l at (fields (parts space (line_from l at))) (Err at)
  fields_at_end h = empty_line (line_at_end l at h)

  module _ (inside : at < length l) where
    pub fields_at_feed : get_or l at 0 ≡ feed → CallSeen l at (fields (parts space (line_from l at))) (Err at)
    fields_at_feed h = empty_line (line_at_feed l at inside h)

    module _ (goes_on : get_or l at 0 ≡ feed → ⊥) where
      first_byte : line_from l at ≡ get_or l at 0 ∷ line_from l (at + 1)
      first_byte = line_goes_on l at inside goes_on

      second_byte : marked space (line_from l (at + 1)) ≡ marked space (drop (at + 1) l)
      second_byte = unfold line_from in marked_before space feed (drop (at + 1) l) (λ z. omega arith)

      pub fields_no_letter : None ≡ past space l (at + 1) → CallSeen l at (fields (parts space (line_from l at))) (Err at)
      fields_no_letter h = no_call (rw first_byte (no_space (get_or l at 0) (line_from l (at + 1)) (second_byte ∙ no_mark_there space l (at + 1) h)))

      pub fields_read : (next : ℕ) (r : Result Seen ℕ) → Some next ≡ past space l (at + 1) → CallSeen l next (fields ((get_or l at 0 ∷ []) ∷ parts space (line_from l next))) r → CallSeen l at (fields (parts space (line_from l at))) r
      fields_read next r h S =
          let (there, place) = mark_there space l (at + 1) h in
          let spaced : line_from l (at + 1) ≡ space ∷ drop 1 (line_from l (at + 1)) = marked_is space (line_from l (at + 1)) (second_byte ∙ there) in
          let two : 2 ≤ length (line_from l at) = rw (first_byte, spaced) (omega arith) in
          let at_next : next ≡ at + 2 = omega (arith, place) in
          let later : line_from l next ≡ drop 2 (line_from l at) = rw at_next (line_later l at 2 two) in
          let split : line_from l at ≡ get_or l at 0 ∷ space ∷ line_from l next = rw (later, first_byte) (ap (λ t. get_or l at 0 ∷ t) spaced) in
          seen_from r (rw split (with_space (get_or l at 0) (line_from l next))) (rw at_next (end_later l at 2 two)) S

-- ---- `read_fields`

pub bad_or_seen : (l : List ℕ) (at : ℕ) (line : Line) (r : Result Seen ℕ) → CallSeen l at line r → MatchResult r (SeenTo l at line) (λ to. SeenTo l at line (record { line = Bad; to = to }))
bad_or_seen l at line (Ok seen) S = S.is
bad_or_seen l at line (Err to) S = record { its_line = sym S.is.is_bad; same_line = S.is.same_line }

-- ---- `read_line`

too_long : (t : List ℕ) → longest < length t → Bad ≡ line_of t
unfolding line_of
too_long t h = rw (lt-leb _ _ h)

whole_line : (t : List ℕ) (q : Line) → length t ≤ longest → q ≡ fields (parts space t) → q ≡ line_of t
unfolding line_of
whole_line t q h e = rw (le-leb _ _ h) e

module _ (l : List ℕ) (at : ℕ) (seen : Seen) (S : SeenTo l at (fields (parts space (line_from l at))) seen) where
  same_feed : feed_at l seen.to ≡ feed_at l at
  unfolding feed_at
  same_feed = rw S.same_line

  pub read_none : None ≡ feed_at l seen.to → LineRead l at None
  read_none h = record { is = no_feed_inside l at (h ∙ same_feed) }

  module _ (feed : ℕ) (found : Some feed ≡ feed_at l seen.to) where
    pub feed_after_start : at ≤ feed
    feed_after_start = omega (arith, feed_place l at feed (found ∙ same_feed), ends_after l at)

    its_length : length (line_from l at) ≡ feed - at
    its_length =
        let end : line_end l at ≡ at + length (line_from l at) = unfold line_end in refl in
        omega (arith, feed_place l at feed (found ∙ same_feed))

    module _ (passable : feed + 1 < 2 ^ 64) where
      read_as : (q : Line) → q ≡ line_of (line_from l at) → LineRead l at (Some (record { line = q; feed = feed }))
      read_as q is = record {
        is = record {
          its_feed = feed_place l at feed (found ∙ same_feed);
          inside = feed_inside l at feed (found ∙ same_feed);
          its_line = is;
          passable = passable;
        };
      }

      pub read_too_long : longest < feed - at → LineRead l at (Some (record { line = Bad; feed = feed }))
      read_too_long h = read_as Bad (too_long (line_from l at) (rw its_length h))

      pub read_whole : feed - at ≤ longest → LineRead l at (Some (record { line = seen.line; feed = feed }))
      read_whole h = read_as seen.line (whole_line (line_from l at) seen.line (rw its_length h) S.its_line)
