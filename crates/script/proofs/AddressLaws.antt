-- One law for each answer of the functions that read an address. Assumes nothing.
use Prim.Native.Nat.{ℕ, suc, ◌+◌, ◌-◌, ◌*◌, ◌≤◌, ◌<◌}
use native.Mathlib.Omega.{arith}
use mathlib.Core.Path.{◌≡◌, refl, sym, ◌∙◌, ap}
use mathlib.Core.Bool.{true, false, cond, true≢false}
use mathlib.Core.List.{List, [], ◌∷◌}
use lib.ListN.{length, drop, length-drop}
use lib.Dec.{eqb}
use borrow.Author.Tests.{eqb-true, ne_eqb}
use Rattle.script.specs.Lines.{number, both, numbers, parts, four, address, space, point}
use Rattle.script.specs.Blocks.{before, feed, line_from, line_end}
use Rattle.script.specs.Reading.{run, number_at, over, marked, past, closed, octets, field_end, Few, few_none, few_one, OctetRead, AddressRead}
use Rattle.script.proofs.LineEnds.{drop_before, line_later, end_later, mark_there, no_mark_there}
use Rattle.script.proofs.RunLaws.{behind, run_before, run_within, first_is_run, numbers_other, numbers_none, numbers_over, numbers_marked, closed_of}
use Rattle.script.proofs.NumberLaws.{ended_some, ended_none, number_small}
use Rattle.script.proofs.Splitting.{parts_first}
use Rattle.answers.proofs.Booleans.{by_cases}
use Rattle.std.specs.Prelude.{Option, Some, None}
use Rattle.std.specs.Int.{from_be_bytes}
use mir.Syntax.{w32}
use Rattle.script.specs.declared.Found.{Found}

-- ---- what follows, before another mark

pub marked_before : (m k : ℕ) (t : List ℕ) → (m ≡ k → ⊥) → marked m (before k t) ≡ marked m t
unfolding marked before
marked_before m k [] h = refl
marked_before m k (b ∷ t) h =
    by_cases (eqb b k)
    (λ e. let is : b ≡ k = eqb-true b k e in rw (e, ne_eqb b m (λ f. h (sym f ∙ is))))
    (λ e. rw e)

over_before : (k : ℕ) (t : List ℕ) → over (before k t) ≡ closed k t
unfolding over before closed
over_before k [] = refl
over_before k (b ∷ t) = by_cases (eqb b k) (λ e. rw e) (λ e. rw e)

pub marked_length : (m : ℕ) (t : List ℕ) → marked m t ≡ true → 0 < length t
unfolding marked
marked_length m [] h = absurd (true≢false (sym h))
marked_length m (b ∷ t) h = omega arith

-- ---- a number at a place of a line

module _ (most : ℕ) (l : List ℕ) (at : ℕ) where
  its_run : run (drop at l) ≡ run (line_from l at)
  unfolding line_from
  its_run = sym (run_before feed (omega arith) (drop at l))

  pub run_inside : length (run (line_from l at)) ≤ length (line_from l at)
  unfolding line_from
  run_inside = rw (run_before feed (omega arith) (drop at l)) (run_within feed (omega arith) (drop at l))

  pub none_there : None ≡ number_at most l at → number most (run (line_from l at)) ≡ None
  unfolding number_at
  none_there h = rw (← its_run) (ended_none (number most (run (drop at l))) _ h)

  module _ (f : Found) (told : Some f ≡ number_at most l at) where
    number_and_end : (number most (run (line_from l at)) ≡ Some f.value) × (f.end ≡ at + length (run (line_from l at)))
    unfolding number_at
    number_and_end = rw (← its_run) (ended_some (number most (run (drop at l))) _ f told)

    pub number_there : number most (run (line_from l at)) ≡ Some f.value
    number_there = number_and_end.0

    pub line_behind : line_from l f.end ≡ behind (line_from l at)
    unfolding behind
    line_behind = rw number_and_end.1 (line_later l at (length (run (line_from l at))) run_inside)

    pub end_behind : line_end l f.end ≡ line_end l at
    end_behind = rw number_and_end.1 (end_later l at (length (run (line_from l at))) run_inside)

    module _ (m : ℕ) (other : m ≡ feed → ⊥) where
      pub mark_behind : marked m (drop f.end l) ≡ marked m (behind (line_from l at))
      mark_behind = sym (marked_before m feed (drop f.end l) other) ∙ unfold line_from in ap (marked m) line_behind

      module _ (there : marked m (drop f.end l) ≡ true) where
        beyond_inside : suc (length (run (line_from l at))) ≤ length (line_from l at)
        unfolding behind
        beyond_inside =
            let k : 0 < length (drop (length (run (line_from l at))) (line_from l at)) = marked_length m _ (sym mark_behind ∙ there) in
            let j : 0 < length (line_from l at) - length (run (line_from l at)) = rw length-drop at k in
            omega arith

        beyond_place : f.end + 1 ≡ at + suc (length (run (line_from l at)))
        beyond_place = omega (arith, number_and_end.1)

        pub line_beyond : line_from l (f.end + 1) ≡ drop (suc (length (run (line_from l at)))) (line_from l at)
        line_beyond = rw beyond_place (line_later l at (suc (length (run (line_from l at)))) beyond_inside)

        pub end_beyond : line_end l (f.end + 1) ≡ line_end l at
        end_beyond = rw beyond_place (end_later l at (suc (length (run (line_from l at)))) beyond_inside)

-- ---- the octets of a field, by what follows the first digits

-- none, or two numbers and more
pub data Many : Option (List ℕ) → Type 0 where
  many_none : Many None
  many_two : {m n : ℕ} {ns : List ℕ} → Many (Some (m ∷ n ∷ ns))

few_both : (o : Option ℕ) → Few (both o (Some []))
unfolding both
few_both None = few_none
few_both (Some n) = few_one

pub many_both : (o : Option ℕ) (most : ℕ) (m : ℕ) (t : List ℕ) → Many (both o (numbers most (parts m t)))
unfolding both numbers
many_both o most m t = let (ps, is) = parts_first m t in rw is (go o (number most (before m t)) (numbers most ps))
  where
    go : (a b : Option ℕ) (ns : Option (List ℕ)) → Many (both a (both b ns))
    go None b ns = many_none
    go (Some a) None ns = many_none
    go (Some a) (Some b) None = many_none
    go (Some a) (Some b) (Some ns) = many_two

module _ (s : List ℕ) where
  field_run : run (before space s) ≡ run s
  field_run = run_before space (omega arith) s

  field_behind : behind (before space s) ≡ before space (behind s)
  unfolding behind
  field_behind = rw field_run (drop_before space (length (run s)) s (run_within space (omega arith) s))

  pub octets_none : number 255 (run s) ≡ None → octets s ≡ None
  unfolding octets
  octets_none h = numbers_none point (omega arith) 255 (before space s) (rw field_run h)

  octets_other : closed point (before space (behind s)) ≡ false → octets s ≡ None
  unfolding octets
  octets_other h = numbers_other point (omega arith) 255 (before space s) (rw field_behind h)

  pub octets_last : closed space (behind s) ≡ true → octets s ≡ both (number 255 (run s)) (Some [])
  unfolding octets
  octets_last h = numbers_over point (omega arith) 255 (before space s) (rw (field_behind, over_before) h) ∙ rw field_run

  module _ (there : marked point (behind s) ≡ true) where
    field_marked : marked point (behind (before space s)) ≡ true
    field_marked = rw field_behind (marked_before point space (behind s) (λ e. omega arith) ∙ there)

    field_inside : suc (length (run s)) ≤ length (before space s)
    unfolding behind
    field_inside =
        let k : 0 < length (drop (length (run (before space s))) (before space s)) = marked_length point _ field_marked in
        let j : 0 < length (before space s) - length (run s) = rw (length-drop, field_run) at k in
        omega arith

    pub field_beyond : before space (drop (suc (length (run s))) s) ≡ drop (suc (length (run s))) (before space s)
    field_beyond = sym (drop_before space (suc (length (run s))) s field_inside)

    pub octets_more : octets s ≡ both (number 255 (run s)) (octets (drop (suc (length (run s))) s))
    unfolding octets
    octets_more = numbers_marked point (omega arith) 255 (before space s) field_marked ∙ rw (field_run, field_beyond)

    pub field_length : length (before space s) ≡ suc (length (run s)) + length (before space (drop (suc (length (run s))) s))
    field_length = rw (field_beyond, length-drop) (omega (arith, field_inside))

  pub octets_few : marked point (behind s) ≡ false → Few (octets s)
  octets_few h =
      by_cases (over (before space (behind s)))
      (λ e. rw (octets_last (sym (over_before space (behind s)) ∙ e)) (few_both (number 255 (run s))))
      (λ e. rw (octets_other (closed_of point (before space (behind s)) e (marked_before point space (behind s) (λ z. omega arith) ∙ h))) few_none)

  pub octets_many : closed space (behind s) ≡ false → Many (octets s)
  octets_many h =
      by_cases (marked point (behind s))
      (λ e. rw (octets_more e) (unfold octets in many_both (number 255 (run s)) 255 point _))
      (λ e. rw (octets_other (closed_of point (before space (behind s)) (over_before space (behind s) ∙ h) (marked_before point space (behind s) (λ z. omega arith) ∙ e))) many_none)

field_later : (l : List ℕ) (at e n : ℕ) → e ≡ at + n → length (before space (line_from l at)) ≡ suc n + length (before space (line_from l (e + 1))) → field_end l (e + 1) ≡ field_end l at
unfolding field_end
field_later l at e n place longer = omega arith

-- ---- one octet

module _ (l : List ℕ) (at : ℕ) where
  pub octet_none : None ≡ number_at 255 l at → OctetRead l at None
  octet_none h = record { is = rw (octets_none (line_from l at) (none_there 255 l at h)) few_none }

  module _ (f : Found) (told : Some f ≡ number_at 255 l at) where
    pub octet_small : f.value ≤ 255
    octet_small = number_small 255 (run (line_from l at)) (number_there 255 l at f told)

    point_is : point ≡ feed → ⊥
    point_is z = omega arith

    pub octet_unmarked : None ≡ past point l f.end → OctetRead l at None
    octet_unmarked h = record { is = octets_few (line_from l at) (sym (mark_behind 255 l at f told point point_is) ∙ no_mark_there point l f.end h) }

    pub octet_read : (i : ℕ) → Some i ≡ past point l f.end → OctetRead l at (Some (record { value = f.value; end = i }))
    octet_read i h =
        let (there, next) = mark_there point l f.end h in
        let behind_marked : marked point (behind (line_from l at)) ≡ true = sym (mark_behind 255 l at f told point point_is) ∙ there in
        let beyond = line_beyond 255 l at f told point point_is there in
        let place = (number_and_end 255 l at f told).1 in
        let longer : length (before space (line_from l at)) ≡ suc (length (run (line_from l at))) + length (before space (line_from l (f.end + 1))) = rw beyond (field_length (line_from l at) behind_marked) in
        record {
          is = record {
            small = octet_small;
            others = octets_more (line_from l at) behind_marked ∙ rw (number_there 255 l at f told, next, beyond);
            same_line = rw next (end_beyond 255 l at f told point point_is there);
            same_field = rw next (field_later l at f.end (length (run (line_from l at))) place longer);
          };
        }

-- ---- the whole address

few_of_four : {o : Option (List ℕ)} → Few o → four o ≡ None
unfolding four
few_of_four few_none = refl
few_of_four few_one = refl

few_after_one : (a : ℕ) {o : Option (List ℕ)} → Few o → four (both (Some a) o) ≡ None
unfolding four both
few_after_one a few_none = refl
few_after_one a few_one = refl

few_after_two : (a b : ℕ) {o : Option (List ℕ)} → Few o → four (both (Some a) (both (Some b) o)) ≡ None
unfolding four both
few_after_two a b few_none = refl
few_after_two a b few_one = refl

none_after_three : (a b c : ℕ) {o : Option (List ℕ)} → o ≡ None → four (both (Some a) (both (Some b) (both (Some c) o))) ≡ None
unfolding four both
none_after_three a b c h = rw h

many_after_three : (a b c : ℕ) {o : Option (List ℕ)} → Many o → four (both (Some a) (both (Some b) (both (Some c) o))) ≡ None
unfolding four both
many_after_three a b c many_none = refl
many_after_three a b c many_two = refl

pub four_octets : (a b c d r : ℕ) → r ≡ from_be_bytes w32 (a ∷ b ∷ c ∷ d ∷ []) → r ≡ ((a * 256 + b) * 256 + c) * 256 + d
four_octets a b c d r is = is ∙ omega arith

module _ (l : List ℕ) (at : ℕ) where
  no_address : four (octets (line_from l at)) ≡ None → AddressRead l at None
  unfolding octets address
  no_address h = record { is = h }

  pub address_none_1 : OctetRead l at None → AddressRead l at None
  address_none_1 R = no_address (few_of_four R.is)

  module _ (a : Found) (R₁ : OctetRead l at (Some a)) where
    pub address_none_2 : OctetRead l a.end None → AddressRead l at None
    address_none_2 R = no_address (rw R₁.is.others (few_after_one a.value R.is))

    module _ (b : Found) (R₂ : OctetRead l a.end (Some b)) where
      pub address_none_3 : OctetRead l b.end None → AddressRead l at None
      address_none_3 R = no_address (rw (R₁.is.others, R₂.is.others) (few_after_two a.value b.value R.is))

      module _ (c : Found) (R₃ : OctetRead l b.end (Some c)) where
        pub address_none_4 : None ≡ number_at 255 l c.end → AddressRead l at None
        address_none_4 h =
            no_address (rw (R₁.is.others, R₂.is.others, R₃.is.others) (none_after_three a.value b.value c.value (octets_none (line_from l c.end) (none_there 255 l c.end h))))

        module _ (d : Found) (told : Some d ≡ number_at 255 l c.end) where
          rest_is : closed space (line_from l d.end) ≡ closed space (behind (line_from l c.end))
          rest_is = ap (closed space) (line_behind 255 l c.end d told)

          whole : four (octets (line_from l at)) ≡ cond (closed space (line_from l d.end)) (Some (((a.value * 256 + b.value) * 256 + c.value) * 256 + d.value)) None
          whole =
              by_cases (closed space (line_from l d.end))
              (λ is. rw (R₁.is.others, R₂.is.others, R₃.is.others, octets_last (line_from l c.end) (sym rest_is ∙ is), number_there 255 l c.end d told, is) (unfold four both in refl))
              (λ is. rw (R₁.is.others, R₂.is.others, R₃.is.others, is) (many_after_three a.value b.value c.value (octets_many (line_from l c.end) (sym rest_is ∙ is))))

          its_place : closed space (line_from l d.end) ≡ true → d.end ≡ field_end l at
          unfolding field_end
          its_place is =
              let f₁ = R₁.is.same_field in
              let f₂ = R₂.is.same_field in
              let f₃ = R₃.is.same_field in
              let place = (number_and_end 255 l c.end d told).1 in
              let length_is : length (before space (line_from l c.end)) ≡ length (run (line_from l c.end)) = ap length (first_is_run space (omega arith) (line_from l c.end) (sym rest_is ∙ is)) in
              omega arith

          pub address_read : (r : ℕ) → r ≡ ((a.value * 256 + b.value) * 256 + c.value) * 256 + d.value → AddressRead l at (Some (record { value = r; end = d.end }))
          address_read r is = record {
            is = record {
              its_address = rw is (unfold address octets in whole);
              its_end = its_place;
              same_line = end_behind 255 l c.end d told ∙ R₃.is.same_line ∙ R₂.is.same_line ∙ R₁.is.same_line;
            };
          }
