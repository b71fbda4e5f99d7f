-- The check of a pair decides whether it is sound. Assumes nothing.
use mathlib.Core.Path.{◌≡◌, refl, sym, ap, ◌∙◌}
use mathlib.Core.Bool.{Bool, true, false, not}
use mathlib.Core.List.{List}
use mathlib.Core.Option.{Option, none, some}
use Prim.Native.Nat.{ℕ, suc, ◌+◌, ◌/◌, ◌%◌, ◌≤◌, ◌<◌}
use native.Mathlib.Decide.{ℕ_discrete}
use native.Mathlib.Omega.{arith}
use lib.ListN.{take}
use lib.Dec.{eqb}
use borrow.Author.Tests.{eqb-true, eqb-false, not-true, not-false}
use Rattle.prefix.specs.Bits.{bits}
use Rattle.prefix.specs.Prefix.{strictly_inside}
use Rattle.prefix.specs.Addresses.{address_bits}
use Rattle.prefix.specs.declared.Address.{Address}
use Rattle.prefix.proofs.Booleans.{clash}
use Rattle.model.specs.Routes.{Route, match}
use Rattle.model.specs.Model.{Entry}
use Rattle.model.specs.Demands.{Covered}
use Rattle.model.proofs.ListLaws.{any_false, none_any}
use Rattle.lru_cache.specs.Sound as lru
use Rattle.lru_cache.proofs.Holding.{slot_entry, entry_slot}
use Rattle.sizes.specs.BothStores.{slot_word, word}
use Rattle.slots.specs.Layout.{entries_held, cache_of}
use Rattle.std.specs.Prelude as std
use Rattle.std.specs.Prelude.{Some, None}
use Rattle.slots.specs.Layout.{Shaped}
use Rattle.table.specs.Tables.{routes, SoundTable, TableChecked}
use Rattle.search.specs.Matches.{found_for}
use Rattle.search.specs.Standings.{Judged, JudgedAt}
use Rattle.search.specs.declared.Match.{Match}
use Rattle.search.specs.declared.Standing.{Standing}
use Rattle.entries.specs.Caches.{entries, entry_in, SoundEntries}
use Rattle.cache.specs.Calls.{EntriesChecked}
use Rattle.cache.specs.Checks.{Decides}
use Rattle.cache.proofs.NodeChecks.{refuse}
use Rattle.pairs.specs.Pairs.{SoundPair, PairChecked}

-- ---- one entry

-- what is told of a match
abbrev told_hop : std.Option Match → ℕ
told_hop (Some f) = f.hop
told_hop None = 0

abbrev told : std.Option Match → Bool
told (Some f) = true
told None = false

told_some : (o : Option Route) (f : Match) → found_for o ≡ Some f → (M : Route) × (o ≡ some M) × (M.hop ≡ f.hop)
told_some none f e = absurd (clash (ap told e) refl)
told_some (some M) f e = (M, refl, ap told_hop e)

module _ (t w : List ℕ) (T : SoundTable t) (C : SoundEntries w) (i : ℕ) (from : 0 < i) (held : ℕ) (are-held : held ≡ entries_held w) (in_use : i ≤ held) (a : Address) (n : ℕ) (address : take 32 (address_bits a) ≡ bits 32 (word w (slot_word i 0))) (short : n ≡ word w (slot_word i 1) % 64) (s : Standing) (J : JudgedAt t (take 32 (address_bits a)) n s) where
  upto : i ≤ entries_held w
  upto = omega (arith, are-held, in_use)

  -- what the table says of slot i's prefix
  judged : Judged t (entry_in w i).prefix s
  unfolding cache_of
  judged = rw (← short, ← address) (J.sound (omega (arith, short, C.plain.short i from upto)) T)

  pub covered_nothing : s.found ≡ None → Decides (Covered (routes t) (entry_in w i)) false
  covered_nothing e = refuse (λ K. clash refl (ap told (sym (judged.is_match ∙ ap found_for K.is_match) ∙ e)))

  module _ (f : Match) (is : s.found ≡ Some f) where
    pub covered_inside : s.inside ≡ true → Decides (Covered (routes t) (entry_in w i)) false
    covered_inside e = refuse (λ K. clash (sym judged.is_inside ∙ e) (none_any _ (routes t) K.none_inside))

    pub covered_hop : s.inside ≡ false → (own : ℕ) → own ≡ word w (slot_word i 1) / 64 → Decides (Covered (routes t) (entry_in w i)) (eqb own f.hop)
    unfolding cache_of
    covered_hop e own own_is = go (told_some (match (routes t) (entry_in w i).prefix) f (sym judged.is_match ∙ is))
      where
        go : (M : Route) × (match (routes t) (entry_in w i).prefix ≡ some M) × (M.hop ≡ f.hop) → Decides (Covered (routes t) (entry_in w i)) (eqb own f.hop)
        go (M, m, h) = record {
          yes = λ z. record {
            cover = M;
            is_match = m;
            its_hop = sym own_is ∙ eqb-true own f.hop z ∙ sym h;
            none_inside = λ R k. any_false (λ (Q : Route). strictly_inside Q.prefix (entry_in w i).prefix) (sym judged.is_inside ∙ e) k;
          };
          no = λ z K. eqb-false own f.hop z (own_is ∙ K.its_hop ∙ ap told_hop (sym (ap found_for K.is_match) ∙ sym judged.is_match ∙ is));
        }

-- ---- the loop over the slots

-- the entries in the slots below i are right
pub record Passed (t w : List ℕ) (i : ℕ) : Type 0 where
  pub from : 0 < i
  pub upto : i ≤ suc (entries_held w)
  pub right : (k : ℕ) → 0 < k → k < i → Covered (routes t) (entry_in w k)

pub passed_none : (t w : List ℕ) → Passed t w 1
passed_none t w = record { from = omega arith; upto = omega arith; right = λ k a b. absurd (omega arith) }

refused : (t w : List ℕ) → ¬ (SoundPair t w) → PairChecked t w false
refused t w n = (λ e. absurd (clash e refl), λ S. absurd (n S))

module _ (t w : List ℕ) (T : SoundTable t) (C : SoundEntries w) (entries-held i : ℕ) (are : entries-held ≡ entries_held w) (P : Passed t w i) where
  module _ (l : i ≤ entries-held) (r : Bool) (d : Decides (Covered (routes t) (entry_in w i)) r) where
    pub slot_wrong : not r ≡ true → PairChecked t w false
    unfolding entries
    slot_wrong e = refused t w (λ S. d.no (not-true r e) (S.covered (entry_in w i) (slot_entry C.slots i (P.from, omega (arith, are)))))

    pub passed_on : not r ≡ false → Passed t w (i + 1)
    passed_on e = record {
      from = omega arith;
      upto = omega (arith, are);
      right = λ k a b. elim (ℕ_discrete k i) [ yes z ↦ rw z (d.yes (not-false r e)) | no z ↦ P.right k a (omega arith) ];
    }

  pub all_passed : entries-held < i → PairChecked t w true
  unfolding entries
  all_passed past = (λ _. record { its_table = T; its_cache = C; covered = λ E m. go E (entry_slot C.slots E m) }, λ _. refl)
    where
      go : (E : Entry) → (k : ℕ) × lru.Slot (entries_held w) k × (entry_in w k ≡ E) → Covered (routes t) E
      go E (k, l, z) = rw (← z) (P.right k l.0 (omega (arith, are, l.1, P.upto)))

-- the last slot is right too
pub last_passed : (t w : List ℕ) (T : SoundTable t) (C : SoundEntries w) (entries-held i : ℕ) (are : entries-held ≡ entries_held w) (P : Passed t w i)
    → i ≤ entries-held → (r : Bool) → Decides (Covered (routes t) (entry_in w i)) r → not r ≡ false → entries-held ≤ i → PairChecked t w true
last_passed t w T C n i are P l r d e last = all_passed t w T C n (i + 1) are (passed_on t w T C n i are P l r d e) (omega arith)

-- ---- the whole check

pub table_sound : (t : List ℕ) (r : Bool) → TableChecked t r → not r ≡ false → SoundTable t
table_sound t r K e = K.0 (not-false r e)

pub table_wrong : (t w : List ℕ) (r : Bool) → TableChecked t r → not r ≡ true → PairChecked t w false
table_wrong t w r K e = refused t w (λ S. clash (K.1 S.its_table) (not-true r e))

module _ (w : List ℕ) (r : Bool) (K : EntriesChecked w r) where
  pub cache_sound : not r ≡ false → SoundEntries w
  cache_sound e = K.0 (not-false r e)

  pub cache_wrong : (t : List ℕ) → not r ≡ true → PairChecked t w false
  cache_wrong t e = refused t w (λ S. clash (K.1 S.its_cache) (not-true r e))

pub pair_broken : (t w : List ℕ) → ¬ (Shaped w) → PairChecked t w false
pair_broken t w n = refused t w (λ S. n S.its_cache.shaped)
