-- Every call keeps a legal pair legal, so every run from the empty state does. Assumes nothing.
use mathlib.Core.Bool.{Bool, ◌&&◌, ◌||◌, cond, false, not, true}
use mathlib.Core.List.Memᴰ
use mathlib.Core.List.{List, [], ◌∷◌}
use mathlib.Core.Logic.{◌⊎◌, inl, inr}
use mathlib.Core.Option.{Option, none, some}
use mathlib.Core.Path.{◌≡◌, refl}
use Prim.Native.Nat.{◌<◌, ◌≤◌, suc, zero, ℕ}
use native.Mathlib.Omega.{arith}
use lib.Dec.{eqb, leb, ltb}
use lib.ListN.{length, length-map, length-take, take}
use borrow.Author.Tests.{eqb-false, leb-false, ltb-false}
use Rattle.prefix.specs.Bits.{Bits}
use Rattle.prefix.specs.Prefix.{contains, same}
use Rattle.prefix.proofs.Booleans.{not_false, or_false}
use Rattle.prefix.proofs.Order.{⊑_length}
use Rattle.prefix.proofs.Tests.{apart_sym, contains_⊑}
use Rattle.model.specs.Demands.{AllFull, Covered, Full, Hop, Legal, LegalState, Longest, NoLonger, NoOverlap, Standing, Storable, and_calls, announced, no_calls, stood}
use Rattle.model.specs.Lists.{◌∈◌, first, keep, omit, p_cons, p_nil}
use Rattle.model.specs.Model.{Cache, Entry, Limits, fresh, leaves, look_cache, look_table, lookup, new_prefix, refreshed, refusal}
use Rattle.model.specs.Routes.{Action, Route, Table, Update, announce, held, match, updated, with_announced, withdraw}
use Rattle.model.specs.Runs.{Call, State, accepted, after, empty, judged, look, looked, step, update}
use Rattle.model.proofs.ListLaws.{Pairwise_keep, Pairwise_map, Pairwise_omit, Pairwise_take, any_in, first_in, first_none, first_omit, keep_in, keep_length, keep_lt, map_in, omit_in, omit_length, take_in}
use Rattle.model.proofs.Lookups.{stored_is_shortest}
use Rattle.model.proofs.Match.{match_longest, one_each, storable_covered}
use Rattle.model.proofs.Updates.{fresh_entry, updated_distinct, updated_in}

pub legal_empty : (L : Limits) → Legal L [] []
legal_empty L = record {
  distinct = p_nil;
  routes_short = λ r m. absurd (Memᴰ.not-nil m);
  routes_hops = λ r m. absurd (Memᴰ.not-nil m);
  routes_fit = omega arith;
  no_overlap = p_nil;
  entries_short = λ r m. absurd (Memᴰ.not-nil m);
  covered = λ e m. absurd (Memᴰ.not-nil m);
  entries_fit = omega arith;
}

-- ---- the lookup

module _ {L : Limits} {t : Table} {c : Cache} (S : Legal L t c) (X : Bits) (full : length X ≡ L.width) where
  hits : Route → Bool
  hits e = contains e.prefix X

  -- the same table, and another cache
  with_cache : (d : Cache) → NoOverlap d → NoLonger L.width d → ((e : Entry) → e ∈ d → Covered t e) → length d ≤ L.entries → Legal L t d
  with_cache d a s e f = record {
    distinct = S.distinct;
    routes_short = S.routes_short;
    routes_hops = S.routes_hops;
    routes_fit = S.routes_fit;
    no_overlap = a;
    entries_short = s;
    covered = e;
    entries_fit = f;
  }

  legal_hit : (e : Entry) → first hits c ≡ some e → Legal L t (e ∷ omit hits c)
  legal_hit e h = with_cache (e ∷ omit hits c)
      (p_cons (first_omit (λ x y. apart_sym x.prefix y.prefix) hits h S.no_overlap) (Pairwise_omit hits S.no_overlap))
      (λ r m. S.entries_short r (old r (Memᴰ.cases_cons m)))
      (λ r m. S.covered r (old r (Memᴰ.cases_cons m)))
      (omega (arith, omit_length hits c e h, S.entries_fit))
    where
      old : (r : Route) → (r ≡ e) ⊎ (r ∈ omit hits c) → r ∈ c
      old r (inl z) = Memᴰ.cast z (first_in hits c h).0
      old r (inr m) = omit_in hits c m

  legal_miss : (M : Route) → first hits c ≡ none → match t X ≡ some M → Legal L t (take L.entries (record { prefix = new_prefix t c X M; hop = M.hop } ∷ c))
  unfolding hits
  legal_miss M h e = with_cache (take L.entries (new ∷ c))
      (Pairwise_take L.entries (p_cons (λ y m. st.overlaps_nothing y m) S.no_overlap))
      (λ r m. short r (Memᴰ.cases_cons (take_in L.entries (new ∷ c) m)))
      (λ r m. entry r (Memᴰ.cases_cons (take_in L.entries (new ∷ c) m)))
      (simp length-take (omega arith))
    where
      new : Entry
      new = record { prefix = new_prefix t c X M; hop = M.hop }

      lm : Longest t X M
      lm = match_longest t X e

      st : Storable t c X M (new_prefix t c X M)
      st = (stored_is_shortest S X full M lm (λ d m. first_none hits h m)).storable

      short : (r : Entry) → (r ≡ new) ⊎ (r ∈ c) → length r.prefix ≤ L.width
      short r (inl z) = rw z (omega (arith, full, ⊑_length (contains_⊑ (new_prefix t c X M) X st.contains_address)))
      short r (inr m) = S.entries_short r m

      entry : (r : Entry) → (r ≡ new) ⊎ (r ∈ c) → Covered t r
      entry r (inl z) = rw z (storable_covered t c X M (new_prefix t c X M) lm st (one_each S.distinct))
      entry r (inr m) = S.covered r m

  pub legal_lookup : Legal L t (lookup t c L.entries X).cache
  unfolding lookup look_cache look_table hits
  legal_lookup = on_cache (first hits c) refl
    where
      on_table : first hits c ≡ none → (o : Option Route) → match t X ≡ o → Legal L t (look_table t c L.entries X o).cache
      on_table h none e = S
      on_table h (some M) e = legal_miss M h e

      on_cache : (o : Option Route) → first hits c ≡ o → Legal L t (look_cache t c L.entries X o).cache
      on_cache none h = on_table h (match t X) refl
      on_cache (some e) h = legal_hit e h

-- ---- updates

-- what an accepted update may be
pub record Allowed (L : Limits) (t : Table) (u : Update) : Type 0 where
  pub short : length u.prefix ≤ L.width
  pub hop : (h : ℕ) → u.action ≡ announce h → Hop h
  pub fits : length (updated t u) ≤ L.routes

pub legal_updated : {L : Limits} {t : Table} {c : Cache} (u : Update) → Allowed L t u → Legal L t c → Legal L (updated t u) (refreshed (updated t u) u c)
unfolding refreshed fresh
legal_updated {L} {t} {c} u A S = record {
  distinct = updated_distinct t u S.distinct;
  routes_short = λ r m. short r (updated_in t u r m);
  routes_hops = λ r m. hop r (updated_in t u r m);
  routes_fit = A.fits;
  no_overlap = Pairwise_map (fresh (updated t u)) (Pairwise_keep stay S.no_overlap);
  entries_short = λ r m. let e = map_in (fresh (updated t u)) (keep stay c) m in rw e.2 (S.entries_short e.0 (keep_in stay c e.1).0);
  covered = λ r m. let e = map_in (fresh (updated t u)) (keep stay c) m in rw e.2 (fresh_entry (updated t u) u e.0 (not_false _ (keep_in stay c e.1).1));
  entries_fit = simp length-map (omega (arith, keep_length stay c, S.entries_fit));
}
  where
    stay : Route → Bool
    stay e = not (leaves (updated t u) u e)

    short : (r : Route) → Standing t u r → length r.prefix ≤ L.width
    short r (announced h f z) = rw z A.short
    short r (stood m n) = S.routes_short r m

    hop : (r : Route) → Standing t u r → Hop r.hop
    hop r (announced h f z) = rw z (A.hop h f)
    hop r (stood m n) = S.routes_hops r m

-- ---- refusals

passed : (b : Bool) (k x : ℕ) → cond b (suc k) x ≡ 0 → (b ≡ false) × (x ≡ 0)
passed true k x e = absurd (omega arith)
passed false k x e = (refl, e)

update_length : (t : Table) (p : Bits) (h : ℕ) → length (updated t (record { prefix = p; action = announce h })) ≡ suc (length (keep (λ (r : Route). not (same r.prefix p)) t))
unfolding updated with_announced
update_length t p h = refl

fits : (t : Table) (p : Bits) (h n : ℕ) → length t ≤ n → (not (held t p) && leb n (length t)) ≡ false → length (updated t (record { prefix = p; action = announce h })) ≤ n
unfolding held
fits t p h n l e = rw update_length (go (held t p) refl e)
  where
    f : Route → Bool
    f r = not (same r.prefix p)

    go : (b : Bool) → held t p ≡ b → (not b && leb n (length t)) ≡ false → suc (length (keep f t)) ≤ n
    go true k e = let r = any_in (λ (r : Route). same r.prefix p) t k in omega (arith, keep_lt f r.1 (rw r.2 refl))
    go false k e = omega (arith, leb-false n (length t) e, keep_length f t)

pub accepted_allowed : (L : Limits) (t : Table) (a : Bits) (n : ℕ) (act : Action) → length t ≤ L.routes → refusal L t n (take n a) act ≡ 0 → Allowed L t (record { prefix = take n a; action = act })
unfolding refusal updated with_announced
accepted_allowed L t a n (announce h) l e =
    let x = passed (ltb L.width n) 0 _ e in
    let y = passed (eqb h 0 || ltb 65535 h) 1 _ x.1 in
    let z = passed (not (held t (take n a)) && leb L.routes (length t)) 2 _ y.1 in
    let w = or_false (eqb h 0) _ y.0 in
    record {
      short = simp length-take (omega (arith, ltb-false L.width n x.0));
      hop = λ k f. let g : h ≡ k = cc in (rw (← g) (pos h (eqb-false h 0 w.0)), rw (← g) (ltb-false 65535 h w.1));
      fits = fits t (take n a) h L.routes l z.0;
    }
  where
    pos : (h : ℕ) → (h ≡ 0 → ⊥) → 0 < h
    pos h f = omega arith
accepted_allowed L t a n withdraw l e =
    let x = passed (ltb L.width n) 0 _ e in
    record {
      short = simp length-take (omega (arith, ltb-false L.width n x.0));
      hop = λ k f. let z : ◌≡◌ {A = ℕ} 0 1 = cc in absurd (omega arith);
      fits = gone;
    }
  where
    gone : length (updated t (record { prefix = take n a; action = withdraw })) ≤ L.routes
    gone = omega (arith, keep_length (λ (r : Route). not (same r.prefix (take n a))) t)

-- ---- runs

pub legal_step : (L : Limits) (s : State) (x : Call) → Full L x → LegalState L s → LegalState L (step L s x).state
unfolding step looked judged accepted
legal_step L s (look X) f S = legal_lookup S X f
legal_step L s (update a n act) f S = go (refusal L s.table n (take n a) act) refl
  where
    go : (k : ℕ) → refusal L s.table n (take n a) act ≡ k → LegalState L (judged s (record { prefix = take n a; action = act }) k).state
    go zero e = legal_updated (record { prefix = take n a; action = act }) (accepted_allowed L s.table a n act S.routes_fit e) S
    go (suc k) e = S

pub legal_after : (L : Limits) (s : State) {l : List Call} → AllFull L l → LegalState L s → LegalState L (after L s l)
unfolding after
legal_after L s no_calls S = S
legal_after L s (and_calls {x = x} f fs) S = legal_after L (step L s x).state fs (legal_step L s x f S)

pub legal_run : (L : Limits) {l : List Call} → AllFull L l → LegalState L (after L empty l)
unfolding empty
legal_run L fs = legal_after L empty fs (legal_empty L)
