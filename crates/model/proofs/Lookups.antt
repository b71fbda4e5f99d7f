-- A lookup does what demand 2 asks, and nothing else does. Assumes nothing.
use mathlib.Core.Bool.{Bool, false, true}
use mathlib.Core.List.{[], ◌++◌, ◌∷◌}
use mathlib.Core.Logic.{◌↔◌, ◌⊎◌, inl, inr}
use mathlib.Core.Option.{Option, none, some}
use mathlib.Core.Path.{◌∙◌, ◌≡◌, ap, refl, sym}
use Prim.Native.Nat.{◌-◌, ◌<◌, ◌≤◌, suc, ℕ}
use native.Mathlib.Decide.{dec_le, dec_lt}
use native.Mathlib.Omega.{arith}
use lib.ListN.{length, length-append, take}
use lib.Seq.{take_all, take-append_seam}
use Rattle.prefix.specs.Bits.{Bits}
use Rattle.prefix.specs.Prefix.{◌⊑◌, contains}
use Rattle.prefix.proofs.Booleans.{clash, is_false}
use Rattle.prefix.proofs.Order.{⊑_eq, ⊑_of_eq, ⊑_total, ⊑_trans}
use Rattle.prefix.proofs.Tests.{apart_not, contains_⊑, ⊑_contains, ⊑_strict}
use Rattle.model.specs.Demands.{Cached, Covered, Distinct, GivesWay, Legal, Longest, LookupOutcome, NoLonger, NoOverlap, NoneCached, Shortest, has_room, is_drop, is_full, is_hit, is_miss}
use Rattle.model.specs.Lists.{◌∈◌, any, first, omit}
use Rattle.model.specs.Model.{Cache, Entry, Limits, Looked, hit, hop_of, look_cache, look_table, lookup, new_prefix, values}
use Rattle.model.specs.Routes.{Route, Table, match}
use Rattle.model.proofs.ListLaws.{any_in, before_apart, first_in, first_none, first_split, in_any, passing_first}
use Rattle.model.proofs.Match.{longest_match, match_agree, match_longest, match_none, no_match, one_each, one_shortest, stored_shortest, stored_storable}

-- ---- the hop

-- an address in an entry has the entry's match
pub entry_match : {t : Table} {e : Entry} → Distinct t → (E : Covered t e) (X : Bits) → contains e.prefix X ≡ true → match t X ≡ some E.cover
entry_match {t} {e} d E X h =
    match_agree t t X e.prefix (one_each d)
    (λ r m k. (m, ⊑_contains (up r m (⊑_total (contains_⊑ r.prefix X k) eX))))
    (λ r m k. (m, ⊑_contains (⊑_trans (contains_⊑ r.prefix e.prefix k) eX)))
    ∙ E.is_match
  where
    eX : e.prefix ⊑ X
    eX = contains_⊑ e.prefix X h

    eq : {p q : Bits} → p ⊑ q → Dec (length q ≤ length p) → (length p < length q → ⊥) → q ⊑ p
    eq p (yes l) n = ⊑_of_eq (sym (⊑_eq p l))
    eq p (no l) n = absurd (n (omega arith))

    up : (r : Route) → r ∈ t → (r.prefix ⊑ e.prefix) ⊎ (e.prefix ⊑ r.prefix) → r.prefix ⊑ e.prefix
    up r m (inl k) = k
    up r m (inr k) = eq k (dec_le _ _) (λ l. clash (⊑_strict k l) (E.none_inside r m))

-- the hop of the longest match, on a hit too; 0 when none matches
pub hop_of_match : {L : Limits} {t : Table} {c : Cache} → Legal L t c → (limit : ℕ) (X : Bits) → (values (lookup t c limit X).answer).hop ≡ hop_of (match t X)
unfolding lookup look_cache look_table values hop_of
hop_of_match {t} {c} S limit X = on_cache (first f c) refl
  where
    f : Entry → Bool
    f e = contains e.prefix X

    on_table : (o : Option Route) → (values (look_table t c limit X o).answer).hop ≡ hop_of o
    on_table none = refl
    on_table (some M) = refl

    on_cache : (o : Option Entry) → first f c ≡ o → (values (look_cache t c limit X o).answer).hop ≡ hop_of (match t X)
    on_cache none h = on_table (match t X)
    on_cache (some e) h =
        let k = first_in f c h in
        let E = S.covered e k.0 in
        E.its_hop ∙ sym (ap hop_of (entry_match S.distinct E X k.1))

-- a hit exactly when a cached prefix contains the address
pub hit_exactly : (t : Table) (c : Cache) (limit : ℕ) (X : Bits) → ((hop : ℕ) × ((lookup t c limit X).answer ≡ hit hop)) ↔ (any (λ e. contains e.prefix X) c ≡ true)
unfolding lookup look_cache look_table
hit_exactly t c limit X = (λ h. on_cache (first f c) refl h.0 h.1, λ h. found h (first f c) refl)
  where
    f : Entry → Bool
    f e = contains e.prefix X

    on_table : (o : Option Route) (hop : ℕ) → (look_table t c limit X o).answer ≡ hit hop → ⊥
    on_table none hop e = let z : ◌≡◌ {A = ℕ} 0 1 = cc in omega arith
    on_table (some M) hop e = let z : ◌≡◌ {A = ℕ} 0 1 = cc in omega arith

    on_cache : (o : Option Entry) → first f c ≡ o → (hop : ℕ) → (look_cache t c limit X o).answer ≡ hit hop → any f c ≡ true
    on_cache none h hop e = absurd (on_table (match t X) hop e)
    on_cache (some d) h hop e = let k = first_in f c h in in_any f k.0 k.1

    found : any f c ≡ true → (o : Option Entry) → first f c ≡ o → (hop : ℕ) × ((look_cache t c limit X o).answer ≡ hit hop)
    found h none e = let r = any_in f c h in absurd (clash r.2 (first_none f e r.1))
    found h (some d) e = (d.hop, refl)

-- ---- what gives way

last_split : (c : Cache) → 0 < length c → (kept : Cache) × (oldest : Entry) × (c ≡ kept ++ (oldest ∷ []))
last_split [] h = absurd (omega arith)
last_split (e ∷ []) h = ([], e, refl)
last_split (e ∷ d ∷ c) h = let r = last_split (d ∷ c) (omega arith) in (e ∷ r.0, r.1, ap (λ (l : Cache). e ∷ l) r.2)

gives_way : (limit : ℕ) (e : Entry) (c : Cache) → 0 < limit → length c ≤ limit
    → (kept : Cache) × (take limit (e ∷ c) ≡ e ∷ kept) × GivesWay limit c kept (suc (length c) - limit)
gives_way limit e c p l = go (dec_lt (length c) limit)
  where
    full : (kept : Cache) (oldest : Entry) → c ≡ kept ++ (oldest ∷ []) → length c ≡ limit → take limit (e ∷ c) ≡ e ∷ kept
    full kept oldest z h =
        let n : limit ≡ suc (length kept) = omega (arith, ap length z, length-append kept (oldest ∷ [])) in
        rw (n, z) (ap (λ (l : Cache). e ∷ l) (take-append_seam kept (oldest ∷ [])))

    without_room : length c ≡ limit → (kept : Cache) × (oldest : Entry) × (c ≡ kept ++ (oldest ∷ [])) → (kept : Cache) × (take limit (e ∷ c) ≡ e ∷ kept) × GivesWay limit c kept (suc (length c) - limit)
    without_room n (kept, oldest, z) = let one : suc (length c) - limit ≡ 1 = omega arith in (kept, full kept oldest z n, rw one (is_full n oldest z))

    go : Dec (length c < limit) → (kept : Cache) × (take limit (e ∷ c) ≡ e ∷ kept) × GivesWay limit c kept (suc (length c) - limit)
    go (yes h) = let z : suc (length c) - limit ≡ 0 = omega arith in (c, take_all limit (e ∷ c) h, rw z (has_room h))
    go (no h) = without_room (omega arith) (last_split c (omega arith))

-- and only so
gave_way : (limit : ℕ) (e : Entry) {c kept : Cache} {evicted : ℕ} → GivesWay limit c kept evicted → (e ∷ kept ≡ take limit (e ∷ c)) × (evicted ≡ suc (length c) - limit)
gave_way limit e {c} (has_room h) = (sym (take_all limit (e ∷ c) h), omega arith)
gave_way limit e {c} {kept} (is_full h oldest z) =
    let n : limit ≡ suc (length kept) = omega (arith, ap length z, length-append kept (oldest ∷ [])) in
    (rw (n, z) (ap (λ (l : Cache). e ∷ l) (sym (take-append_seam kept (oldest ∷ [])))), omega arith)

-- ---- the outcome

none_first : (f : Entry → Bool) (c : Cache) → ((e : Entry) → e ∈ c → f e ≡ false) → first f c ≡ none
none_first f c h = go (first f c) refl
  where
    go : (o : Option Entry) → first f c ≡ o → first f c ≡ none
    go none e = e
    go (some x) e = let k = first_in f c e in absurd (clash k.1 (h x k.0))

-- the entry that contains the address is the first that does, wherever it stands
cached_first : {X : Bits} {c : Cache} {e : Entry} → NoOverlap c → (C : Cached c X e) → (first (λ d. contains d.prefix X) c ≡ some e) × (omit (λ d. contains d.prefix X) c ≡ C.newer ++ C.older)
cached_first {X} {c} {e} P C = rw C.stands (go C.newer (rw C.stands at P))
  where
    f : Entry → Bool
    f d = contains d.prefix X

    go : (a : Cache) → NoOverlap (a ++ (e ∷ C.older)) → (first f (a ++ (e ∷ C.older)) ≡ some e) × (omit f (a ++ (e ∷ C.older)) ≡ a ++ C.older)
    go a P = passing_first f a e C.older C.contains_address (λ d m. is_false (λ k. apart_not (before_apart a e C.older P d m) (contains_⊑ d.prefix X k) (contains_⊑ e.prefix X C.contains_address)))

module _ {L : Limits} {t : Table} {c : Cache} (S : Legal L t c) (X : Bits) (full : length X ≡ L.width) where
  f : Entry → Bool
  f e = contains e.prefix X

  ts : NoLonger (length X) t
  ts r m = rw full (S.routes_short r m)

  cs : NoLonger (length X) c
  cs r m = rw full (S.entries_short r m)

  -- the first n bits of the address are the shortest prefix that may be stored
  pub stored_is_shortest : (M : Route) → Longest t X M → NoneCached c X → Shortest t c X M (new_prefix t c X M)
  stored_is_shortest M l n = record { storable = stored_storable t c X M l n ts cs; shortest = stored_shortest t c X M l n ts cs }

  pub lookup_outcome : 0 < L.entries → LookupOutcome t c L.entries X (lookup t c L.entries X)
  unfolding lookup look_cache look_table f
  lookup_outcome room = on_cache (first f c) refl
    where
      on_table : first f c ≡ none → (o : Option Route) → match t X ≡ o → LookupOutcome t c L.entries X (look_table t c L.entries X o)
      on_table h none e = is_drop (λ d m. first_none f h m) (match_none t X e) refl
      on_table h (some M) e =
          let l = match_longest t X e in
          let g = gives_way L.entries (record { prefix = new_prefix t c X M; hop = M.hop }) c room S.entries_fit in
          is_miss M (new_prefix t c X M) (λ d m. first_none f h m) l (stored_is_shortest M l (λ d m. first_none f h m)) g.2 (rw g.1 refl)

      on_cache : (o : Option Entry) → first f c ≡ o → LookupOutcome t c L.entries X (look_cache t c L.entries X o)
      on_cache none h = on_table h (match t X) refl
      on_cache (some e) h =
          let k = first_in f c h in
          let E = S.covered e k.0 in
          let r = first_split f c h in
          is_hit e E.cover (record { newer = r.before; older = r.behind; stands = r.stands; contains_address = k.1 })
          (match_longest t X (entry_match S.distinct E X k.1)) E.its_hop (rw r.rest refl)

  -- and there is no other outcome
  pub only_outcome : {r : Looked} → LookupOutcome t c L.entries X r → r ≡ lookup t c L.entries X
  unfolding lookup look_cache look_table f
  only_outcome (is_hit e M C l h z) = let k = cached_first S.no_overlap C in z ∙ rw (k.0, k.1)
  only_outcome (is_miss M p n l s g z) =
      let e = longest_match t X (one_each S.distinct) l in
      let k = stored_is_shortest M l n in
      let q : p ≡ new_prefix t c X M = one_shortest t c X M s k in
      let w = gave_way L.entries (record { prefix = p; hop = M.hop }) g in
      z ∙ rw (none_first f c n, e, w.0, w.1, q)
  only_outcome (is_drop n m z) = z ∙ rw (none_first f c n, no_match t X m)
