-- The match is the longest match, and the prefix that a miss stores is the shortest that may be stored. Assumes nothing.
use mathlib.Core.Bool.{false, not, true}
use mathlib.Core.List.Memᴰ
use mathlib.Core.List.{List, ◌++◌, map}
use mathlib.Core.Logic.{◌⊎◌, inl, inr}
use mathlib.Core.Option.{Option, none, some}
use mathlib.Core.Path.{◌∙◌, ◌≡◌, ap, refl, sym}
use Prim.Native.Nat.{◌<◌, ◌≤◌, suc, ℕ}
use native.Mathlib.Decide.{dec_le}
use native.Mathlib.Omega.{arith}
use lib.ListN.{length}
use Rattle.prefix.specs.Bits.{Bits}
use Rattle.prefix.specs.Prefix.{◌⊑◌, common, contains}
use Rattle.prefix.proofs.Booleans.{clash, either, is_false, not_false}
use Rattle.prefix.proofs.Common.{common_lt, common_⊑, le_common}
use Rattle.prefix.proofs.Order.{take_len, take_⊑, ⊑_by_length, ⊑_eq, ⊑_length, ⊑_of_eq, ⊑_refl, ⊑_total, ⊑_trans}
use Rattle.prefix.proofs.Tests.{apart_⊑, contains_⊑, not_⊑, strict_⊑, ⊑_apart, ⊑_contains, ⊑_not}
use Rattle.model.specs.Demands.{Covered, Distinct, Longest, NoLonger, Shortest, Storable}
use Rattle.model.specs.Lists.{◌∈◌, keep}
use Rattle.model.specs.Model.{Cache, Entry, new_length, new_prefix}
use Rattle.model.specs.Routes.{Route, Table, match}
use Rattle.model.proofs.ListLaws.{biggest_is, biggest_none, in_keep, in_map, keep_in, largest_in, le_largest, map_in, pair_cases}

-- ---- the match is the longest match, and there is only one

-- routes are told apart by their prefixes
abbrev pub OneEach : Table → Type 0
OneEach t = (r s : Route) → r ∈ t → s ∈ t → r.prefix ≡ s.prefix → r ≡ s

pub one_each : {t : Table} → Distinct t → OneEach t
one_each d r s m n e = go (pair_cases (λ (x y : Route) (k : ¬ (x.prefix ≡ y.prefix)). λ (h : y.prefix ≡ x.prefix). k (sym h)) d m n)
  where
    go : (r ≡ s) ⊎ (¬ (r.prefix ≡ s.prefix)) → r ≡ s
    go (inl z) = z
    go (inr k) = absurd (k e)

pub match_longest : (t : Table) (X : Bits) {M : Route} → match t X ≡ some M → Longest t X M
unfolding match
match_longest t X {M} e =
    let b = biggest_is (λ (r : Route). length r.prefix) (keep (λ (r : Route). contains r.prefix X) t) e in
    let k = keep_in (λ (r : Route). contains r.prefix X) t b.is_in in
    record { is_route = k.0; covers = k.1; longest = λ r m h. b.most r (in_keep (λ (r : Route). contains r.prefix X) m h) }

pub match_none : (t : Table) (X : Bits) → match t X ≡ none → (r : Route) → r ∈ t → contains r.prefix X ≡ false
unfolding match
match_none t X e r m = is_false (λ h. biggest_none (λ (r : Route). length r.prefix) (keep (λ (r : Route). contains r.prefix X) t) e (in_keep (λ (r : Route). contains r.prefix X) m h))

pub no_match : (t : Table) (X : Bits) → ((r : Route) → r ∈ t → contains r.prefix X ≡ false) → match t X ≡ none
no_match t X n = go (match t X) refl
  where
    go : (o : Option Route) → match t X ≡ o → match t X ≡ none
    go none e = e
    go (some M) e = let l = match_longest t X e in absurd (clash l.covers (n M l.is_route))

-- the match is decided by which routes contain the address
pub match_agree : (t u : Table) (X Y : Bits) → OneEach u
    → ((r : Route) → r ∈ t → contains r.prefix X ≡ true → (r ∈ u) × (contains r.prefix Y ≡ true))
    → ((r : Route) → r ∈ u → contains r.prefix Y ≡ true → (r ∈ t) × (contains r.prefix X ≡ true))
    → match t X ≡ match u Y
match_agree t u X Y one to from = go (match t X) (match u Y) refl refl
  where
    go : (o w : Option Route) → match t X ≡ o → match u Y ≡ w → match t X ≡ match u Y
    go none none e f = e ∙ sym f
    go none (some N) e f =
        let l = match_longest u Y f in
        let b = from N l.is_route l.covers in
        absurd (clash b.1 (match_none t X e N b.0))
    go (some M) none e f =
        let l = match_longest t X e in
        let b = to M l.is_route l.covers in
        absurd (clash b.1 (match_none u Y f M b.0))
    go (some M) (some N) e f =
        let k = match_longest t X e in
        let l = match_longest u Y f in
        let a = to M k.is_route k.covers in
        let b = from N l.is_route l.covers in
        let h = ⊑_by_length (contains_⊑ M.prefix Y a.1) (contains_⊑ N.prefix Y l.covers) (l.longest M a.0 a.1) in
        let z : M ≡ N = one M N a.0 l.is_route (⊑_eq h (k.longest N b.0 b.1)) in
        e ∙ ap some z ∙ sym f

pub longest_unique : (t : Table) (X : Bits) {M N : Route} → OneEach t → Longest t X M → Longest t X N → M ≡ N
longest_unique t X {M} {N} one k l = one M N k.is_route l.is_route (⊑_eq shorter (k.longest N l.is_route l.covers))
  where
    shorter : M.prefix ⊑ N.prefix
    shorter = ⊑_by_length (contains_⊑ M.prefix X k.covers) (contains_⊑ N.prefix X l.covers) (l.longest M k.is_route k.covers)

pub longest_match : (t : Table) (X : Bits) {M : Route} → OneEach t → Longest t X M → match t X ≡ some M
longest_match t X {M} one L = go (match t X) refl
  where
    go : (o : Option Route) → match t X ≡ o → match t X ≡ some M
    go none e = absurd (clash L.covers (match_none t X e M L.is_route))
    go (some N) e = e ∙ ap some (longest_unique t X one (match_longest t X e) L)

-- ---- the prefix that a miss stores

-- n is one of the three parts of its maximum
pub data Part (t : Table) (c : Cache) (X : Bits) (M : Route) (n : ℕ) : Type 0 where
  of_match : n ≡ length M.prefix → Part t c X M n
  of_route : (r : Route) → r ∈ t → contains r.prefix X ≡ false → n ≡ suc (common X r.prefix) → Part t c X M n
  of_entry : (e : Entry) → e ∈ c → n ≡ suc (common X e.prefix) → Part t c X M n

module _ (t : Table) (c : Cache) (X : Bits) (M : Route) where
  outs : List Route
  outs = keep (λ (r : Route). not (contains r.prefix X)) t

  past : Route → ℕ
  past r = suc (common X r.prefix)

  pub new_match : length M.prefix ≤ new_length t c X M
  unfolding new_length
  new_match = le_largest (Memᴰ.head refl)

  pub new_entry : (e : Entry) → e ∈ c → common X e.prefix < new_length t c X M
  unfolding new_length outs past
  new_entry e m = le_largest (Memᴰ.tail (Memᴰ.append_right (map past outs) (in_map past m)))

  pub new_route : (r : Route) → r ∈ t → contains r.prefix X ≡ false → common X r.prefix < new_length t c X M
  unfolding new_length outs past
  new_route r m h =
      let k : r ∈ outs = in_keep (λ (r : Route). not (contains r.prefix X)) m (rw h refl) in
      le_largest (Memᴰ.tail (Memᴰ.append_left (map past c) (in_map past k)))

  pub new_part : Part t c X M (new_length t c X M)
  unfolding new_length outs past
  new_part = go (Memᴰ.cases_cons (largest_in (length M.prefix) (map past outs ++ map past c)))
    where
      sub : {n : ℕ} → (n ∈ map past outs) ⊎ (n ∈ map past c) → Part t c X M n
      sub (inl m) =
          let a = map_in past outs m in
          let k = keep_in (λ (r : Route). not (contains r.prefix X)) t a.1 in
          of_route a.0 k.0 (not_false _ k.1) a.2
      sub (inr m) = let a = map_in past c m in of_entry a.0 a.1 a.2

      go : {n : ℕ} → (n ≡ length M.prefix) ⊎ (n ∈ map past outs ++ map past c) → Part t c X M n
      go (inl e) = of_match e
      go (inr m) = sub (Memᴰ.append_cases (map past outs) m)

  module _ (L : Longest t X M) (no_hit : (e : Entry) → e ∈ c → contains e.prefix X ≡ false) (ts : NoLonger (length X) t) (cs : NoLonger (length X) c) where
    pub new_≤ : new_length t c X M ≤ length X
    new_≤ = go new_part
      where
        go : Part t c X M (new_length t c X M) → new_length t c X M ≤ length X
        go (of_match e) = omega (arith, ⊑_length (contains_⊑ M.prefix X L.covers))
        go (of_route r m h e) = omega (arith, common_lt (not_⊑ r.prefix X h) (ts r m))
        go (of_entry d m e) = omega (arith, common_lt (not_⊑ d.prefix X (no_hit d m)) (cs d m))

    pub new_length_is : length (new_prefix t c X M) ≡ new_length t c X M
    new_length_is = take_len (new_length t c X M) X new_≤

    pub stored_storable : Storable t c X M (new_prefix t c X M)
    stored_storable = record {
      contains_address = ⊑_contains inX;
      no_shorter = omega (arith, new_match, new_length_is);
      no_longer_route = λ r m h. ⊑_not (λ k. route r m h k (either (contains r.prefix X)));
      overlaps_nothing = λ e m. ⊑_apart (λ k. omega (arith, le_common inX k, new_entry e m, new_length_is)) (λ k. not_⊑ e.prefix X (no_hit e m) (⊑_trans k inX));
    }
      where
        inX : new_prefix t c X M ⊑ X
        inX = take_⊑ (new_length t c X M) X

        route : (r : Route) → r ∈ t → length M.prefix < length r.prefix → new_prefix t c X M ⊑ r.prefix → (contains r.prefix X ≡ true) ⊎ (contains r.prefix X ≡ false) → ⊥
        route r m h k (inl e) = omega (arith, L.longest r m e)
        route r m h k (inr e) = omega (arith, le_common inX k, new_route r m e, new_length_is)

    pub stored_shortest : (q : Bits) → Storable t c X M q → length (new_prefix t c X M) ≤ length q
    stored_shortest q s = rw new_length_is (go new_part (dec_le (new_length t c X M) (length q)))
      where
        qX : q ⊑ X
        qX = contains_⊑ q X s.contains_address

        go : Part t c X M (new_length t c X M) → Dec (new_length t c X M ≤ length q) → new_length t c X M ≤ length q
        go p (yes h) = h
        go (of_match e) (no h) = omega (arith, s.no_shorter)
        go (of_route r m f e) (no h) =
            long (common_⊑ qX (omega arith)) (dec_le (length r.prefix) (length M.prefix))
          where
            long : q ⊑ r.prefix → Dec (length r.prefix ≤ length M.prefix) → new_length t c X M ≤ length q
            long k (yes l) = absurd (not_⊑ r.prefix X f (⊑_trans (⊑_of_eq (sym (⊑_eq k (omega (arith, s.no_shorter))))) qX))
            long k (no l) = absurd (not_⊑ q r.prefix (s.no_longer_route r m (omega arith)) k)
        go (of_entry d m e) (no h) =
            let k : q ⊑ d.prefix = common_⊑ qX (omega arith) in
            absurd ((apart_⊑ q d.prefix (s.overlaps_nothing d m)).0 k)

-- every address in a prefix that may be stored has the same match
module _ (t : Table) (c : Cache) (X : Bits) (M : Route) (p : Bits) (L : Longest t X M) (S : Storable t c X M p) where
  pX : p ⊑ X
  pX = contains_⊑ p X S.contains_address

  pub storable_match : OneEach t → (Y : Bits) → contains p Y ≡ true → match t Y ≡ some M
  storable_match one Y h = longest_match t Y one (record {
    is_route = L.is_route;
    covers = ⊑_contains (⊑_trans Mp pY);
    longest = λ r m k. go r m (contains_⊑ r.prefix Y k) (dec_le (length r.prefix) (length M.prefix));
  })
    where
      pY : p ⊑ Y
      pY = contains_⊑ p Y h

      Mp : M.prefix ⊑ p
      Mp = ⊑_by_length (contains_⊑ M.prefix X L.covers) pX S.no_shorter

      go : (r : Route) → r ∈ t → r.prefix ⊑ Y → Dec (length r.prefix ≤ length M.prefix) → length r.prefix ≤ length M.prefix
      go r m k (yes l) = l
      go r m k (no l) = sub (⊑_total k pY)
        where
          sub : (r.prefix ⊑ p) ⊎ (p ⊑ r.prefix) → length r.prefix ≤ length M.prefix
          sub (inl a) = L.longest r m (⊑_contains (⊑_trans a pX))
          sub (inr a) = absurd (not_⊑ p r.prefix (S.no_longer_route r m (omega arith)) a)

  pub storable_covered : OneEach t → Covered t (record { prefix = p; hop = M.hop })
  storable_covered one = record {
    cover = M;
    is_match = storable_match one p (⊑_contains (⊑_refl p));
    its_hop = refl;
    none_inside = λ r m. is_false (λ k. let l = strict_⊑ r.prefix p k in not_⊑ p r.prefix (S.no_longer_route r m (omega (arith, S.no_shorter, l.1))) l.0);
  }

-- there is only one shortest
pub one_shortest : (t : Table) (c : Cache) (X : Bits) (M : Route) {p q : Bits} → Shortest t c X M p → Shortest t c X M q → p ≡ q
one_shortest t c X M {p} {q} a b = ⊑_eq (⊑_by_length (contains_⊑ p X a.storable.contains_address) (contains_⊑ q X b.storable.contains_address) (a.shortest q b.storable)) (b.shortest p a.storable)
