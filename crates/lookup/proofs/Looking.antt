-- A lookup: what it found says what the model does. Assumes nothing.
use mathlib.Core.Path.{◌≡◌, refl, sym, ap, ap₂, ◌∙◌}
use mathlib.Core.Bool.{Bool, true, false}
use mathlib.Core.List.{List, ◌∷◌}
use mathlib.Core.Option.{Option, none, some}
use Prim.Native.Nat.{ℕ, suc, max, ◌-◌, ◌≤◌, ◌<◌}
use native.Mathlib.Decide.{ℕ_discrete}
use native.Mathlib.Omega.{arith}
use lib.ListN.{length, take}
use Rattle.sizes.specs.Sizes.{cache_need}
use Rattle.sizes.specs.BothStores.{Fixed, limit_of}
use Rattle.prefix.specs.Bits.{bits}
use Rattle.prefix.specs.Prefix.{contains}
use Rattle.prefix.specs.Addresses.{address_bits, ipv4_bits}
use Rattle.prefix.specs.declared.Address.{Address}
use Rattle.prefix.proofs.Booleans.{clash}
use Rattle.prefix.proofs.Tests.{contains_⊑, apart_not}
use Rattle.prefix.proofs.AddressLaws.{length_ipv4}
use Rattle.tallies.specs.Counting.{after_drop}
use Rattle.tallies.specs.declared.Tallies.{Tallies}
use Rattle.model.specs.Lists.{◌∈◌, first}
use Rattle.model.specs.Routes.{Route, match}
use Rattle.model.specs.Model as model
use Rattle.model.specs.Model.{Entry, Cache, new_length, new_prefix, lookup, look_cache, look_table}
use Rattle.model.specs.Nodes.{examined}
use Rattle.model.specs.Runs.{tallied, looked, step}
use Rattle.model.specs.Demands.{Storable}
use Rattle.model.proofs.ListLaws.{first_in}
use Rattle.model.proofs.Match.{match_longest, new_≤, stored_storable}
use Rattle.model.proofs.Descent.{new_split}
use Rattle.model.proofs.Legal.{legal_lookup}
use Rattle.lru_cache.specs.Sound as lru
use Rattle.lru_cache.proofs.Shape.{no_overlap}
use Rattle.lru_cache.proofs.Holding.{first_entry, omit_entry}
use Rattle.slots.specs.Layout.{entries_held, cache_of}
use Rattle.std.specs.Prelude.{Result, Ok, Some, None, IfOk}
use Rattle.sizes.specs.declared.refusal.Unsound.{Unsound}
use Rattle.table.specs.Tables.{routes, SoundTable}
use Rattle.search.specs.Matches.{found_for, Matched}
use Rattle.search.specs.declared.Answer as search
use Rattle.search.specs.declared.Match.{Match}
use Rattle.entries.specs.Caches.{entries, Slot, entry_in, others_in, Free, SoundEntries, NearestTo, Holds}
use Rattle.entries.specs.declared.find.Absent.{Absent}
use Rattle.pairs.specs.Pairs.{SoundPair}
use Rattle.lookup.specs.Promises.{said, tallies_in, ClearedIn, LookedUp}
use Rattle.lookup.specs.Lookups.{Missed, LookedAt, Used, Stored}
use Rattle.lookup.specs.declared.Answer.TheVariants as answers
use Rattle.lookup.specs.declared.Looked.{Looked}
use Rattle.pairs.proofs.Pairing.{legal_pair, routes_short, routes_hops, short_entries}

-- ---- what the model does

none_first : (f : Entry → Bool) (c : Cache) → ((E : Entry) → E ∈ c → f E ≡ false) → first f c ≡ none
none_first f c h = go (first f c) refl
  where
    go : (o : Option Entry) → first f c ≡ o → first f c ≡ none
    go none e = e
    go (some x) e = let k = first_in f c e in absurd (clash k.1 (h x k.0))

-- the outcome is the model's if the answer, the tallies and the entries are
finish : {table cache cache' : List ℕ} {tallies : Tallies} (x : Address) {r : Result Looked Unsound} (l : model.Looked) → SoundPair table cache
    → lookup (routes table) (entries cache) (limit_of cache) (ipv4_bits x) ≡ l
    → said r ≡ l.answer → IfOk r (λ a. ClearedIn a.answer) → tallies_in tallies r ≡ tallied tallies l.answer l.evicted → Holds cache' l.cache → Fixed cache_need cache cache'
    → LookedAt table cache cache' tallies (ipv4_bits x) r
unfolding step looked
finish {table} {cache} {cache'} {tallies} x {r} l S z a b t h k = record {
  answer = a ∙ ap (λ (q : model.Looked). q.answer) (sym z);
  cleared = b;
  state = record {
    are_routes = record { to = λ R m. m; from = λ R m. m };
    are_entries = same;
    are_tallies = t ∙ ap (λ (q : model.Looked). tallied tallies q.answer q.evicted) (sym z);
  };
  sound = record { its_table = S.its_table; its_cache = h.sound; covered = rw same (legal_lookup (legal_pair S) (ipv4_bits x) (length_ipv4 x)).covered };
  kept = k;
}
  where
    same : entries cache' ≡ (lookup (routes table) (entries cache) (limit_of cache) (ipv4_bits x)).cache
    same = h.are_entries ∙ ap (λ (q : model.Looked). q.cache) (sym z)

-- ---- a miss

found_none : (o : Option Route) → None ≡ found_for o → o ≡ none
found_none none e = refl
found_none (some M) e = let z : ◌≡◌ {A = ℕ} 0 1 = cc in absurd (omega arith)

found_some : (o : Option Route) (f : Match) → Some f ≡ found_for o → (M : Route) × (o ≡ some M) × (f.hop ≡ M.hop)
found_some none f e = let z : ◌≡◌ {A = ℕ} 0 1 = cc in absurd (omega arith)
found_some (some M) f e = (M, refl, cc)

module _ (table cache : List ℕ) (x : Address) (s : search.Answer) (m : SoundTable table → Matched table (ipv4_bits x) s) where
  none_hit : {past : ℕ} → Missed cache (ipv4_bits x) past → first (λ E. contains E.prefix (ipv4_bits x)) (entries cache) ≡ none
  none_hit M = none_first (λ E. contains E.prefix (ipv4_bits x)) (entries cache) M.none_cached

  pub dropped : s.found ≡ None → (past : ℕ) (t u : Tallies) → u ≡ after_drop t → SoundPair table cache → Missed cache (ipv4_bits x) past
      → LookedAt table cache cache t (ipv4_bits x) (Ok (record { answer = answers.Drop s.examined; tallies = u }))
  unfolding lookup look_cache look_table
  dropped e past t u f S M =
      let none-matches = found_none (match (routes table) (ipv4_bits x)) (sym e ∙ (m S.its_table).is_match) in
      finish x (record { answer = model.drop (examined (routes table) (ipv4_bits x)); cache = entries cache; evicted = 0 }) S
      (rw (none_hit M, none-matches)) (ap model.drop (m S.its_table).count) tt f (record { sound = S.its_cache; are_entries = refl }) (refl, refl)

  module _ (f : Match) (e : s.found ≡ Some f) where
    route : SoundPair table cache → (M : Route) × (match (routes table) (ipv4_bits x) ≡ some M) × (f.hop ≡ M.hop)
    route S = found_some (match (routes table) (ipv4_bits x)) f (sym e ∙ (m S.its_table).is_match)

    pub bad_hop : 65535 < f.hop → (past : ℕ) {cache' : List ℕ} {t : Tallies} {r : Result Looked Unsound} → SoundPair table cache → Missed cache (ipv4_bits x) past → LookedAt table cache cache' t (ipv4_bits x) r
    bad_hop l past S M = let r = route S in absurd (omega (arith, r.2, routes_hops S.its_table r.0 (match_longest (routes table) (ipv4_bits x) r.1).is_route))

    module _ (past n : ℕ) (en : n ≡ max s.least past) where
      is_new : (S : SoundPair table cache) → Missed cache (ipv4_bits x) past → (M : Route) → match (routes table) (ipv4_bits x) ≡ some M → n ≡ new_length (routes table) (entries cache) (ipv4_bits x) M
      is_new S N M f = en ∙ ap₂ max ((m S.its_table).least M f) N.nearest ∙ sym (new_split (routes table) (entries cache) (ipv4_bits x) M)

      facts : SoundPair table cache → Missed cache (ipv4_bits x) past → (M : Route) → match (routes table) (ipv4_bits x) ≡ some M
          → (new_length (routes table) (entries cache) (ipv4_bits x) M ≤ 32) × Storable (routes table) (entries cache) (ipv4_bits x) M (new_prefix (routes table) (entries cache) (ipv4_bits x) M)
      facts S N M f =
          let l = match_longest (routes table) (ipv4_bits x) f in (
            rw (length_ipv4 x) at (new_≤ (routes table) (entries cache) (ipv4_bits x) M l N.none_cached (rw (length_ipv4 x) (routes_short table)) (rw (length_ipv4 x) (short_entries S.its_cache))),
            stored_storable (routes table) (entries cache) (ipv4_bits x) M l N.none_cached (rw (length_ipv4 x) (routes_short table)) (rw (length_ipv4 x) (short_entries S.its_cache)),
          )

      pub too_long : 32 < n → {cache' : List ℕ} {t : Tallies} {r : Result Looked Unsound} → SoundPair table cache → Missed cache (ipv4_bits x) past → LookedAt table cache cache' t (ipv4_bits x) r
      too_long l S N = let r = route S in absurd (omega (arith, is_new S N r.0 r.1, (facts S N r.0 r.1).0))

      pub missed : (cache' : List ℕ) (t : Tallies) (r : Result Looked Unsound) → (SoundEntries cache → Free cache (take n (ipv4_bits x)) → Stored cache cache' (ipv4_bits x) n f.hop s.examined t r)
          → SoundPair table cache → Missed cache (ipv4_bits x) past → LookedAt table cache cache' t (ipv4_bits x) r
      unfolding lookup look_cache look_table
      missed cache' t r put S N = go (route S)
        where
          go : (M : Route) × (match (routes table) (ipv4_bits x) ≡ some M) × (f.hop ≡ M.hop) → LookedAt table cache cache' t (ipv4_bits x) r
          go (M, m_is, g) =
              let z = is_new S N M m_is in
              let q = put S.its_cache (rw z (facts S N M m_is).1.overlaps_nothing) in
              finish x (record {
                answer = model.miss f.hop (take n (ipv4_bits x)) s.examined;
                cache = take (limit_of cache) (record { prefix = take n (ipv4_bits x); hop = f.hop } ∷ entries cache);
                evicted = suc (length (entries cache)) - limit_of cache;
              }) S (rw (none_hit N, m_is, z, g, (m S.its_table).count)) q.answer q.cleared q.counted q.holds q.kept

-- ---- the header

-- ---- the whole

-- the address is that of x
of_address : {table cache cache' : List ℕ} {t : Tallies} {r : Result Looked Unsound} (x : Address) (address : ℕ) → take 32 (address_bits x) ≡ bits 32 address
    → LookedAt table cache cache' t (ipv4_bits x) r → LookedUp table cache cache' t address r
of_address x address e L = record { answer = rw (← e) L.answer; cleared = L.cleared; state = rw (← e) L.state; sound = L.sound; kept = L.kept }

module _ (cache : List ℕ) (x : Address) (near : Result ℕ Absent) (found : NearestTo cache (ipv4_bits x) near) where
  pub hit_slot : (k : ℕ) → near ≡ Ok k → Slot cache k
  hit_slot k e = (rw e at found).0

  pub looked_hit : (k address : ℕ) → near ≡ Ok k → take 32 (address_bits x) ≡ bits 32 address
      → (cache' : List ℕ) (t : Tallies) (r : Looked) → Used cache cache' k t r → (table : List ℕ) → SoundPair table cache → LookedUp table cache cache' t address (Ok r)
  unfolding lookup look_cache entries
  looked_hit k address e ea cache' t r u table S =
      of_address x address ea
      (finish x (record { answer = model.hit (entry_in cache k).hop; cache = entry_in cache k ∷ others_in cache k; evicted = 0 }) S
      (rw (first_entry C test k slot yes_k only, omit_entry C test k slot yes_k only))
      (rw u.says) (rw u.says tt) (rw u.says) (u.holds S.its_cache) u.kept)
    where
      C : lru.SoundCache (entries_held cache) (cache_of cache)
      C = S.its_cache.slots

      test : Entry → Bool
      test E = contains E.prefix (ipv4_bits x)

      slot : Slot cache k
      slot = hit_slot k e

      yes_k : test (entry_in cache k) ≡ true
      yes_k = (rw e at found).1 S.its_cache

      only : (i : ℕ) → Slot cache i → test (entry_in cache i) ≡ true → i ≡ k
      only i h y = go (ℕ_discrete i k)
        where
          go : Dec (i ≡ k) → i ≡ k
          go (yes z) = z
          go (no n) = absurd (apart_not (no_overlap C i k h slot n) (contains_⊑ _ (ipv4_bits x) y) (contains_⊑ _ (ipv4_bits x) yes_k))
