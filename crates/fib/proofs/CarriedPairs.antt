-- "Sound pairs carry every set of routes within its limit, with every set of entries within its limit that don't overlap, have a
-- covering route, hold no route strictly inside and carry their match's hop, in every order of use; they carry nothing else." The
-- stores are made of 32-bit words and of any size that is enough. Assumes nothing.
use mathlib.Core.Path.{◌≡◌, ◌∙◌, subst}
use mathlib.Core.List.{List}
use mathlib.Core.Logic.{◌↔◌}
use Prim.Native.Nat.{ℕ, ◌≤◌}
use native.Mathlib.Omega.{arith}
use lib.ListN.{length}
use Rattle.sizes.specs.Sizes.{LegalLimit, table_need, cache_need}
use Rattle.model.specs.Lists.{◌∈◌}
use Rattle.model.specs.Routes.{Table}
use Rattle.model.specs.Model.{Entry, Cache, Limits}
use Rattle.model.specs.Demands.{Distinct, Legal, Covered, SameRoutes}
use Rattle.model.proofs.Match.{one_each, match_longest}
use Rattle.model.proofs.SameRoutes.{flip, match_same, length_same}
use Rattle.table.specs.Tables.{routes}
use Rattle.entries.specs.Caches.{entries}
use Rattle.pairs.specs.Pairs.{SoundPair, limits_of}
use Rattle.pairs.proofs.Pairing.{legal_pair}
use Rattle.fib.proofs.Writing.{Words}
use Rattle.fib.proofs.WrittenTables.{CarriedTable, carried_table}
use Rattle.fib.proofs.WrittenCaches.{CarriedCache, carried_cache}

-- the stores, of so many words each
pub record CarriedPair (table-words cache-words : ℕ) (limits : Limits) (table : Table) (cache : Cache) : Type 0 where
  pub table_store : List ℕ
  pub cache_store : List ℕ
  pub table_size : length table_store ≡ table-words
  pub cache_size : length cache_store ≡ cache-words
  pub table_fits : Words table_store
  pub cache_fits : Words cache_store
  pub sound : SoundPair table_store cache_store
  pub its_limits : limits_of table_store cache_store ≡ limits
  pub are_routes : SameRoutes (routes table_store) table
  pub are_entries : entries cache_store ≡ cache

module _ {limits : Limits} {table : Table} {cache : Cache} (L : Legal limits table cache) where
  hop_low : (E : Entry) → E ∈ cache → E.hop ≤ 65535
  hop_low E m =
      let K = L.covered E m in
      let h = L.routes_hops K.cover (match_longest table E.prefix K.is_match).is_route in
      omega (arith, h.1, K.its_hop)

  covered_same : (t : Table) → SameRoutes t table → (E : Entry) → E ∈ cache → Covered t E
  covered_same t S E m =
      let K = L.covered E m in
      record {
        cover = K.cover;
        is_match = match_same t table E.prefix (one_each L.distinct) S ∙ K.is_match;
        its_hop = K.its_hop;
        none_inside = λ R i. K.none_inside R (S.to R i);
      }

  -- in stores of any size that is enough for the limits
  pub carried_pair : (m n : ℕ) → limits.width ≡ 32 → LegalLimit limits.routes → LegalLimit limits.entries → table_need limits.routes ≤ m → cache_need limits.entries ≤ n → CarriedPair m n limits table cache
  carried_pair m n wide many most table-enough cache-enough =
      go
      (carried_table m limits.routes table many table-enough L.distinct (λ R i. omega (arith, wide, L.routes_short R i)) L.routes_hops L.routes_fit)
      (carried_cache n limits.entries cache most cache-enough L.no_overlap (λ E i. omega (arith, wide, L.entries_short E i)) hop_low L.entries_fit)
    where
      go : CarriedTable m limits.routes table → CarriedCache n limits.entries cache → CarriedPair m n limits table cache
      go T C = record {
        table_store = T.store;
        cache_store = C.store;
        table_size = T.its_size;
        cache_size = C.its_size;
        table_fits = T.are_words;
        cache_fits = C.are_words;
        sound = record {
          its_table = T.sound;
          its_cache = C.sound;
          covered = λ E i. covered_same (routes T.store) T.same E (subst (λ (l : Cache). E ∈ l) C.same i);
        };
        its_limits = rw (T.its_limit, C.its_limit, wide);
        are_routes = T.same;
        are_entries = C.same;
      }

-- ---- "they carry nothing else"

module _ {m n : ℕ} {limits : Limits} {table : Table} {cache : Cache} (d : Distinct table) (P : CarriedPair m n limits table cache) where
  held : Legal limits (routes P.table_store) cache
  held = subst (λ (c : Cache). Legal limits (routes P.table_store) c) P.are_entries (subst (λ (l : Limits). Legal l (routes P.table_store) (entries P.cache_store)) P.its_limits (legal_pair P.sound))

  pub carried_legal : Legal limits table cache
  carried_legal = record {
    distinct = d;
    routes_short = λ R i. held.routes_short R (P.are_routes.from R i);
    routes_hops = λ R i. held.routes_hops R (P.are_routes.from R i);
    routes_fit = omega (arith, held.routes_fit, length_same (routes P.table_store) table held.distinct d P.are_routes);
    no_overlap = held.no_overlap;
    entries_short = held.entries_short;
    covered = covered_same held table (flip P.are_routes);
    entries_fit = held.entries_fit;
  }

pub carried_exactly : (m n : ℕ) (limits : Limits) (table : Table) (cache : Cache) → Distinct table → limits.width ≡ 32
    → LegalLimit limits.routes → LegalLimit limits.entries → table_need limits.routes ≤ m → cache_need limits.entries ≤ n
    → CarriedPair m n limits table cache ↔ Legal limits table cache
carried_exactly m n limits table cache d wide many most table-enough cache-enough =
    (λ P. carried_legal d P, λ L. carried_pair L m n wide many most table-enough cache-enough)
