-- What set-up makes of a pair: soundness "holds for fresh stores (both just set up)"; "A table set up again under a cache that holds
-- entries ends it; a cache set up again is empty." Assumes nothing.
use mathlib.Core.Path.{◌≡◌, refl, sym, subst}
use mathlib.Core.List.Memᴰ
use mathlib.Core.List.{List, [], ◌∷◌}
use mathlib.Core.Logic.{◌↔◌}
use Prim.Native.Nat.{ℕ}
use Rattle.std.specs.Prelude.{Result, Ok, Err}
use Rattle.std.proofs.lemmas.Result.{IfOk-at_ok}
use Rattle.sizes.specs.BothStores.{SetUp}
use Rattle.sizes.specs.declared.SetupError.{SetupError}
use Rattle.model.specs.Lists.{◌∈◌}
use Rattle.model.specs.Routes.{Table}
use Rattle.model.specs.Model.{Entry, Cache}
use Rattle.model.specs.Demands.{Covered}
use Rattle.model.proofs.Match.{match_longest}
use Rattle.table.specs.Tables.{routes, SoundTable, TableSetUp}
use Rattle.entries.specs.Caches.{entries, SoundEntries}
use Rattle.cache.specs.Calls.{CacheSetUp}
use Rattle.pairs.specs.Pairs.{SoundPair, limits_of}

-- what a set-up promises of each answer
module _ {need : ℕ → ℕ} {Made : List ℕ → List ℕ → ℕ → Type 0} {w w' : List ℕ} {limit : ℕ} where
  set_up_done : {r : Result (Unit {0}) SetupError} → SetUp need Made w w' limit r → r ≡ Ok tt → Made w w' limit
  set_up_done A done = IfOk-at_ok (λ _. Made w w' limit) done A.done

  set_up_refused : {r : Result (Unit {0}) SetupError} → SetUp need Made w w' limit r → ¬ (r ≡ Ok tt) → w' ≡ w
  set_up_refused {r = Ok x} A n = absurd (n refl)
  set_up_refused {r = Err e} A n = A.refused

-- a cache that holds nothing is right by every table
pub empty_cache : (t c : List ℕ) → SoundTable t → SoundEntries c → entries c ≡ [] → SoundPair t c
empty_cache t c T C e = record { its_table = T; its_cache = C; covered = λ E m. absurd (Memᴰ.not-nil (subst (λ (l : Cache). E ∈ l) e m)) }

-- without a route no entry is
none_covered : (E : Entry) → ¬ (Covered [] E)
none_covered E K = Memᴰ.not-nil (match_longest [] E.prefix K.is_match).is_route

none_cached : (l : Cache) → ((E : Entry) → E ∈ l → Covered [] E) → l ≡ []
none_cached [] h = refl
none_cached (E ∷ l) h = absurd (none_covered E (h E (Memᴰ.head refl)))

pub empty_table : (t c : List ℕ) → routes t ≡ [] → SoundPair t c → entries c ≡ []
empty_table t c e S = none_cached (entries c) (λ E m. subst (λ (l : Table). Covered l E) e (S.covered E m))

module _ (t t' : List ℕ) (limit : ℕ) (r : Result (Unit {0}) SetupError) (A : TableSetUp t t' limit r) (done : r ≡ Ok tt) where
  -- both stores set up: the pair is sound
  pub fresh_pair : (c c' : List ℕ) (most : ℕ) (q : Result (Unit {0}) SetupError) → CacheSetUp c c' most q → q ≡ Ok tt → SoundPair t' c'
  fresh_pair c c' most q B ok = let h = (set_up_done B ok).is_empty in empty_cache t' c' (set_up_done A done).is_empty.0 h.sound h.are_entries

  -- it holds nothing, within the limits that were asked for
  pub fresh_limits : (c c' : List ℕ) (most : ℕ) (q : Result (Unit {0}) SetupError) → CacheSetUp c c' most q → q ≡ Ok tt → limits_of t' c' ≡ record { width = 32; routes = limit; entries = most }
  fresh_limits c c' most q B ok = rw ((set_up_done A done).its_limit, (set_up_done B ok).its_limit)

  pub fresh_holds : (c c' : List ℕ) (most : ℕ) (q : Result (Unit {0}) SetupError) → CacheSetUp c c' most q → q ≡ Ok tt → (routes t' ≡ []) × (entries c' ≡ [])
  fresh_holds c c' most q B ok = ((set_up_done A done).is_empty.1, (set_up_done B ok).is_empty.are_entries)

  -- a table that is set up again is sound with an empty cache, and with no other
  pub table_again : (c : List ℕ) → SoundEntries c → SoundPair t' c ↔ (entries c ≡ [])
  table_again c C = (λ S. empty_table t' c (set_up_done A done).is_empty.1 S, λ e. empty_cache t' c (set_up_done A done).is_empty.0 C e)

-- a cache that is set up again is sound with every sound table
pub cache_again : (t c c' : List ℕ) (limit : ℕ) (r : Result (Unit {0}) SetupError) → SoundTable t → CacheSetUp c c' limit r → r ≡ Ok tt → SoundPair t c'
cache_again t c c' limit r T B ok = let h = (set_up_done B ok).is_empty in empty_cache t c' T h.sound h.are_entries

-- a refused set-up leaves a pair as it was
pub table_refused : (t t' c : List ℕ) (limit : ℕ) (r : Result (Unit {0}) SetupError) → TableSetUp t t' limit r → ¬ (r ≡ Ok tt) → SoundPair t c → SoundPair t' c
table_refused t t' c limit r A n S = subst (λ (w : List ℕ). SoundPair w c) (sym (set_up_refused A n)) S

pub cache_refused : (t c c' : List ℕ) (limit : ℕ) (r : Result (Unit {0}) SetupError) → CacheSetUp c c' limit r → ¬ (r ≡ Ok tt) → SoundPair t c → SoundPair t c'
cache_refused t c c' limit r B n S = subst (SoundPair t) (sym (set_up_refused B n)) S
