-- Any two outcomes that a call's contract admits agree, and each does what the demands say. Assumes nothing.
use mathlib.Core.Path.{◌≡◌, refl, sym, ap, ◌∙◌, subst}
use mathlib.Core.Bool.{Bool, true, false}
use mathlib.Core.List.{List, []}
use Prim.Native.Nat.{ℕ, zero, suc}
use native.Mathlib.Omega.{arith}
use Rattle.std.specs.Prelude.{Result, Ok, Err}
use Rattle.prefix.specs.Bits.{Bits, bits}
use Rattle.prefix.specs.Addresses.{ipv4_bits}
use Rattle.prefix.proofs.BitLaws.{length_bits}
use Rattle.prefix.proofs.Booleans.{clash, is_false}
use Rattle.sizes.specs.declared.SetupError.{SetupError}
use Rattle.sizes.specs.declared.refusal.Unsound.{Unsound}
use Rattle.tallies.specs.declared.Tallies.{Tallies}
use Rattle.model.specs.Routes as routing
use Rattle.model.specs.Routes.{Table}
use Rattle.model.specs.Model as model
use Rattle.model.specs.Model.{Values, values, lookup, refusal, refreshed, removed, changed}
use Rattle.model.specs.Runs.{State, Outcome, step, looked, tallied}
use Rattle.model.specs.Demands.{SameRoutes, LookupOutcome, UpdateOutcome, is_hit, is_miss, is_drop}
use Rattle.model.proofs.Match.{OneEach, one_each}
use Rattle.model.proofs.Lookups.{lookup_outcome}
use Rattle.model.proofs.Updates.{update_outcome, update_refused, only_refreshed, refreshed_is}
use Rattle.model.proofs.SameRoutes.{flip, refreshed_same, removed_same, changed_same}
use Rattle.sizes.specs.BothStores.{limit_of, SetUp}
use Rattle.slots.specs.Layout.{Shaped}
use Rattle.table.specs.Tables.{routes, TableSetUp}
use Rattle.entries.specs.Caches.{entries}
use Rattle.cache.specs.Calls.{CacheSetUp}
use Rattle.verdicts.specs.Verdicts.{update_error_number}
use Rattle.verdicts.specs.declared.UpdateError.{UpdateError}
use Rattle.verdicts.specs.declared.UpdateError.TheVariants.{TooLong, BadHop, Full, NotHeld}
use Rattle.updates.specs.Updates.{action_of, update_of, prefix_of_update, first_refusal}
use Rattle.updates.specs.declared.Update.{Update}
use Rattle.pairs.specs.Pairs.{SoundPair, limits_of, PairChecked}
use Rattle.pairs.specs.States.{state_of}
use Rattle.lookup.specs.Promises as lookups
use Rattle.lookup.specs.Promises.{said, LookedUp}
use Rattle.refresh.specs.Promises as updates
use Rattle.refresh.specs.Promises.{update_number, removed_in, changed_in, updated_number, updated_of, update_step, Refused, UpdatePromise}
use Rattle.fib.specs.Runs.{SameCache, SameTable}
use Rattle.lookup.specs.declared.Looked.{Looked}
use Rattle.refresh.specs.declared.Updated.{Updated}
use Rattle.pairs.proofs.Pairing.{legal_pair}

pub same_through : {t u v : Table} → SameRoutes t u → SameRoutes v u → SameRoutes t v
same_through a b = record { to = λ r m. b.from r (a.to r m); from = λ r m. a.from r (b.to r m) }

-- ---- lookup

-- demand 2: a lookup of a sound pair has one answer, one next record of tallies and one next list of entries;
-- a stored prefix is compared by its bits
pub looks_alike : {table cache c d : List ℕ} {t : Tallies} {address : ℕ} {r q : Result Looked Unsound}
    → SoundPair table cache
    → (SoundPair table cache → LookedUp table cache c t address r)
    → (SoundPair table cache → LookedUp table cache d t address q)
    → (said r ≡ said q) × (lookups.tallies_in t r ≡ lookups.tallies_in t q) × SameCache c d
looks_alike S A B =
    let a = A S in
    let b = B S in (
      a.answer ∙ sym b.answer,
      a.state.are_tallies ∙ sym b.state.are_tallies,
      record { same_entries = a.state.are_entries ∙ sym b.state.are_entries; same_limit = a.kept.0 ∙ sym b.kept.0 },
    )

-- demand 2: a lookup of a sound pair does what the demand says of its routes and entries, and its tallies count what left
pub lookup_does : {table cache c : List ℕ} {t : Tallies} {address : ℕ} {r : Result Looked Unsound}
    → SoundPair table cache
    → (SoundPair table cache → LookedUp table cache c t address r)
    → (evicted : ℕ)
    × LookupOutcome (routes table) (entries cache) (limit_of cache) (bits 32 address) (record { answer = said r; cache = entries c; evicted = evicted })
    × (lookups.tallies_in t r ≡ tallied t (said r) evicted)
unfolding step looked
lookup_does {table} {cache} {c} {t} {address} {r} S A =
    let a = A S in
    let l : model.Looked = lookup (routes table) (entries cache) (limit_of cache) (bits 32 address) in
    let o : LookupOutcome (routes table) (entries cache) (limit_of cache) (bits 32 address) l = lookup_outcome (legal_pair S) (bits 32 address) (length_bits 32 address) (omega (arith, S.its_cache.shaped.legal.0)) in
    let e : said r ≡ l.answer = a.answer in
    let f : entries c ≡ l.cache = a.state.are_entries in
    let g : lookups.tallies_in t r ≡ tallied t l.answer l.evicted = a.state.are_tallies in
    (l.evicted, rw (e, f) o, rw e g)

-- a sound pair is never answered as unsound
pub never_unsound : {table cache c : List ℕ} {t : Tallies} {address : ℕ} {r : Result Looked Unsound}
    → SoundPair table cache
    → (SoundPair table cache → LookedUp table cache c t address r)
    → (values (said r)).number ≡ 0
unfolding values
never_unsound {r} S A = go (lookup_does S A).1
  where
    go : {t : Table} {c : model.Cache} {n : ℕ} {X : Bits} {d : model.Cache} {k : ℕ} → LookupOutcome t c n X (record { answer = said r; cache = d; evicted = k }) → (values (said r)).number ≡ 0
    go (is_hit E M C l h e) = ap (λ (o : model.Looked). (values o.answer).number) e
    go (is_miss M p n l s g e) = ap (λ (o : model.Looked). (values o.answer).number) e
    go (is_drop n h e) = ap (λ (o : model.Looked). (values o.answer).number) e

-- ---- update

-- the parts of an update's answer
abbrev parts_of : Result Updated UpdateError → Values
parts_of r = record { number = update_number r; hop = 0; stored = []; examined = 0; removed = removed_in r; changed = changed_in r }

-- "Every refusal returns its number with all other parts of the answer 0."
pub parts_of_update : (r : Result Updated UpdateError) → values (updated_of r) ≡ parts_of r
unfolding values
parts_of_update (Ok done) = refl
parts_of_update (Err e) = go (update_error_number e)
  where
    go : (n : ℕ) → values (updated_number n 0 0) ≡ record { number = n; hop = 0; stored = []; examined = 0; removed = 0; changed = 0 }
    go zero = refl
    go (suc k) = refl

-- a refusal is known by its number, which is not 0
error_of : ℕ → UpdateError
error_of zero = UpdateError.Unsound
error_of (suc zero) = TooLong
error_of (suc (suc zero)) = BadHop
error_of (suc (suc (suc zero))) = Full
error_of (suc (suc (suc (suc zero)))) = NotHeld
error_of (suc (suc (suc (suc (suc n))))) = UpdateError.Unsound

error_back : (e : UpdateError) → error_of (update_error_number e) ≡ e
unfolding error_of
error_back TooLong = refl
error_back BadHop = refl
error_back Full = refl
error_back NotHeld = refl
error_back UpdateError.Unsound = refl

error_some : (e : UpdateError) → ¬ (update_error_number e ≡ 0)
error_some TooLong z = omega (arith, z)
error_some BadHop z = omega (arith, z)
error_some Full z = omega (arith, z)
error_some NotHeld z = omega (arith, z)
error_some UpdateError.Unsound z = omega (arith, z)

same_updated : (t : Tallies) (r q : Result Updated UpdateError) → update_number r ≡ update_number q → removed_in r ≡ removed_in q → changed_in r ≡ changed_in q
    → updates.tallies_in t r ≡ updates.tallies_in t q → r ≡ q
same_updated t (Ok x) (Ok y) a b c d = λ i. Ok (record { removed = b i; changed = c i; tallies = d i })
same_updated t (Ok x) (Err f) a b c d = absurd (error_some f (sym a))
same_updated t (Err e) (Ok y) a b c d = absurd (error_some e a)
same_updated t (Err e) (Err f) a b c d = ap Err (sym (error_back e) ∙ ap error_of a ∙ error_back f)

-- demand 3: an update of a sound pair has one answer, one next record of tallies, one next set of routes and one next list of entries
pub updates_alike : {table cache w x c d : List ℕ} {t : Tallies} {u : Update} {r q : Result Updated UpdateError}
    → SoundPair table cache
    → UpdatePromise table cache w c t u r
    → UpdatePromise table cache x d t u q
    → (r ≡ q) × SameTable w x × SameCache c d
updates_alike {t} {r} {q} S A B =
    let a = A.sound_pair S in
    let b = B.sound_pair S in
    let e : parts_of r ≡ parts_of q = sym (parts_of_update r) ∙ ap values (a.answer ∙ sym b.answer) ∙ parts_of_update q in (
      same_updated t r q (ap (λ (v : Values). v.number) e) (ap (λ (v : Values). v.removed) e) (ap (λ (v : Values). v.changed) e) (a.state.are_tallies ∙ sym b.state.are_tallies),
      record { same_routes = same_through a.state.are_routes b.state.are_routes; same_limit = a.table_kept.0 ∙ sym b.table_kept.0 },
      record { same_entries = a.state.are_entries ∙ sym b.state.are_entries; same_limit = a.cache_kept.0 ∙ sym b.cache_kept.0 },
    )

-- two refusals with one number leave the same words
refused_alike : {table cache w x c d : List ℕ} {t : Tallies} {r q : Result Updated UpdateError} → Refused table cache w c t r → Refused table cache x d t q → update_number r ≡ update_number q → (r ≡ q) × (w ≡ x) × (c ≡ d)
refused_alike {t} {r} {q} a b e = (
  same_updated t r q e (a.no_counts.0 ∙ sym b.no_counts.0) (a.no_counts.1 ∙ sym b.no_counts.1) (a.same_tallies ∙ sym b.same_tallies),
  a.same_table ∙ sym b.same_table,
  a.same_cache ∙ sym b.same_cache,
)

-- "A refusal is a number from the table and changes nothing.": two refused updates leave the same words
pub refusals_alike : {table cache w x c d : List ℕ} {t : Tallies} {u : Update} {r q : Result Updated UpdateError}
    → SoundPair table cache
    → UpdatePromise table cache w c t u r
    → UpdatePromise table cache x d t u q
    → ¬ (update_number r ≡ 0)
    → (r ≡ q) × (w ≡ x) × (c ≡ d)
refusals_alike S A B n =
    let e = ap update_number (updates_alike S A B).0 in
    refused_alike (A.refused S n) (B.refused S (λ z. n (e ∙ z))) e

-- "1 and 2 are given first on any store": sound or not, two such answers are the same, and every word stays
pub first_refusals_alike : {table cache w x c d : List ℕ} {t : Tallies} {u : Update} {r q : Result Updated UpdateError}
    → UpdatePromise table cache w c t u r
    → UpdatePromise table cache x d t u q
    → ¬ (first_refusal u ≡ 0)
    → (r ≡ q) × (w ≡ x) × (c ≡ d)
first_refusals_alike A B n = refused_alike (A.first n).1 (B.first n).1 ((A.first n).0 ∙ sym (B.first n).0)

-- then 9, on any table and a cache whose header does not fit it
pub unfit_alike : {table cache w x c d : List ℕ} {t : Tallies} {u : Update} {r q : Result Updated UpdateError}
    → UpdatePromise table cache w c t u r
    → UpdatePromise table cache x d t u q
    → first_refusal u ≡ 0
    → ¬ (Shaped cache)
    → (r ≡ q) × (w ≡ x) × (c ≡ d)
unfit_alike A B z n = refused_alike (A.unfit z n).1 (B.unfit z n).1 ((A.unfit z n).0 ∙ sym (B.unfit z n).0)

-- the model's outcome, with the routes in another order
module _ (s : State) (v : routing.Update) (a b : Outcome) (one : OneEach b.state.table) (T : SameRoutes a.state.table b.state.table) (C : a.state.cache ≡ b.state.cache) (K : a.state.tallies ≡ b.state.tallies) (answer : a.answer ≡ b.answer) where
  outcome_listed : UpdateOutcome s v a → UpdateOutcome s v b
  outcome_listed A =
      let z = only_refreshed A.entries in
      let c : b.state.cache ≡ refreshed b.state.table v s.cache = sym C ∙ z.0 ∙ refreshed_same a.state.table b.state.table v s.cache one T in
      let r : A.removed ≡ removed b.state.table v s.cache = z.1 ∙ removed_same a.state.table b.state.table v s.cache T in
      let k : A.changed ≡ changed b.state.table v s.cache = z.2 ∙ changed_same a.state.table b.state.table v s.cache one T in
      record {
        routes = λ R. (λ m. (A.routes R).0 (T.from R m), λ m. T.to R ((A.routes R).1 m));
        removed = A.removed;
        changed = A.changed;
        entries = rw (c, r, k) (refreshed_is b.state.table v s.cache);
        counts = sym answer ∙ A.counts;
        tallies = sym K ∙ A.tallies;
        others = rw (← C) A.others;
      }

-- demand 3: an accepted update of a sound pair does what the demand says of its routes, entries and tallies
pub update_does : {table cache w c : List ℕ} {t : Tallies} {u : Update} {r : Result Updated UpdateError}
    → SoundPair table cache
    → UpdatePromise table cache w c t u r
    → update_number r ≡ 0
    → UpdateOutcome (state_of table cache t) (update_of u) (record { answer = updated_of r; state = state_of w c (updates.tallies_in t r) })
unfolding values
update_does {table} {cache} {w} {c} {t} {u} {r} S A n =
    let a = A.sound_pair S in
    outcome_listed (state_of table cache t) (update_of u) (update_step table cache t u) (record { answer = updated_of r; state = state_of w c (updates.tallies_in t r) })
    (one_each (legal_pair a.sound).distinct) (flip a.state.are_routes) (sym a.state.are_entries) (sym a.state.are_tallies) (sym a.answer)
    (update_outcome (limits_of table cache) (state_of table cache t) (ipv4_bits u.prefix.address) u.prefix.length (action_of u.action) (legal_pair S) (accepted (refusal (limits_of table cache) (routes table) u.prefix.length (prefix_of_update u) (action_of u.action)) refl))
  where
    refusal_number : (m k : ℕ) → m ≡ 0 → m ≡ (values (model.refused (suc k))).number → ⊥
    refusal_number m k e f = omega (arith, e, f)

    accepted : (k : ℕ) → refusal (limits_of table cache) (routes table) u.prefix.length (prefix_of_update u) (action_of u.action) ≡ k → refusal (limits_of table cache) (routes table) u.prefix.length (prefix_of_update u) (action_of u.action) ≡ 0
    accepted zero e = e
    accepted (suc k) e =
        let f : update_step table cache t u ≡ record { answer = model.refused (suc k); state = state_of table cache t } = update_refused (limits_of table cache) (state_of table cache t) (ipv4_bits u.prefix.address) u.prefix.length (action_of u.action) k e in
        let g : parts_of r ≡ values (model.refused (suc k)) = sym (parts_of_update r) ∙ ap values ((A.sound_pair S).answer ∙ ap (λ (o : Outcome). o.answer) f) in
        absurd (refusal_number (update_number r) k n (ap (λ (v : Values). v.number) g))

-- ---- set-up

-- a refused set-up is none that was done
pub not_done : (e : SetupError) → ¬ (Err e ≡ Ok (tt {0}))
not_done e z = cc

-- set-ups of one store have one answer, and leave what reads alike, if it does in any two that they may make
set_ups_alike : {A : Type 0} (read : List ℕ → A) {need : ℕ → ℕ} {Made : List ℕ → List ℕ → ℕ → Type 0} {w a b : List ℕ} {limit : ℕ} (r q : Result (Unit {0}) SetupError)
    → (Made w a limit → Made w b limit → read a ≡ read b) → SetUp need Made w a limit r → SetUp need Made w b limit q → (r ≡ q) × (read a ≡ read b)
set_ups_alike read {need} {Made} {w} {a} {b} {limit} r q same A B = (e, go r A (subst (SetUp need Made w b limit) (sym e) B))
  where
    e : r ≡ q
    e = A.answer ∙ sym B.answer

    go : (x : Result (Unit {0}) SetupError) → SetUp need Made w a limit x → SetUp need Made w b limit x → read a ≡ read b
    go (Ok u) C D = same C.done D.done
    go (Err f) C D = ap read (C.refused ∙ sym D.refused)

-- a table's set-up has one answer, and leaves one set of routes under one limit
pub table_set_ups_alike : {w a b : List ℕ} {limit : ℕ} {r q : Result (Unit {0}) SetupError} → TableSetUp w a limit r → TableSetUp w b limit q → (r ≡ q) × (routes a ≡ routes b) × (limit_of a ≡ limit_of b)
table_set_ups_alike {r} {q} A B =
    let held = set_ups_alike routes r q (λ f g. f.is_empty.1 ∙ sym g.is_empty.1) A B in
    (held.0, held.1, (set_ups_alike limit_of r q (λ f g. f.its_limit ∙ sym g.its_limit) A B).1)

-- a cache's set-up has one answer, and leaves one list of entries under one limit
pub cache_set_ups_alike : {w a b : List ℕ} {limit : ℕ} {r q : Result (Unit {0}) SetupError} → CacheSetUp w a limit r → CacheSetUp w b limit q → (r ≡ q) × (entries a ≡ entries b) × (limit_of a ≡ limit_of b)
cache_set_ups_alike {r} {q} A B =
    let held = set_ups_alike entries r q (λ f g. f.is_empty.are_entries ∙ sym g.is_empty.are_entries) A B in
    (held.0, held.1, (set_ups_alike limit_of r q (λ f g. f.its_limit ∙ sym g.its_limit) A B).1)

-- ---- the check

-- on any stores the check has one answer
pub checked_alike : (t w : List ℕ) (r s : Bool) → PairChecked t w r → PairChecked t w s → r ≡ s
checked_alike t w true s K L = sym (L.1 (K.0 refl))
checked_alike t w false s K L = sym (is_false (λ e. clash (K.1 (L.0 e)) refl))
