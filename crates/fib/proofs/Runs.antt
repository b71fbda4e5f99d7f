-- Runs of the public calls on a pair of stores go as the model's runs do. Assumes nothing.
use mathlib.Core.Path.{◌≡◌, refl, sym, ap, ap₂, ◌∙◌, subst}
use mathlib.Core.List.{List, [], ◌∷◌, ◌++◌, map}
use mathlib.Core.Logic.{◌↔◌}
use Prim.Native.Nat.{ℕ, ◌<◌, ◌^◌}
use native.Mathlib.Omega.{arith}
use lib.ListN.{length}
use Rattle.std.specs.Prelude.{Result, Ok, Err, OnOk}
use Rattle.prefix.specs.Bits.{bits}
use Rattle.prefix.proofs.BitLaws.{length_bits}
use Rattle.sizes.specs.declared.SetupError.{SetupError}
use Rattle.sizes.specs.declared.refusal.Unsound.{Unsound}
use Rattle.tallies.specs.Counting.{zero_tallies, held_sum}
use Rattle.tallies.specs.declared.Tallies.{Tallies}
use Rattle.model.specs.Lists.{◌∈◌}
use Rattle.model.specs.Model.{Entry, Answer, Limits}
use Rattle.model.specs.Runs.{State, step, tallied, answers, after, empty}
use Rattle.model.specs.Demands.{Alike, LegalState, AllFull, NoOverlap, Covered, LookupOutcome, UpdateOutcome}
use Rattle.model.specs.Demands as demands
use Rattle.model.proofs.Legal.{legal_empty, legal_step}
use Rattle.model.proofs.SameRoutes.{step_same}
use Rattle.model.proofs.HeldSum.{held_of_run}
use Rattle.table.specs.Tables.{routes, TableSetUp}
use Rattle.entries.specs.Caches.{entries}
use Rattle.cache.specs.Calls.{CacheSetUp}
use Rattle.verdicts.specs.declared.UpdateError.{UpdateError}
use Rattle.updates.specs.Updates.{update_of}
use Rattle.updates.specs.declared.Update.{Update}
use Rattle.pairs.specs.Pairs.{SoundPair, limits_of}
use Rattle.pairs.specs.States.{state_of, Reached}
use Rattle.lookup.specs.Promises as lookups
use Rattle.lookup.specs.Promises.{said, LookedUp}
use Rattle.refresh.specs.Promises as updates
use Rattle.refresh.specs.Promises.{update_number, updated_of, Refused, UpdatePromise}
use Rattle.fib.specs.Runs.{Stores, held, Call, look, update, call_of, Called, by_look, by_update, Calls, no_calls, and_calls, Follows, SoundKept}
use Rattle.lookup.specs.declared.Looked.{Looked}
use Rattle.refresh.specs.declared.Updated.{Updated}
use Rattle.pairs.proofs.Pairing.{legal_pair}
use Rattle.fib.proofs.Setups.{fresh_pair, fresh_limits, fresh_holds, table_again, table_refused, cache_again, cache_refused}
use Rattle.fib.proofs.Outcomes.{lookup_does, update_does, same_through, not_done}

-- ---- soundness

-- every call keeps a pair sound, but for this one: "A table set up again under a cache that holds entries ends it"
pub sound_kept : {table cache : List ℕ} → SoundPair table cache → SoundKept table cache
sound_kept {table} {cache} S = record {
  by_lookup = λ c t a r P. (P S).sound;
  by_updating = λ w c t u r P. (P.sound_pair S).sound;
  by_table_set_up = λ w limit r P. tables w limit r P;
  by_cache_set_up = λ c limit r P. caches c limit r P;
}
  where
    tables : (w : List ℕ) (limit : ℕ) (r : Result (Unit {0}) SetupError) → TableSetUp table w limit r → SoundPair w cache ↔ OnOk r (entries cache ≡ [])
    tables w limit (Ok x) P = table_again table w limit (Ok x) P refl cache S.its_cache
    tables w limit (Err e) P = (λ _. tt, λ _. table_refused table w cache limit (Err e) P (not_done e) S)

    caches : (c : List ℕ) (limit : ℕ) (r : Result (Unit {0}) SetupError) → CacheSetUp cache c limit r → SoundPair table c
    caches c limit (Ok x) P = cache_again table cache c limit (Ok x) S.its_table P refl
    caches c limit (Err e) P = cache_refused table cache c limit (Err e) P (not_done e) S

-- ---- one call

pub reached_alike : {table cache : List ℕ} {t : Tallies} {s z : State} → Reached table cache t s → Alike s z → Alike (state_of table cache t) z
reached_alike R A = record {
  tables = record { to = λ r m. A.tables.to r (R.are_routes.to r m); from = λ r m. R.are_routes.from r (A.tables.from r m) };
  caches = R.are_entries ∙ A.caches;
  tallies = R.are_tallies ∙ A.tallies;
}

abbrev limits : Stores → Limits
limits s = limits_of s.table s.cache

from_sound : {s m : Stores} {x : Call} {a : Answer} {z : State}
    → Called s x a m → SoundPair s.table s.cache → Alike (held s) z → LegalState (limits s) z
    → (a ≡ (step (limits s) z (call_of x)).answer) × Follows (limits s) m (step (limits s) z (call_of x)).state
from_sound {s} {z} (by_look address c r P) S A Z =
    let b = P S in
    let o = step_same (limits s) (held s) z (call_of (look address)) (legal_pair S) Z A in (
      b.answer ∙ o.same_answer,
      record {
        sound = b.sound;
        its_limits = rw b.kept.0;
        alike = reached_alike b.state o.still_alike;
        legal = legal_step (limits s) z (call_of (look address)) (length_bits 32 address) Z;
      },
    )
from_sound {s} {z} (by_update u w c r P) S A Z =
    let b = P.sound_pair S in
    let o = step_same (limits s) (held s) z (call_of (update u)) (legal_pair S) Z A in (
      b.answer ∙ o.same_answer,
      record {
        sound = b.sound;
        its_limits = rw (b.table_kept.0, b.cache_kept.0);
        alike = reached_alike b.state o.still_alike;
        legal = legal_step (limits s) z (call_of (update u)) tt Z;
      },
    )

-- from sound stores each call does what the model says and leaves them sound
pub call_follows : {L : Limits} {s m : Stores} {x : Call} {a : Answer} {z : State}
    → Called s x a m → Follows L s z → (a ≡ (step L z (call_of x)).answer) × Follows L m (step L z (call_of x)).state
call_follows {L} {s} {m} {x} {a} {z} K F =
    subst (λ (l : Limits). (a ≡ (step l z (call_of x)).answer) × Follows l m (step l z (call_of x)).state) F.its_limits
    (from_sound K F.sound F.alike (subst (λ (l : Limits). LegalState l z) (sym F.its_limits) F.legal))

-- ---- runs

-- demands 2 and 3, "any run of lookups, announcements and withdrawals, refused ones included": its answers, and what it leaves
pub run_follows : {L : Limits} {s m : Stores} {l : List Call} {k : List Answer} {z : State}
    → Calls s l k m → Follows L s z → (k ≡ answers L z (map call_of l)) × Follows L m (after L z (map call_of l))
unfolding answers after
run_follows no_calls F = (refl, F)
run_follows (and_calls K R) F =
    let c = call_follows K F in
    let r = run_follows R c.1 in
    (ap₂ ◌∷◌ c.0 r.0, r.1)

-- a run from any sound pair goes as the model's run from what the pair holds
pub sound_follows : (s : Stores) → SoundPair s.table s.cache → Follows (limits_of s.table s.cache) s (held s)
sound_follows s S = record {
  sound = S;
  its_limits = refl;
  alike = record { tables = record { to = λ r m. m; from = λ r m. m }; caches = refl; tallies = refl };
  legal = legal_pair S;
}

-- two runs of the same calls from one sound pair give the same answers and leave the same routes, entries and tallies
pub runs_alike : {s a b : Stores} {l : List Call} {k j : List Answer}
    → SoundPair s.table s.cache → Calls s l k a → Calls s l j b → (k ≡ j) × Alike (held a) (held b)
runs_alike {s} S R Q =
    let r = run_follows R (sound_follows s S) in
    let q = run_follows Q (sound_follows s S) in
    let x = r.1.alike in
    let y = q.1.alike in (
      r.0 ∙ sym q.0,
      record {
        tables = same_through x.tables y.tables;
        caches = x.caches ∙ sym y.caches;
        tallies = x.tallies ∙ sym y.tallies;
      },
    )

-- every beginning of a run is a run, and the rest is one
pub run_splits : {s z : Stores} (l : List Call) {j : List Call} {k : List Answer} → Calls s (l ++ j) k z
    → (m : Stores) × (a : List Answer) × (b : List Answer) × Calls s l a m × Calls m j b z × (k ≡ a ++ b)
run_splits {s} [] {k} R = (s, [], k, no_calls, R, refl)
run_splits {s} {z} (x ∷ l) {j} (and_calls {a = o} {m = n} K R) = go (run_splits l R)
  where
    go : {k : List Answer} → (m : Stores) × (a : List Answer) × (b : List Answer) × Calls n l a m × Calls m j b z × (k ≡ a ++ b)
        → (m : Stores) × (a : List Answer) × (b : List Answer) × Calls s (x ∷ l) a m × Calls m j b z × (o ∷ k ≡ a ++ b)
    go (m, a, b, A, B, e) = (m, o ∷ a, b, and_calls K A, B, ap (λ (y : List Answer). o ∷ y) e)

-- ---- from fresh stores

all_full : (L : Limits) → L.width ≡ 32 → (l : List Call) → AllFull L (map call_of l)
all_full L e [] = demands.no_calls
all_full L e (look address ∷ l) = demands.and_calls (length_bits 32 address ∙ sym e) (all_full L e l)
all_full L e (update u ∷ l) = demands.and_calls tt (all_full L e l)

-- both stores just set up, with the limits asked for, and a zero record
module _ {t t' c c' : List ℕ} {routes-limit entries-limit : ℕ} {r q : Result (Unit {0}) SetupError} (A : TableSetUp t t' routes-limit r) (done : r ≡ Ok tt) (B : CacheSetUp c c' entries-limit q) (ok : q ≡ Ok tt) where
  abbrev pub asked : Limits
  asked = record { width = 32; routes = routes-limit; entries = entries-limit }

  abbrev pub fresh : Stores
  fresh = record { table = t'; cache = c'; tallies = zero_tallies }

  -- fresh stores are the model's empty state
  pub fresh_follows : Follows asked fresh empty
  unfolding empty
  fresh_follows =
      let h = fresh_holds t t' routes-limit r A done c c' entries-limit q B ok in
      record {
        sound = fresh_pair t t' routes-limit r A done c c' entries-limit q B ok;
        its_limits = fresh_limits t t' routes-limit r A done c c' entries-limit q B ok;
        alike = record { tables = rw h.0 (record { to = λ x m. m; from = λ x m. m }); caches = h.1; tallies = refl };
        legal = legal_empty asked;
      }

  module _ {l : List Call} {k : List Answer} {s : Stores} (R : Calls fresh l k s) where
    -- "From fresh stores and a zero record": the answers are the model's
    pub run_answers : k ≡ answers asked empty (map call_of l)
    run_answers = (run_follows R fresh_follows).0

    -- the pair stays sound, and holds what the model holds: the same entries, the same tallies, the same set of routes
    pub run_leaves : Follows asked s (after asked empty (map call_of l))
    run_leaves = (run_follows R fresh_follows).1

    pub run_sound : SoundPair s.table s.cache
    run_sound = run_leaves.sound

    -- demand 3: "No two cached prefixes ever overlap."
    pub run_no_overlap : NoOverlap (entries s.cache)
    run_no_overlap = (legal_pair run_sound).no_overlap

    -- demand 3: each entry has a covering route, no route strictly inside, and its match's hop
    pub run_covered : (E : Entry) → E ∈ entries s.cache → Covered (routes s.table) E
    run_covered = run_sound.covered

    -- "entries held = misses - evicted - removed", exactly: no limit reaches 2^32
    pub run_held : held_sum s.tallies ≡ length (entries s.cache)
    run_held =
        let a = run_leaves.alike in
        let n : entries-limit < 2 ^ 32 = omega (arith, ap (λ (L : Limits). L.entries) run_leaves.its_limits, run_sound.its_cache.shaped.legal.1) in
        rw (a.tallies, a.caches) (held_of_run asked (map call_of l) n (all_full asked refl l))

    -- demand 2, after any run: the next lookup does what the demand says of the routes and entries that stand
    pub next_lookup : (cache : List ℕ) (address : ℕ) (o : Result Looked Unsound)
        → (SoundPair s.table s.cache → LookedUp s.table s.cache cache s.tallies address o)
        → (evicted : ℕ)
        × LookupOutcome (routes s.table) (entries s.cache) entries-limit (bits 32 address) (record { answer = said o; cache = entries cache; evicted = evicted })
        × (lookups.tallies_in s.tallies o ≡ tallied s.tallies (said o) evicted)
    next_lookup cache address o P =
        let d = lookup_does run_sound P in
        let e = ap (λ (L : Limits). L.entries) run_leaves.its_limits in
        (d.0, subst (λ (n : ℕ). LookupOutcome (routes s.table) (entries s.cache) n (bits 32 address) (record { answer = said o; cache = entries cache; evicted = d.0 })) e d.1, d.2)

    -- demand 3, after any run: the next accepted update does what the demand says of them
    pub next_update : (table cache : List ℕ) (u : Update) (o : Result Updated UpdateError)
        → UpdatePromise s.table s.cache table cache s.tallies u o
        → update_number o ≡ 0
        → UpdateOutcome (held s) (update_of u) (record { answer = updated_of o; state = state_of table cache (updates.tallies_in s.tallies o) })
    next_update table cache u o P n = update_does run_sound P n

    -- "A refusal is a number from the table and changes nothing."
    pub next_refused : (table cache : List ℕ) (u : Update) (o : Result Updated UpdateError)
        → UpdatePromise s.table s.cache table cache s.tallies u o
        → ¬ (update_number o ≡ 0)
        → Refused s.table s.cache table cache s.tallies o
    next_refused table cache u o P n = P.refused run_sound n
