-- What a call moved, counted from zero, is added to the record that the caller lends: the same as counting from that record.
-- Assumes nothing.
use mathlib.Core.Path.{◌≡◌, refl, sym, ◌∙◌, ap, subst}
use mathlib.Core.List.{List}
use Rattle.std.specs.Prelude.{Result, Ok, Err, IfOk}
use Prim.Native.Nat.{ℕ, zero, suc, ◌^◌, ◌<◌}
use native.Mathlib.Omega.{arith}
use Rattle.tallies.specs.Counting.{plus, zero_tallies, sum, InRange, Added}
use Rattle.tallies.specs.declared.Tallies.{Tallies}
use Rattle.prefix.specs.Bits.{bits}
use Rattle.sizes.specs.BothStores.{limit_of}
use Rattle.table.specs.Tables.{routes}
use Rattle.entries.specs.Caches.{entries}
use Rattle.model.specs.Model as model
use Rattle.model.specs.Model.{Answer, hit, miss, drop, done, refused}
use Rattle.model.specs.Routes.{Update as Change}
use Rattle.model.specs.Runs.{Outcome, tallied, looked, accepted, judged, step}
use Rattle.updates.specs.declared.Action.{Action}
use Rattle.updates.specs.declared.Update.{Update}
use Rattle.pairs.specs.States.{state_of, Reached}
use Rattle.sizes.specs.declared.refusal.Unsound.{Unsound}
use Rattle.verdicts.specs.declared.UpdateError.{UpdateError}
use Rattle.lookup.specs.Promises as lookup
use Rattle.lookup.specs.Promises.{LookedUp, ClearedIn}
use Rattle.refresh.specs.Promises as refresh
use Rattle.refresh.specs.Promises.{UpdatedPair, Refused, UpdatePromise, Numbered, update_number, removed_in, changed_in, updated_of}
use Rattle.lookup.specs.declared.Looked.{Looked}
use Rattle.refresh.specs.declared.Updated.{Updated}
use Rattle.c_library.specs.Words.{look_number, look_words}
use Rattle.c_library.specs.Promises.{LookTold, LentLookup, UpdateTold, LentUpdate}
use Rattle.c_library.specs.declared.Told.{Told}

-- ---- of one tally

add_none : (x : ℕ) → x < 2 ^ 32 → x ≡ plus x 0
add_none x fits = omega arith

add_moved : (x n : ℕ) → plus x n ≡ plus x (plus 0 n)
add_moved x n = omega arith

-- ---- of the record

abbrev five : ℕ → ℕ → ℕ → ℕ → ℕ → Tallies
five a b c d e = record { hits = a; misses = b; drops = c; evicted = d; removed = e }

same_five : {a a' b b' c c' d d' e e' : ℕ} → a ≡ a' → b ≡ b' → c ≡ c' → d ≡ d' → e ≡ e' → five a b c d e ≡ five a' b' c' d' e'
same_five p q r s t = rw (p, q, r, s, t)

pub adds_none : (t : Tallies) → InRange t → t ≡ sum t zero_tallies
adds_none t fits =
    same_five (add_none _ fits.hits_fit) (add_none _ fits.misses_fit) (add_none _ fits.drops_fit) (add_none _ fits.evicted_fit) (add_none _ fits.removed_fit)

pub adds : (t : Tallies) (a : Answer) (evicted : ℕ) → InRange t → tallied t a evicted ≡ sum t (tallied zero_tallies a evicted)
adds t (hit hop) evicted fits =
    same_five (add_moved _ 1) (add_none _ fits.misses_fit) (add_none _ fits.drops_fit) (add_none _ fits.evicted_fit) (add_none _ fits.removed_fit)
adds t (miss hop p nodes) evicted fits =
    same_five (add_none _ fits.hits_fit) (add_moved _ 1) (add_none _ fits.drops_fit) (add_moved _ evicted) (add_none _ fits.removed_fit)
adds t (drop nodes) evicted fits =
    same_five (add_none _ fits.hits_fit) (add_none _ fits.misses_fit) (add_moved _ 1) (add_none _ fits.evicted_fit) (add_none _ fits.removed_fit)
adds t (done gone new) evicted fits =
    same_five (add_none _ fits.hits_fit) (add_none _ fits.misses_fit) (add_none _ fits.drops_fit) (add_none _ fits.evicted_fit) (add_moved _ gone)
adds t (refused number) evicted fits = adds_none t fits

-- ---- of a lookup

module _ (t : Tallies) (fits : InRange t) where
  -- the same answer, counted from the record
  pub look_added : Result Looked Unsound → Result Looked Unsound
  look_added (Ok r) = Ok (record { answer = r.answer; tallies = sum t r.tallies })
  look_added (Err e) = Err e

  look_tallies : (r : Result Looked Unsound) → lookup.tallies_in t (look_added r) ≡ sum t (lookup.tallies_in zero_tallies r)
  unfolding look_added
  look_tallies (Ok r) = refl
  look_tallies (Err e) = adds_none t fits

  same_said : (r : Result Looked Unsound) → lookup.said (look_added r) ≡ lookup.said r
  unfolding look_added
  same_said (Ok r) = refl
  same_said (Err e) = refl

  same_cleared : (r : Result Looked Unsound) → IfOk r (λ l. ClearedIn l.answer) → IfOk (look_added r) (λ l. ClearedIn l.answer)
  unfolding look_added
  same_cleared (Ok r) C = C
  same_cleared (Err e) C = C

  same_told : (r : Result Looked Unsound) → (look_number r ≡ look_number (look_added r)) × (look_words r ≡ look_words (look_added r))
  unfolding look_added
  same_told (Ok r) = (refl, refl)
  same_told (Err e) = (refl, refl)

module _ (table cache cache' : List ℕ) (t : Tallies) (fits : InRange t) (address : ℕ) (r : Result Looked Unsound) where
  abbrev found : model.Looked
  found = model.lookup (routes table) (entries cache) (limit_of cache) (bits 32 address)

  pub look_from : LookedUp table cache cache' zero_tallies address r → LookedUp table cache cache' t address (look_added t fits r)
  unfolding step looked
  look_from L = record {
    answer = same_said t fits r ∙ L.answer;
    cleared = same_cleared t fits r L.cleared;
    state = record {
      are_routes = L.state.are_routes;
      are_entries = L.state.are_entries;
      are_tallies = look_tallies t fits r ∙ ap (sum t) L.state.are_tallies ∙ sym (adds t found.answer found.evicted fits);
    };
    sound = L.sound;
    kept = L.kept;
  }

pub lent_lookup : (table cache cache' words : List ℕ) (t t' : Tallies) (address : ℕ) (r : Told)
    → LookTold table cache cache' address words r → Added t t' r.moved → LentLookup table cache cache' t t' address r.number words
lent_lookup table cache cache' words t t' address r told added =
    let fits = added.was_in_range in
    record {
      call = look_added t fits told.call;
      is_number = told.is_number ∙ (same_told t fits told.call).0;
      are_words = told.are_words ∙ (same_told t fits told.call).1;
      is_record = added.is_sum ∙ ap (sum t) told.is_record ∙ sym (look_tallies t fits told.call);
      promise = λ S. look_from table cache cache' t fits address told.call (told.promise S);
      refused = λ n. added.is_sum ∙ ap (sum t) (told.refused n) ∙ sym (adds_none t fits);
    }

-- ---- of an update

module _ (table cache : List ℕ) (t : Tallies) (fits : InRange t) (u : Change) where
  abbrev from_zero : ℕ → Outcome
  from_zero n = judged (state_of table cache zero_tallies) u n

  abbrev from_record : ℕ → Outcome
  from_record n = judged (state_of table cache t) u n

  judged_answer : (n : ℕ) → (from_zero n).answer ≡ (from_record n).answer
  unfolding judged accepted
  judged_answer zero = refl
  judged_answer (suc k) = refl

  judged_state : (table' cache' : List ℕ) (moved : Tallies) (n : ℕ) → Reached table' cache' moved (from_zero n).state → Reached table' cache' (sum t moved) (from_record n).state
  unfolding judged accepted
  judged_state table' cache' moved zero R =
      record { are_routes = R.are_routes; are_entries = R.are_entries; are_tallies = ap (sum t) R.are_tallies ∙ sym (adds t (from_record 0).answer 0 fits) }
  judged_state table' cache' moved (suc k) R =
      record { are_routes = R.are_routes; are_entries = R.are_entries; are_tallies = ap (sum t) R.are_tallies ∙ sym (adds_none t fits) }

module _ (t : Tallies) (fits : InRange t) where
  -- the same answer, counted from the record
  pub update_added : Result Updated UpdateError → Result Updated UpdateError
  update_added (Ok r) = Ok (record { removed = r.removed; changed = r.changed; tallies = sum t r.tallies })
  update_added (Err e) = Err e

  update_tallies : (r : Result Updated UpdateError) → refresh.tallies_in t (update_added r) ≡ sum t (refresh.tallies_in zero_tallies r)
  unfolding update_added
  update_tallies (Ok r) = refl
  update_tallies (Err e) = adds_none t fits

  same_number : (r : Result Updated UpdateError) → update_number (update_added r) ≡ update_number r
  unfolding update_added
  same_number (Ok r) = refl
  same_number (Err e) = refl

  same_counts : (r : Result Updated UpdateError) → (removed_in (update_added r) ≡ removed_in r) × (changed_in (update_added r) ≡ changed_in r)
  unfolding update_added
  same_counts (Ok r) = (refl, refl)
  same_counts (Err e) = (refl, refl)

  same_answer : (r : Result Updated UpdateError) → updated_of (update_added r) ≡ updated_of r
  unfolding update_added
  same_answer (Ok r) = refl
  same_answer (Err e) = refl

  kept_by : (r : Result Updated UpdateError) → refresh.tallies_in zero_tallies r ≡ zero_tallies → refresh.tallies_in t (update_added r) ≡ t
  kept_by r e = update_tallies r ∙ ap (sum t) e ∙ sym (adds_none t fits)

module _ (table cache table' cache' : List ℕ) (t : Tallies) (fits : InRange t) (u : Update) (r : Result Updated UpdateError) where
  abbrev added_to : Result Updated UpdateError
  added_to = update_added t fits r

  no_counts_from : (removed_in r ≡ 0) × (changed_in r ≡ 0) → (removed_in added_to ≡ 0) × (changed_in added_to ≡ 0)
  no_counts_from n = ((same_counts t fits r).0 ∙ n.0, (same_counts t fits r).1 ∙ n.1)

  refused_from : Refused table cache table' cache' zero_tallies r → Refused table cache table' cache' t added_to
  refused_from R = record { no_counts = no_counts_from R.no_counts; same_tallies = kept_by t fits r R.same_tallies; same_table = R.same_table; same_cache = R.same_cache }

  updated_from : UpdatedPair table cache table' cache' zero_tallies u r → UpdatedPair table cache table' cache' t u added_to
  unfolding step
  updated_from U = record {
    answer = same_answer t fits r ∙ U.answer ∙ judged_answer table cache t fits _ _;
    state = subst (λ v. Reached table' cache' v (refresh.update_step table cache t u).state) (sym (update_tallies t fits r)) (judged_state table cache t fits _ table' cache' _ _ U.state);
    sound = U.sound;
    table_kept = U.table_kept;
    cache_kept = U.cache_kept;
  }

  is_refused : ¬ (update_number added_to ≡ 0) → ¬ (update_number r ≡ 0)
  is_refused n e = n (same_number t fits r ∙ e)

  pub update_from : UpdatePromise table cache table' cache' zero_tallies u r → UpdatePromise table cache table' cache' t u added_to
  update_from P = record {
    first = λ n. (same_number t fits r ∙ (P.first n).0, refused_from (P.first n).1);
    unfit = λ z n. (same_number t fits r ∙ (P.unfit z n).0, refused_from (P.unfit z n).1);
    sound_pair = λ S. updated_from (P.sound_pair S);
    refused = λ S n. refused_from (P.refused S (is_refused n));
  }

  pub numbered_from : Numbered zero_tallies u r → Numbered t u added_to
  numbered_from N = record {
    later = λ z. rw (same_number t fits r) (N.later z);
    no_counts = λ n.
        let N' = N.no_counts (is_refused n) in
        let counts = no_counts_from (N'.0, N'.1) in
        (counts.0, counts.1, kept_by t fits r N'.2);
  }

pub lent_update : (table cache table' cache' words : List ℕ) (t t' : Tallies) (address length : ℕ) (action : Action) (r : Told)
    → UpdateTold table cache table' cache' address length action words r → Added t t' r.moved
    → LentUpdate table cache table' cache' t t' address length action r.number words
lent_update table cache table' cache' words t t' address length action r told added =
    let fits = added.was_in_range in
    let counts = same_counts t fits told.call in
    record {
      update = told.update;
      call = update_added t fits told.call;
      means = told.means;
      is_number = told.is_number ∙ sym (same_number t fits told.call);
      are_words = rw (counts.0, counts.1) told.are_words;
      is_record = added.is_sum ∙ ap (sum t) told.is_record ∙ sym (update_tallies t fits told.call);
      promise = update_from table cache table' cache' t fits told.update told.call told.promise;
      numbered = numbered_from table cache table' cache' t fits told.update told.call told.numbered;
    }
