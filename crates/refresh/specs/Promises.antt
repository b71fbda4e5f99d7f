-- What an update of a pair of stores promises, by the model. Assumes nothing.
use Rattle.std.specs.Prelude.{◌≡◌, List, ◌⊎◌, ℕ, zero, suc, Result, Ok, Err}
use Rattle.sizes.specs.Refusals.{number_by}
use Rattle.sizes.specs.Sizes.{table_need, cache_need}
use Rattle.sizes.specs.BothStores.{Fixed}
use Rattle.tallies.specs.declared.Tallies.{Tallies}
use Rattle.model.specs.Model as model
use Rattle.model.specs.Runs.{Outcome, step, update}
use Rattle.slots.specs.Layout.{Shaped}
use Rattle.prefix.specs.Addresses.{ipv4_bits}
use Rattle.verdicts.specs.Verdicts.{update_error_number}
use Rattle.verdicts.specs.declared.UpdateError.{UpdateError}
use Rattle.updates.specs.Updates.{action_of, first_refusal}
use Rattle.updates.specs.declared.Update.{Update}
use Rattle.pairs.specs.Pairs.{SoundPair, limits_of}
use Rattle.pairs.specs.States.{state_of, Reached}
use Rattle.refresh.specs.declared.Updated.{Updated}

-- ---- the parts of an answer: a refusal has counted nothing, and leaves the tallies that were lent

abbrev pub update_number : Result Updated UpdateError → ℕ
update_number r = number_by update_error_number r

abbrev pub removed_in : Result Updated UpdateError → ℕ
removed_in (Ok done) = done.removed
removed_in (Err e) = 0

abbrev pub changed_in : Result Updated UpdateError → ℕ
changed_in (Ok done) = done.changed
changed_in (Err e) = 0

abbrev pub tallies_in : Tallies → Result Updated UpdateError → Tallies
tallies_in tallies (Ok done) = done.tallies
tallies_in tallies (Err e) = tallies

-- ---- the answer as the model's

abbrev pub updated_number : ℕ → ℕ → ℕ → model.Answer
updated_number zero removed changed = model.done removed changed
updated_number (suc k) removed changed = model.refused (suc k)

abbrev pub updated_of : Result Updated UpdateError → model.Answer
updated_of r = updated_number (update_number r) (removed_in r) (changed_in r)

-- ---- the whole

abbrev pub update_step : List ℕ → List ℕ → Tallies → Update → Outcome
update_step table cache tallies u =
    step (limits_of table cache) (state_of table cache tallies) (update (ipv4_bits u.prefix.address) u.prefix.length (action_of u.action))

pub record UpdatedPair (table cache table' cache' : List ℕ) (tallies : Tallies) (u : Update) (r : Result Updated UpdateError) : Type 0 where
  pub answer : updated_of r ≡ (update_step table cache tallies u).answer
  pub state : Reached table' cache' (tallies_in tallies r) (update_step table cache tallies u).state
  pub sound : SoundPair table' cache'
  pub table_kept : Fixed table_need table table'
  pub cache_kept : Fixed cache_need cache cache'

-- "Every refusal returns its number with all other parts of the answer 0." "from 1 to 8 the stores and tallies keep every word"
pub record Refused (table cache table' cache' : List ℕ) (tallies : Tallies) (r : Result Updated UpdateError) : Type 0 where
  pub no_counts : (removed_in r ≡ 0) × (changed_in r ≡ 0)
  pub same_tallies : tallies_in tallies r ≡ tallies
  pub same_table : table' ≡ table
  pub same_cache : cache' ≡ cache

-- "1 and 2 are given first on any store"; then 9 on a cache whose header does not fit it; from a sound pair every refusal is so
pub record UpdatePromise (table cache table' cache' : List ℕ) (tallies : Tallies) (u : Update) (r : Result Updated UpdateError) : Type 0 where
  pub first : ¬ (first_refusal u ≡ 0) → (update_number r ≡ first_refusal u) × Refused table cache table' cache' tallies r
  pub unfit : first_refusal u ≡ 0 → ¬ (Shaped cache) → (update_number r ≡ 9) × Refused table cache table' cache' tallies r
  pub sound_pair : SoundPair table cache → UpdatedPair table cache table' cache' tallies u r
  pub refused : SoundPair table cache → ¬ (update_number r ≡ 0) → Refused table cache table' cache' tallies r

-- on any pair of stores: "which of 3, 4, 9 or 0 comes", and that no refusal counts
pub record Numbered (tallies : Tallies) (u : Update) (r : Result Updated UpdateError) : Type 0 where
  pub later : first_refusal u ≡ 0 → (update_number r ≡ 0) ⊎ (update_number r ≡ 3) ⊎ (update_number r ≡ 4) ⊎ (update_number r ≡ 9)
  pub no_counts : ¬ (update_number r ≡ 0) → (removed_in r ≡ 0) × (changed_in r ≡ 0) × (tallies_in tallies r ≡ tallies)
