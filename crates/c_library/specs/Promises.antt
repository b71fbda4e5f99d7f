-- What the functions of the C library promise: the proved call's promise, of the words and the record that C lends. Assumes nothing.
use Rattle.std.specs.Prelude.{◌≡◌, List, [], ◌∷◌, ℕ, Result}
use Rattle.sizes.specs.Sizes.{setup_number}
use Rattle.sizes.specs.declared.SetupError.{SetupError}
use Rattle.sizes.specs.declared.refusal.Unsound.{Unsound}
use Rattle.tallies.specs.Counting.{zero_tallies}
use Rattle.tallies.specs.declared.Tallies.{Tallies}
use Rattle.table.specs.Tables.{SoundTable}
use Rattle.updates.specs.declared.Action.{Action}
use Rattle.updates.specs.declared.Update.{Update}
use Rattle.pairs.specs.Pairs.{SoundPair}
use Rattle.verdicts.specs.declared.UpdateError.{UpdateError}
use Rattle.lookup.specs.Promises as lookup
use Rattle.lookup.specs.Promises.{LookedUp}
use Rattle.refresh.specs.Promises as refresh
use Rattle.refresh.specs.Promises.{UpdatePromise, Numbered, update_number, removed_in, changed_in}
use Rattle.lookup.specs.declared.Looked.{Looked}
use Rattle.refresh.specs.declared.Updated.{Updated}
use Rattle.updates.specs.Updates.{Means}
use Rattle.c_library.specs.Words.{look_words, look_number}
use Rattle.c_library.specs.declared.Told.{Told}

-- ---- set-up and checks

-- the number of an answer that the promise is of
pub record SetUpTold (Promise : Result (Unit {0}) SetupError → Type 0) (number : ℕ) : Type 0 where
  pub call : Result (Unit {0}) SetupError
  pub is_number : number ≡ setup_number call
  pub promise : Promise call

-- "answers yes or no": 1 or 0
pub record Answers (P : Type 0) (number : ℕ) : Type 0 where
  pub yes : P → number ≡ 1
  pub no : ¬ P → number ≡ 0
  pub told : number ≡ 1 → P

abbrev pub TableSound : List ℕ → ℕ → Type 0
TableSound table = Answers (SoundTable table)

abbrev pub PairSound : List ℕ → List ℕ → ℕ → Type 0
PairSound table cache = Answers (SoundPair table cache)

-- ---- the calls on a pair, with the record that the caller lends: t before, t' after. A refused lookup has counted nothing

pub record LentLookup (table cache cache' : List ℕ) (t t' : Tallies) (address number : ℕ) (words : List ℕ) : Type 0 where
  pub call : Result Looked Unsound
  pub is_number : number ≡ look_number call
  pub are_words : words ≡ look_words call
  pub is_record : t' ≡ lookup.tallies_in t call
  pub promise : SoundPair table cache → LookedUp table cache cache' t address call
  pub refused : ¬ (number ≡ 0) → t' ≡ t

pub record LentUpdate (table cache table' cache' : List ℕ) (t t' : Tallies) (address length : ℕ) (action : Action) (number : ℕ) (words : List ℕ) : Type 0 where
  pub update : Update
  pub call : Result Updated UpdateError
  pub means : Means address length action update
  pub is_number : number ≡ update_number call
  pub are_words : words ≡ (removed_in call ∷ changed_in call ∷ [])
  pub is_record : t' ≡ refresh.tallies_in t call
  pub promise : UpdatePromise table cache table' cache' t update call
  pub numbered : Numbered t update call

-- ---- before what a call moved is added: from a zero record

abbrev pub LookTold : List ℕ → List ℕ → List ℕ → ℕ → List ℕ → Told → Type 0
LookTold table cache cache' address words r = LentLookup table cache cache' zero_tallies r.moved address r.number words

abbrev pub UpdateTold : List ℕ → List ℕ → List ℕ → List ℕ → ℕ → ℕ → Action → List ℕ → Told → Type 0
UpdateTold table cache table' cache' address length action words r =
    LentUpdate table cache table' cache' zero_tallies r.moved address length action r.number words
