-- What the parts of a lookup promise. Assumes nothing.
use Rattle.std.specs.Prelude.{◌≡◌, List, ◌∷◌, map, ℕ, suc, ◌-◌, ◌≤◌, ◌<◌, length, take, Result, Ok, Err, IfOk}
use Rattle.sizes.specs.Sizes.{cache_need}
use Rattle.sizes.specs.BothStores.{Fixed, limit_of}
use Rattle.prefix.specs.Bits.{Bits}
use Rattle.prefix.specs.Prefix.{common}
use Rattle.tallies.specs.Counting.{after_hit, after_miss}
use Rattle.tallies.specs.declared.Tallies.{Tallies}
use Rattle.model.specs.Lists.{largest}
use Rattle.model.specs.Model as model
use Rattle.model.specs.Runs.{Outcome, step, look}
use Rattle.model.specs.Demands.{NoneCached}
use Rattle.slots.specs.Layout.{entries_held, cache_of, Shaped}
use Rattle.entries.specs.Caches.{entries, entry_in, others_in, SoundEntries, Holds}
use Rattle.pairs.specs.Pairs.{SoundPair, limits_of}
use Rattle.pairs.specs.States.{state_of, Reached}
use Rattle.lookup.specs.Promises.{said, tallies_in, ClearedIn}
use Rattle.lookup.specs.declared.Answer.TheVariants.{Hit}
use Rattle.lookup.specs.declared.Looked.{Looked}
use Rattle.sizes.specs.declared.refusal.Unsound.{Unsound}

-- ---- the whole, by the address's bits

abbrev pub look_at : List ℕ → List ℕ → Tallies → Bits → Outcome
look_at table cache tallies X = step (limits_of table cache) (state_of table cache tallies) (look X)

pub record LookedAt (table cache cache' : List ℕ) (tallies : Tallies) (X : Bits) (r : Result Looked Unsound) : Type 0 where
  pub answer : said r ≡ (look_at table cache tallies X).answer
  pub cleared : IfOk r (λ l. ClearedIn l.answer)
  pub state : Reached table cache' (tallies_in tallies r) (look_at table cache tallies X).state
  pub sound : SoundPair table cache'
  pub kept : Fixed cache_need cache cache'

-- ---- its parts

-- no entry contains the address, and the nearest has one less than so many bits in common with it
pub record Missed (w : List ℕ) (X : Bits) (past : ℕ) : Type 0 where
  pub none_cached : NoneCached (entries w) X
  pub nearest : past ≡ largest (map (λ E. suc (common X E.prefix)) (entries w))

-- the entry of slot k has become the most recently used
pub record Used (w w' : List ℕ) (k : ℕ) (tallies : Tallies) (r : Looked) : Type 0 where
  pub says : r ≡ record { answer = Hit ((cache_of w).hop k); tallies = after_hit tallies }
  pub holds : SoundEntries w → Holds w' (entry_in w k ∷ others_in w k)
  pub kept : Fixed cache_need w w'

-- the first n bits of X have come in
pub record Stored (w w' : List ℕ) (X : Bits) (n hop examined : ℕ) (tallies : Tallies) (r : Result Looked Unsound) : Type 0 where
  pub answer : said r ≡ model.miss hop (take n X) examined
  pub cleared : IfOk r (λ l. ClearedIn l.answer)
  pub counted : tallies_in tallies r ≡ after_miss tallies (suc (length (entries w)) - limit_of w)
  pub holds : Holds w' (take (limit_of w) (record { prefix = take n X; hop = hop } ∷ entries w))
  pub kept : Fixed cache_need w w'

-- so many entries are left, and there is room for one more
pub record Cleared (w w' : List ℕ) (held : ℕ) : Type 0 where
  pub shaped : Shaped w'
  pub is_held : held ≡ entries_held w'
  pub room : held < limit_of w'
  pub fewer : held ≤ entries_held w
  pub kept : Fixed cache_need w w'
  pub holds : SoundEntries w → Holds w' (take (limit_of w - 1) (entries w))
  pub evicted : SoundEntries w → entries_held w - held ≡ suc (length (entries w)) - limit_of w

abbrev pub MadeRoom : List ℕ → List ℕ → Result ℕ Unsound → Type 0
MadeRoom w w' (Ok held) = Cleared w w' held
MadeRoom w w' (Err e) = ¬ (SoundEntries w)
