-- What a lookup promises, by the model. Assumes nothing.
use Rattle.std.specs.Prelude.{◌≡◌, List, ℕ, ◌≤◌, take, Result, Ok, Err, IfOk, IsErr}
use Rattle.sizes.specs.Sizes.{cache_need}
use Rattle.sizes.specs.BothStores.{Fixed}
use Rattle.prefix.specs.Bits.{bits}
use Rattle.prefix.specs.Prefix.{trimmed}
use Rattle.tallies.specs.declared.Tallies.{Tallies}
use Rattle.model.specs.Model as model
use Rattle.model.specs.Runs.{Outcome, step, look}
use Rattle.pairs.specs.Pairs.{SoundPair, limits_of}
use Rattle.pairs.specs.States.{state_of, Reached}
use Rattle.slots.specs.Layout.{Shaped}
use Rattle.lookup.specs.declared.Answer.{Answer}
use Rattle.lookup.specs.declared.Answer.TheVariants.{Hit, Miss, Drop}
use Rattle.lookup.specs.declared.Looked.{Looked}
use Rattle.sizes.specs.declared.refusal.Unsound.{Unsound}

-- ---- the answer as the model's

abbrev pub answer_of : Answer → model.Answer
answer_of (Hit hop) = model.hit hop
answer_of (Miss hop address length nodes) = model.miss hop (take length (bits 32 address)) nodes
answer_of (Drop nodes) = model.drop nodes

-- a lookup's answer, or its refusal: 9
abbrev pub said : Result Looked Unsound → model.Answer
said (Ok l) = answer_of l.answer
said (Err e) = model.refused 9

-- the tallies after it: a refusal has counted nothing
abbrev pub tallies_in : Tallies → Result Looked Unsound → Tallies
tallies_in tallies (Ok l) = l.tallies
tallies_in tallies (Err e) = tallies

-- "A prefix is an address and a length 0 to 32. Bits past the length are cleared"
abbrev pub ClearedIn : Answer → Type 0
ClearedIn (Hit hop) = Unit {0}
ClearedIn (Miss hop address length nodes) = (length ≤ 32) × (bits 32 address ≡ trimmed length (bits 32 address))
ClearedIn (Drop nodes) = Unit {0}

-- ---- the whole

abbrev pub look_step : List ℕ → List ℕ → Tallies → ℕ → Outcome
look_step table cache tallies address = step (limits_of table cache) (state_of table cache tallies) (look (bits 32 address))

-- from a sound pair: the model's answer and next state; the pair stays sound
pub record LookedUp (table cache cache' : List ℕ) (tallies : Tallies) (address : ℕ) (r : Result Looked Unsound) : Type 0 where
  pub answer : said r ≡ (look_step table cache tallies address).answer
  pub cleared : IfOk r (λ l. ClearedIn l.answer)
  pub state : Reached table cache' (tallies_in tallies r) (look_step table cache tallies address).state
  pub sound : SoundPair table cache'
  pub kept : Fixed cache_need cache cache'

-- ---- a refusal: 9. It has counted nothing, since the answer has no tallies then

-- on any pair of stores: a cache whose header does not fit it is refused, and keeps every word
abbrev pub Unfit : List ℕ → List ℕ → Result Looked Unsound → Type 0
Unfit cache cache' r = ¬ (Shaped cache) → IsErr r × (cache' ≡ cache)
