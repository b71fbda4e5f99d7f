-- What a line of a script does and says, by the model: its call is the model's step, and its answer is the step's answer. "A line of
-- another form .. prints `bad` once", and does nothing. Assumes nothing.
use Rattle.std.specs.Prelude.{◌≡◌, List, ℕ, ◌≤◌, take}
use Rattle.std.proofs.Math.Option.{Option, none, some}
use Rattle.sizes.specs.Sizes.{table_need, cache_need}
use Rattle.sizes.specs.BothStores.{Fixed}
use Rattle.prefix.specs.Bits.{bits}
use Rattle.prefix.specs.Prefix.{trimmed}
use Rattle.prefix.specs.Addresses.{ipv4_bits}
use Rattle.tallies.specs.declared.Tallies.{Tallies}
use Rattle.model.specs.Model as model
use Rattle.model.specs.Routes.{announce, withdraw}
use Rattle.model.specs.Runs.{Call, Outcome, look, update, step}
use Rattle.pairs.specs.Pairs.{SoundPair, limits_of}
use Rattle.pairs.specs.States.{state_of, Reached}
use Rattle.lookup.specs.declared.Answer.{Answer}
use Rattle.lookup.specs.declared.Answer.TheVariants.{Hit, Miss, Drop}
use Rattle.script.specs.declared.Line.{Line}
use Rattle.script.specs.declared.Line.TheVariants.{Announce, Withdraw, Look, Bad}
use Rattle.answers.specs.declared.Said.{Said}
use Rattle.answers.specs.declared.Said.TheVariants as said
use Rattle.updates.specs.Updates.{action_of}
use Rattle.updates.specs.declared.Update.{Update}
use Rattle.interpreter.specs.declared.Answered.{Answered}

-- ---- what is said

-- the answer of a call that is said, if it is one
abbrev pub meant : Said → Option model.Answer
meant (said.Done removed changed) = some (model.done removed changed)
meant (said.Hit hop) = some (model.hit hop)
meant (said.Miss hop address length examined) = some (model.miss hop (take length (bits 32 address)) examined)
meant (said.Drop examined) = some (model.drop examined)
meant (said.Refused number) = some (model.refused number)
meant said.Bad = none
meant (said.Tallies hits misses drops) = none

-- "Bits past the length are cleared": so a prefix is said in one way
abbrev pub Cleared : Said → Type 0
Cleared (said.Done removed changed) = Unit {0}
Cleared (said.Hit hop) = Unit {0}
Cleared (said.Miss hop address length examined) = (length ≤ 32) × (bits 32 address ≡ trimmed length (bits 32 address))
Cleared (said.Drop examined) = Unit {0}
Cleared (said.Refused number) = Unit {0}
Cleared said.Bad = Unit {0}
Cleared (said.Tallies hits misses drops) = Unit {0}

-- ---- what a line does

abbrev pub step_of : List ℕ → List ℕ → Tallies → Call → Outcome
step_of table cache tallies call = step (limits_of table cache) (state_of table cache tallies) call

-- from a sound pair: the model's answer and next state; the pair stays sound
pub record CallAnswered (table cache table' cache' : List ℕ) (tallies : Tallies) (call : Call) (r : Answered) : Type 0 where
  pub answer : meant r.said ≡ some (step_of table cache tallies call).answer
  pub cleared : Cleared r.said
  pub state : Reached table' cache' r.tallies (step_of table cache tallies call).state
  pub sound : SoundPair table' cache'
  pub table_kept : Fixed table_need table table'
  pub cache_kept : Fixed cache_need cache cache'

-- `A address length hop`, `W address length`, `L address`; a bad line changes nothing, on any stores
abbrev pub LineAnswered : List ℕ → List ℕ → List ℕ → List ℕ → Tallies → Line → Answered → Type 0
LineAnswered table cache table' cache' t (Announce a n hop) r = SoundPair table cache → CallAnswered table cache table' cache' t (update (bits 32 a) n (announce hop)) r
LineAnswered table cache table' cache' t (Withdraw a n) r = SoundPair table cache → CallAnswered table cache table' cache' t (update (bits 32 a) n withdraw) r
LineAnswered table cache table' cache' t (Look a) r = SoundPair table cache → CallAnswered table cache table' cache' t (look (bits 32 a)) r
LineAnswered table cache table' cache' t Bad r = (r ≡ record { said = said.Bad; tallies = t }) × (table' ≡ table) × (cache' ≡ cache)

-- the model's call of an update record
abbrev pub call_of : Update → Call
call_of u = update (ipv4_bits u.prefix.address) u.prefix.length (action_of u.action)

-- ---- how a lookup's answer is said

abbrev pub said_of : Answer → Said
said_of (Hit hop) = said.Hit hop
said_of (Miss hop address length examined) = said.Miss hop address length examined
said_of (Drop examined) = said.Drop examined
