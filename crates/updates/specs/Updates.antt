-- What an update of the table promises. Assumes nothing.
use Rattle.std.specs.Prelude.{◌≡◌, cond, ◌||◌, List, ℕ, take, ltb, eqb, Result, Ok, Err}
use Rattle.prefix.specs.Bits.{Bits, bits}
use Rattle.model.specs.Routes as model
use Rattle.model.specs.Model.{refusal, too_long, bad_hop, highest_hop}
use Rattle.prefix.specs.Addresses.{ipv4_bits}
use Rattle.table.specs.Tables.{routes, SoundTable}
use Rattle.updates.specs.declared.Action.{Action}
use Rattle.updates.specs.declared.Action.TheVariants.{Announce, Withdraw}
use Rattle.updates.specs.declared.Update.{Update}
use Rattle.verdicts.specs.Verdicts.{verdict_number, limits_of, TableAfter}
use Rattle.verdicts.specs.declared.UpdateError.{UpdateError}
use Rattle.verdicts.specs.declared.UpdateError.TheVariants.{TooLong, BadHop}

-- ---- an update record as the model's

abbrev pub action_of : Action → model.Action
action_of (Announce hop) = model.announce hop
action_of Withdraw = model.withdraw

-- "Bits past the length are cleared before any other use."
abbrev pub prefix_of_update : Update → Bits
prefix_of_update u = take u.prefix.length (ipv4_bits u.prefix.address)

abbrev pub update_of : Update → model.Update
update_of u = record { prefix = prefix_of_update u; action = action_of u.action }

-- the update record of a prefix that is given as an address of 32 bits and a length
pub record Means (address length : ℕ) (action : Action) (u : Update) : Type 0 where
  pub its_address : ipv4_bits u.prefix.address ≡ bits 32 address
  pub its_length : u.prefix.length ≡ length
  pub its_action : u.action ≡ action

-- ---- the refusals that are given first

-- "1 and 2 are given first on any store": the number of such a refusal, or 0
abbrev pub hop_refusal : Action → ℕ
hop_refusal (Announce hop) = cond (eqb hop 0 || ltb highest_hop hop) bad_hop 0
hop_refusal Withdraw = 0

abbrev pub first_refusal : Update → ℕ
first_refusal u = cond (ltb 32 u.prefix.length) too_long (hop_refusal u.action)

-- ---- the promise

pub record TableUpdated (w w' : List ℕ) (u : Update) (r : Result (Unit {0}) UpdateError) : Type 0 where
  -- on any store
  pub first : ¬ (first_refusal u ≡ 0) → (verdict_number r ≡ first_refusal u) × (w' ≡ w)
  pub later : first_refusal u ≡ 0 → (¬ (r ≡ Err TooLong)) × (¬ (r ≡ Err BadHop))
  -- on a sound one
  pub number : SoundTable w → verdict_number r ≡ refusal (limits_of w) (routes w) u.prefix.length (prefix_of_update u) (action_of u.action)
  pub refused : SoundTable w → ¬ (r ≡ Ok tt) → w' ≡ w
  pub accepted : SoundTable w → r ≡ Ok tt → TableAfter w w' (update_of u)
