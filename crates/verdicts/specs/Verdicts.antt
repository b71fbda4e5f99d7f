-- What an update of the table promises once its length and its hop are right, and the number of each answer. Assumes nothing.
use Rattle.std.specs.Prelude.{◌≡◌, List, ℕ, ◌≤◌, ◌<◌, drop, Result, Ok, Err}
use Rattle.sizes.specs.Refusals.{number_by}
use Rattle.sizes.specs.Sizes.{table_need}
use Rattle.model.specs.Routes as model
use Rattle.model.specs.Model.{Limits, refusal}
use Rattle.model.specs.Demands.{SameRoutes}
use Rattle.sizes.specs.BothStores.{limit_of}
use Rattle.nodes.specs.Headers.{HeaderRead}
use Rattle.nodes.specs.declared.Header.{Header}
use Rattle.table.specs.Tables.{routes, SoundTable}
use Rattle.verdicts.specs.declared.UpdateError.{UpdateError}
use Rattle.verdicts.specs.declared.UpdateError.TheVariants.{TooLong, BadHop, Full, NotHeld, Unsound}

abbrev pub update_error_number : UpdateError → ℕ
update_error_number TooLong = 1
update_error_number BadHop = 2
update_error_number Full = 3
update_error_number NotHeld = 4
update_error_number Unsound = 9

abbrev pub verdict_number : Result (Unit {0}) UpdateError → ℕ
verdict_number r = number_by update_error_number r

-- none of the refusals that are given first
abbrev pub Late : Result (Unit {0}) UpdateError → Type 0
Late r = (¬ (r ≡ Err TooLong)) × (¬ (r ≡ Err BadHop))

-- a table store is of IPv4, and knows no entries
abbrev pub limits_of : List ℕ → Limits
limits_of w = record { width = 32; routes = limit_of w; entries = 0 }

-- a sound store after an accepted update: the routes are the model's, the limit and the words past the need are as before
pub record TableAfter (w w' : List ℕ) (u : model.Update) : Type 0 where
  pub sound : SoundTable w'
  pub are_routes : SameRoutes (routes w') (model.updated (routes w) u)
  pub limit_kept : limit_of w' ≡ limit_of w
  pub past_kept : drop (table_need (limit_of w)) w' ≡ drop (table_need (limit_of w)) w

-- what an update whose length and hop are right promises
pub record Answered (w w' : List ℕ) (len : ℕ) (u : model.Update) (r : Result (Unit {0}) UpdateError) : Type 0 where
  pub late : Late r
  pub number : SoundTable w → verdict_number r ≡ refusal (limits_of w) (routes w) len u.prefix u.action
  pub refused : SoundTable w → ¬ (r ≡ Ok tt) → w' ≡ w
  pub accepted : SoundTable w → r ≡ Ok tt → TableAfter w w' u

-- node p is in use
pub record NodeAt (w : List ℕ) (h : Header) (p : ℕ) : Type 0 where
  pub header : HeaderRead w (Ok h)
  pub some_node : 0 < p
  pub in_use : p ≤ h.nodes
