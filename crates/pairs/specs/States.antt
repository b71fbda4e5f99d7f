-- What a pair of stores holds, and what a call leaves of it, by the model. Assumes nothing.
use Rattle.std.specs.Prelude.{◌≡◌, List, ℕ}
use Rattle.tallies.specs.declared.Tallies.{Tallies}
use Rattle.model.specs.Runs.{State}
use Rattle.model.specs.Demands.{SameRoutes}
use Rattle.table.specs.Tables.{routes}
use Rattle.entries.specs.Caches.{entries}

-- what a pair of stores and a record of tallies hold
abbrev pub state_of : List ℕ → List ℕ → Tallies → State
state_of table cache tallies = record { table = routes table; cache = entries cache; tallies = tallies }

-- ---- what a call leaves

-- the state is the model's, up to the order in which the table's slots list the routes
pub record Reached (table cache : List ℕ) (tallies : Tallies) (s : State) : Type 0 where
  pub are_routes : SameRoutes (routes table) s.table
  pub are_entries : entries cache ≡ s.cache
  pub are_tallies : tallies ≡ s.tallies
