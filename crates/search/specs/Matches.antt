-- What a search of the table promises. Assumes nothing.
use Rattle.std.specs.Prelude.{◌≡◌, List, [], ℕ, length, Option, None, Some}
use Rattle.std.proofs.Math.Option as math
use Rattle.std.proofs.Math.Option.{none, some}
use Rattle.prefix.specs.Bits.{Bits}
use Rattle.model.specs.Routes.{Route, match}
use Rattle.model.specs.Model.{new_length}
use Rattle.model.specs.Nodes.{examined}
use Rattle.table.specs.Tables.{routes}
use Rattle.search.specs.declared.Match.{Match}
use Rattle.search.specs.declared.Answer.{Answer}

abbrev pub found_for : math.Option Route → Option Match
found_for none = None
found_for (some M) = Some (record { hop = M.hop; length = length M.prefix })

-- "the longest route that contains X", "the number of nodes examined", and with a match M the routes' part of n: the largest of
-- "M's length; 1 + Common(X, R) for each route R that does not contain X"
pub record Matched (w : List ℕ) (X : Bits) (r : Answer) : Type 0 where
  pub is_match : r.found ≡ found_for (match (routes w) X)
  pub count : r.examined ≡ examined (routes w) X
  pub least : (M : Route) → match (routes w) X ≡ some M → r.least ≡ new_length (routes w) [] X M
