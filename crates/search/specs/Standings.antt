-- What the table says of a prefix, as an update asks it of a cached entry. Assumes nothing.
use Rattle.std.specs.Prelude.{◌≡◌, Bool, false, List, ℕ, ◌≤◌, ◌<◌, take, None}
use Rattle.prefix.specs.Bits.{Bits}
use Rattle.prefix.specs.Prefix.{strictly_inside}
use Rattle.model.specs.Lists.{any}
use Rattle.model.specs.Routes.{match}
use Rattle.table.specs.Tables.{routes, SoundTable}
use Rattle.search.specs.Matches.{found_for}
use Rattle.search.specs.declared.Standing.{Standing}

-- the match of the whole prefix P, and whether the table holds "a route strictly inside"
pub record Judged (w : List ℕ) (P : Bits) (r : Standing) : Type 0 where
  pub is_match : r.found ≡ found_for (match (routes w) P)
  pub is_inside : r.inside ≡ any (λ R. strictly_inside R.prefix P) (routes w)

-- the prefix is the first n bits of an address X, of which there are 32
pub record JudgedAt (w : List ℕ) (X : Bits) (n : ℕ) (r : Standing) : Type 0 where
  pub long : 32 < n → r ≡ record { found = None; inside = false }
  pub sound : n ≤ 32 → SoundTable w → Judged w (take n X) r

-- a test that on a sound table says t
pub record Tells (w : List ℕ) (t r : Bool) : Type 0 where
  pub right : SoundTable w → r ≡ t
