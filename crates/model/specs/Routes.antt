-- Routes, the table that holds them, the longest match, and what an update does to the table. A prefix is the list of its bits and an
-- address is a list of bits of full width, so that no width stands here. Left to Model: when an update is refused. Assumes nothing.
use Rattle.std.specs.Prelude.{ℕ, Bool, not, List, ◌∷◌, length}
use Rattle.std.proofs.Math.Option.{Option}
use Rattle.prefix.specs.Bits.{Bits}
use Rattle.prefix.specs.Prefix.{contains, same}
use Rattle.model.specs.Lists.{keep, any, biggest}

-- "A route is a prefix with a hop, 1 to 65,535."
pub record Route : Type 0 where
  pub prefix : Bits
  pub hop : ℕ

-- the routes that stand, listed in any order: SameRoutes shows that no answer depends on it
abbrev pub Table : Type 0
Table = List Route

-- "the longest route that contains X" (RFC 4632)
unfoldable pub match : Table → Bits → Option Route
match table X = biggest (λ R. length R.prefix) (keep (λ R. contains R.prefix X) table)

-- ---- updates

-- "An update record is a prefix with its action: an announcement that carries a hop, or a withdrawal that carries none."
pub data Action : Type 0 where
  announce : ℕ → Action
  withdraw : Action

pub record Update : Type 0 where
  pub prefix : Bits
  pub action : Action

-- whether the table holds the prefix
unfoldable pub held : Table → Bits → Bool
held table p = any (λ R. same R.prefix p) table

unfoldable pub with_announced : Bits → Action → Table → Table
with_announced p (announce hop) table = record { prefix = p; hop = hop } ∷ table
with_announced p withdraw table = table

-- the table after the update: "A table holds a prefix at most once. Announcing a held prefix replaces its hop"
unfoldable pub updated : Table → Update → Table
updated table u = with_announced u.prefix u.action (keep (λ R. not (same R.prefix u.prefix)) table)
