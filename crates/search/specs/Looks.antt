-- What the parts of a search answer. Assumes nothing.
use Rattle.std.specs.Prelude.{◌≡◌, true, false, List, ℕ, ◌≤◌, Option, None, Some}
use Rattle.std.proofs.Math.Option as math
use Rattle.std.proofs.Math.Option.{none, some}
use Rattle.prefix.specs.Bits.{Bits}
use Rattle.trie.specs.Trie.{Kid, Trie}
use Rattle.trie.specs.Walk.{length_at}
use Rattle.table.specs.Tables.{SoundTable}
use Rattle.search.specs.Matches.{Matched}
use Rattle.search.specs.declared.Match.{Match}
use Rattle.search.specs.declared.Answer.{Answer}

-- a node by its hop, if it is a route, and its length
unfoldable pub found_at : math.Option ℕ → ℕ → Option Match
found_at none own = None
found_at (some h) own = Some (record { hop = h; length = own })

-- the length of a node, and one more where it has nodes below it
abbrev pub length_below : Trie → ℕ → ℕ
length_below v i = length_at v i (v.child (Kid i false)) (v.child (Kid i true))

-- a length that fits any address, and on a sound table is n
pub record Length (w : List ℕ) (n r : ℕ) : Type 0 where
  pub small : r ≤ 33
  pub right : SoundTable w → r ≡ n

pub record Answered (w : List ℕ) (X : Bits) (r : Answer) : Type 0 where
  pub sound : SoundTable w → Matched w X r
  pub any : r.least ≤ 33
