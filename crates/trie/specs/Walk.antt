-- "The descent stops at the last node that contains the address and yields that place, or that there is none." The descent from the
-- root by the bits of X, which is an address, or a prefix that is looked for. Assumes nothing.
use Rattle.std.specs.Prelude.{◌≡◌, Bool, true, false, cond, ◌||◌, ℕ, zero, suc, ◌+◌, ◌≤◌, length, get_or, ltb, eqb}
use Rattle.std.proofs.Math.Option.{Option, none, some}
use Rattle.prefix.specs.Bits.{Bits}
use Rattle.prefix.specs.Prefix.{contains, common}
use Rattle.trie.specs.Trie.{Cell, Root, Kid, Trie, Sound}

-- where a descent stopped
pub record Stop : Type 0 where
  -- the deepest node that contains X
  pub last : Option ℕ
  -- the node after it on the side of X, which does not contain X
  pub beyond : Option ℕ
  -- the deepest route that contains X
  pub best : Option ℕ
  -- the number of nodes examined
  pub examined : ℕ

-- the best after the node i, by its hop
unfoldable pub better : Option ℕ → ℕ → Option ℕ → Option ℕ
better none i best = best
better (some h) i best = some i

-- where the descent goes from the node i, which contains X: by the bit of X after i's length, if X has one
unfoldable pub follow : Trie → Bits → ℕ → Option ℕ
follow v X i = cond (ltb (length (v.prefix i)) (length X)) (v.child (Kid i (get_or X (length (v.prefix i)) false))) none

-- a step at the node i: it contains X and the descent goes on from it, or the descent stops
unfoldable pub walk : Trie → Bits → ℕ → Option ℕ → Option ℕ → Option ℕ → ℕ → Stop
walk v X zero cursor last best examined = record { last = last; beyond = none; best = best; examined = examined }
walk v X (suc fuel) none last best examined = record { last = last; beyond = none; best = best; examined = examined }
walk v X (suc fuel) (some i) last best examined = elim (contains (v.prefix i) X) [
  | true ↦ walk v X fuel (follow v X i) (some i) (better (v.hop i) i best) (suc examined)
  | false ↦ record { last = last; beyond = some i; best = best; examined = suc examined }
]

-- from the root; a sound trie has no descent of more steps
unfoldable pub descent : Trie → Bits → Stop
descent v X = walk v X (suc (length X)) (v.child Root) none none 0

-- a loop on the way from the root: what is left of the descent gives what all of it gives
pub record Walking (live : ℕ → Type 0) (v : Trie) (X : Bits) (cursor last best : Option ℕ) (examined : ℕ) : Type 0 where
  pub fuel : ℕ
  pub counted : fuel + examined ≡ suc (length X)
  pub same : walk v X fuel cursor last best examined ≡ descent v X
  -- in a sound trie there is a step left for every node that is met
  pub reached : Sound live v → (i : ℕ) → cursor ≡ some i → live i × (examined ≤ length (v.prefix i)) × (examined ≤ length X)

-- ---- what a stop tells

-- the cell where the descent stopped, if its last node is shorter than X
unfoldable pub cell_after : Trie → Bits → Option ℕ → Cell
cell_after v X none = Root
cell_after v X (some i) = Kid i (get_or X (length (v.prefix i)) false)

-- "n is the largest of: M's length; 1 + Common(X, R) for each route R that does not contain X": one more than Common(X, P) for the
-- prefix P of the node beyond, if there is one; else the length of the last node, and one more if it has a child.
unfoldable pub length_at : Trie → ℕ → Option ℕ → Option ℕ → ℕ
length_at v i none none = length (v.prefix i)
length_at v i none (some r) = suc (length (v.prefix i))
length_at v i (some l) right = suc (length (v.prefix i))

unfoldable pub length_from : Trie → Bits → Option ℕ → Option ℕ → ℕ
length_from v X last (some j) = suc (common X (v.prefix j))
length_from v X (some i) none = length_at v i (v.child (Kid i false)) (v.child (Kid i true))
length_from v X none none = 0

unfoldable pub new_from : Trie → Bits → Stop → ℕ
new_from v X stop = length_from v X stop.last stop.beyond

-- ---- what the stop of a descent by a prefix P tells: whether a route lies strictly inside P

-- whether a cell points at a node
unfoldable pub taken : Option ℕ → Bool
taken none = false
taken (some j) = true

-- P is the node i's own prefix: whether the node has a child
unfoldable pub inside_at : Trie → ℕ → Bool
inside_at v i = taken (v.child (Kid i false)) || taken (v.child (Kid i true))

-- no node has the prefix P: whether P contains the node beyond, if there is one
unfoldable pub inside_beyond : Trie → Bits → Option ℕ → Bool
inside_beyond v P none = false
inside_beyond v P (some j) = contains P (v.prefix j)

unfoldable pub inside_last : Trie → Bits → Option ℕ → Option ℕ → Bool
inside_last v P none beyond = inside_beyond v P beyond
inside_last v P (some i) beyond = cond (eqb (length (v.prefix i)) (length P)) (inside_at v i) (inside_beyond v P beyond)

unfoldable pub inside_from : Trie → Bits → Stop → Bool
inside_from v P stop = inside_last v P stop.last stop.beyond
