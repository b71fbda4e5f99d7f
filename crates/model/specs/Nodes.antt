-- "Nodes examined", as that section counts them: by the set of nodes, not by how a trie is walked. Assumes nothing.
use Rattle.std.specs.Prelude.{ℕ, Bool, false, not, cond, ◌&&◌, ◌||◌, length, get_or, ltb}
use Rattle.std.specs.Bool.{beq}
use mathlib.Core.List.{List, [], ◌∷◌, ◌++◌, map, flat_map}
use Rattle.std.proofs.Math.Option.{Option, none, some}
use Rattle.prefix.specs.Bits.{Bits}
use Rattle.prefix.specs.Prefix.{contains, strictly_inside, overlap, same, shared}
use Rattle.model.specs.Lists.{keep, any, biggest}
use Rattle.model.specs.Routes.{Table}

-- "each longest common prefix of two routes of which neither lies inside the other"
unfoldable pub branches : List Bits → List Bits
branches prefixes = flat_map (λ p. map (shared p) (keep (λ q. not (overlap p q)) prefixes)) prefixes

-- each prefix once
unfoldable pub without_repeats : List Bits → List Bits
without_repeats [] = []
without_repeats (p ∷ l) = cond (any (same p) l) (without_repeats l) (p ∷ without_repeats l)

-- "The nodes of a table are its routes and" its branches.
unfoldable pub nodes : Table → List Bits
nodes table = let prefixes : List Bits = map (λ R. R.prefix) table in without_repeats (prefixes ++ branches prefixes)

-- "The root is the shortest node": none is shorter than v.
unfoldable pub is_root : List Bits → Bits → Bool
is_root ns v = not (any (λ u. ltb (length u) (length v)) ns)

-- "A node's parent is the longest node it lies strictly inside."
unfoldable pub parent : List Bits → Bits → Option Bits
parent ns v = biggest length (keep (λ p. strictly_inside v p) ns)

-- a node "whose parent contains X and which agrees with X in the bit after the parent's length": the bit of that number, from 0
unfoldable pub towards : Bits → Bits → Option Bits → Bool
towards X v none = false
towards X v (some p) = contains p X && beq (get_or v (length p) false) (get_or X (length p) false)

-- "Examined for X: the root; and each node" of that kind. The root is examined also when it does not contain X.
unfoldable pub is_examined : List Bits → Bits → Bits → Bool
is_examined ns X v = is_root ns v || towards X v (parent ns v)

-- "A miss or drop reports the number of nodes examined"
unfoldable pub examined : Table → Bits → ℕ
examined table X = let ns : List Bits = nodes table in length (keep (is_examined ns X) ns)
