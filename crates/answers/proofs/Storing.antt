-- Bytes stored one after the other from a place on. Assumes nothing.
use Prim.Native.Nat.{ℕ, suc, ◌+◌}
use native.Mathlib.Nat.{add-zero, add-suc, suc-add}
use mathlib.Core.Path.{◌≡◌}
use mathlib.Core.List.{List, [], ◌∷◌, ◌++◌}
use lib.ListN.{length, set}
use lib.Seq.{sets}

-- two runs of bytes, the second after the first
pub sets_append : (vs l ws : List ℕ) (i : ℕ) → sets l i (vs ++ ws) ≡ sets (sets l i vs) (i + length vs) ws
sets_append [] l ws i = rw add-zero
sets_append (v ∷ vs) l ws i = rw (add-suc, ← suc-add) (sets_append vs (set l i v) ws (suc i))
