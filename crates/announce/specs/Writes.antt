-- What the stores of an announcement leave of the words. Assumes nothing.
use Rattle.std.specs.Prelude.{◌≡◌, cond, List, ℕ, ◌+◌, ◌*◌, ◌≤◌, ◌<◌, eqb}
use Rattle.prefix.specs.Bits.{Bits}
use Rattle.prefix.specs.Prefix.{prefix_of}
use Rattle.sizes.specs.Sizes.{largest_limit}
use Rattle.sizes.specs.BothStores.{Room}
use Rattle.nodes.specs.Stores.{put_up, put_child, put_node, put_counts}
use Rattle.nodes.specs.declared.Header.{Header}
use Rattle.nodes.specs.declared.Node.{Node}

-- there is room for one more route, and for its node and a branch
pub record Roomy (w : List ℕ) (h : Header) : Type 0 where
  pub route : h.routes < h.limit
  pub two_nodes : h.nodes + 2 ≤ 2 * h.limit
  pub words : Room w (h.nodes + 2)
  pub legal : h.limit ≤ largest_limit

-- a node of the prefix P, which has that length, with a mark, two children and the cell where it hangs
pub record NodeOf (P : Bits) (len mark left right up : ℕ) (n : Node) : Type 0 where
  pub spells : prefix_of 32 n.address len ≡ P
  pub its_length : n.length ≡ len
  pub its_mark : n.mark ≡ mark
  pub its_left : n.left ≡ left
  pub its_right : n.right ≡ right
  pub its_up : n.up ≡ up

-- the child on the side b of a node that has the one child p on a side
abbrev pub only_child : ℕ → ℕ → ℕ → ℕ
only_child side p b = cond (eqb side b) p 0

-- node p comes in, and its cell knows it
unfoldable pub inserted : List ℕ → ℕ → Node → List ℕ
inserted w p n = put_child (put_node w p n) n.up p

-- to m nodes and r routes comes a leaf
unfoldable pub with_leaf : List ℕ → ℕ → ℕ → Node → List ℕ
with_leaf w m r n = put_counts (inserted w (m + 1) n) (m + 1) (r + 1)

-- a node comes between node p, which goes on to its side, and p's cell
unfoldable pub above : List ℕ → ℕ → ℕ → ℕ → Node → List ℕ
above w m p side n = put_up (inserted w (m + 1) n) p (2 * (m + 1) + side)

unfoldable pub with_above : List ℕ → ℕ → ℕ → ℕ → ℕ → Node → List ℕ
with_above w m r p side n = put_counts (above w m p side n) (m + 1) (r + 1)

-- a branch comes there, and a leaf on its other side
unfoldable pub with_fork : List ℕ → ℕ → ℕ → ℕ → ℕ → Node → Node → List ℕ
with_fork w m r p side branch leaf = put_counts (inserted (above w m p side branch) (m + 2) leaf) (m + 2) (r + 1)
