-- What each store leaves of the words: one word, or the six of a node. Assumes nothing.
use Rattle.std.specs.Prelude.{List, ℕ, ◌+◌, set}
use Rattle.sizes.specs.BothStores.{slot_word, word}
use Rattle.nodes.specs.Layout.{cell_word}
use Rattle.nodes.specs.declared.Node.{Node}

unfoldable pub put_mark : List ℕ → ℕ → ℕ → List ℕ
put_mark w p mark = set w (slot_word p 2) mark

unfoldable pub put_up : List ℕ → ℕ → ℕ → List ℕ
put_up w p cell = set w (slot_word p 5) cell

unfoldable pub put_child : List ℕ → ℕ → ℕ → List ℕ
put_child w cell p = set w (cell_word cell) p

-- the first six words of a slot, from the index a on
unfoldable pub filled_at : List ℕ → ℕ → Node → List ℕ
filled_at w a n = set (set (set (set (set (set w a n.address) (a + 1) n.length) (a + 2) n.mark) (a + 3) n.left) (a + 4) n.right) (a + 5) n.up

unfoldable pub put_node : List ℕ → ℕ → Node → List ℕ
put_node w p n = filled_at w (slot_word p 0) n

-- the nodes in use and the routes held
unfoldable pub put_counts : List ℕ → ℕ → ℕ → List ℕ
put_counts w nodes routes = set (set w 1 nodes) 2 routes

-- node p by value
unfoldable pub node_in : List ℕ → ℕ → Node
node_in w p = record {
  address = word w (slot_word p 0);
  length = word w (slot_word p 1);
  mark = word w (slot_word p 2);
  left = word w (slot_word p 3);
  right = word w (slot_word p 4);
  up = word w (slot_word p 5);
}

-- an empty table
unfoldable pub emptied : List ℕ → ℕ → List ℕ
emptied w limit = set (set (set (set w 0 limit) 1 0) 2 0) 1019 0
