-- What the stores of a withdrawal leave of the words. A number that is read from a store that is not sound may name no cell or no node of
-- the m in use: then nothing is stored there. Assumes nothing.
use Rattle.std.specs.Prelude.{cond, ◌||◌, List, ℕ, ◌+◌, ◌-◌, ◌*◌, ◌/◌, ◌≤◌, eqb, ltb}
use Rattle.sizes.specs.Sizes.{largest_limit}
use Rattle.sizes.specs.BothStores.{slot_word, word, Room}
use Rattle.nodes.specs.Stores.{put_up, put_child, put_node, put_counts, node_in}
use Rattle.nodes.specs.declared.Node.{Node}

-- the words of the nodes 1 to m are in the store
abbrev pub Nodes : List ℕ → ℕ → Type 0
Nodes w m = Room w m × (m ≤ 2 * largest_limit)

-- the cell points at p
unfoldable pub pointed : List ℕ → ℕ → ℕ → ℕ → List ℕ
pointed w m cell p = cond (eqb cell 1 || ltb m (cell / 2)) w (put_child w cell p)

-- node p hangs in the cell
unfoldable pub hung : List ℕ → ℕ → ℕ → ℕ → List ℕ
hung w m p cell = cond (eqb p 0 || ltb m p) w (put_up w p cell)

-- node p is taken out: its one child, or none, takes its cell
unfoldable pub cut : List ℕ → ℕ → ℕ → ℕ → List ℕ
cut w m p kid = hung (pointed w m (word w (slot_word p 5)) kid) m kid (word w (slot_word p 5))

-- a node comes to the place p, and its cell and its children know it
unfoldable pub placed : List ℕ → ℕ → ℕ → Node → List ℕ
placed w m p n = hung (hung (pointed (put_node w p n) m n.up p) m n.left (2 * p)) m n.right (2 * p + 1)

-- the last node comes to the place of one that is gone
unfoldable pub closed : List ℕ → ℕ → ℕ → ℕ → List ℕ
closed w m last gone = cond (eqb gone last) w (placed w m gone (node_in w last))

-- two nodes are gone: the higher place is closed first
unfoldable pub closed_both : List ℕ → ℕ → ℕ → ℕ → List ℕ
closed_both w m p q = cond (ltb p q) (closed (closed w m m q) m (m - 1) p) (closed (closed w m m p) m (m - 1) q)

-- of m nodes and r routes the route p goes, and its one child, or none, takes its cell
unfoldable pub without : List ℕ → ℕ → ℕ → ℕ → ℕ → List ℕ
without w m r p kid = put_counts (closed (cut w m p kid) m m p) (m - 1) (r - 1)

-- the route p goes, a leaf, and with it the branch q, whose other child takes its cell
unfoldable pub without_both : List ℕ → ℕ → ℕ → ℕ → ℕ → ℕ → List ℕ
without_both w m r p q other = put_counts (closed_both (cut (cut w m p 0) m q other) m p q) (m - 2) (r - 1)
