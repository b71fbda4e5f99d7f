-- What the calls do to the slots: the walk to the entry nearest to an address, and the changes, each a few stores. Assumes nothing.
use Rattle.std.specs.Prelude.{Bool, true, false, not, cond, ◌&&◌, ℕ, zero, suc, ◌/◌, ◌%◌, length, get_or, leb, eqb}
use Rattle.prefix.specs.Bits.{Bits, one?}
use Rattle.prefix.specs.Prefix.{common}
use Rattle.trie.specs.Trie.{Fits}
use Rattle.lru_cache.specs.Sound.{cell_at, trie, Live}
use Rattle.lru_cache.specs.Slots.{Cache, entry_node, branch_node, cell_of, root_cell, set_entry, set_branch_length, set_child, set_up, set_prev, set_next}

-- ---- the walk by an address

-- the node x is a branch whose prefix contains X
unfoldable pub passes : Cache → Bits → ℕ → Bool
passes c X x = one? (x % 2) && leb (c.branch_length (x / 2)) (common X (c.entry (x / 2)))

-- the cell of such a branch on X's side
unfoldable pub towards : Cache → Bits → ℕ → ℕ
towards c X x = cell_of (x / 2) (get_or X (c.branch_length (x / 2)) false)

-- the node where the walk from x stops, after at most so many steps
unfoldable pub walk : Cache → Bits → ℕ → ℕ → ℕ
walk c X zero x = x
walk c X (suc steps) x = cond (passes c X x) (walk c X steps (c.child (towards c X x))) x

-- from the root, with a step for each length from 0 to X's
unfoldable pub find : Cache → Bits → ℕ
find c X = walk c X (suc (length X)) (c.child root_cell)

-- the node x is live, and what X goes on with would hang below x's cell
pub record On (n : ℕ) (c : Cache) (X : Bits) (x : ℕ) : Type 0 where
  pub live : Live n x
  pub fits : Fits (trie c) (cell_at (c.up x)) X

-- ---- the order of use

-- slot k is taken out of the ring, and put in after slot 0
unfoldable pub unlink : Cache → ℕ → Cache
unlink c k = set_prev (set_next c (c.prev k) (c.next k)) (c.next k) (c.prev k)

unfoldable pub push_front : Cache → ℕ → Cache
push_front c k = set_prev (set_prev (set_next (set_next c k (c.next 0)) 0 k) k 0) (c.next 0) k

-- the entry of slot k becomes the most recently used
unfoldable pub to_front : Cache → ℕ → Cache
to_front c k = push_front (unlink c k) k

-- slot t takes the place of slot s in the ring
unfoldable pub move_links : Cache → ℕ → ℕ → Cache
move_links c s t = set_prev (set_prev (set_next (set_next c t (c.next s)) (c.prev s) t) t (c.prev s)) (c.next s) t

-- ---- insertion, as the most recently used

-- the first entry, in slot 1
unfoldable pub insert_first : Cache → Bits → ℕ → Cache
insert_first c p h = push_front (set_child (set_up (set_entry c 1 p h) (entry_node 1) root_cell) root_cell (entry_node 1)) 1

-- the nodes of a further entry in slot s: its branch, of m bits, hangs in the cell q; what hung there goes to the branch's side d, and
-- the entry to the other
unfoldable pub hang : Cache → ℕ → ℕ → Bool → ℕ → Bits → ℕ → Cache
hang c s q d m p h =
    set_child (set_child (set_child
    (set_up (set_branch_length (set_up (set_up (set_entry c s p h) (c.child q) (cell_of s d)) (entry_node s) (cell_of s (not d))) s m) (branch_node s) q)
    (cell_of s d) (c.child q)) (cell_of s (not d)) (entry_node s)) q (branch_node s)

-- the same with its place in the order of use
unfoldable pub insert_at : Cache → ℕ → ℕ → Bool → ℕ → Bits → ℕ → Cache
insert_at c s q d m p h = push_front (hang c s q d m p h) s

-- ---- removal

-- the only entry
unfoldable pub remove_only : Cache → Cache
remove_only c = set_child (unlink c 1) root_cell 0

-- the branch in slot j is cut out with its child on the side b: the other child takes its cell
unfoldable pub prune : Cache → ℕ → Bool → Cache
prune c j b = set_up (set_child c (c.up (branch_node j)) (c.child (cell_of j (not b)))) (c.child (cell_of j (not b))) (c.up (branch_node j))

-- the entry of slot s goes to slot t
unfoldable pub move_entry : Cache → ℕ → ℕ → Cache
move_entry c s t =
    move_links (set_up (set_child (set_entry c t (c.entry s) (c.hop s)) (c.up (entry_node s)) (entry_node t)) (entry_node t) (c.up (entry_node s))) s t

-- the branch of slot s goes to slot t
unfoldable pub move_branch : Cache → ℕ → ℕ → Cache
move_branch c s t =
    set_up (set_branch_length (set_up (set_up
    (set_child (set_child (set_child c (cell_of t false) (c.child (cell_of s false))) (cell_of t true) (c.child (cell_of s true))) (c.up (branch_node s)) (branch_node t))
    (c.child (cell_of s false)) (cell_of t false)) (c.child (cell_of s true)) (cell_of t true)) t (c.branch_length s)) (branch_node t) (c.up (branch_node s))

-- the free slot t gets the entry of slot s, or all of slot s, unless s is the free slot itself
unfoldable pub fill_entry : Cache → ℕ → ℕ → Cache
fill_entry c s t = cond (eqb s t) c (move_entry c s t)

unfoldable pub fill_slot : Cache → ℕ → ℕ → Cache
fill_slot c s t = cond (eqb s t) c (move_branch (move_entry c s t) s t)

-- the entry of slot k of n, which hangs on the side b of the branch in slot j: the entry of slot j goes to slot k, and the last slot to j
unfoldable pub remove_at : Cache → ℕ → ℕ → ℕ → Bool → Cache
remove_at c n k j b = fill_slot (fill_entry (unlink (prune c j b) k) j k) n j
