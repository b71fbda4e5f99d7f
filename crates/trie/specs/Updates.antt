-- What an update changes, in the order in which a program can store it. Each is a composition of stores of one field in one slot.
-- The node at a slot that is no longer live is left as it is. Assumes nothing.
use Rattle.std.specs.Prelude.{◌≡◌, Bool, true, false, not, cond, ℕ, ◌-◌, eqb, ltb}
use Rattle.std.specs.Bool.{beq}
use Rattle.std.proofs.Math.Bool.{Bool-discrete}
use Rattle.std.proofs.Math.Option.{Option, none, some}
use Rattle.std.proofs.Math.Decide.{ℕ_discrete}
use Rattle.prefix.specs.Bits.{Bits}
use Rattle.trie.specs.Trie.{Cell, Kid, Cell-discrete, Trie}

unfoldable pub cell_dec : (c e : Cell) → Dec (c ≡ e)
cell_dec = Cell-discrete ℕ_discrete Bool-discrete

-- f, but a at k
unfoldable pub upd : {I A : Type 0} → ((x y : I) → Dec (x ≡ y)) → (I → A) → I → A → I → A
upd dec f k a i = elim (dec i k) [ yes e ↦ a | no n ↦ f i ]

-- a slot's number once what stood in slot s stands in slot t
unfoldable pub renumbered : ℕ → ℕ → ℕ → ℕ
renumbered s t = upd ℕ_discrete (λ a. a) s t

-- ---- one store

unfoldable pub set_node : Trie → ℕ → Bits → Option ℕ → Trie
set_node v k p h = record { prefix = upd ℕ_discrete v.prefix k p; hop = upd ℕ_discrete v.hop k h; child = v.child; up = v.up }

unfoldable pub set_hop : Trie → ℕ → Option ℕ → Trie
set_hop v k h = record { prefix = v.prefix; hop = upd ℕ_discrete v.hop k h; child = v.child; up = v.up }

unfoldable pub set_child : Trie → Cell → Option ℕ → Trie
set_child v c o = record { prefix = v.prefix; hop = v.hop; child = upd cell_dec v.child c o; up = v.up }

unfoldable pub set_up : Trie → ℕ → Cell → Trie
set_up v k c = record { prefix = v.prefix; hop = v.hop; child = v.child; up = upd ℕ_discrete v.up k c }

-- ---- a few

-- the whole of slot k: prefix, hop, the cell that points at it, and its two children
unfoldable pub set_slot : Trie → ℕ → Bits → Option ℕ → Cell → Option ℕ → Option ℕ → Trie
set_slot v k p h c left right = set_up (set_child (set_child (set_node v k p h) (Kid k false) left) (Kid k true) right) k c

-- the up of what a cell points at, if it points at anything
unfoldable pub upd_of : (ℕ → Cell) → Option ℕ → Cell → ℕ → Cell
upd_of up none c = up
upd_of up (some j) c = upd ℕ_discrete up j c

unfoldable pub set_up_of : Trie → Option ℕ → Cell → Trie
set_up_of v o c = record { prefix = v.prefix; hop = v.hop; child = v.child; up = upd_of v.up o c }

-- ---- announcing

-- the node i is there, as a route or a branch
unfoldable pub hop_at : Trie → ℕ → ℕ → Trie
hop_at v i H = set_hop v i (some H)

-- a leaf n in the empty cell c
unfoldable pub leaf_at : Trie → Cell → ℕ → Bits → ℕ → Trie
leaf_at v c n P H = set_child (set_slot v n P (some H) c none none) c (some n)

-- the child of a node with the one child j on the side d
unfoldable pub on_side : Bool → ℕ → Bool → Option ℕ
on_side d j b = cond (beq b d) (some j) none

-- a node n between the cell c and the node j that it points at, which stands on n's side d
unfoldable pub splice_at : Trie → Cell → ℕ → Bits → Option ℕ → Bool → ℕ → Trie
splice_at v c n P h d j = set_child (set_up (set_slot v n P h c (on_side d j false) (on_side d j true)) j (Kid n d)) c (some n)

-- a branch n with the prefix L there, and a leaf k on its other side
unfoldable pub fork_at : Trie → Cell → ℕ → ℕ → Bits → Bool → ℕ → Bits → ℕ → Trie
fork_at v c n k L d j P H = leaf_at (splice_at v c n L none d j) (Kid n (not d)) k P H

-- ---- withdrawing

-- the route i has two children, and stays as a branch
unfoldable pub unhop_at : Trie → ℕ → Trie
unhop_at v i = set_hop v i none

-- the node n is taken out: its one child, if it has any, takes its cell
unfoldable pub cut_at : Trie → ℕ → Option ℕ → Trie
cut_at v n kid = set_up_of (set_child v (v.up n) kid) kid (v.up n)

-- the node in slot s moves to slot t
unfoldable pub move_at : Trie → ℕ → ℕ → Trie
move_at v s t =
    let left : Option ℕ = v.child (Kid s false) in
    let right : Option ℕ = v.child (Kid s true) in
    set_up_of (set_up_of (set_child (set_slot v t (v.prefix s) (v.hop s) (v.up s) left right) (v.up s) (some t)) left (Kid t false)) right (Kid t true)

-- the free slot x is filled by the node of the last slot
unfoldable pub fill_at : Trie → ℕ → ℕ → Trie
fill_at v last x = cond (eqb x last) v (move_at v last x)

-- two free slots, of n slots, are filled: the higher one first
unfoldable pub fill_both : Trie → ℕ → ℕ → ℕ → Trie
fill_both v n x y = cond (ltb x y) (fill_at (fill_at v (n - 1) y) (n - 2) x) (fill_at (fill_at v (n - 1) x) (n - 2) y)
