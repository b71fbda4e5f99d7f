-- What the stores of an update keep: the header, the words past the need, and numbers that name cells and nodes in use. Assumes nothing.
use mathlib.Core.Path.{◌≡◌, refl, sym, ap, ◌∙◌}
use mathlib.Core.Bool.{not}
use mathlib.Core.List.{List}
use Prim.Native.Nat.{ℕ, zero, suc, ◌+◌, ◌-◌, ◌/◌, ◌%◌, ◌≤◌, ◌<◌}
use native.Mathlib.Decide.{ℕ_discrete, dec_le, dec_lt}
use native.Mathlib.Omega.{arith}
use lib.ListN.{length, set}
use lib.Seq.{get_or-set_same, get_or-set_other, set_out}
use Rattle.prefix.specs.Bits.{one?}
use Rattle.trie.specs.Trie.{Inside, Dense}
use Rattle.sizes.specs.BothStores.{slot_word, word, Room}
use Rattle.nodes.specs.Layout.{cell_word, nodes_of, cell_of}
use Rattle.nodes.specs.Stores.{put_mark, put_up, put_child, filled_at, put_node, node_in}
use Rattle.nodes.specs.declared.Node.{Node}
use Rattle.nodes.proofs.Coding.{numbered_node}
use Rattle.nodes.proofs.Keeping.{node_back}
use Rattle.nodes.proofs.Spelling.{child_word, up_word}
use Rattle.table.specs.Tables.{SoundTable}

-- ---- numbers of cells

-- a number of a cell in use
abbrev pub CellIn : ℕ → ℕ → Type 0
CellIn m q = (¬ (q ≡ 1)) × (q / 2 ≤ m)

cell_inside : (m q : ℕ) → CellIn m q → Inside (Dense m) (cell_of q)
unfolding cell_of
cell_inside m zero h = tt
cell_inside m (suc q) (n, h) = omega arith

pub inside_cell : (m q : ℕ) → Inside (Dense m) (cell_of q) → q / 2 ≤ m
unfolding cell_of
inside_cell m zero h = omega arith
inside_cell m (suc q) h = omega arith

pub other_side : (b : ℕ) → b < 2 → one? (1 - b) ≡ not (one? b)
other_side zero l = refl
other_side (suc zero) l = refl
other_side (suc (suc b)) l = absurd (omega arith)

-- ---- numbers that name cells and nodes in use

-- in the nodes 1 to k they are of the cells and the nodes 1 to m
pub record Linked (w : List ℕ) (k m : ℕ) : Type 0 where
  pub up_in : (p : ℕ) → 0 < p → p ≤ k → CellIn m (word w (slot_word p 5))
  pub child_in : (q : ℕ) → CellIn k q → word w (cell_word q) ≤ m

pub sound_linked : (w : List ℕ) → SoundTable w → Linked w (nodes_of w) (nodes_of w)
sound_linked w s = record { up_in = up_in; child_in = λ q i. child_in q i (dec_lt 0 (word w (cell_word q))) }
  where
    up_in : (p : ℕ) → 0 < p → p ≤ nodes_of w → CellIn (nodes_of w) (word w (slot_word p 5))
    up_in p a b = (s.plain.celled p a b, inside_cell _ _ (rw (up_word w p a) (s.trie.owned (p - 1) (omega arith)).inside))

    child_in : (q : ℕ) → CellIn (nodes_of w) q → Dec (0 < word w (cell_word q)) → word w (cell_word q) ≤ nodes_of w
    child_in q i (no z) = omega arith
    child_in q i (yes l) =
        let e = sym (child_word w q i.0) ∙ numbered_node (word w (cell_word q)) l in
        omega (arith, (s.trie.points (cell_of q) _ (cell_inside _ q i) e).is_live)

stored_or_kept : (P : ℕ → Type 0) (w : List ℕ) (i v j : ℕ) → (j ≡ i → P v) → P (word w j) → P (word (set w i v) j)
stored_or_kept P w i v j new old = go (ℕ_discrete j i) (dec_lt i (length w))
  where
    go : Dec (j ≡ i) → Dec (i < length w) → P (word (set w i v) j)
    go (no n) d = rw (get_or-set_other w i j v 0 n) old
    go (yes e) (yes l) = rw (e, get_or-set_same w i v 0 l) (new e)
    go (yes e) (no n) = rw (set_out w i v (omega arith)) old

linked_set : {w : List ℕ} {k m : ℕ} (i v : ℕ) → ((p : ℕ) → slot_word p 5 ≡ i → CellIn m v) → ((q : ℕ) → cell_word q ≡ i → v ≤ m) → Linked w k m → Linked (set w i v) k m
linked_set {w} {k} {m} i v u c h = record {
  up_in = λ p a b. stored_or_kept (CellIn m) w i v (slot_word p 5) (u p) (h.up_in p a b);
  child_in = λ q a. stored_or_kept (λ x. x ≤ m) w i v (cell_word q) (c q) (h.child_in q a);
}

pub linked_mark : {w : List ℕ} {k m : ℕ} (p mark : ℕ) → Linked w k m → Linked (put_mark w p mark) k m
unfolding put_mark
linked_mark p mark h = linked_set _ mark (λ q z. omega arith) (λ q z. omega arith) h

pub linked_child : {w : List ℕ} {k m : ℕ} (cell p : ℕ) → p ≤ m → Linked w k m → Linked (put_child w cell p) k m
unfolding put_child
linked_child cell p l h = linked_set _ p (λ q z. omega arith) (λ q z. l) h

pub linked_up : {w : List ℕ} {k m : ℕ} (p cell : ℕ) → CellIn m cell → Linked w k m → Linked (put_up w p cell) k m
unfolding put_up
linked_up p cell i h = linked_set _ cell (λ q z. i) (λ q z. omega arith) h

-- ---- a node whose numbers do

pub record GoodNode (m : ℕ) (n : Node) : Type 0 where
  pub len : n.length ≤ 32
  pub up : CellIn m n.up
  pub left : n.left ≤ m
  pub right : n.right ≤ m

pub linked_node : {w : List ℕ} {k m : ℕ} (p : ℕ) {n : Node} → GoodNode m n → Linked w k m → Linked (put_node w p n) k m
unfolding put_node filled_at
linked_node p {n} g h =
    linked_set _ n.up (λ q z. g.up) (λ q z. omega arith)
    (linked_set _ n.right (λ q z. omega arith) (λ q z. g.right)
    (linked_set _ n.left (λ q z. omega arith) (λ q z. g.left)
    (linked_set _ n.mark (λ q z. omega arith) (λ q z. omega arith)
    (linked_set _ n.length (λ q z. omega arith) (λ q z. omega arith)
    (linked_set _ n.address (λ q z. omega arith) (λ q z. omega arith) h)))))

pub linked_next : {w : List ℕ} {m : ℕ} {n : Node} → GoodNode (m + 1) n → Room w (m + 1) → Linked w m m → Linked (put_node w (m + 1) n) (m + 1) (m + 1)
unfolding node_in
linked_next {w} {m} {n} g room h = record { up_in = λ p a b. up_in p a b (dec_le p m); child_in = λ q i. child_in q i (dec_le (q / 2) m) }
  where
    back : node_in (put_node w (m + 1) n) (m + 1) ≡ n
    back = node_back w (m + 1) n room

    old : Linked (put_node w (m + 1) n) m (m + 1)
    old = linked_node (m + 1) g (record { up_in = λ p a b. ((h.up_in p a b).0, omega (arith, (h.up_in p a b).1)); child_in = λ q i. omega (arith, h.child_in q i) })

    up_in : (p : ℕ) → 0 < p → p ≤ m + 1 → Dec (p ≤ m) → CellIn (m + 1) (word (put_node w (m + 1) n) (slot_word p 5))
    up_in p a b (yes l) = old.up_in p a l
    up_in p a b (no ne) = let z : p ≡ m + 1 = omega arith in rw (z, ap (λ (x : Node). x.up) back) g.up

    child_in : (q : ℕ) → CellIn (m + 1) q → Dec (q / 2 ≤ m) → word (put_node w (m + 1) n) (cell_word q) ≤ m + 1
    child_in q i (yes l) = old.child_in q (i.0, l)
    child_in q i (no ne) = side (dec_le (q % 2) 0)
      where
        side : Dec (q % 2 ≤ 0) → word (put_node w (m + 1) n) (cell_word q) ≤ m + 1
        side (yes z) = let e : cell_word q ≡ slot_word (m + 1) 3 = omega (arith, i.1) in rw (e, ap (λ (x : Node). x.left) back) g.left
        side (no z) = let e : cell_word q ≡ slot_word (m + 1) 4 = omega (arith, i.1) in rw (e, ap (λ (x : Node). x.right) back) g.right
