-- What the stores of a withdrawal keep, and the trie that they leave. Assumes nothing.
use mathlib.Core.Path.{◌≡◌, refl, ◌∙◌}
use mathlib.Core.Bool.{false, true}
use mathlib.Core.List.{List}
use Prim.Native.Nat.{ℕ, ◌+◌, ◌-◌, ◌*◌, ◌/◌, ◌≤◌, ◌<◌}
use native.Mathlib.Nat.{add-zero}
use native.Mathlib.Decide.{ℕ_discrete, dec_lt}
use native.Mathlib.Omega.{arith}
use lib.ListN.{length}
use Rattle.prefix.specs.Prefix.{prefix_of}
use Rattle.sizes.specs.Sizes.{table_need}
use Rattle.trie.specs.Trie.{Kid}
use Rattle.trie.specs.Updates.{set_child, set_slot, set_up_of, cut_at, move_at, fill_at, fill_both}
use Rattle.trie.proofs.Stores.{set_up_of_none, set_up_of_some}
use Rattle.trie.proofs.Withdrawing.{fill_last, fill_move, fill_both_is, fill_both_flip}
use Rattle.sizes.specs.BothStores.{slot_word, word, limit_of}
use Rattle.nodes.specs.Layout.{cell_word, numbered, cell_of, trie_of}
use Rattle.nodes.specs.Stores.{put_node, node_in}
use Rattle.nodes.specs.declared.Node.{Node}
use Rattle.nodes.proofs.Coding.{numbered_node, none_numbered, cell_side}
use Rattle.nodes.proofs.Spelling.{up_word, node_is, trie_up, trie_child, trie_node}
use Rattle.withdraw.specs.Writes.{pointed, hung, cut, placed, closed, closed_both}
use Rattle.withdraw.proofs.Guards.{a_cell, no_node, a_node, closed_last, closed_other, closed_below, closed_above}
use Rattle.verdicts.proofs.Linking.{CellIn, GoodNode}
use Rattle.verdicts.proofs.Kept.{Kept, room, child_kept, up_kept, node_kept}

module _ (w : List ℕ) (m : ℕ) (enough : table_need (limit_of w) ≤ length w) (fit : m ≤ 2 * limit_of w) where
  module _ {u : List ℕ} (k : Kept w m u) (cell p : ℕ) (i : CellIn m cell) (l : p ≤ m) where
    pointed_kept : Kept w m (pointed u m cell p)
    pointed_kept = rw (← a_cell u m cell p i.0 i.1 refl) (child_kept w m enough fit k cell p i l)

    pointed_trie : trie_of (pointed u m cell p) ≡ set_child (trie_of u) (cell_of cell) (numbered p)
    pointed_trie = rw (← a_cell u m cell p i.0 i.1 refl) (trie_child u cell p i.0 (room w m enough fit k (cell / 2) i.1))

    hung_kept : Kept w m (hung u m p cell)
    hung_kept = go (ℕ_discrete p 0)
      where
        go : Dec (p ≡ 0) → Kept w m (hung u m p cell)
        go (yes z) = rw (← no_node u m cell p z) k
        go (no n) = rw (← a_node u m cell p n l refl) (up_kept w m enough fit k cell p i l)

    hung_trie : trie_of (hung u m p cell) ≡ set_up_of (trie_of u) (numbered p) (cell_of cell)
    hung_trie = go (ℕ_discrete p 0)
      where
        go : Dec (p ≡ 0) → trie_of (hung u m p cell) ≡ set_up_of (trie_of u) (numbered p) (cell_of cell)
        go (yes z) = rw (← no_node u m cell p z, z, none_numbered, set_up_of_none)
        go (no n) = rw (← a_node u m cell p n l refl, numbered_node p (omega arith), set_up_of_some) (trie_up u p (omega arith) (room w m enough fit k p l) cell)

  -- ---- a node is taken out

  module _ {u : List ℕ} (k : Kept w m u) (p kid : ℕ) (pos : 0 < p) (l : p ≤ m) (kl : kid ≤ m) where
    up : ℕ
    up = word u (slot_word p 5)

    up_in : CellIn m up
    unfolding up
    up_in = k.linked.up_in p pos l

    pub cut_kept : Kept w m (cut u m p kid)
    unfolding cut up
    cut_kept = hung_kept (pointed_kept k up kid up_in kl) up kid up_in kl

    pub cut_trie : trie_of (cut u m p kid) ≡ cut_at (trie_of u) (p - 1) (numbered kid)
    unfolding cut cut_at up
    cut_trie =
        hung_trie (pointed_kept k up kid up_in kl) up kid up_in kl
        ∙ rw (pointed_trie k up kid up_in kl, up_word u p pos)

  -- ---- the last node comes to its place

  module _ {u : List ℕ} (k : Kept w m u) (t : ℕ) (pos : 0 < t) (l : t ≤ m) (n : Node) (g : GoodNode m n) where
    left_cell : CellIn m (2 * t)
    left_cell = (λ z. omega arith, omega arith)

    right_cell : CellIn m (2 * t + 1)
    right_cell = (λ z. omega arith, omega arith)

    k₁ : Kept w m (pointed (put_node u t n) m n.up t)
    k₁ = pointed_kept (node_kept w m enough fit k t l g) n.up t g.up l

    k₂ : Kept w m (hung (pointed (put_node u t n) m n.up t) m n.left (2 * t))
    k₂ = hung_kept k₁ (2 * t) n.left left_cell g.left

    placed_kept : Kept w m (placed u m t n)
    unfolding placed
    placed_kept = hung_kept k₂ (2 * t + 1) n.right right_cell g.right

    placed_trie : trie_of (placed u m t n)
        ≡ set_up_of (set_up_of (set_child (set_slot (trie_of u) (t - 1) (prefix_of 32 n.address n.length) (numbered n.mark) (cell_of n.up) (numbered n.left) (numbered n.right))
        (cell_of n.up) (numbered t)) (numbered n.left) (cell_of (2 * t))) (numbered n.right) (cell_of (2 * t + 1))
    unfolding placed
    placed_trie =
        hung_trie k₂ (2 * t + 1) n.right right_cell g.right
        ∙ rw (hung_trie k₁ (2 * t) n.left left_cell g.left, pointed_trie (node_kept w m enough fit k t l g) n.up t g.up l, trie_node u t pos (room w m enough fit k t l) n)

  module _ {u : List ℕ} (k : Kept w m u) (s t : ℕ) (spos : 0 < s) (sl : s ≤ m) (tpos : 0 < t) (tl : t ≤ m) where
    good : GoodNode m (node_in u s)
    unfolding node_in
    good =
        let e : cell_word (2 * s) ≡ slot_word s 3 = omega arith in
        let f : cell_word (2 * s + 1) ≡ slot_word s 4 = omega arith in
        record {
          len = k.plain.short s spos sl;
          up = k.linked.up_in s spos sl;
          left = rw e at (k.linked.child_in (2 * s) (λ z. omega arith, omega arith));
          right = rw f at (k.linked.child_in (2 * s + 1) (λ z. omega arith, omega arith));
        }

    moved_trie : trie_of (placed u m t (node_in u s)) ≡ move_at (trie_of u) (s - 1) (t - 1)
    unfolding move_at
    moved_trie =
        let n = node_is u s spos in
        let a : cell_of (2 * t) ≡ Kid (t - 1) false = rw add-zero at (cell_side t 0 tpos (omega arith)) in
        let b : cell_of (2 * t + 1) ≡ Kid (t - 1) true = cell_side t 1 tpos (omega arith) in
        cc (placed_trie k t tpos tl (node_in u s) good, numbered_node t tpos)

    pub closed_kept : Kept w m (closed u m s t)
    closed_kept = go (ℕ_discrete t s)
      where
        go : Dec (t ≡ s) → Kept w m (closed u m s t)
        go (yes z) = rw (← closed_last u m s t z) k
        go (no n) = rw (← closed_other u m s t n refl refl) (placed_kept k t tpos tl (node_in u s) good)

    pub closed_trie : trie_of (closed u m s t) ≡ fill_at (trie_of u) (s - 1) (t - 1)
    closed_trie = go (ℕ_discrete t s)
      where
        go : Dec (t ≡ s) → trie_of (closed u m s t) ≡ fill_at (trie_of u) (s - 1) (t - 1)
        go (yes z) = rw (← closed_last u m s t z, z, fill_last (trie_of u) (s - 1) (s - 1) refl)
        go (no n) = rw (← closed_other u m s t n refl refl, fill_move (trie_of u) (s - 1) (t - 1) (λ z. n (omega arith))) moved_trie

  module _ {u : List ℕ} (k : Kept w m u) (p q : ℕ) (ppos : 0 < p) (pl : p ≤ m) (qpos : 0 < q) (ql : q ≤ m) (apart : ¬ (p ≡ q)) where
    two_closed : (high low : ℕ) → 0 < low → low < high → high ≤ m
        → Kept w m (closed (closed u m m high) m (m - 1) low) × (trie_of (closed (closed u m m high) m (m - 1) low) ≡ fill_at (fill_at (trie_of u) (m - 1) (high - 1)) (m - 2) (low - 1))
    two_closed high low a b l =
        let e : m - 1 - 1 ≡ m - 2 = omega arith in
        let k₁ = closed_kept k m high (omega arith) (omega arith) (omega arith) l in (
          closed_kept k₁ (m - 1) low (omega arith) (omega arith) a (omega arith),
          rw (← e) (closed_trie k₁ (m - 1) low (omega arith) (omega arith) a (omega arith) ∙ rw (closed_trie k m high (omega arith) (omega arith) (omega arith) l)),
        )

    pub both_kept : Kept w m (closed_both u m p q)
    both_kept = go (dec_lt p q)
      where
        go : Dec (p < q) → Kept w m (closed_both u m p q)
        go (yes l) = rw (← closed_below u m p q l refl refl) (two_closed q p ppos l ql).0
        go (no n) = rw (← closed_above u m p q (omega arith) refl refl) (two_closed p q qpos (omega arith) pl).0

    pub both_trie : trie_of (closed_both u m p q) ≡ fill_both (trie_of u) m (p - 1) (q - 1)
    both_trie = go (dec_lt p q)
      where
        go : Dec (p < q) → trie_of (closed_both u m p q) ≡ fill_both (trie_of u) m (p - 1) (q - 1)
        go (yes l) = rw (← closed_below u m p q l refl refl, fill_both_flip (trie_of u) m (p - 1) (q - 1) (omega arith)) (two_closed q p ppos l ql).1
        go (no n) = rw (← closed_above u m p q (omega arith) refl refl, fill_both_is (trie_of u) m (p - 1) (q - 1) (omega arith)) (two_closed p q qpos (omega arith) pl).1
