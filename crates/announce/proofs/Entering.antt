-- What the stores of an announcement keep, and the trie that they leave. Assumes nothing.
use mathlib.Core.Path.{◌≡◌, ◌∙◌}
use mathlib.Core.Bool.{true, false}
use mathlib.Core.List.{List}
use mathlib.Core.Option.{some}
use Prim.Native.Nat.{ℕ, zero, suc, ◌+◌, ◌-◌, ◌*◌, ◌≤◌, ◌<◌}
use native.Mathlib.Omega.{arith}
use lib.ListN.{length}
use Rattle.prefix.specs.Bits.{Bits, one?}
use Rattle.prefix.specs.Prefix.{prefix_of}
use Rattle.sizes.specs.Sizes.{table_need}
use Rattle.trie.specs.Updates.{set_child, set_up, set_slot, leaf_at, on_side, splice_at}
use Rattle.sizes.specs.BothStores.{limit_of}
use Rattle.nodes.specs.Layout.{numbered, cell_of, trie_of}
use Rattle.nodes.specs.Stores.{put_node}
use Rattle.nodes.specs.declared.Node.{Node}
use Rattle.nodes.proofs.Coding.{numbered_node, none_numbered, cell_side}
use Rattle.nodes.proofs.Keeping.{node_header}
use Rattle.nodes.proofs.Spelling.{trie_up, trie_child, trie_node}
use Rattle.announce.specs.Writes.{NodeOf, only_child, inserted, above}
use Rattle.verdicts.proofs.Linking.{CellIn, GoodNode}
use Rattle.verdicts.proofs.Kept.{Kept, room, child_kept, up_kept, next_kept}

-- ---- what the numbers of a new node say

pub marked : (hop : ℕ) → numbered (hop + 1) ≡ some hop
marked hop = let e : hop + 1 - 1 ≡ hop = omega arith in rw e at (numbered_node (hop + 1) (omega arith))

only_left : (side p : ℕ) → 0 < p → side < 2 → numbered (only_child side p 0) ≡ on_side (one? side) (p - 1) false
unfolding on_side
only_left zero p pos l = numbered_node p pos
only_left (suc zero) p pos l = none_numbered
only_left (suc (suc s)) p pos l = absurd (omega arith)

only_right : (side p : ℕ) → 0 < p → side < 2 → numbered (only_child side p 1) ≡ on_side (one? side) (p - 1) true
unfolding on_side
only_right zero p pos l = none_numbered
only_right (suc zero) p pos l = numbered_node p pos
only_right (suc (suc s)) p pos l = absurd (omega arith)

-- ---- a node comes in

pub good_node : {P : Bits} {len mark left right up : ℕ} {n : Node} (m : ℕ) → NodeOf P len mark left right up n → len ≤ 32 → left ≤ m → right ≤ m → CellIn m up → GoodNode m n
good_node m h l a b c = record { len = rw h.its_length l; up = rw h.its_up c; left = rw h.its_left a; right = rw h.its_right b }

module _ (w : List ℕ) (m : ℕ) (enough : table_need (limit_of w) ≤ length w) (fit : m + 1 ≤ 2 * limit_of w) {u : List ℕ} (k : Kept w m u) where
  module _ {n : Node} (g : GoodNode (m + 1) n) where
    pub inserted_kept : Kept w (m + 1) (inserted u (m + 1) n)
    unfolding inserted
    inserted_kept = child_kept w (m + 1) enough fit (next_kept w m enough (omega arith) k g fit) n.up (m + 1) g.up (omega arith)

    inserted_trie : {P : Bits} {len mark left right up : ℕ} → NodeOf P len mark left right up n
        → trie_of (inserted u (m + 1) n) ≡ set_child (set_slot (trie_of u) m P (numbered mark) (cell_of up) (numbered left) (numbered right)) (cell_of up) (some m)
    unfolding inserted
    inserted_trie {P} {len} {mark} {left} {right} {up} h =
        let e : m + 1 - 1 ≡ m = omega arith in
        let t = trie_node u (m + 1) (omega arith) (omega (arith, k.header.size)) n in
        let c = trie_child (put_node u (m + 1) n) n.up (m + 1) g.up.0 (omega (arith, g.up.1, (node_header u (m + 1) n).size, k.header.size)) in
        let s : prefix_of 32 n.address n.length ≡ P = rw h.its_length h.spells in
        let o : numbered (m + 1) ≡ some m = rw e at (numbered_node (m + 1) (omega arith)) in
        c ∙ rw (t, s, h.its_mark, h.its_left, h.its_right, h.its_up, o, e)

    pub leaf_trie : {P : Bits} {len up : ℕ} (hop : ℕ) → NodeOf P len (hop + 1) 0 0 up n → trie_of (inserted u (m + 1) n) ≡ leaf_at (trie_of u) (cell_of up) m P hop
    unfolding leaf_at
    leaf_trie hop h = inserted_trie h ∙ rw (none_numbered, marked hop)

  -- ---- a node above another

  module _ (p side : ℕ) (pos : 0 < p) (l : p ≤ m) (sl : side < 2) {n : Node} (g : GoodNode (m + 1) n) where
    new_cell : CellIn (m + 1) (2 * (m + 1) + side)
    new_cell = (λ z. omega arith, omega arith)

    pub above_kept : Kept w (m + 1) (above u m p side n)
    unfolding above
    above_kept = up_kept w (m + 1) enough fit (inserted_kept g) (2 * (m + 1) + side) p new_cell (omega arith)

    pub above_trie : {P : Bits} {len mark up : ℕ} → NodeOf P len mark (only_child side p 0) (only_child side p 1) up n
        → trie_of (above u m p side n) ≡ splice_at (trie_of u) (cell_of up) m P (numbered mark) (one? side) (p - 1)
    unfolding above splice_at set_child set_up
    above_trie h =
        let e : m + 1 - 1 ≡ m = omega arith in
        let t = trie_up (inserted u (m + 1) n) p pos (room w (m + 1) enough fit (inserted_kept g) p (omega arith)) (2 * (m + 1) + side) in
        let c = rw e at (cell_side (m + 1) side (omega arith) sl) in
        t ∙ rw (inserted_trie g h, c, only_left side p pos sl, only_right side p pos sl)
