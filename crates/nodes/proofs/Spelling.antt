-- Which trie the words spell: what a read word says of it, and what each store makes of it. Assumes nothing.
use mathlib.Core.Path.{◌≡◌, refl, sym, ap, ap₂, ◌∙◌, fun_ext}
use mathlib.Core.Bool.{true, false}
use mathlib.Core.List.{List}
use mathlib.Core.Option.{none}
use Prim.Native.Nat.{ℕ, suc, ◌+◌, ◌-◌, ◌*◌, ◌/◌, ◌<◌}
use native.Mathlib.Decide.{ℕ_discrete}
use native.Mathlib.Nat.{add-zero}
use native.Mathlib.Omega.{arith}
use lib.ListN.{length, set, length-set}
use lib.Seq.{get_or-set_same, get_or-set_other}
use Rattle.prefix.specs.Bits.{Bits, one?, digit}
use Rattle.prefix.specs.Prefix.{prefix_of}
use Rattle.prefix.proofs.BitLaws.{digit_below}
use Rattle.trie.specs.Trie.{Cell, Root, Kid, Trie}
use Rattle.trie.specs.Updates.{upd, cell_dec, set_node, set_hop, set_child, set_up, set_slot}
use Rattle.trie.proofs.Stores.{upd_same, upd_other}
use Rattle.sizes.specs.BothStores.{slot_word, word, Room}
use Rattle.nodes.specs.Layout.{cell_word, numbered, cell_of, cell_number, child_in, trie_of}
use Rattle.nodes.specs.Stores.{put_mark, put_up, put_child, put_node, put_counts, filled_at, node_in, emptied}
use Rattle.nodes.specs.declared.Node.{Node}
use Rattle.nodes.proofs.Keeping.{mark_header, child_header}
use Rattle.nodes.proofs.Coding.{cell_numbered, number_celled, cell_side, side_word}

-- ---- what a read word says

module _ (w : List ℕ) where
  child_number : (c : Cell) → (trie_of w).child c ≡ numbered (word w (cell_word (cell_number c)))
  unfolding trie_of child_in cell_number
  child_number Root = refl
  child_number (Kid k b) = rw (side_word (suc k) (digit b) (digit_below b))

  pub child_word : (cell : ℕ) → ¬ (cell ≡ 1) → numbered (word w (cell_word cell)) ≡ (trie_of w).child (cell_of cell)
  child_word cell n = sym (child_number (cell_of cell) ∙ rw (number_celled cell n))

  module _ (p : ℕ) (pos : 0 < p) where
    slot : suc (p - 1) ≡ p
    slot = omega arith

    pub prefix_words : prefix_of 32 (word w (slot_word p 0)) (word w (slot_word p 1)) ≡ (trie_of w).prefix (p - 1)
    unfolding trie_of
    prefix_words = rw slot

    pub hop_word : numbered (word w (slot_word p 2)) ≡ (trie_of w).hop (p - 1)
    unfolding trie_of
    hop_word = rw slot

    pub up_word : cell_of (word w (slot_word p 5)) ≡ (trie_of w).up (p - 1)
    unfolding trie_of
    up_word = rw slot

    pub side_child : (b : ℕ) → b < 2 → numbered (word w (slot_word p (3 + b))) ≡ (trie_of w).child (Kid (p - 1) (one? b))
    side_child b l =
        rw (side_word p b l, cell_side p b pos l) at (child_word (2 * p + b) (λ z. omega arith))

-- the node n stands in slot k
pub record NodeIs (v : Trie) (k : ℕ) (n : Node) : Type 0 where
  pub prefix : prefix_of 32 n.address n.length ≡ v.prefix k
  pub hop : numbered n.mark ≡ v.hop k
  pub left : numbered n.left ≡ v.child (Kid k false)
  pub right : numbered n.right ≡ v.child (Kid k true)
  pub up : cell_of n.up ≡ v.up k

pub node_is : (w : List ℕ) (p : ℕ) → 0 < p → NodeIs (trie_of w) (p - 1) (node_in w p)
unfolding node_in
node_is w p pos = record {
  prefix = prefix_words w p pos;
  hop = hop_word w p pos;
  left = side_child w p pos 0 (omega arith);
  right = side_child w p pos 1 (omega arith);
  up = up_word w p pos;
}

-- ---- what a store changes

trie_ext : {u v : Trie} → u.prefix ≡ v.prefix → u.hop ≡ v.hop → u.child ≡ v.child → u.up ≡ v.up → u ≡ v
trie_ext a b c d = λ i. record { prefix = a i; hop = b i; child = c i; up = d i }

-- what the words at the places `at` say
abbrev said : {I A : Type 0} → (ℕ → A) → (I → ℕ) → List ℕ → I → A
said f at w x = f (word w (at x))

-- after v is stored at i
module _ {I A : Type 0} (f : ℕ → A) (at : I → ℕ) (w : List ℕ) (i v : ℕ) where
  kept : ((x : I) → ¬ (at x ≡ i)) → said f at (set w i v) ≡ said f at w
  kept n = fun_ext (λ x. ap f (get_or-set_other w i (at x) v 0 (n x)))

  changed : (dec : (x y : I) → Dec (x ≡ y)) (k : I) → at k ≡ i → ((x : I) → at x ≡ i → x ≡ k) → i < length w
      → said f at (set w i v) ≡ upd dec (said f at w) k (f v)
  changed dec k here only room = fun_ext (λ x. go x (dec x k))
    where
      go : (x : I) → Dec (x ≡ k) → said f at (set w i v) x ≡ upd dec (said f at w) k (f v) x
      go x (yes e) = rw (e, here) (ap f (get_or-set_same w i v 0 room) ∙ sym (upd_same dec _ k (f v) k refl))
      go x (no n) = ap f (get_or-set_other w i (at x) v 0 (λ z. n (only x z))) ∙ sym (upd_other dec _ k (f v) x n)

abbrev cell_place : Cell → ℕ
cell_place c = cell_word (cell_number c)

children : (w : List ℕ) → (trie_of w).child ≡ said numbered cell_place w
children w = fun_ext (child_number w)

new_child : (w : List ℕ) (cell p : ℕ) → ¬ (cell ≡ 1) → Room w (cell / 2) → (trie_of (set w (cell_word cell) p)).child ≡ upd cell_dec (trie_of w).child (cell_of cell) (numbered p)
new_child w cell p n room =
    rw (children (set w (cell_word cell) p), children w)
    (changed numbered cell_place w (cell_word cell) p cell_dec (cell_of cell) (ap cell_word (number_celled cell n)) (λ x z. only x z) (omega arith))
  where
    only : (x : Cell) → cell_place x ≡ cell_word cell → x ≡ cell_of cell
    only x z = let e : cell_number x ≡ cell = omega arith in sym (cell_numbered x) ∙ ap cell_of e

abbrev field : ℕ → ℕ → ℕ
field f k = slot_word (suc k) f

abbrev prefixes : (ℕ → ℕ) → (ℕ → ℕ) → ℕ → Bits
prefixes address length k = prefix_of 32 (address k) (length k)

module _ (w : List ℕ) (i v : ℕ) where
  same_prefixes : ((k : ℕ) → ¬ (field 0 k ≡ i)) → ((k : ℕ) → ¬ (field 1 k ≡ i)) → (trie_of (set w i v)).prefix ≡ (trie_of w).prefix
  unfolding trie_of
  same_prefixes a l = ap₂ prefixes (kept (λ x. x) (field 0) w i v a) (kept (λ x. x) (field 1) w i v l)

  same_children : ((q : ℕ) → ¬ (cell_word q ≡ i)) → (trie_of (set w i v)).child ≡ (trie_of w).child
  same_children n = rw (children (set w i v), children w) (kept numbered cell_place w i v (λ c. n (cell_number c)))

  -- no word of the trie stands below the root's
  same_trie : i < 1019 → trie_of (set w i v) ≡ trie_of w
  unfolding trie_of
  same_trie h =
      trie_ext
      (same_prefixes (λ k z. omega arith) (λ k z. omega arith))
      (kept numbered (field 2) w i v (λ k z. omega arith))
      (same_children (λ q z. omega arith))
      (kept cell_of (field 5) w i v (λ k z. omega arith))

module _ (w : List ℕ) where
  module _ (p : ℕ) (pos : 0 < p) (room : Room w p) where
    pub trie_mark : (mark : ℕ) → trie_of (put_mark w p mark) ≡ set_hop (trie_of w) (p - 1) (numbered mark)
    unfolding put_mark set_hop trie_of
    trie_mark mark =
        trie_ext
        (same_prefixes w (slot_word p 2) mark (λ k z. omega arith) (λ k z. omega arith))
        (changed numbered (field 2) w (slot_word p 2) mark ℕ_discrete (p - 1) (omega arith) (λ x z. omega arith) (omega arith))
        (same_children w (slot_word p 2) mark (λ q z. omega arith))
        (kept cell_of (field 5) w (slot_word p 2) mark (λ k z. omega arith))

    pub trie_up : (cell : ℕ) → trie_of (put_up w p cell) ≡ set_up (trie_of w) (p - 1) (cell_of cell)
    unfolding put_up set_up trie_of
    trie_up cell =
        trie_ext
        (same_prefixes w (slot_word p 5) cell (λ k z. omega arith) (λ k z. omega arith))
        (kept numbered (field 2) w (slot_word p 5) cell (λ k z. omega arith))
        (same_children w (slot_word p 5) cell (λ q z. omega arith))
        (changed cell_of (field 5) w (slot_word p 5) cell ℕ_discrete (p - 1) (omega arith) (λ x z. omega arith) (omega arith))

  pub trie_child : (cell p : ℕ) → ¬ (cell ≡ 1) → Room w (cell / 2) → trie_of (put_child w cell p) ≡ set_child (trie_of w) (cell_of cell) (numbered p)
  unfolding put_child set_child trie_of
  trie_child cell p n room =
      trie_ext
      (same_prefixes w (cell_word cell) p (λ k z. omega arith) (λ k z. omega arith))
      (kept numbered (field 2) w (cell_word cell) p (λ k z. omega arith))
      (new_child w cell p n room)
      (kept cell_of (field 5) w (cell_word cell) p (λ k z. omega arith))

  pub trie_counts : (nodes routes : ℕ) → trie_of (put_counts w nodes routes) ≡ trie_of w
  unfolding put_counts
  trie_counts nodes routes = same_trie (set w 1 nodes) 2 routes (omega arith) ∙ same_trie w 1 nodes (omega arith)

  pub empty_root : (limit : ℕ) → Room w 0 → (trie_of (emptied w limit)).child Root ≡ none
  unfolding emptied numbered cell_number
  empty_root limit room =
      child_number (emptied w limit) Root
      ∙ ap numbered (get_or-set_same (set (set (set w 0 limit) 1 0) 2 0) 1019 0 0 (simp length-set (omega arith)))

-- ---- a whole node

prefixes_upd : (a l : ℕ → ℕ) (k x y : ℕ) → prefixes (upd ℕ_discrete a k x) (upd ℕ_discrete l k y) ≡ upd ℕ_discrete (prefixes a l) k (prefix_of 32 x y)
prefixes_upd a l k x y = fun_ext (λ i. go i (ℕ_discrete i k))
  where
    go : (i : ℕ) → Dec (i ≡ k) → prefixes (upd ℕ_discrete a k x) (upd ℕ_discrete l k y) i ≡ upd ℕ_discrete (prefixes a l) k (prefix_of 32 x y) i
    go i (yes e) = simp (upd_same, e)
    go i (no n) = simp (upd_other, n)

put_prefix : List ℕ → ℕ → ℕ → ℕ → List ℕ
put_prefix w p address length = set (set w (slot_word p 0) address) (slot_word p 1) length

set_prefix : Trie → ℕ → Bits → Trie
set_prefix v k p = record { prefix = upd ℕ_discrete v.prefix k p; hop = v.hop; child = v.child; up = v.up }

module _ (w : List ℕ) (p : ℕ) (pos : 0 < p) (room : Room w p) where
  trie_prefix : (a l : ℕ) → trie_of (put_prefix w p a l) ≡ set_prefix (trie_of w) (p - 1) (prefix_of 32 a l)
  unfolding put_prefix set_prefix trie_of
  trie_prefix a l =
      let u : List ℕ = set w (slot_word p 0) a in
      trie_ext
      (ap₂ prefixes
      (kept (λ x. x) (field 0) u (slot_word p 1) l (λ k z. omega arith)
      ∙ changed (λ x. x) (field 0) w (slot_word p 0) a ℕ_discrete (p - 1) (omega arith) (λ x z. omega arith) (omega arith))
      (changed (λ x. x) (field 1) u (slot_word p 1) l ℕ_discrete (p - 1) (omega arith) (λ x z. omega arith) (simp length-set (omega arith))
      ∙ ap (λ (g : ℕ → ℕ). upd ℕ_discrete g (p - 1) l) (kept (λ x. x) (field 1) w (slot_word p 0) a (λ k z. omega arith)))
      ∙ prefixes_upd _ _ (p - 1) a l)
      (kept numbered (field 2) u (slot_word p 1) l (λ k z. omega arith) ∙ kept numbered (field 2) w (slot_word p 0) a (λ k z. omega arith))
      (same_children u (slot_word p 1) l (λ q z. omega arith) ∙ same_children w (slot_word p 0) a (λ q z. omega arith))
      (kept cell_of (field 5) u (slot_word p 1) l (λ k z. omega arith) ∙ kept cell_of (field 5) w (slot_word p 0) a (λ k z. omega arith))

  node_stores : (n : Node) → put_node w p n ≡ put_up (put_child (put_child (put_mark (put_prefix w p n.address n.length) p n.mark) (2 * p + 0) n.left) (2 * p + 1) n.right) p n.up
  unfolding put_node filled_at put_up put_child put_mark put_prefix
  node_stores n = rw (side_word p 0 (omega arith), side_word p 1 (omega arith)) (simp add-zero)

  pub trie_node : (n : Node) → trie_of (put_node w p n)
      ≡ set_slot (trie_of w) (p - 1) (prefix_of 32 n.address n.length) (numbered n.mark) (cell_of n.up) (numbered n.left) (numbered n.right)
  unfolding set_slot set_node set_hop put_prefix set_prefix
  trie_node n =
      let w₁ : List ℕ = put_prefix w p n.address n.length in
      let w₂ : List ℕ = put_mark w₁ p n.mark in
      let w₃ : List ℕ = put_child w₂ (2 * p + 0) n.left in
      let w₄ : List ℕ = put_child w₃ (2 * p + 1) n.right in
      let s₁ : length w₁ ≡ length w = simp length-set in
      let s₂ = (mark_header w₁ p n.mark).size in
      let s₃ = (child_header w₂ (2 * p + 0) n.left).size in
      let s₄ = (child_header w₃ (2 * p + 1) n.right).size in
      let l = trie_child w₂ (2 * p + 0) n.left (λ z. omega arith) (omega arith) in
      let r = trie_child w₃ (2 * p + 1) n.right (λ z. omega arith) (omega arith) in
      cc (
        node_stores n,
        trie_prefix n.address n.length,
        trie_mark w₁ p pos (omega arith) n.mark,
        cell_side p 0 pos (omega arith),
        cell_side p 1 pos (omega arith),
        trie_up w₄ p pos (omega arith) n.up,
      )
