-- What one store keeps: the header, the words past the need, and what is read of the nodes in use. Assumes nothing.
use mathlib.Core.Path.{◌≡◌, refl, ◌∙◌}
use mathlib.Core.List.{List}
use Prim.Native.Nat.{ℕ, ◌+◌, ◌*◌, ◌≤◌}
use native.Mathlib.Omega.{arith}
use lib.ListN.{length, drop}
use Rattle.sizes.specs.Sizes.{table_need}
use Rattle.sizes.specs.BothStores.{limit_of, Room}
use Rattle.nodes.specs.Layout.{nodes_of, Plain}
use Rattle.nodes.specs.Stores.{put_mark, put_up, put_child, put_node}
use Rattle.nodes.specs.declared.Node.{Node}
use Rattle.nodes.proofs.Keeping.{SameHeader, header_is, mark_header, up_header, child_header, node_header, mark_past, up_past, child_past, node_past}
use Rattle.nodes.proofs.Plainness.{plain_mark, plain_up, plain_child, plain_node, plain_next}
use Rattle.table.specs.Tables.{SoundTable}
use Rattle.verdicts.proofs.Linking.{CellIn, Linked, sound_linked, linked_mark, linked_child, linked_up, linked_node, linked_next, GoodNode}

-- w' is w after stores in its m nodes
pub record Kept (w : List ℕ) (m : ℕ) (w' : List ℕ) : Type 0 where
  pub header : SameHeader w w'
  pub past : drop (table_need (limit_of w)) w' ≡ drop (table_need (limit_of w)) w
  pub plain : Plain w' m
  pub linked : Linked w' m m

pub kept_all : (w : List ℕ) → SoundTable w → Kept w (nodes_of w) w
kept_all w s = record { header = header_is w; past = refl; plain = s.plain; linked = sound_linked w s }

then_header : (w : List ℕ) {u w' : List ℕ} → SameHeader w u → SameHeader u w' → SameHeader w w'
then_header w a b = record { limit_is = b.limit_is ∙ a.limit_is; nodes_are = b.nodes_are ∙ a.nodes_are; routes_are = b.routes_are ∙ a.routes_are; size = b.size ∙ a.size }

module _ (w : List ℕ) (m : ℕ) (enough : table_need (limit_of w) ≤ length w) (fit : m ≤ 2 * limit_of w) where
  pub room : {u : List ℕ} → Kept w m u → (p : ℕ) → p ≤ m → Room u p
  room k p l = omega (arith, k.header.size)

  module _ {u : List ℕ} (k : Kept w m u) (cell p : ℕ) (i : CellIn m cell) (l : p ≤ m) where
    pub child_kept : Kept w m (put_child u cell p)
    child_kept = record {
      header = then_header w k.header (child_header u cell p);
      past = child_past u (limit_of w) cell p (omega (arith, i.1)) ∙ k.past;
      plain = plain_child cell p k.plain;
      linked = linked_child cell p l k.linked;
    }

    pub up_kept : Kept w m (put_up u p cell)
    up_kept = record {
      header = then_header w k.header (up_header u p cell);
      past = up_past u (limit_of w) p cell (omega arith) ∙ k.past;
      plain = plain_up p cell i.0 k.plain;
      linked = linked_up p cell i k.linked;
    }

  pub mark_kept : {u : List ℕ} → Kept w m u → (p mark : ℕ) → p ≤ m → Kept w m (put_mark u p mark)
  mark_kept {u} k p mark l = record {
    header = then_header w k.header (mark_header u p mark);
    past = mark_past u (limit_of w) p mark (omega arith) ∙ k.past;
    plain = plain_mark p mark k.plain;
    linked = linked_mark p mark k.linked;
  }

  module _ {u : List ℕ} (k : Kept w m u) (t : ℕ) (l : t ≤ m) {n : Node} (g : GoodNode m n) where
    pub node_kept : Kept w m (put_node u t n)
    node_kept = record {
      header = then_header w k.header (node_header u t n);
      past = node_past u (limit_of w) t n (omega arith) ∙ k.past;
      plain = plain_node u m n g.len g.up.0 t k.plain;
      linked = linked_node t g k.linked;
    }

  -- one node more
  pub next_kept : {u : List ℕ} → Kept w m u → {n : Node} → GoodNode (m + 1) n → m + 1 ≤ 2 * limit_of w → Kept w (m + 1) (put_node u (m + 1) n)
  next_kept {u} k {n} g more = record {
    header = then_header w k.header (node_header u (m + 1) n);
    past = node_past u (limit_of w) (m + 1) n more ∙ k.past;
    plain = plain_next u m n g.len g.up.0 (m + 1) refl (omega (arith, k.header.size)) k.plain;
    linked = linked_next g (omega (arith, k.header.size)) k.linked;
  }
