-- What the parts of the check answer: on yes a fact of one cell or node, and on no that the store is not sound. Assumes nothing.
use Rattle.std.specs.Prelude.{◌≡◌, Bool, true, false, List, ℕ, suc, ◌-◌, ◌≤◌, ◌<◌, length}
use Rattle.std.proofs.Math.Option.{some}
use Rattle.model.specs.Model.{highest_hop}
use Rattle.model.specs.Demands.{Hop}
use Rattle.trie.specs.Trie.{Fits, Owned, Dense}
use Rattle.trie.specs.Routes.{routes_of}
use Rattle.trie.specs.Check.{CellOk, SlotOk}
use Rattle.sizes.specs.BothStores.{slot_word, word}
use Rattle.nodes.specs.Layout.{nodes_of, trie_of, cell_of}
use Rattle.nodes.specs.declared.Node.{Node}
use Rattle.table.specs.Tables.{SoundTable}

pub record Verdict (w : List ℕ) (good : Type 0) (r : Bool) : Type 0 where
  pub yes : r ≡ true → good
  pub no : r ≡ false → ¬ (SoundTable w)

pub record Decides (good : Type 0) (r : Bool) : Type 0 where
  pub yes : r ≡ true → good
  pub no : r ≡ false → ¬ good

-- node p goes on from the cell's own prefix by its side
pub record GoesOn (w : List ℕ) (cell p : ℕ) : Type 0 where
  pub fits : Fits (trie_of w) (cell_of cell) ((trie_of w).prefix (p - 1))

-- what the cell points at, if anything, is pointed at as it should
pub record CellFine (w : List ℕ) (cell : ℕ) : Type 0 where
  pub ok : CellOk (nodes_of w) (trie_of w) (cell_of cell) ((trie_of w).child (cell_of cell))

-- the node's up is a cell that there is, and points at the node
pub record HasCell (w : List ℕ) (p : ℕ) : Type 0 where
  pub celled : ¬ (word w (slot_word p 5) ≡ 1)
  pub owned : Owned (Dense (nodes_of w)) (trie_of w) (p - 1)

-- a branch has two nodes below it, and a hop is 1 to 65,535
pub record Marked (node : Node) : Type 0 where
  pub branch : node.mark ≡ 0 → (0 < node.left) × (0 < node.right)
  pub route : 0 < node.mark → (2 ≤ node.mark) × (node.mark ≤ suc highest_hop)

pub record NodeFine (w : List ℕ) (p : ℕ) : Type 0 where
  pub short : word w (slot_word p 1) ≤ 32
  pub celled : ¬ (word w (slot_word p 5) ≡ 1)
  pub slot : SlotOk (nodes_of w) (trie_of w) (p - 1)
  pub hop : (h : ℕ) → (trie_of w).hop (p - 1) ≡ some h → Hop h

-- the nodes below p are fine, and so many of them are routes
pub record Passed (w : List ℕ) (p routes : ℕ) : Type 0 where
  pub from : 0 < p
  pub upto : p ≤ suc (nodes_of w)
  pub fine : (k : ℕ) → 0 < k → k < p → NodeFine w k
  pub count : routes ≡ length (routes_of (trie_of w) (p - 1))
  pub few : routes < p
