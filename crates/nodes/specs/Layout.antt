-- The words of a table store, and the trie that they spell. Header: word 0 is the limit, word 1 the nodes in use, word 2 the routes
-- held. Node p, for p from 1 to the nodes in use, has the words of slot p: address, length, mark (hop + 1, or 0 for a branch), left,
-- right, up. A cell is a place for a node number: cell 0 is the root's, at word 1,019, and cell 2 p + b the side b of node p. The trie
-- numbers its nodes from 0: node p of the store is node p - 1 of the trie. Assumes nothing.
use Rattle.std.specs.Prelude.{◌≡◌, List, ℕ, zero, suc, ◌+◌, ◌-◌, ◌*◌, ◌/◌, ◌%◌, ◌≤◌, ◌<◌, length}
use Rattle.std.proofs.Math.Option.{Option, none, some}
use Rattle.prefix.specs.Bits.{one?, digit}
use Rattle.prefix.specs.Prefix.{prefix_of}
use Rattle.trie.specs.Trie.{Cell, Root, Kid, Trie}
use Rattle.sizes.specs.Sizes.{LegalLimit, table_need}
use Rattle.sizes.specs.BothStores.{word, limit_of, slot_word}

abbrev pub cell_word : ℕ → ℕ
cell_word cell = 1016 + 8 * (cell / 2) + 3 + cell % 2

-- ---- what it says

abbrev pub nodes_of : List ℕ → ℕ
nodes_of w = word w 1

abbrev pub route_count : List ℕ → ℕ
route_count w = word w 2

-- 0 is none, and p is what has the number p - 1: a node by its number, and a hop by its mark
unfoldable pub numbered : ℕ → Option ℕ
numbered zero = none
numbered (suc k) = some k

-- the cell of a number. No cell has the number 1
unfoldable pub cell_of : ℕ → Cell
cell_of zero = Root
cell_of (suc q) = Kid (suc q / 2 - 1) (one? (suc q % 2))

-- and the number of a cell
unfoldable pub cell_number : Cell → ℕ
cell_number Root = 0
cell_number (Kid k b) = 2 * suc k + digit b

unfoldable pub child_in : List ℕ → Cell → Option ℕ
child_in w Root = numbered (word w (cell_word 0))
child_in w (Kid k b) = numbered (word w (slot_word (suc k) (3 + digit b)))

unfoldable pub trie_of : List ℕ → Trie
trie_of w = record {
  prefix = λ k. prefix_of 32 (word w (slot_word (suc k) 0)) (word w (slot_word (suc k) 1));
  hop = λ k. numbered (word w (slot_word (suc k) 2));
  child = child_in w;
  up = λ k. cell_of (word w (slot_word (suc k) 5));
}

-- ---- a header that fits its store

pub record Shaped (w : List ℕ) : Type 0 where
  pub legal : LegalLimit (limit_of w)
  pub enough : table_need (limit_of w) ≤ length w
  pub nodes_fit : nodes_of w ≤ 2 * limit_of w
  pub routes_fit : route_count w ≤ limit_of w

-- what the trie does not show of the nodes 1 to m: a length is at most 32, and an up is the number of a cell
pub record Plain (w : List ℕ) (m : ℕ) : Type 0 where
  pub short : (p : ℕ) → 0 < p → p ≤ m → word w (slot_word p 1) ≤ 32
  pub celled : (p : ℕ) → 0 < p → p ≤ m → ¬ (word w (slot_word p 5) ≡ 1)
