-- Soundness as a test of each slot by itself: what a loop over the slots can check. Assumes nothing.
use Rattle.std.specs.Prelude.{◌≡◌, Bool, true, false, ℕ, ◌<◌}
use Rattle.std.proofs.Math.Option.{Option, none, some}
use Rattle.trie.specs.Trie.{Cell, Root, Kid, Trie, Points, Owned, Dense}

-- what a cell points at, if anything, is pointed at as it should
abbrev pub CellOk : ℕ → Trie → Cell → Option ℕ → Type 0
CellOk m v c none = Unit {0}
CellOk m v c (some j) = Points (Dense m) v c j

-- a slot's two cells, its up, and its two children where it is no route
pub record SlotOk (m : ℕ) (v : Trie) (i : ℕ) : Type 0 where
  pub left : CellOk m v (Kid i false) (v.child (Kid i false))
  pub right : CellOk m v (Kid i true) (v.child (Kid i true))
  pub owned : Owned (Dense m) v i
  pub branch : v.hop i ≡ none → (b : Bool) → (j : ℕ) × (v.child (Kid i b) ≡ some j)

pub record Checked (m : ℕ) (v : Trie) : Type 0 where
  pub root : CellOk m v Root (v.child Root)
  pub slots : (i : ℕ) → i < m → SlotOk m v i
