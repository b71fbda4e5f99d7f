-- What the tests of a guarded store choose. Assumes nothing.
use mathlib.Core.Path.{◌≡◌}
use mathlib.Core.List.{List}
use Prim.Native.Nat.{ℕ, ◌-◌, ◌/◌, ◌≤◌, ◌<◌}
use borrow.Author.Tests.{eq-eqb, ne_eqb, lt-ltb, le-ltb}
use Rattle.prefix.proofs.Booleans.{or_right}
use Rattle.nodes.specs.Stores.{put_up, put_child, node_in}
use Rattle.nodes.specs.declared.Node.{Node}
use Rattle.withdraw.specs.Writes.{pointed, hung, placed, closed, closed_both}

module _ (w : List ℕ) (m cell p : ℕ) where
  pub far_cell : m < cell / 2 → w ≡ pointed w m cell p
  unfolding pointed
  far_cell h = rw (or_right _ _ (lt-ltb m (cell / 2) h))

  pub a_cell : {w' : List ℕ} → ¬ (cell ≡ 1) → cell / 2 ≤ m → w' ≡ put_child w cell p → w' ≡ pointed w m cell p
  unfolding pointed
  a_cell n h e = rw (ne_eqb cell 1 n, le-ltb m (cell / 2) h) e

  pub no_node : p ≡ 0 → w ≡ hung w m p cell
  unfolding hung
  no_node e = rw (eq-eqb p 0 e)

  pub far_node : m < p → w ≡ hung w m p cell
  unfolding hung
  far_node h = rw (or_right _ _ (lt-ltb m p h))

  pub a_node : {w' : List ℕ} → ¬ (p ≡ 0) → p ≤ m → w' ≡ put_up w p cell → w' ≡ hung w m p cell
  unfolding hung
  a_node n h e = rw (ne_eqb p 0 n, le-ltb m p h) e

module _ (w : List ℕ) (m last gone : ℕ) where
  pub closed_last : gone ≡ last → w ≡ closed w m last gone
  unfolding closed
  closed_last e = rw (eq-eqb gone last e)

  pub closed_other : {w' : List ℕ} {n : Node} → ¬ (gone ≡ last) → n ≡ node_in w last → w' ≡ placed w m gone n → w' ≡ closed w m last gone
  unfolding closed
  closed_other ne e f = rw (ne_eqb gone last ne, ← e) f

module _ (w : List ℕ) (m p q : ℕ) where
  pub closed_below : {u w' : List ℕ} → p < q → u ≡ closed w m m q → w' ≡ closed u m (m - 1) p → w' ≡ closed_both w m p q
  unfolding closed_both
  closed_below h e f = rw (lt-ltb p q h, ← e) f

  pub closed_above : {u w' : List ℕ} → q ≤ p → u ≡ closed w m m p → w' ≡ closed u m (m - 1) q → w' ≡ closed_both w m p q
  unfolding closed_both
  closed_above h e f = rw (le-ltb p q h, ← e) f
