-- The steps of a removal bring only numbers of slots into a cache that has no others. Assumes nothing.
use mathlib.Core.Path.{◌≡◌}
use mathlib.Core.Bool.{Bool, not, cond}
use mathlib.Core.Logic.{inr}
use Prim.Native.Nat.{ℕ, ◌/◌, ◌≤◌, ◌<◌}
use native.Mathlib.Decide.{ℕ_discrete}
use native.Mathlib.Omega.{arith}
use lib.Dec.{eqb}
use borrow.Author.Tests.{eq-eqb, ne_eqb}
use Rattle.prefix.proofs.BitLaws.{digit_below}
use Rattle.lru_cache.specs.Slots.{Cache, entry_node, branch_node, cell_of}
use Rattle.lru_cache.specs.Changes.{prune, move_entry, fill_entry}
use Rattle.entries.specs.Changed.{Low}
use Rattle.entries.proofs.Lows.{low_child, low_up, low_entry, low_links}
use Rattle.removal.specs.Removal.{hung}

pub low_hang : {n : ℕ} {c : Cache} → Low n c → (q x : ℕ) → q / 2 ≤ n → x / 2 ≤ n → Low n (hung c q x)
unfolding hung
low_hang l q x hq hx = low_up (low_child l q x hx) x q hq

pub low_prune : {n : ℕ} {c : Cache} → Low n c → (j : ℕ) (b : Bool) → 1 < j → j ≤ n → Low n (prune c j b)
unfolding prune hung
low_prune {n} {c} l j b more h =
    low_hang l (c.up (branch_node j)) (c.child (cell_of j (not b))) (l.up_low (branch_node j) (omega arith)) (l.child_low (cell_of j (not b)) (inr (omega (arith, digit_below (not b)))))

pub low_move : {n : ℕ} {c : Cache} → Low n c → (s t : ℕ) → 0 < s → s ≤ n → t ≤ n → Low n (move_entry c s t)
unfolding move_entry hung
low_move {n} {c} l s t pos hs ht =
    low_links (low_hang (low_entry l t (c.entry s) (c.hop s)) (c.up (entry_node s)) (entry_node t) (l.up_low (entry_node s) (omega arith)) (omega arith)) s t hs ht

pub low_fill : {n : ℕ} {c : Cache} → Low n c → (s t : ℕ) → 0 < s → s ≤ n → t ≤ n → Low n (fill_entry c s t)
unfolding fill_entry
low_fill {n} {c} l s t pos hs ht = go (ℕ_discrete s t)
  where
    go : Dec (s ≡ t) → Low n (cond (eqb s t) c (move_entry c s t))
    go (yes e) = rw (eq-eqb s t e) l
    go (no ne) = rw (ne_eqb s t ne) (low_move l s t pos hs ht)
