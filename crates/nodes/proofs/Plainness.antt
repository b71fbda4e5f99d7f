-- Which stores keep lengths at most 32, and ups that are numbers of cells. Assumes nothing.
use mathlib.Core.Path.{◌≡◌, ap}
use mathlib.Core.List.{List}
use Prim.Native.Nat.{ℕ, ◌+◌, ◌≤◌, ◌<◌}
use native.Mathlib.Decide.{ℕ_discrete, dec_lt}
use native.Mathlib.Omega.{arith}
use lib.ListN.{length, set}
use lib.Seq.{get_or-set_same, get_or-set_other, set_out}
use Rattle.sizes.specs.BothStores.{slot_word, word, Room}
use Rattle.nodes.specs.Layout.{Plain}
use Rattle.nodes.specs.Stores.{put_mark, put_up, put_child, filled_at, put_node, put_counts, node_in}
use Rattle.nodes.specs.declared.Node.{Node}
use Rattle.nodes.proofs.Keeping.{node_back}

-- what holds of the stored word, if it stands at j, and of the old word holds of the word at j
stored_or_kept : (P : ℕ → Type 0) (w : List ℕ) (i v j : ℕ) → (j ≡ i → P v) → P (word w j) → P (word (set w i v) j)
stored_or_kept P w i v j new old = go (ℕ_discrete j i) (dec_lt i (length w))
  where
    go : Dec (j ≡ i) → Dec (i < length w) → P (word (set w i v) j)
    go (no n) d = rw (get_or-set_other w i j v 0 n) old
    go (yes e) (yes l) = rw (e, get_or-set_same w i v 0 l) (new e)
    go (yes e) (no n) = rw (set_out w i v (omega arith)) old

module _ {w : List ℕ} {m : ℕ} where
  plain_set : (i v : ℕ) → ((p : ℕ) → slot_word p 1 ≡ i → v ≤ 32) → ((p : ℕ) → slot_word p 5 ≡ i → ¬ (v ≡ 1)) → Plain w m → Plain (set w i v) m
  plain_set i v l u h = record {
    short = λ p a b. stored_or_kept (λ x. x ≤ 32) w i v (slot_word p 1) (l p) (h.short p a b);
    celled = λ p a b. stored_or_kept (λ x. ¬ (x ≡ 1)) w i v (slot_word p 5) (u p) (h.celled p a b);
  }

  pub plain_mark : (p mark : ℕ) → Plain w m → Plain (put_mark w p mark) m
  unfolding put_mark
  plain_mark p mark = plain_set _ mark (λ q z. omega arith) (λ q z. omega arith)

  pub plain_child : (cell p : ℕ) → Plain w m → Plain (put_child w cell p) m
  unfolding put_child
  plain_child cell p = plain_set _ p (λ q z. omega arith) (λ q z. omega arith)

  pub plain_up : (p cell : ℕ) → ¬ (cell ≡ 1) → Plain w m → Plain (put_up w p cell) m
  unfolding put_up
  plain_up p cell n = plain_set _ cell (λ q z. omega arith) (λ q z. n)

  pub plain_fewer : (k : ℕ) → k ≤ m → Plain w m → Plain w k
  plain_fewer k le h = record { short = λ p a b. h.short p a (omega arith); celled = λ p a b. h.celled p a (omega arith) }

pub plain_counts : {w : List ℕ} {m : ℕ} (nodes routes : ℕ) → Plain w m → Plain (put_counts w nodes routes) m
unfolding put_counts
plain_counts nodes routes h = plain_set 2 routes (λ q z. omega arith) (λ q z. omega arith) (plain_set 1 nodes (λ q z. omega arith) (λ q z. omega arith) h)

module _ (w : List ℕ) (m : ℕ) (n : Node) (len : n.length ≤ 32) (cell : ¬ (n.up ≡ 1)) where
  pub plain_node : (p : ℕ) → Plain w m → Plain (put_node w p n) m
  unfolding put_node filled_at
  plain_node p h =
      plain_set _ n.up (λ q z. omega arith) (λ q z. cell)
      (plain_set _ n.right (λ q z. omega arith) (λ q z. omega arith)
      (plain_set _ n.left (λ q z. omega arith) (λ q z. omega arith)
      (plain_set _ n.mark (λ q z. omega arith) (λ q z. omega arith)
      (plain_set _ n.length (λ q z. len) (λ q z. omega arith)
      (plain_set _ n.address (λ q z. omega arith) (λ q z. omega arith) h)))))

  pub plain_next : (p : ℕ) → p ≡ m + 1 → Room w p → Plain w m → Plain (put_node w p n) p
  unfolding node_in
  plain_next p e room h = record {
    short = λ q a b. short q a b (dec_lt q p);
    celled = λ q a b. celled q a b (dec_lt q p);
  }
    where
      back : node_in (put_node w p n) p ≡ n
      back = node_back w p n room

      old : Plain (put_node w p n) m
      old = plain_node p h

      short : (q : ℕ) → 0 < q → q ≤ p → Dec (q < p) → word (put_node w p n) (slot_word q 1) ≤ 32
      short q a b (yes l) = old.short q a (omega arith)
      short q a b (no ne) = let z : q ≡ p = omega arith in rw (z, ap (λ (x : Node). x.length) back) len

      celled : (q : ℕ) → 0 < q → q ≤ p → Dec (q < p) → ¬ (word (put_node w p n) (slot_word q 5) ≡ 1)
      celled q a b (yes l) = old.celled q a (omega arith)
      celled q a b (no ne) = let z : q ≡ p = omega arith in rw (z, ap (λ (x : Node). x.up) back) cell
