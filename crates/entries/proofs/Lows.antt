-- A sound cache has only numbers of its slots, and a store, or a change of the order of use, brings no others. Assumes nothing.
use mathlib.Core.Path.{◌≡◌}
use Prim.Native.Nat.{ℕ, ◌+◌, ◌*◌, ◌/◌, ◌≤◌, ◌<◌}
use native.Mathlib.Decide.{ℕ_discrete, dec_lt}
use native.Mathlib.Omega.{arith}
use Rattle.trie.specs.Updates.{upd}
use Rattle.trie.proofs.Stores.{upd_same, upd_other}
use Rattle.prefix.specs.Bits.{Bits}
use Rattle.lru_cache.specs.Slots.{Cache, set_entry, set_child, set_up, set_prev, set_next}
use Rattle.lru_cache.specs.Sound.{InUse, SoundCache}
use Rattle.lru_cache.specs.Changes.{unlink, move_links}
use Rattle.lru_cache.proofs.Shape.{hangs, pointed, cell_low}
use Rattle.lru_cache.proofs.Orders.{ring_linked}
use Rattle.entries.specs.Changed.{Low}

pub sound_low : {n : ℕ} {c : Cache} → SoundCache n c → Low n c
sound_low {n} {c} S = record {
  next_low = λ i h. (ring_linked S.ring i h).next_low;
  prev_low = λ i h. (ring_linked S.ring i h).prev_low;
  child_low = λ q i. child q i (dec_lt 0 (c.child q));
  up_low = λ x l. omega (arith, cell_low n (c.up x) (hangs S x l).0);
}
  where
    child : (q : ℕ) → InUse n q → Dec (0 < c.child q) → c.child q / 2 ≤ n
    child q i (yes h) = omega (arith, (pointed S q i h).live)
    child q i (no h) = omega arith

-- ---- each store

either : (f : ℕ → ℕ) (i v j n : ℕ) → v ≤ n → f j ≤ n → upd ℕ_discrete f i v j ≤ n
either f i v j n hv hf = go (ℕ_discrete j i)
  where
    go : Dec (j ≡ i) → upd ℕ_discrete f i v j ≤ n
    go (yes e) = rw (upd_same ℕ_discrete f i v j e) hv
    go (no ne) = rw (upd_other ℕ_discrete f i v j ne) hf

half : (n x : ℕ) → x / 2 ≤ n → x ≤ 2 * n + 1
half n x h = omega arith

module _ {n : ℕ} {c : Cache} (l : Low n c) where
  pub low_next : (i v : ℕ) → v ≤ n → Low n (set_next c i v)
  unfolding set_next
  low_next i v h = record { next_low = λ j k. either c.next i v j n h (l.next_low j k); prev_low = l.prev_low; child_low = l.child_low; up_low = l.up_low }

  pub low_prev : (i v : ℕ) → v ≤ n → Low n (set_prev c i v)
  unfolding set_prev
  low_prev i v h = record { next_low = l.next_low; prev_low = λ j k. either c.prev i v j n h (l.prev_low j k); child_low = l.child_low; up_low = l.up_low }

  pub low_child : (q x : ℕ) → x / 2 ≤ n → Low n (set_child c q x)
  unfolding set_child
  low_child q x h = record {
    next_low = l.next_low;
    prev_low = l.prev_low;
    child_low = λ j k. omega (arith, either c.child q x j (2 * n + 1) (omega arith) (half n (c.child j) (l.child_low j k)));
    up_low = l.up_low;
  }

  pub low_up : (x q : ℕ) → q / 2 ≤ n → Low n (set_up c x q)
  unfolding set_up
  low_up x q h = record {
    next_low = l.next_low;
    prev_low = l.prev_low;
    child_low = l.child_low;
    up_low = λ j k. omega (arith, either c.up x q j (2 * n + 1) (omega arith) (half n (c.up j) (l.up_low j k)));
  }

  pub low_entry : (i : ℕ) (p : Bits) (hop : ℕ) → Low n (set_entry c i p hop)
  unfolding set_entry
  low_entry i p hop = record { next_low = l.next_low; prev_low = l.prev_low; child_low = l.child_low; up_low = l.up_low }

-- ---- the changes

pub low_unlink : {n : ℕ} {c : Cache} → Low n c → (k : ℕ) → k ≤ n → Low n (unlink c k)
unfolding unlink
low_unlink {n} {c} l k h = low_prev (low_next l (c.prev k) (c.next k) (l.next_low k h)) (c.next k) (c.prev k) (l.prev_low k h)

pub low_links : {n : ℕ} {c : Cache} → Low n c → (s t : ℕ) → s ≤ n → t ≤ n → Low n (move_links c s t)
unfolding move_links
low_links {n} {c} l s t hs ht =
    low_prev (low_prev (low_next (low_next l t (c.next s) (l.next_low s hs)) (c.prev s) t ht) t (c.prev s) (l.prev_low s hs)) (c.next s) t ht
