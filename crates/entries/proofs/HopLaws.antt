-- An entry takes another hop. Assumes nothing.
use mathlib.Core.Path.{◌≡◌, refl, ap, ◌∙◌}
use mathlib.Core.List.{List, map}
use Prim.Native.Nat.{ℕ}
use native.Mathlib.Decide.{ℕ_discrete}
use native.Mathlib.Omega.{arith}
use borrow.Author.Tests.{eq-eqb, ne_eqb}
use Rattle.trie.proofs.Stores.{upd_same, upd_other}
use Rattle.lru_cache.specs.Slots.{set_hop}
use Rattle.lru_cache.specs.Sound as lru
use Rattle.lru_cache.proofs.Orders.{ring_order, order_same, order_is}
use Rattle.lru_cache.proofs.Using.{hop_sound, entry_path, map_same}
use Rattle.sizes.specs.BothStores.{Room}
use Rattle.slots.specs.Layout.{entries_held, cache_of, Shaped}
use Rattle.slots.specs.Stores as slots
use Rattle.slots.proofs.StoreLaws.{cache_hop}
use Rattle.slots.proofs.KeptLaws.{kept_hop}
use Rattle.entries.specs.Caches.{Slot, SoundEntries, with_hop, rehopped, Kept, Rehops}
use Rattle.entries.proofs.Changing.{slots_kept, holds_after}

module _ (w : List ℕ) (k hop : ℕ) (shaped : Shaped w) (slot : Slot w k) (w' : List ℕ) (is : w' ≡ slots.put_hop w k hop) where
  room : Room w k
  room = omega (arith, shaped.enough, shaped.entries_fit)

  stored : slots.Kept (entries_held w) w w'
  stored = rw is (kept_hop (entries_held w) w k (omega arith) room hop)

  cache_is : cache_of w' ≡ set_hop (cache_of w) k hop
  cache_is = rw is (cache_hop w k hop room)

  entry_at : (i : ℕ) → lru.entry_of (set_hop (cache_of w) k hop) i ≡ with_hop w k hop i
  unfolding set_hop
  entry_at i = go (ℕ_discrete i k)
    where
      go : Dec (i ≡ k) → lru.entry_of (set_hop (cache_of w) k hop) i ≡ with_hop w k hop i
      go (yes e) = rw (eq-eqb i k e) (entry_path (ap (cache_of w).entry e) (upd_same _ _ _ _ i e))
      go (no n) = rw (ne_eqb i k n) (entry_path refl (upd_other _ _ _ _ i n))

  -- the order of use is the same
  entries_are : SoundEntries w → lru.entries (entries_held w) (set_hop (cache_of w) k hop) ≡ rehopped w k hop
  unfolding lru.entries rehopped set_hop
  entries_are S =
      map_same _ (with_hop w k hop) (lru.order (entries_held w) (set_hop (cache_of w) k hop)) (λ i m. entry_at i)
      ∙ ap (map (with_hop w k hop)) (order_is (order_same (set_hop (cache_of w) k hop) refl refl (ring_order S.slots.ring)))

  pub hop_kept : Kept w w' (entries_held w)
  hop_kept = slots_kept shaped refl stored

  pub hop_given : SoundEntries w → Rehops w w' k hop
  hop_given S = record {
    holds = rw (entries_are S) at (holds_after S stored cache_is (hop_sound S.slots k hop slot));
    here = rw cache_is (entry_at k ∙ rw (eq-eqb k k refl));
    there = λ i n. rw cache_is (entry_at i ∙ rw (ne_eqb i k n));
  }
