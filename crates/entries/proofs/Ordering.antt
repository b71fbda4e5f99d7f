-- The changes of the order of use, return by return. Assumes nothing.
use mathlib.Core.Path.{◌≡◌, refl, ap, ◌∙◌}
use mathlib.Core.Logic.{◌⊎◌}
use Rattle.std.specs.Prelude.{Some, None}
use mathlib.Core.List.{List, ◌∷◌}
use Prim.Native.Nat.{ℕ, zero, suc, ◌-◌, ◌≤◌, ◌<◌}
use native.Mathlib.Omega.{arith}
use Rattle.lru_cache.specs.Slots.{Cache}
use Rattle.lru_cache.specs.Changes.{unlink, push_front, to_front, move_links}
use Rattle.lru_cache.proofs.Stores.{unlink_stores, push_stores, links_stores}
use Rattle.lru_cache.proofs.Using.{front_sound, front_entries, oldest_slot, oldest_last}
use Rattle.sizes.specs.BothStores.{slot_word, word}
use Rattle.slots.specs.Layout.{entries_held, cache_of, Shaped}
use Rattle.slots.specs.Stores.{put_prev, put_next}
use Rattle.slots.proofs.ReadLaws.{read_prev, read_next}
use Rattle.slots.proofs.KeptLaws.{kept_then}
use Rattle.entries.specs.Caches.{Slot, entries, entry_in, others_in, SoundEntries, Kept, Holds, Oldest, OldestOf}
use Rattle.entries.specs.Changed.{InStore, Changed, Linked, between, Low}
use Rattle.entries.proofs.Changing.{none_stored, next_stored, prev_stored, changed, skipped, slots_kept, holds_after}
use Rattle.entries.proofs.Lows.{sound_low, low_unlink}

-- ---- a neighbour that is no slot

module _ {n p : ℕ} {w : List ℕ} {c : Cache} (k : ℕ) where
  pub far_prev : p ≡ word w (slot_word k 2) → n < p → Changed n w w (Linked n w k) c
  far_prev e h = skipped (λ f. omega (arith, f, e, read_prev w k))

  pub far_next : p ≡ word w (slot_word k 3) → n < p → Changed n w w (Linked n w k) c
  far_next e h = skipped (λ f. omega (arith, f, e, read_next w k))

pub far_first : {n p : ℕ} {w : List ℕ} {c : Cache} → p ≡ word w (slot_word 0 3) → n < p → Changed n w w ((cache_of w).next 0 ≤ n) c
far_first {n} {p} {w} e h = skipped (λ f. omega (arith, f, e, read_next w 0))

-- ---- the changes

module _ {n : ℕ} {w w' : List ℕ} (has : InStore w n) where
  pub unlinked : {u : List ℕ} {p q : ℕ} (k : ℕ) → p ≡ word w (slot_word k 2) → q ≡ word w (slot_word k 3) → p ≤ n → q ≤ n
      → u ≡ put_next w p q → w' ≡ put_prev u q p → Changed n w w' (Linked n w k) (unlink (cache_of w) k)
  unlinked {u} {p} {q} k ep eq hp hq eu ew =
      rw (ew, eu)
      (changed _ (prev_stored has.0 (next_stored has.0 (none_stored n w) p q hp) q p hq)
      (unlink_stores (cache_of w) k p q (ep ∙ read_prev w k) (eq ∙ read_next w k)))

  pub pushed : {k f : ℕ} → k ≤ n → f ≡ word w (slot_word 0 3) → f ≤ n → w' ≡ between w 0 k f → Changed n w w' ((cache_of w).next 0 ≤ n) (push_front (cache_of w) k)
  unfolding between
  pushed {k} {f} hk ef hf ew =
      let s = next_stored has.0 (next_stored has.0 (none_stored n w) k f hk) 0 k (omega arith) in
      rw ew
      (changed _ (prev_stored has.0 (prev_stored has.0 s k 0 hk) f k hf) (push_stores (cache_of w) k f (ef ∙ read_next w 0)))

  pub replaced : {t p q : ℕ} (s : ℕ) → t ≤ n → p ≡ word w (slot_word s 2) → q ≡ word w (slot_word s 3) → p ≤ n → q ≤ n
      → w' ≡ between w p t q → Changed n w w' (Linked n w s) (move_links (cache_of w) s t)
  unfolding between
  replaced {t} {p} {q} s ht ep eq hp hq ew =
      let a = next_stored has.0 (next_stored has.0 (none_stored n w) t q ht) p t hp in
      rw ew
      (changed _ (prev_stored has.0 (prev_stored has.0 a t p ht) q t hq) (links_stores (cache_of w) s t p q (ep ∙ read_prev w s) (eq ∙ read_next w s)))

-- ---- an entry is used

module _ {w u w' : List ℕ} {n : ℕ} (k : ℕ) (s : Shaped w) (e : n ≡ entries_held w) (h : Slot w k)
    (a : Changed n w u (Linked n w k) (unlink (cache_of w) k)) (b : Changed n u w' ((cache_of u).next 0 ≤ n) (push_front (cache_of u) k)) where
  pub used_kept : Kept w w' n
  used_kept = slots_kept s e (kept_then a.kept b.kept)

  module _ (S : SoundEntries w) where
    low : Low n (cache_of w)
    low = rw e (sound_low S.slots)

    out : cache_of u ≡ unlink (cache_of w) k
    out = a.does (low.prev_low k (omega arith), low.next_low k (omega arith))

    front : cache_of w' ≡ to_front (cache_of w) k
    unfolding to_front
    front = b.does (rw out ((low_unlink low k (omega arith)).next_low 0 (omega arith))) ∙ ap (λ (c : Cache). push_front c k) out

    pub used_holds : Holds w' (entry_in w k ∷ others_in w k)
    used_holds = rw (← front_entries S.slots k h) (holds_after S (kept_then a.kept b.kept) front (front_sound S.slots k h))

-- ---- the least recently used

pub oldest_is : (w : List ℕ) (r : ℕ) → r ≡ word w (slot_word 0 2) → SoundEntries w → 0 < entries_held w → Oldest w r
unfolding entries
oldest_is w r e S h =
    let z : entries_held w ≡ suc (entries_held w - 1) = omega arith in
    rw (e, read_prev w 0) (record { slot = oldest_slot S.slots z; is_last = oldest_last S.slots z })

module _ (w : List ℕ) (n : ℕ) (are-held : n ≡ entries_held w) (k : ℕ) (is_k : SoundEntries w → 0 < entries_held w → Oldest w k) where
  pub oldest_found : ¬ (k ≡ 0) → k ≤ n → OldestOf w (Some k)
  oldest_found ne l = ((omega arith, omega (arith, are-held)), λ S. is_k S (omega (arith, are-held)))

  pub oldest_none : (k ≡ 0) ⊎ (¬ (k ≡ 0) × (n < k)) → OldestOf w None
  oldest_none either S = go (entries_held w) refl
    where
      go : (m : ℕ) → entries_held w ≡ m → entries_held w ≡ 0
      go zero e = e
      go (suc m) e = absurd (omega (arith, (is_k S (omega (arith, e))).slot, are-held))
