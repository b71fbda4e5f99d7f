-- An empty cache: any slots are sound that have no root and an order of use of no entry, and set-up leaves such slots. Assumes nothing.
use mathlib.Core.Path.{◌≡◌, refl, sym, ◌∙◌}
use mathlib.Core.List.{List}
use mathlib.Core.Option.{none, some, none-ne-some}
use Prim.Native.Nat.{ℕ, zero, suc, ◌≤◌}
use native.Mathlib.Decide.{ℕ_discrete}
use native.Mathlib.Omega.{arith}
use lib.ListN.{length, drop, set, length-set}
use lib.Seq.{get_or-set_same, get_or-set_other, drop-set-lt}
use Rattle.trie.specs.Trie.{Cell, Root, Kid, Inside, Points}
use Rattle.trie.proofs.Stores.{upd_same}
use Rattle.sizes.specs.Sizes.{LegalLimit, cache_need}
use Rattle.lru_cache.specs.Slots.{Cache, root_cell, set_child, set_prev, set_next}
use Rattle.lru_cache.specs.Sound.{Live, trie, child_at, pointer, along, Ring, SoundCache}
use Rattle.sizes.specs.BothStores.{limit_of, Room}
use Rattle.slots.specs.Layout.{entries_held, Shaped, cache_of}
use Rattle.slots.specs.Stores.{put_prev, put_next, put_child, emptied, Kept}
use Rattle.slots.proofs.KeptLaws.{kept_then, kept_child, kept_prev, kept_next}
use Rattle.slots.proofs.StoreLaws.{cache_header, cache_prev, cache_next, cache_child}

-- ---- slots of no entries are sound

module _ (c : Cache) (no-root : c.child root_cell ≡ 0) (no-next : c.next 0 ≡ 0) (no-prev : c.prev 0 ≡ 0) where
  none_live : (x : ℕ) → ¬ (Live 0 x)
  none_live x l = omega arith

  empty_root : child_at c Root ≡ none
  unfolding child_at pointer
  empty_root = rw no-root

  empty_points : (e : Cell) (j : ℕ) → Inside (Live 0) e → child_at c e ≡ some j → Points (Live 0) (trie c) e j
  empty_points Root j i f = absurd (none-ne-some j (sym empty_root ∙ f))
  empty_points (Kid x b) j i f = absurd (none_live x i)

  stays : (k : ℕ) → k ≤ 0 → (along c 0 k ≡ 0) × (along c 0 (suc k) ≡ 0)
  unfolding along
  stays zero h = (refl, no-next)
  stays (suc k) h = absurd (omega arith)

  empty_ring : Ring 0 c
  empty_ring = record {
    within = λ k h. omega (arith, stays k h);
    undone = λ k h. let at = stays k h in cc;
    others = λ k s. absurd (omega arith);
    back = (stays 0 (omega arith)).1;
  }

  pub empty_sound : SoundCache 0 c
  empty_sound = record {
    pointers = record { points = empty_points; owned = λ j l. absurd (none_live j l) };
    branchy = λ i l. absurd (none_live i l);
    ring = empty_ring;
  }

-- ---- what set-up leaves

-- the header first, and then three words of slot 0
abbrev headed : List ℕ → ℕ → List ℕ
headed w limit = set (set w 0 limit) 1 0

module _ (w : List ℕ) (limit : ℕ) (room : Room w 0) where
  room_headed : Room (headed w limit) 0
  room_headed = simp length-set room

  room_child : Room (put_child (headed w limit) root_cell 0) 0
  unfolding put_child
  room_child = simp length-set room

  room_prev : Room (put_prev (put_child (headed w limit) root_cell 0) 0 0) 0
  unfolding put_prev put_child
  room_prev = simp length-set room

  emptied_kept : (n : ℕ) → Kept n (headed w limit) (emptied w limit)
  unfolding emptied put_child put_prev put_next
  emptied_kept n =
      kept_then (kept_child n (headed w limit) root_cell (omega arith) room_headed 0)
      (kept_then (kept_prev n (put_child (headed w limit) root_cell 0) 0 (omega arith) room_child 0)
      (kept_next n (put_prev (put_child (headed w limit) root_cell 0) 0 0) 0 (omega arith) room_prev 0))

  pub emptied_size : length (emptied w limit) ≡ length w
  emptied_size = (emptied_kept 0).size ∙ simp length-set

  pub emptied_limit : limit_of (emptied w limit) ≡ limit
  emptied_limit = (emptied_kept 0).limit ∙ get_or-set_other (set w 0 limit) 1 0 0 0 (λ e. omega arith) ∙ get_or-set_same w 0 limit 0 (omega arith)

  pub emptied_entries : entries_held (emptied w limit) ≡ 0
  emptied_entries = (emptied_kept 0).entries ∙ get_or-set_same (set w 0 limit) 1 0 0 (simp length-set (omega arith))

  pub emptied_past : (n : ℕ) → drop (cache_need n) (emptied w limit) ≡ drop (cache_need n) w
  emptied_past n = (emptied_kept n).past ∙ drop-set-lt (cache_need n) (set w 0 limit) 1 0 (omega arith) ∙ drop-set-lt (cache_need n) w 0 limit (omega arith)

  pub cache_emptied : cache_of (emptied w limit) ≡ set_next (set_prev (set_child (cache_of w) root_cell 0) 0 0) 0 0
  unfolding emptied put_child put_prev put_next
  cache_emptied =
      cache_next (put_prev (put_child (headed w limit) root_cell 0) 0 0) 0 0 room_prev
      ∙ rw (
        cache_prev (put_child (headed w limit) root_cell 0) 0 0 room_child,
        cache_child (headed w limit) root_cell 0 room_headed,
        cache_header (set w 0 limit) 1 0 (omega arith),
        cache_header w 0 limit (omega arith),
      )

  pub emptied_shaped : LegalLimit limit → cache_need limit ≤ length w → Shaped (emptied w limit)
  emptied_shaped legal enough = record {
    legal = rw emptied_limit legal;
    enough = rw (emptied_limit, emptied_size) enough;
    entries_fit = rw (emptied_entries, emptied_limit) (omega arith);
  }

  pub emptied_root : (cache_of (emptied w limit)).child root_cell ≡ 0
  unfolding set_child set_prev set_next
  emptied_root = rw cache_emptied (upd_same ℕ_discrete _ root_cell 0 root_cell refl)

  pub emptied_next : (cache_of (emptied w limit)).next 0 ≡ 0
  unfolding set_next
  emptied_next = rw cache_emptied (upd_same ℕ_discrete _ 0 0 0 refl)

  pub emptied_prev : (cache_of (emptied w limit)).prev 0 ≡ 0
  unfolding set_prev set_next
  emptied_prev = rw cache_emptied (upd_same ℕ_discrete _ 0 0 0 refl)

  pub emptied_sound : SoundCache 0 (cache_of (emptied w limit))
  emptied_sound = empty_sound (cache_of (emptied w limit)) emptied_root emptied_next emptied_prev
