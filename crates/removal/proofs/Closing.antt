-- An entry is gone: what the store holds then. Assumes nothing.
use mathlib.Core.Path.{◌≡◌, sym, ap, ◌∙◌, subst}
use mathlib.Core.List.Memᴰ
use mathlib.Core.List.{List}
use mathlib.Core.Logic.{inl, inr}
use Prim.Native.Nat.{ℕ, zero, suc, ◌-◌, ◌*◌, ◌/◌, ◌%◌, ◌≤◌, ◌<◌}
use native.Mathlib.Decide.{ℕ_discrete}
use native.Mathlib.Omega.{arith}
use lib.ListN.{length}
use Rattle.prefix.specs.Bits.{one?}
use Rattle.model.specs.Lists.{◌∈◌}
use Rattle.trie.specs.Updates.{renumbered}
use Rattle.trie.proofs.Moving.{renumbered_s, renumbered_other}
use Rattle.lru_cache.specs.Slots.{Cache, entry_node, root_cell, set_child}
use Rattle.lru_cache.specs.Sound.{Slot, InUse, SoundCache, entry_of, order}
use Rattle.lru_cache.specs.Changes.{unlink, remove_only, remove_at}
use Rattle.lru_cache.specs.Results.{without, Removed, place_after}
use Rattle.lru_cache.proofs.Rings.{mem_ne, without_sub, without_gone}
use Rattle.lru_cache.proofs.Orders.{Order, ring_order, in_slot, order_all, order_distinct}
use Rattle.lru_cache.proofs.Shape.{hangs, cell_low}
use Rattle.lru_cache.proofs.Stores.{only_stores}
use Rattle.lru_cache.proofs.Removing.{remove_entry, remove_only_removes, only_entry}
use Rattle.sizes.specs.BothStores.{limit_of, Room}
use Rattle.slots.specs.Layout.{up_in, entries_held, cache_of, Shaped}
use Rattle.slots.specs.Stores.{put_child, put_count}
use Rattle.slots.proofs.ReadLaws.{read_up}
use Rattle.slots.proofs.StoreLaws.{cache_child, cache_count}
use Rattle.slots.proofs.KeptLaws.{kept_then, kept_same, kept_child, plain_fewer, count_size, count_limit, count_entries, count_past, count_plain}
use Rattle.entries.specs.Caches.{entries, SoundEntries, Kept, Removes}
use Rattle.entries.specs.Changed.{InStore, Changed, Linked}
use Rattle.removal.specs.Removal.{Tidy, Without, Gone}
use Rattle.entries.proofs.Changing.{slots_kept}
use Rattle.entries.proofs.Lows.{sound_low}

-- ---- a removal seen from the slots

removed_without : {m : ℕ} {c d : Cache} {k : ℕ} {place : ℕ → ℕ} → SoundCache (suc m) c → Removed m c d k place
    → ((i : ℕ) → place i ≤ m → k < place i → k < i) → Without (suc m) c d k
removed_without {m} {c} {d} {k} {place} S r back = record { sound = rw z r.sound; holds = rw z r.holds; later = rw z later }
  where
    z : suc m - 1 ≡ m
    z = omega arith

    o : Order (suc m) c (order (suc m) c)
    o = ring_order S.ring

    from : (s : ℕ) → Slot m s → k < s → (i : ℕ) × (i ∈ without k (order (suc m) c)) × (place i ≡ s) → (i : ℕ) × Slot (suc m) i × (k < i) × (entry_of d s ≡ entry_of c i)
    from s ls h (i, there, e) =
        let ne : ¬ (i ≡ k) = mem_ne there (without_gone k (order (suc m) c) (order_distinct o)) in
        let li = in_slot o i (without_sub k (order (suc m) c) i there) in
        (i, li, back i (omega arith) (omega arith), ap (entry_of d) (sym e) ∙ r.moved i li ne)

    later : (s : ℕ) → Slot m s → k < s → (i : ℕ) × Slot (suc m) i × (k < i) × (entry_of d s ≡ entry_of c i)
    later s ls h = from s ls h (Memᴰ.of_map place (without k (order (suc m) c)) (subst (λ (l : List ℕ). s ∈ l) r.slots (order_all (ring_order r.sound.ring) s ls)))

-- a slot after the removed one comes from a slot after it
place_later : (m k j i : ℕ) → place_after (suc m) k j i ≤ m → k < place_after (suc m) k j i → k < i
place_later m k j i low h = go (ℕ_discrete i j)
  where
    last : (x : ℕ) → renumbered (suc m) j x ≤ m → k < renumbered (suc m) j x → k < x
    last x l g = pick (ℕ_discrete x (suc m))
      where
        pick : Dec (x ≡ suc m) → k < x
        pick (yes e) = omega arith
        pick (no ne) = rw (renumbered_other (suc m) j x ne) at g

    go : Dec (i ≡ j) → k < i
    go (yes e) = absurd (omega (arith, last (renumbered j k i) low h, ap (renumbered j k) e, renumbered_s j k))
    go (no ne) = rw (renumbered_other j k i ne) at (last (renumbered j k i) low h)

without_beside : (n k q : ℕ) {c d : Cache} → SoundCache n c → Slot n k → q ≡ c.up (entry_node k) → ¬ (q ≡ root_cell)
    → d ≡ remove_at c n k (q / 2) (one? (q % 2)) → Without n c d k
without_beside zero k q S lk e ne is = absurd (omega arith)
without_beside (suc m) k q S lk e ne is = rw is (removed_without S (remove_entry S k q lk e ne) (place_later m k (q / 2)))

-- ---- the ways out

-- the cell of an entry
module _ {n k q : ℕ} (w : List ℕ) (lk : Slot n k) (e : q ≡ up_in w (2 * k)) where
  up : q ≡ (cache_of w).up (entry_node k)
  up = e ∙ read_up w (2 * k)

  hang_cell : SoundCache n (cache_of w) → InUse n q
  hang_cell S = rw up (hangs S (entry_node k) (omega arith)).0

  pub gone_near : ¬ (n ≡ 1) → q / 2 < 2 → Gone n w w k
  gone_near more h = record { kept = kept_same n w; rest = λ p S. absurd (go S (hang_cell S)) }
    where
      go : SoundCache n (cache_of w) → InUse n q → ⊥
      go S (inl z) = more (only_entry S k lk (sym up ∙ z)).0
      go S (inr b) = omega arith

  pub gone_far : n < q / 2 → Gone n w w k
  gone_far h = record { kept = kept_same n w; rest = λ p S. absurd (omega (arith, cell_low n q (hang_cell S))) }

  pub gone_beside : {w' : List ℕ} → 2 ≤ q / 2 → Changed n w w' (Tidy n w) (remove_at (cache_of w) n k (q / 2) (one? (q % 2))) → Gone n w w' k
  gone_beside more a = record {
    kept = a.kept;
    rest = λ p S. without_beside n k q S lk up (λ z. omega arith) (a.does (record { low = sound_low S; plain = p }));
  }

pub gone_only : {n k : ℕ} {w u w' : List ℕ} → InStore w n → n ≡ 1 → Slot n k → Changed n w u (Linked n w k) (unlink (cache_of w) k) → w' ≡ put_child u 0 0 → Gone n w w' k
gone_only {n} {k} {w} {u} {w'} has one lk a ew = record { kept = rw ew (kept_then a.kept (kept_child n u 0 (omega arith) room 0)); rest = λ p S. rest S }
  where
    room : Room u 0
    room = omega (arith, a.kept.size, has)

    is_one : k ≡ 1
    is_one = omega arith

    rest : SoundCache n (cache_of w) → Without n (cache_of w) (cache_of w') k
    rest S =
        let l = sound_low S in
        let e : cache_of w' ≡ remove_only (cache_of w)
        = ap cache_of ew ∙ cache_child u 0 0 room ∙ ap (λ (c : Cache). set_child c 0 0) (a.does (l.prev_low k lk.1, l.next_low k lk.1) ∙ ap (unlink (cache_of w)) is_one) ∙ only_stores (cache_of w) in
        let T : SoundCache 1 (cache_of w) = rw one at S in
        rw (one, is_one, e) (removed_without T (remove_only_removes T) (λ i low h. h))

-- ---- the count

module _ {n k : ℕ} {w u w' : List ℕ} (s : Shaped w) (e : n ≡ entries_held w) (g : Gone n w u k) (ew : w' ≡ put_count u (n - 1)) where
  long : 1 < length u
  long = omega (arith, s.enough, g.kept.size)

  held : entries_held w' ≡ n - 1
  held = rw ew (count_entries u (n - 1) long)

  same : cache_of w' ≡ cache_of u
  same = rw ew (cache_count u (n - 1))

  limit : limit_of w' ≡ limit_of w
  limit = rw ew (count_limit u (n - 1)) ∙ g.kept.limit

  pub counted_kept : Kept w w' (n - 1)
  counted_kept = record {
    limit_kept = limit;
    count = held;
    past_kept = rw ew (count_past u (n - 1) (limit_of w)) ∙ (slots_kept s e g.kept).past_kept;
  }

  pub counted_removes : SoundEntries w → Removes w w' k
  unfolding entries
  counted_removes S = record {
    holds = record {
      sound = record {
        shaped = record { legal = rw limit s.legal; enough = rw limit (omega (arith, s.enough, size)); entries_fit = omega (arith, held, limit, s.entries_fit) };
        plain = rw held (rw ew (count_plain u (n - 1) (n - 1) long (g.kept.plain (n - 1) (plain_fewer (n - 1) (omega arith) S.plain))));
        slots = rw (held, same) rest.sound;
      };
      are_entries = rw (held, same, ← e) rest.holds;
    };
    later = rw (held, same, ← e) rest.later;
  }
    where
      size : length w' ≡ length w
      size = rw ew (count_size u (n - 1)) ∙ g.kept.size

      rest : Without n (cache_of w) (cache_of u) k
      rest = g.rest (rw e S.plain) (rw e S.slots)
