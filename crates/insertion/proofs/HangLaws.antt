-- A new entry gets its place in the search trie. Assumes nothing.
use mathlib.Core.Path.{◌≡◌, refl, sym, ap, ◌∙◌}
use mathlib.Core.Bool.{Bool, true, false, not}
use mathlib.Core.List.{List}
use Prim.Native.Nat.{ℕ, suc, ◌+◌, ◌-◌, ◌*◌, ◌/◌, ◌≤◌, ◌<◌}
use native.Mathlib.Numerals.{add-one}
use native.Mathlib.Omega.{arith}
use lib.ListN.{take, get_or}
use lib.Seq.{get_or-take}
use Rattle.prefix.specs.Bits.{Bits, bits}
use Rattle.prefix.specs.Prefix.{common, ◌⊑◌}
use Rattle.prefix.specs.Addresses.{address_bits, ipv4_bits}
use Rattle.prefix.specs.declared.Address.{Address}
use Rattle.prefix.proofs.Common.{common_lt}
use Rattle.prefix.proofs.Order.{take_⊑}
use Rattle.prefix.proofs.Tests.{apart_not}
use Rattle.prefix.proofs.AddressLaws.{length_ipv4}
use Rattle.lru_cache.specs.Slots.{Cache, entry_node, branch_node, cell_of, set_entry, set_branch_length, set_child, set_up}
use Rattle.lru_cache.specs.Sound as lru
use Rattle.lru_cache.specs.Changes.{push_front, insert_first, hang, insert_at}
use Rattle.lru_cache.specs.Results as results
use Rattle.lru_cache.proofs.Stores.{first_stores, hang_stores}
use Rattle.lru_cache.proofs.Shape.{hangs}
use Rattle.lru_cache.specs.Changes.{On}
use Rattle.lru_cache.proofs.Walking.{find_ends}
use Rattle.lru_cache.proofs.Holding.{entries_free}
use Rattle.lru_cache.proofs.Inserting.{insert_first_inserts, insert_found}
use Rattle.sizes.specs.BothStores.{limit_of, Room}
use Rattle.slots.specs.Layout.{entries_held, up_in, cache_of, Shaped}
use Rattle.slots.specs.Stores.{put_entry, put_child, put_up}
use Rattle.slots.proofs.ReadLaws.{read_up}
use Rattle.slots.proofs.KeptLaws.{kept_then, kept_same, plain_entry}
use Rattle.entries.specs.Caches.{entries, SoundEntries}
use Rattle.entries.specs.Changed.{InStore}
use Rattle.entries.specs.Walks.{CommonWith, Walked}
use Rattle.insertion.specs.Hangs.{forked, Beside, Hung}
use Rattle.entries.proofs.Changing.{Stored, none_stored, entry_stored, child_stored, up_stored, branch_stored}
use Rattle.entries.proofs.EntryLaws.{entry_short, all_short}
use Rattle.entries.proofs.Lows.{sound_low}

-- ---- the node where the walk stops, and its cell

module _ (w : List ℕ) (a : Address) (held : ℕ) (are_held : held ≡ entries_held w) (some_held : ¬ (held ≡ 0)) (x : ℕ) (walked : Walked w (ipv4_bits a) x) where
  stop : SoundEntries w → On (entries_held w) (cache_of w) (ipv4_bits a) x
  stop S = rw (walked.found S (omega arith)) (find_ends S.slots (ipv4_bits a) (all_short w a) (omega arith)).0

  unsound : {P : Bits} {H : ℕ} → ¬ SoundEntries w → Hung w w P H
  unsound f = record { kept = kept_same _ w; ready = λ S free. absurd (f S) }

  pub far_node : {P : Bits} {H : ℕ} → held < x / 2 → Hung w w P H
  far_node h = unsound (λ S. omega (arith, (stop S).live))

  pub far_cell : {P : Bits} {H cell : ℕ} → cell ≡ up_in w x → held < cell / 2 → Hung w w P H
  far_cell e h = unsound (λ S. omega (arith, e, read_up w x, (sound_low S.slots).up_low x (stop S).live))

  pub beside : (cell : ℕ) → Shaped w → held < limit_of w → x / 2 ≤ held → cell ≡ up_in w x → cell / 2 ≤ held → Beside w (ipv4_bits a) (held + 1) x cell
  beside cell shaped room hx e hc = record {
    has = omega (arith, shaped.enough, shaped.legal);
    after = omega arith;
    some_held = omega arith;
    x_inside = omega arith;
    cell_inside = omega arith;
    walked = walked;
    is_cell = e;
  }

-- ---- the entry's words, and then other stores to the slots

abbrev first_bits : Address → ℕ → Bits
first_bits a n = take n (ipv4_bits a)

-- the word r has the first 32 bits of a, and slot s, after those in use, gets the first n
module _ (w : List ℕ) (a : Address) (r n hop s : ℕ) (er : bits 32 r ≡ take 32 (address_bits a)) (short : n ≤ 32) (room : Room w s) (after : s ≡ suc (entries_held w)) where
  entered : Stored s w (put_entry w s r n hop) (set_entry (cache_of w) s (first_bits a n) hop)
  entered = rw (ap (take n) er) at (entry_stored room (none_stored s w) s r n hop short (omega arith))

  room_still : Room (put_entry w s r n hop) s
  room_still = omega (arith, entered.kept.size)

  module _ (f : Cache → Cache) (w' : List ℕ) (rest : Stored s (put_entry w s r n hop) w' (f (cache_of (put_entry w s r n hop))))
      (links : (f (set_entry (cache_of w) s (first_bits a n) hop)).next ≡ (cache_of w).next) where
    cache_is : cache_of w' ≡ f (set_entry (cache_of w) s (first_bits a n) hop)
    cache_is = rest.is ∙ ap f entered.is

    hung_by : (SoundEntries w → results.Free (entries_held w) (cache_of w) (first_bits a n) → results.Inserted (entries_held w) (cache_of w) (push_front (f (set_entry (cache_of w) s (first_bits a n) hop)) s) (first_bits a n) hop)
        → Hung w w' (first_bits a n) hop
    unfolding entries
    hung_by inserts = record {
      kept = rw after at (kept_then entered.kept rest.kept);
      ready = λ S free. record {
        plain = rw after at (rest.kept.plain s (plain_entry s r n hop (omega arith) short room S.plain));
        first_low = rw (cache_is, links) (omega (arith, (sound_low S.slots).next_low 0 (omega arith)));
        inserts = rw (cache_is, ← after) (inserts S (entries_free S.slots (first_bits a n) free));
      };
    }

-- ---- the first entry

pub first_hung : (w w' u v : List ℕ) (a : Address) (r n hop : ℕ) → InStore w 1 × (entries_held w ≡ 0) → n ≤ 32 → bits 32 r ≡ take 32 (address_bits a)
    → u ≡ put_entry w 1 r n hop → v ≡ put_up u 2 0 → w' ≡ put_child v 0 2 → Hung w w' (first_bits a n) hop
unfolding set_entry set_child set_up
first_hung w w' u v a r n hop has short er eu ev ew =
    let after : 1 ≡ suc (entries_held w) = omega arith in
    let room = room_still w a r n hop 1 er short has.0.0 after in
    rw (ew, ev, eu)
    (hung_by w a r n hop 1 er short has.0.0 after (λ c. set_child (set_up c 2 0) 0 2) _
    (child_stored room (up_stored room (none_stored 1 (put_entry w 1 r n hop)) 2 0 (omega arith)) 0 2 (omega arith)) refl
    (λ S free. rw (first_stores (cache_of w) (first_bits a n) hop) (first S)))
  where
    first : SoundEntries w → results.Inserted (entries_held w) (cache_of w) (insert_first (cache_of w) (first_bits a n) hop) (first_bits a n) hop
    first S = rw has.1 (insert_first_inserts (rw has.1 at S.slots) (first_bits a n) hop)

-- ---- a further entry

-- the stores of `forked`, with the number of the other cell
abbrev fork : Cache → ℕ → ℕ → ℕ → ℕ → ℕ → ℕ → Cache
fork c s own other cell x m =
    set_child (set_child (set_child (set_up (set_branch_length (set_up (set_up c x other) (entry_node s) own) s m) (branch_node s) cell) other x) own (entry_node s)) cell (branch_node s)

fork_is : (c : Cache) (s own other cell x m : ℕ) (b : Bool) (P : Bits) (H : ℕ) → own ≡ cell_of s b → other ≡ 4 * s + 1 - own → x ≡ c.child cell
    → fork (set_entry c s P H) s own other cell x m ≡ hang c s cell (not b) m P H
fork_is c s own other cell x m true P H eo et ex =
    let e : other ≡ cell_of s false = omega arith in
    rw (eo, e) (hang_stores c s cell false m P H x ex)
fork_is c s own other cell x m false P H eo et ex =
    let e : other ≡ cell_of s true = omega arith in
    rw (eo, e) (hang_stores c s cell true m P H x ex)

module _ (w w' u : List ℕ) (a : Address) (r n hop s x cell m own : ℕ) (here : Beside w (ipv4_bits a) s x cell) (short : n ≤ 32) (is_common : CommonWith w (x / 2) (ipv4_bits a) m) where
  live : SoundEntries w → On (entries_held w) (cache_of w) (ipv4_bits a) x
  live S = stop w a (entries_held w) refl (λ z. omega (arith, here.some_held)) x here.walked S

  module _ (S : SoundEntries w) (free : results.Free (entries_held w) (cache_of w) (first_bits a n)) where
    slot : lru.Slot (entries_held w) (x / 2)
    slot = omega (arith, (live S).live)

    m_is : m ≡ common (ipv4_bits a) ((cache_of w).entry (x / 2))
    m_is = is_common.is_common (S.plain.short (x / 2) slot.0 slot.1)

    -- the walk found no entry that contains the address
    outside : ¬ ((cache_of w).entry (x / 2) ⊑ ipv4_bits a)
    outside p = apart_not (free (x / 2) slot) (take_⊑ n (ipv4_bits a)) p

    bit : get_or (address_bits a) m false ≡ get_or (ipv4_bits a) m false
    bit = sym (get_or-take 32 (address_bits a) m false (omega (arith, m_is, length_ipv4 a, common_lt outside (omega (arith, entry_short w (x / 2), length_ipv4 a)))))

    inserted : results.Inserted (entries_held w) (cache_of w) (insert_at (cache_of w) (suc (entries_held w)) ((cache_of w).up x) (not (get_or (ipv4_bits a) m false)) m (first_bits a n) hop) (first_bits a n) hop
    inserted = insert_found S.slots (ipv4_bits a) (first_bits a n) hop x m here.some_held (all_short w a) (take_⊑ n (ipv4_bits a)) free (here.walked.found S here.some_held) m_is

  pub beside_hung : bits 32 r ≡ take 32 (address_bits a) → u ≡ put_entry w s r n hop → (own ≡ cell_of s (get_or (address_bits a) m false)) × (own / 2 ≡ s) → w' ≡ forked u s own cell x m
      → Hung w w' (first_bits a n) hop
  unfolding forked set_entry set_branch_length set_child set_up insert_at
  beside_hung er eu eo ew =
      let after : s ≡ suc (entries_held w) = here.after ∙ add-one (entries_held w) in
      let room = room_still w a r n hop s er short here.has.0 after in
      rw (ew, eu)
      (hung_by w a r n hop s er short here.has.0 after (λ c. fork c s own (4 * s + 1 - own) cell x m) _
      (child_stored room (child_stored room (child_stored room
      (branch_stored room (up_stored room (up_stored room (none_stored s (put_entry w s r n hop)) x (4 * s + 1 - own) (omega arith)) (2 * s) own (omega arith)) s cell m is_common.small (omega arith))
      (4 * s + 1 - own) x (omega arith)) own (2 * s) (omega arith)) cell (2 * s + 1) (omega arith)) refl
      (λ S free. rw (fork_is (cache_of w) s own (4 * s + 1 - own) cell x m (get_or (ipv4_bits a) m false) (first_bits a n) hop (eo.0 ∙ ap (cell_of s) (bit S free)) refl (x_is S), after, here.is_cell, read_up w x) (inserted S free)))
    where
      x_is : SoundEntries w → x ≡ (cache_of w).child cell
      x_is S = sym (ap (cache_of w).child (here.is_cell ∙ read_up w x) ∙ (hangs S.slots x (live S).live).1)
