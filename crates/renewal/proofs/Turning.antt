-- One turn of the pass: the entry in hand leaves, or stays. Assumes nothing.
use mathlib.Core.Path.{◌≡◌, refl, sym, ap, ◌∙◌, subst}
use mathlib.Core.Bool.{true, false, not}
use mathlib.Core.List.Memᴰ
use mathlib.Core.List.{List, map}
use Prim.Native.Nat.{ℕ, suc, ◌+◌, ◌-◌, ◌/◌, ◌<◌, min}
use native.Mathlib.Decide.{ℕ_discrete}
use native.Mathlib.Omega.{arith}
use lib.ListN.{length}
use lib.Dec.{eqb}
use borrow.Author.Tests.{eq-eqb, ne_eqb}
use Rattle.model.specs.Lists.{◌∈◌, keep}
use Rattle.model.specs.Routes.{Table, Update}
use Rattle.model.specs.Model.{Entry, Cache, leaves, fresh, refreshed, removed, changed}
use Rattle.lru_cache.specs.Sound as lru
use Rattle.lru_cache.specs.Results.{without}
use Rattle.lru_cache.proofs.Rings.{without_sub}
use Rattle.lru_cache.proofs.Orders.{ring_order, order_all, order_distinct}
use Rattle.lru_cache.proofs.Holding.{keep_others, slot_entry, entry_slot}
use Rattle.sizes.specs.BothStores.{slot_word, word}
use Rattle.slots.specs.Layout.{entries_held, cache_of}
use Rattle.entries.specs.Caches.{entries, SoundEntries, Slot, entry_in, with_hop, rehopped, Kept, Removes, Rehops}
use Rattle.renewal.specs.declared.Pass.{Pass}
use Rattle.renewal.specs.Passes.{Within, Right, RightAbove, RightApart, Turned, Drops, Keeps, next_pass}
use Rattle.pairs.proofs.Pairing.{held_entries}
use Rattle.renewal.proofs.Passing.{leaves_prefix, fresh_prefix, rehop_cache, rehop_removed, rehop_changed, fewer_removed}

-- ---- it leaves

module _ {w w' : List ℕ} {p : Pass} (in_range : Within w p) (in_hand : 0 < p.at) (kept : Kept w w' (p.entries - 1)) where
  abbrev after : ℕ → Pass
  after a = record { at = a; entries = p.entries - 1; removed = p.removed + 1; changed = p.changed }

  module _ (gone : SoundEntries w → Removes w w' p.at) (T : Table) (u : Update) (S : SoundEntries w) (lv : leaves T u (entry_in w p.at) ≡ true) where
    same_stay : keep (λ E. not (leaves T u E)) (entries w') ≡ keep (λ E. not (leaves T u E)) (entries w)
    unfolding entries
    same_stay = ap (keep (λ E. not (leaves T u E))) (gone S).holds.are_entries ∙ keep_others S.slots (λ E. not (leaves T u E)) p.at (rw lv)

    one_less : suc (length (entries w')) ≡ length (entries w)
    one_less = omega (arith, held_entries S, held_entries (gone S).holds.sound, kept.count, in_range.count, in_range.at_most, in_hand)

    drop_cache : refreshed T u (entries w') ≡ refreshed T u (entries w)
    unfolding refreshed
    drop_cache = ap (map (fresh T)) same_stay

    drop_changed : changed T u (entries w') ≡ changed T u (entries w)
    unfolding changed
    drop_changed = ap (λ (c : Cache). length (keep (λ E. not (eqb E.hop (fresh T E).hop)) c)) same_stay

    was_held : (E : Entry) → E ∈ entries w' → E ∈ entries w
    unfolding entries lru.entries
    was_held E m = go (Memᴰ.of_map (entry_in w) _ (subst (λ (c : Cache). E ∈ c) (gone S).holds.are_entries m))
      where
        go : (i : ℕ) × (i ∈ without p.at (lru.order (entries_held w) (cache_of w))) × (entry_in w i ≡ E) → E ∈ map (entry_in w) (lru.order (entries_held w) (cache_of w))
        go (i, l, e) = subst (λ (D : Entry). D ∈ map (entry_in w) (lru.order (entries_held w) (cache_of w))) e (Memᴰ.map (entry_in w) (without_sub p.at _ i l))

    turned : (a : ℕ) → ((s : ℕ) → Slot w' s → a < s → p.at < s) → Turned T u w w' p (after a)
    turned a above = record {
      sound = (gone S).holds.sound;
      same_cache = drop_cache;
      same_removed = omega (arith, fewer_removed T u (entries w) (entries w') same_stay one_less);
      same_changed = ap (λ (n : ℕ). p.changed + n) drop_changed;
      done = λ right s ls lt. moved right s ((gone S).later s ls (above s ls lt));
      apart = λ right E m. right E (was_held E m);
    }
      where
        moved : RightAbove T u w p.at → (s : ℕ) → (z : ℕ) × Slot w z × (p.at < z) × (entry_in w' s ≡ entry_in w z) → Right T u (entry_in w' s)
        moved right s (z, lz, hz, e) = subst (Right T u) (sym e) (right z lz hz)

  -- the pass goes on at the same slot, or at the last one left
  pub drops : (SoundEntries w → Removes w w' p.at) → (low : ℕ) → low ≡ min p.at (p.entries - 1) → Drops w w' p (after low)
  drops gone low is T u S lv = turned gone T u S lv low (λ s ls lt. omega (arith, is, kept.count, ls.1, lt))

-- ---- it stays

hop_word : (w : List ℕ) (k : ℕ) → (entry_in w k).hop ≡ word w (slot_word k 1) / 64
unfolding cache_of
hop_word w k = refl

module _ {w : List ℕ} {p q : Pass} (in_range : Within w p) (in_hand : 0 < p.at) (e : q ≡ next_pass p 0) where
  pub right_already : (T : Table) (u : Update) → SoundEntries w → Right T u (entry_in w p.at) → Turned T u w w p q
  right_already T u S now = rw e (record {
    sound = S;
    same_cache = refl;
    same_removed = refl;
    same_changed = omega arith;
    done = λ right s ls lt. go right s ls lt (ℕ_discrete s p.at);
    apart = λ right. right;
  })
    where
      go : RightAbove T u w p.at → (s : ℕ) → Slot w s → p.at - 1 < s → Dec (s ≡ p.at) → Right T u (entry_in w s)
      go right s ls lt (yes z) = subst (λ (i : ℕ). Right T u (entry_in w i)) (sym z) now
      go right s ls lt (no ne) = right s ls (omega arith)

  pub has_hop : (hop old : ℕ) → old ≡ word w (slot_word p.at 1) / 64 → old ≡ hop → Keeps w w p hop q
  has_hop hop old is same T u S stays new small = right_already T u S (record { stays = stays; its_hop = hop_word w p.at ∙ sym is ∙ same ∙ sym new })

  pub high_hop : (hop : ℕ) → 65535 < hop → Keeps w w p hop q
  high_hop hop l T u S stays new small = absurd (omega arith)

module _ {w w' : List ℕ} {p q : Pass} (in_range : Within w p) (in_hand : 0 < p.at) (e : q ≡ next_pass p 1) (kept : Kept w w' (entries_held w)) where
  module _ (hop old : ℕ) (is : old ≡ word w (slot_word p.at 1) / 64) (differs : ¬ (old ≡ hop)) (gives : SoundEntries w → Rehops w w' p.at hop)
      (T : Table) (u : Update) (S : SoundEntries w) (stays : leaves T u (entry_in w p.at) ≡ false) (new : (fresh T (entry_in w p.at)).hop ≡ hop) where
    same_prefix : (i : ℕ) → (with_hop w p.at hop i).prefix ≡ (entry_in w i).prefix
    same_prefix i = go (ℕ_discrete i p.at)
      where
        go : Dec (i ≡ p.at) → (with_hop w p.at hop i).prefix ≡ (entry_in w i).prefix
        go (yes z) = rw (eq-eqb i p.at z) (ap (cache_of w).entry (sym z))
        go (no ne) = rw (ne_eqb i p.at ne)

    give_cache : refreshed T u (entries w') ≡ refreshed T u (entries w)
    unfolding entries lru.entries rehopped
    give_cache = ap (refreshed T u) (gives S).holds.are_entries ∙ rehop_cache T u (entry_in w) (with_hop w p.at hop) same_prefix (lru.order (entries_held w) (cache_of w))

    give_removed : removed T u (entries w') ≡ removed T u (entries w)
    unfolding entries lru.entries rehopped
    give_removed = ap (removed T u) (gives S).holds.are_entries ∙ rehop_removed T u (entry_in w) (with_hop w p.at hop) same_prefix (lru.order (entries_held w) (cache_of w))

    give_changed : suc (changed T u (entries w')) ≡ changed T u (entries w)
    unfolding entries lru.entries rehopped
    give_changed =
        let o = ring_order S.slots.ring in
        ap (λ (c : Cache). suc (changed T u c)) (gives S).holds.are_entries
        ∙ rehop_changed T u (entry_in w) (with_hop w p.at hop) same_prefix p.at (λ i ne. rw (ne_eqb i p.at ne)) stays (λ z. differs (is ∙ sym (hop_word w p.at) ∙ z ∙ new))
        (rw (eq-eqb p.at p.at refl) (sym new)) (lru.order (entries_held w) (cache_of w)) (order_distinct o) (order_all o p.at (in_hand, omega (arith, in_range.at_most, in_range.count)))

    now_right : Right T u (entry_in w' p.at)
    now_right = rw (gives S).here (record {
      stays = leaves_prefix T u (record { prefix = (entry_in w p.at).prefix; hop = hop }) (entry_in w p.at) refl ∙ stays;
      its_hop = sym new ∙ ap (λ (E : Entry). E.hop) (fresh_prefix T u (entry_in w p.at) (record { prefix = (entry_in w p.at).prefix; hop = hop }) refl);
    })

    give_apart : RightApart T u w → RightApart T u w'
    unfolding entries
    give_apart right E m o = go (entry_slot (gives S).holds.sound.slots E m)
      where
        at_slot : (s : ℕ) → Slot w' s → entry_in w' s ≡ E → Dec (s ≡ p.at) → Right T u E
        at_slot s ls is-E (yes z) = subst (Right T u) (ap (entry_in w') (sym z) ∙ is-E) now_right
        at_slot s ls is-E (no ne) =
            right E (subst (λ (D : Entry). D ∈ entries w) (sym ((gives S).there s ne) ∙ is-E) (slot_entry S.slots s (ls.0, omega (arith, kept.count, ls.1)))) o

        go : (s : ℕ) × Slot w' s × (entry_in w' s ≡ E) → Right T u E
        go (s, ls, is-E) = at_slot s ls is-E (ℕ_discrete s p.at)

    give_turned : Turned T u w w' p (next_pass p 1)
    give_turned = record {
      sound = (gives S).holds.sound;
      same_cache = give_cache;
      same_removed = ap (λ (n : ℕ). p.removed + n) give_removed;
      same_changed = omega (arith, give_changed);
      done = λ right s ls lt. go right s ls lt (ℕ_discrete s p.at);
      apart = give_apart;
    }
      where
        go : RightAbove T u w p.at → (s : ℕ) → Slot w' s → p.at - 1 < s → Dec (s ≡ p.at) → Right T u (entry_in w' s)
        go right s ls lt (yes z) = subst (λ (i : ℕ). Right T u (entry_in w' i)) (sym z) now_right
        go right s ls lt (no ne) = rw ((gives S).there s ne) (right s (ls.0, omega (arith, kept.count, ls.1)) (omega arith))

  pub gives_hop : (hop old : ℕ) → old ≡ word w (slot_word p.at 1) / 64 → ¬ (old ≡ hop) → (SoundEntries w → Rehops w w' p.at hop) → Keeps w w' p hop q
  gives_hop hop old is differs gives T u S stays new small = rw e (give_turned hop old is differs gives T u S stays new)
