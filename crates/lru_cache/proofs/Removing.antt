-- An entry is removed: the others keep their order, and the slots 1 to n are in use again. Assumes nothing.
use mathlib.Core.Path.{◌≡◌, refl, sym, ap, ◌∙◌, subst, fun_ext}
use mathlib.Core.Bool.{Bool, cond}
use mathlib.Core.List.Memᴰ
use mathlib.Core.List.{List, map, map-id, map-map}
use mathlib.Core.Logic.{◌⊎◌, inl, inr}
use mathlib.Core.Option.{some, none-ne-some}
use Prim.Native.Nat.{ℕ, suc, ◌/◌, ◌%◌, ◌≤◌, ◌<◌}
use native.Mathlib.Decide.{ℕ_discrete, dec_lt}
use native.Mathlib.Omega.{arith}
use lib.ListN.{take}
use lib.Dec.{eqb}
use borrow.Author.Tests.{eq-eqb, ne_eqb}
use Rattle.prefix.specs.Bits.{one?}
use Rattle.prefix.specs.Prefix.{◌⊑◌}
use Rattle.model.specs.Lists.{◌∈◌}
use Rattle.trie.specs.Trie.{Cell, Root, Kid, Trie, Inside, Points, Sound, Branchy}
use Rattle.trie.proofs.Descent.{root_least}
use Rattle.trie.proofs.Stores.{upd_same, upd_other}
use Rattle.trie.specs.Updates.{renumbered}
use Rattle.trie.proofs.Moving.{Renamed, renamed_sound, renamed_branchy, agrees_self, agrees_renamed, renumbered_s, renumbered_other, moved_renamed}
use Rattle.lru_cache.specs.Slots.{Cache, entry_node, branch_node, cell_of, root_cell, set_entry, set_branch_length, set_child, set_up, set_prev, set_next}
use Rattle.lru_cache.specs.Sound.{prefix_at, pointer, child_at, cell_at, trie, Slot, Live, InUse, SoundCache, entry_of, order}
use Rattle.lru_cache.specs.Changes.{unlink, move_links, remove_only, prune, move_entry, move_branch, fill_entry, fill_slot, remove_at}
use Rattle.lru_cache.specs.Results.{without, Removed, place_after}
use Rattle.lru_cache.proofs.Nodes.{prefix_entry, pointer_none, child_cell, cell_root, cell_split}
use Rattle.lru_cache.proofs.Shape.{hangs, apart}
use Rattle.lru_cache.proofs.Rings.{without_keep, mem_ne}
use Rattle.lru_cache.proofs.Orders.{Order, ring_order, order_ring, order_is, order_all, order_same, Hole, hole_make, hole_same, hole_move, hole_end}
use Rattle.lru_cache.proofs.Using.{unlink_trie, entry_path, map_same, entries_of}
use Rattle.lru_cache.proofs.Moves.{Left, parent_slot, prune_sound, prune_branchy, relocated, entry_moved, branch_moved}

-- on the way, c has n entries in slots of 1 to n + 1: its nodes are those of live, slot h is free, and what the cache b has in the slots
-- l, in that order of use, c has in the slots `place`
record Open (b : Cache) (l : List ℕ) (live : ℕ → Type 0) (n h : ℕ) (place : ℕ → ℕ) (c : Cache) : Type 0 where
  pointers : Sound live (trie c)
  branchy : Branchy live (trie c)
  hole : Hole n c h (map place l)
  moved : (i : ℕ) → i ∈ l → entry_of c (place i) ≡ entry_of b i

-- slot s goes to the free slot h
module _ {b : Cache} {l : List ℕ} {live live' : ℕ → Type 0} {n h : ℕ} {place : ℕ → ℕ} {c : Cache} (O : Open b l live n h place c) (s : ℕ) (ls : Slot (suc n) s) (ne : ¬ (s ≡ h))
    (one : ¬ live 1) (is : live (entry_node s)) (free : ¬ live (entry_node h)) (ok : live (branch_node h) → take (c.branch_length h) (c.entry s) ≡ take (c.branch_length h) (c.entry h))
    (old : (a : ℕ) → live a → ¬ (a ≡ entry_node s) → live' a) (new : live' (entry_node h)) (inv : (a : ℕ) → live' a → (live a × (¬ (a ≡ entry_node s))) ⊎ (a ≡ entry_node h)) where
  renamed : Renamed live live' (trie c) (trie (move_entry c s h)) (renumbered (entry_node s) (entry_node h))
  renamed = moved_renamed O.pointers is (entry_moved live c s h O.hole.slot.0 one free ok) old new inv

  moved_entry : (i : ℕ) → ¬ (i ≡ h) → entry_of (move_entry c s h) (renumbered s h i) ≡ entry_of c i
  unfolding move_entry move_links set_entry set_child set_up set_prev set_next
  moved_entry i not-h = go (ℕ_discrete i s)
    where
      go : Dec (i ≡ s) → entry_of (move_entry c s h) (renumbered s h i) ≡ entry_of c i
      go (yes e) = rw (e, renumbered_s s h) (entry_path (upd_same _ _ _ _ h refl) (upd_same _ _ _ _ h refl))
      go (no n) = rw (renumbered_other s h i n) (entry_path (upd_other _ _ _ _ i not-h) (upd_other _ _ _ _ i not-h))

  open_entry : Open b l live' n s (λ i. renumbered s h (place i)) (move_entry c s h)
  unfolding move_entry set_entry set_child set_up
  open_entry = record {
    pointers = renamed_sound O.pointers renamed;
    branchy = renamed_branchy O.pointers renamed O.branchy;
    hole = subst (λ (q : List ℕ). Hole n (move_entry c s h) s q) (map-map (renumbered s h) place l)
        (hole_move (hole_same (set_up (set_child (set_entry c h (c.entry s) (c.hop s)) (c.up (entry_node s)) (entry_node h)) (entry_node h) (c.up (entry_node s))) refl refl O.hole) s ls ne);
    moved = λ i m. moved_entry (place i) (mem_ne (Memᴰ.map place m) O.hole.gone) ∙ O.moved i m;
  }

moved_same : (c : Cache) (s t : ℕ) → ¬ (s ≡ t) → (move_entry c s t).entry t ≡ (move_entry c s t).entry s
unfolding move_entry move_links set_entry set_child set_up set_prev set_next
moved_same c s t n = upd_same _ _ _ _ t refl ∙ sym (upd_other ℕ_discrete c.entry t (c.entry s) s n)

-- and its branch too
module _ {b : Cache} {l : List ℕ} {live live' : ℕ → Type 0} {n s : ℕ} {place : ℕ → ℕ} {c : Cache} (O : Open b l live n s place c) (h : ℕ) (pos : 0 < h) (one : ¬ live 1)
    (is : live (branch_node s)) (free : ¬ live (branch_node h)) (same : c.entry h ≡ c.entry s)
    (old : (a : ℕ) → live a → ¬ (a ≡ branch_node s) → live' a) (new : live' (branch_node h)) (inv : (a : ℕ) → live' a → (live a × (¬ (a ≡ branch_node s))) ⊎ (a ≡ branch_node h)) where
  branched : Renamed live live' (trie c) (trie (move_branch c s h)) (renumbered (branch_node s) (branch_node h))
  branched = moved_renamed O.pointers is (branch_moved live c s h O.pointers O.branchy O.hole.slot.0 pos one is free same) old new inv

  open_branch : Open b l live' n s place (move_branch c s h)
  unfolding move_branch set_branch_length set_child set_up
  open_branch = record {
    pointers = renamed_sound O.pointers branched;
    branchy = renamed_branchy O.pointers branched O.branchy;
    hole = hole_same (move_branch c s h) refl refl O.hole;
    moved = O.moved;
  }

-- all nodes but those of the last slot
shrink : (n a : ℕ) → Live (suc n) a → ¬ (a ≡ entry_node (suc n)) → ¬ (a ≡ branch_node (suc n)) → Live n a
shrink n a l p q = omega arith

removed : {n : ℕ} {c w : Cache} {k : ℕ} {place : ℕ → ℕ} {live : ℕ → Type 0} → ((a : ℕ) → live a → Live n a) → ((a : ℕ) → Live n a → live a) → SoundCache (suc n) c → Open c (without k (order (suc n) c)) live n (suc n) place w → Removed n c w k place
removed {n} {c} {w} {k} {place} {live} f g S O = record {
  sound = record { pointers = renamed_sound O.pointers same; branchy = renamed_branchy O.pointers same O.branchy; ring = order_ring (hole_end O.hole) };
  holds = entries_of (hole_end O.hole) ∙ map-map (entry_of w) place (without k (order (suc n) c)) ∙ map_same (λ i. entry_of w (place i)) (entry_of c) (without k (order (suc n) c)) O.moved;
  slots = order_is (hole_end O.hole);
  moved = λ i h ne. O.moved i (without_keep k (order (suc n) c) i ne (order_all (ring_order S.ring) i h));
}
  where
    -- the live nodes, said in another way
    same : Renamed live (Live n) (trie w) (trie w) (λ a. a)
    same = agrees_renamed (agrees_self (trie w)) f g

module _ {n : ℕ} {c : Cache} (S : SoundCache (suc n) c) (k j : ℕ) (b : Bool) (lk : Slot (suc n) k) (is_up : c.up (entry_node k) ≡ cell_of j b) (pos : 0 < j) where
  abbrev l : List ℕ
  l = without k (order (suc n) c)

  lj : (1 < j) × (j ≤ suc n)
  lj = parent_slot S k j b lk is_up pos

  abbrev c₁ : Cache
  c₁ = unlink (prune c j b) k

  O₁ : Open c l (Left (suc n) k j) n k (λ i. i) c₁
  unfolding unlink prune set_prev set_next set_child set_up
  O₁ = record {
    pointers = subst (λ (v : Trie). Sound (Left (suc n) k j) v) (sym (unlink_trie (prune c j b) k)) (prune_sound S k j b lk is_up pos);
    branchy = subst (λ (v : Trie). Branchy (Left (suc n) k j) v) (sym (unlink_trie (prune c j b) k)) (prune_branchy S k j b lk is_up pos);
    hole = subst (λ (q : List ℕ). Hole n c₁ k q) (sym (map-id l)) (hole_make (order_same (prune c j b) refl refl (ring_order S.ring)) k lk);
    moved = λ i m. refl;
  }

  kept : ¬ (j ≡ k) → 1 < k → take (c₁.branch_length k) (c₁.entry j) ≡ take (c₁.branch_length k) (c₁.entry k)
  unfolding unlink prune set_prev set_next set_child set_up
  kept ne h = relocated S k j b lk is_up pos h ne

  -- slot i is s where they are one
  renumbered_self : (s t i : ℕ) → s ≡ t → renumbered s t i ≡ i
  renumbered_self s t i e = go (ℕ_discrete i s)
    where
      go : Dec (i ≡ s) → renumbered s t i ≡ i
      go (yes z) = ap (renumbered s t) z ∙ renumbered_s s t ∙ sym e ∙ sym z
      go (no n) = renumbered_other s t i n

  -- no slot is moved where the free slot is the one to be moved
  open_self : {live : ℕ → Type 0} {h s : ℕ} {place : ℕ → ℕ} {w : Cache} → s ≡ h → Open c l live n h place w → Open c l live n s (λ i. renumbered s h (place i)) w
  open_self {live} {h} {s} {place} {w} e O =
      let f : place ≡ (λ i. renumbered s h (place i)) = fun_ext (λ i. sym (renumbered_self s h (place i) e)) in
      subst (λ (g : ℕ → ℕ). Open c l live n s g w) f (subst (λ (x : ℕ). Open c l live n x place w) (sym e) O)

  -- the entry of slot j goes to slot k
  O₂ : Open c l (Left (suc n) j j) n j (renumbered j k) (fill_entry c₁ j k)
  unfolding fill_entry
  O₂ = go (ℕ_discrete j k)
    where
      go : Dec (j ≡ k) → Open c l (Left (suc n) j j) n j (renumbered j k) (cond (eqb j k) c₁ (move_entry c₁ j k))
      go (yes e) = rw (eq-eqb j k e) (open_self e (subst (λ (x : ℕ). Open c l (Left (suc n) x j) n k (λ i. i) c₁) (sym e) O₁))
      go (no ne) = rw (ne_eqb j k ne)
          (open_entry O₁ j (omega (arith, lj)) ne (λ l. omega (arith, l.0.0)) ((omega (arith, lj), λ z. ne (omega arith)), λ z. omega arith) (λ l. l.0.1 refl)
          (λ l. let m = l.0.0 in kept ne (omega arith))
          (λ a l z. ((l.0.0, z), l.1)) ((omega arith, λ z. ne (omega arith)), λ z. omega arith) (λ a l. inv a l (ℕ_discrete a (entry_node k))))
        where
          inv : (a : ℕ) → Left (suc n) j j a → Dec (a ≡ entry_node k) → (Left (suc n) k j a × (¬ (a ≡ entry_node j))) ⊎ (a ≡ entry_node k)
          inv a l (yes z) = inr z
          inv a l (no z) = inl (((l.0.0, z), l.1), l.0.1)

  -- the last slot goes to slot j
  abbrev c₂ : Cache
  c₂ = fill_entry c₁ j k

  close : Removed n c (fill_slot c₂ (suc n) j) k (place_after (suc n) k j)
  unfolding fill_slot
  close = go (ℕ_discrete (suc n) j)
    where
      go : Dec (suc n ≡ j) → Removed n c (cond (eqb (suc n) j) c₂ (move_branch (move_entry c₂ (suc n) j) (suc n) j)) k (place_after (suc n) k j)
      go (yes e) = rw (eq-eqb (suc n) j e)
          (removed (λ a l. let m = l.0.0 in let p = l.0.1 in let q = l.1 in omega arith) (λ a l. ((omega arith, λ z. omega arith), λ z. omega arith)) S (open_self e O₂))
      go (no ne) = rw (ne_eqb (suc n) j ne) (removed {live = Live n} (λ a l. l) (λ a l. l) S O₄)
        where
          O₃ : Open c l (Left (suc n) (suc n) j) n (suc n) (place_after (suc n) k j) (move_entry c₂ (suc n) j)
          O₃ = open_entry O₂ (suc n) (omega arith) ne (λ l. omega (arith, l.0.0)) ((omega (arith, lj), λ z. ne (omega arith)), λ z. omega arith) (λ l. l.0.1 refl) (λ l. absurd (l.1 refl))
              (λ a l z. ((l.0.0, z), l.1)) ((omega (arith, lj), λ z. ne (omega arith)), λ z. omega arith) (λ a l. inv a l (ℕ_discrete a (entry_node j)))
            where
              inv : (a : ℕ) → Left (suc n) (suc n) j a → Dec (a ≡ entry_node j) → (Left (suc n) j j a × (¬ (a ≡ entry_node (suc n)))) ⊎ (a ≡ entry_node j)
              inv a l (yes z) = inr z
              inv a l (no z) = inl (((l.0.0, z), l.1), l.0.1)

          O₄ : Open c l (Live n) n (suc n) (place_after (suc n) k j) (move_branch (move_entry c₂ (suc n) j) (suc n) j)
          O₄ = open_branch O₃ j pos (λ l. omega (arith, l.0.0)) ((omega (arith, lj, ne), λ z. omega arith), λ z. ne (omega arith)) (λ l. l.1 refl) (moved_same c₂ (suc n) j ne)
              (λ a l z. shrink n a l.0.0 l.0.1 z) (omega (arith, lj, ne)) (λ a l. inv a l (ℕ_discrete a (branch_node j)))
            where
              inv : (a : ℕ) → Live n a → Dec (a ≡ branch_node j) → (Left (suc n) (suc n) j a × (¬ (a ≡ branch_node (suc n)))) ⊎ (a ≡ branch_node j)
              inv a l (yes z) = inr z
              inv a l (no z) = inl (((omega arith, λ y. omega arith), z), λ y. omega arith)

  remove_beside : Removed n c (remove_at c (suc n) k j b) k (place_after (suc n) k j)
  unfolding remove_at
  remove_beside = close

-- the cell q of the entry says which branch goes with it
pub remove_entry : {n : ℕ} {c : Cache} → SoundCache (suc n) c → (k q : ℕ) → Slot (suc n) k → q ≡ c.up (entry_node k) → ¬ (q ≡ root_cell) → Removed n c (remove_at c (suc n) k (q / 2) (one? (q % 2))) k (place_after (suc n) k (q / 2))
remove_entry {n} {c} S k q lk e ne = remove_beside S k (q / 2) (one? (q % 2)) lk (sym e ∙ cell_split q) (go (hangs S (entry_node k) (omega arith)).0)
  where
    go : InUse (suc n) (c.up (entry_node k)) → 0 < q / 2
    go (inl z) = absurd (ne (e ∙ z))
    go (inr h) = omega arith

-- ---- the only entry

-- an entry in the root cell has no other beside it
pub only_entry : {n : ℕ} {c : Cache} → SoundCache n c → (k : ℕ) → Slot n k → c.up (entry_node k) ≡ root_cell → (n ≡ 1) × (k ≡ 1)
only_entry {n} {c} S k lk e = go (dec_lt 1 n)
  where
    first : child_at c Root ≡ some (entry_node k)
    first = subst (λ (q : Cell). child_at c q ≡ some (entry_node k)) (ap cell_at e ∙ cell_root) (S.pointers.owned (entry_node k) (omega arith)).child

    same : (i : ℕ) → Slot n i → k ≡ i
    same i li =
        let r = root_least S.pointers (entry_node i) (omega arith) in
        let z : r.0 ≡ entry_node k = cc (r.1, first) in
        apart S k i lk li (rw (← prefix_entry c k, ← prefix_entry c i) (subst (λ (a : ℕ). prefix_at c a ⊑ prefix_at c (entry_node i)) z r.2))

    go : Dec (1 < n) → (n ≡ 1) × (k ≡ 1)
    go (yes h) = absurd (omega (arith, same 1 (omega arith), same 2 (omega arith)))
    go (no h) = omega arith

-- nothing in the root cell
empty_pointers : (c : Cache) → c.child root_cell ≡ 0 → Sound (Live 0) (trie c)
empty_pointers c e = record { points = points; owned = λ j l. absurd (omega arith) }
  where
    points : (q : Cell) (j : ℕ) → Inside (Live 0) q → child_at c q ≡ some j → Points (Live 0) (trie c) q j
    points Root j i h = absurd (none-ne-some j (sym (ap (child_at c) (sym cell_root) ∙ child_cell c root_cell ∙ ap pointer e ∙ pointer_none) ∙ h))
    points (Kid a b) j l h = absurd (omega arith)

-- a cache just set up: slot 0 alone counts
pub empty_sound : (c : Cache) → c.child root_cell ≡ 0 → c.next 0 ≡ 0 → c.prev 0 ≡ 0 → SoundCache 0 c
empty_sound c e f g = record {
  pointers = empty_pointers c e;
  branchy = λ a l. absurd (omega arith);
  ring = order_ring (record { loop = record { chain = (f, g); outside = Memᴰ.not-nil }; below = λ a m. absurd (Memᴰ.not-nil m); size = refl });
}

pub remove_only_removes : {c : Cache} → SoundCache 1 c → Removed 0 c (remove_only c) 1 (λ i. i)
unfolding remove_only unlink set_child set_prev set_next
remove_only_removes {c} S = record {
  sound = record { pointers = empty_pointers (remove_only c) (upd_same _ _ _ _ root_cell refl); branchy = λ a l. absurd (omega arith); ring = order_ring o };
  holds = entries_of o ∙ map_same (entry_of (remove_only c)) (entry_of c) (without 1 (order 1 c)) (λ i m. refl);
  slots = order_is o ∙ sym (map-id (without 1 (order 1 c)));
  moved = λ i h ne. refl;
}
  where
    o : Order 0 (remove_only c) (without 1 (order 1 c))
    o = order_same (remove_only c) refl refl (hole_end (hole_make (ring_order S.ring) 1 (omega arith)))
