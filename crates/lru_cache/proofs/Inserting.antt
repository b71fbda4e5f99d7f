-- An entry that overlaps no other is put into slot n + 1, as the most recently used. Assumes nothing.
use mathlib.Core.Path.{◌≡◌, refl, sym, ap, ap₂, ◌∙◌, subst}
use mathlib.Core.Bool.{Bool, true, false, not, Bool-discrete}
use mathlib.Core.List.{◌∷◌, Memᴰ}
use mathlib.Core.Logic.{◌⊎◌, inl, inr}
use mathlib.Core.Option.{Option, none, some, none-ne-some, some-ne-none}
use Prim.Native.Nat.{ℕ, suc, ◌+◌, ◌/◌, ◌<◌}
use native.Mathlib.Decide.{ℕ_discrete, dec_lt}
use native.Mathlib.Omega.{arith}
use lib.ListN.{length, take, get_or}
use Rattle.prefix.specs.Bits.{Bits, digit}
use Rattle.prefix.specs.Prefix.{common, shared, ◌⊑◌, Below}
use Rattle.prefix.proofs.Booleans.{bool_other}
use Rattle.prefix.proofs.Order.{⊑_trans, ⊑_by_length, ⊑_eq, ⊑_take, below_⊑, below_<, below_bit, below_trans, below_by_length}
use Rattle.prefix.proofs.Common.{common_take, shared_length, shared_left, shared_right, shared_great, shared_fork, below_shared}
use Rattle.prefix.proofs.Tests.{apart_⊑, apart_not}
use Rattle.trie.specs.Trie.{Cell, Root, Kid, Trie, Inside, Fits, Sound, Branchy}
use Rattle.trie.proofs.Cutting.{fits_trans}
use Rattle.trie.proofs.Growing.{Grown, grown_sound, grown_branchy, branchy_old, full_old}
use Rattle.trie.specs.Updates.{upd}
use Rattle.trie.proofs.Stores.{upd_same, upd_other}
use Rattle.trie.proofs.Next.{next_below}
use Rattle.lru_cache.specs.Slots.{Cache, entry_node, branch_node, cell_of, root_cell, set_entry, set_branch_length, set_child, set_up, set_prev, set_next}
use Rattle.lru_cache.specs.Sound.{prefix_at, hop_at, pointer, child_at, cell_at, trie, Live, InUse, SoundCache, entry_of, order}
use Rattle.lru_cache.specs.Changes.{passes, find, push_front, insert_first, hang, insert_at, On}
use Rattle.lru_cache.specs.Results.{Short, Free, Inserted}
use Rattle.lru_cache.proofs.Nodes.{prefix_entry, prefix_branch, hop_entry, hop_branch, child_entry, child_branch, pointer_some, pointer_none, cell_root, cell_branch, child_cell, prefix_same, hop_same, child_same}
use Rattle.lru_cache.proofs.Shape.{inside_cell, cell_inside, cell_low, Pointed, pointed, hangs, prefix_slot}
use Rattle.lru_cache.proofs.Walking.{miss_or_entry, find_ends}
use Rattle.lru_cache.proofs.Orders.{Order, ring_order, order_ring, order_same, in_slot, order_insert}
use Rattle.lru_cache.proofs.Using.{push_trie, same_trie, entry_path, map_same, entries_of}

-- from the nodes of w, and the links and entries of c
inserted : {n : ℕ} {c : Cache} (w : Cache) {P : Bits} {H : ℕ} → SoundCache n c → Sound (Live (suc n)) (trie w) → Branchy (Live (suc n)) (trie w) → w.next ≡ c.next → w.prev ≡ c.prev
    → w.entry ≡ upd ℕ_discrete c.entry (suc n) P → w.hop ≡ upd ℕ_discrete c.hop (suc n) H → Inserted n c (push_front w (suc n)) P H
unfolding push_front set_prev set_next
inserted {n} {c} w {P} {H} S T B nx pv e h = record {
  sound = same_trie w (push_front w (suc n)) (push_trie w (suc n)) T B (order_ring o);
  holds = entries_of o ∙ ap₂ ◌∷◌ (entry_path (at (suc n) e ∙ upd_same _ _ _ _ (suc n) refl) (at (suc n) h ∙ upd_same _ _ _ _ (suc n) refl)) (map_same (entry_of w) (entry_of c) (order n c) old ∙ sym (entries_of (ring_order S.ring)));
}
  where
    o : Order (suc n) (push_front w (suc n)) (suc n ∷ order n c)
    o = order_insert (order_same w nx pv (ring_order S.ring))

    at : {A : Type 0} {f g : ℕ → A} (i : ℕ) → f ≡ g → f i ≡ g i
    at i e = ap (λ f. f i) e

    old : (i : ℕ) → Memᴰ i (order n c) → entry_of w i ≡ entry_of c i
    old i m = let l = in_slot (ring_order S.ring) i m in entry_path (at i e ∙ upd_other _ _ _ _ i (λ z. omega arith)) (at i h ∙ upd_other _ _ _ _ i (λ z. omega arith))

-- ---- a branch in the cell q, and below it what hung there and the new entry

digit_not : (d : Bool) → digit d + digit (not d) ≡ 1
digit_not false = refl
digit_not true = refl

module _ {n : ℕ} {c : Cache} (S : SoundCache n c) (q : ℕ) (qi : InUse n q) (full : 0 < c.child q) (d : Bool) (L P : Bits) (H : ℕ)
    (lf : Fits (trie c) (cell_at q) L) (lo : Below L d (prefix_at c (c.child q))) (ln : Below L (not d) P) where
  -- the cache with the entry, and as it is before the entry hangs below its branch
  abbrev w : Cache
  w = hang c (suc n) q d (length L) P H

  abbrev u : Cache
  u = set_child w (cell_of (suc n) (not d)) 0

  -- with the branch, and no entry yet
  abbrev Mid : ℕ → Type 0
  Mid a = Live n a ⊎ (a ≡ branch_node (suc n))

  px : Pointed n c q
  px = pointed S q qi full

  w_entry : w.child (cell_of (suc n) (not d)) ≡ entry_node (suc n)
  unfolding hang set_entry set_branch_length set_child set_up
  w_entry = upd_other _ _ _ _ (cell_of (suc n) (not d)) (λ z. omega (arith, cell_low n q qi)) ∙ upd_same _ _ _ _ (cell_of (suc n) (not d)) refl

  u_side : u.child (cell_of (suc n) d) ≡ c.child q
  unfolding hang set_entry set_branch_length set_child set_up
  u_side =
      let k = digit_not d in
      upd_other _ _ _ _ (cell_of (suc n) d) (λ z. omega arith) ∙ upd_other _ _ _ _ (cell_of (suc n) d) (λ z. omega (arith, cell_low n q qi))
      ∙ upd_other _ _ _ _ (cell_of (suc n) d) (λ z. omega arith) ∙ upd_same _ _ _ _ (cell_of (suc n) d) refl

  u_empty : child_at u (Kid (branch_node (suc n)) (not d)) ≡ none
  unfolding set_child
  u_empty = child_branch u (suc n) (not d) ∙ ap pointer (upd_same _ _ _ _ (cell_of (suc n) (not d)) refl) ∙ pointer_none

  u_full : child_at u (Kid (branch_node (suc n)) d) ≡ some (c.child q)
  u_full = child_branch u (suc n) d ∙ ap pointer u_side ∙ pointer_some (c.child q) full

  g₁ : Grown (Live n) Mid (trie c) (trie u) (cell_at q) (branch_node (suc n)) L none
  unfolding hang set_entry set_branch_length set_child set_up
  g₁ = record {
    joined = record { fresh = λ l. omega arith; old = λ a l. inl l; new = inr refl; inv = λ a l. l };
    prefix_old = λ a l. prefix_same c u a (upd_other _ _ _ _ (a / 2) (λ z. omega arith)) (upd_other _ _ _ _ (a / 2) (λ z. omega arith));
    prefix_new =
        prefix_branch u (suc n)
        ∙ ap₂ take (upd_same ℕ_discrete c.branch_length (suc n) (length L) (suc n) refl) (upd_same ℕ_discrete c.entry (suc n) P (suc n) refl) ∙ ⊑_take (below_⊑ ln);
    hop_old = λ a l. hop_same c u a (upd_other _ _ _ _ (a / 2) (λ z. omega arith));
    hop_new = hop_branch u (suc n);
    up_old = λ a l ne. ap cell_at (upd_other _ _ _ _ a (λ z. omega arith) ∙ upd_other _ _ _ _ a (λ z. omega arith) ∙ upd_other _ _ _ _ a (λ z. ne (ap cell_at (ap c.up z ∙ px.knows))));
    up_new = ap cell_at (upd_same _ _ _ _ (branch_node (suc n)) refl);
    child_old = λ e i ne. child_same c u (Live n) (λ l. omega arith) e i (λ r z. old e i ne r z);
    child_cell = child_cell u q ∙ ap pointer (upd_other _ _ _ _ q (λ z. omega (arith, cell_low n q qi)) ∙ upd_same _ _ _ _ q refl) ∙ pointer_some (branch_node (suc n)) (omega arith);
    child_new = λ b j f. new b j f (Bool-discrete b d);
    child_kept = λ j f. (d, u_full ∙ sym (child_cell c q ∙ pointer_some (c.child q) full) ∙ f);
  }
    where
      old : (e : Cell) → Inside (Live n) e → ¬ (e ≡ cell_at q) → (r : ℕ) → e ≡ cell_at r → u.child r ≡ c.child r
      old e i ne r z =
          let k = cell_low n r (cell_inside n r (rw z at i)) in
          upd_other _ _ _ _ r (λ y. omega arith) ∙ upd_other _ _ _ _ r (λ y. ne (z ∙ ap cell_at y)) ∙ upd_other _ _ _ _ r (λ y. omega arith) ∙ upd_other _ _ _ _ r (λ y. omega arith)

      new : (b : Bool) (j : ℕ) → child_at u (Kid (branch_node (suc n)) b) ≡ some j → Dec (b ≡ d) → (child_at c (cell_at q) ≡ some j) × (cell_at (u.up j) ≡ Kid (branch_node (suc n)) b) × Below L b (prefix_at c j)
      new b j f (yes z) =
          let y : c.child q ≡ j = cc (u_full) in
          let l = px.live in
          rw (← y, z) (
            child_cell c q ∙ pointer_some (c.child q) full,
            ap cell_at (upd_other _ _ _ _ (c.child q) (λ z. omega arith) ∙ upd_other _ _ _ _ (c.child q) (λ z. omega arith) ∙ upd_same _ _ _ _ (c.child q) refl) ∙ cell_branch (suc n) d (omega arith),
            lo,
          )
      new b j f (no ne) = absurd (none-ne-some j (sym u_empty ∙ ap (λ (b : Bool). child_at u (Kid (branch_node (suc n)) b)) (sym (bool_other b d ne)) ∙ f))

  S₁ : Sound Mid (trie u)
  S₁ = grown_sound S.pointers (inside_cell n q qi) lf g₁

  f₂ : Fits (trie u) (Kid (branch_node (suc n)) (not d)) P
  f₂ = rw g₁.prefix_new ln

  g₂ : Grown Mid (Live (suc n)) (trie u) (trie w) (Kid (branch_node (suc n)) (not d)) (entry_node (suc n)) P (some H)
  unfolding hang set_entry set_branch_length set_child set_up
  g₂ = record {
    joined = record { fresh = fresh; old = old; new = omega arith; inv = λ a l. inv a l (ℕ_discrete a (entry_node (suc n))) (ℕ_discrete a (branch_node (suc n))) };
    prefix_old = λ a l. prefix_same u w a refl refl;
    prefix_new = prefix_entry w (suc n) ∙ upd_same _ _ _ _ (suc n) refl;
    hop_old = λ a l. hop_same u w a refl;
    hop_new = hop_entry w (suc n) ∙ ap {B = Option ℕ} some (upd_same _ _ _ _ (suc n) refl);
    up_old = λ a l ne. refl;
    up_new = ap cell_at (upd_other _ _ _ _ (entry_node (suc n)) (λ z. omega arith) ∙ upd_same _ _ _ _ (entry_node (suc n)) refl) ∙ cell_branch (suc n) (not d) (omega arith);
    child_old = λ e i ne. child_same u w Mid one e i (λ r z. sym (upd_other _ _ _ _ r (λ y. ne (z ∙ ap cell_at y ∙ cell_branch (suc n) (not d) (omega arith)))));
    child_cell = child_branch w (suc n) (not d) ∙ ap pointer w_entry ∙ pointer_some (entry_node (suc n)) (omega arith);
    child_new = λ b j f. absurd (none-ne-some j (sym (child_entry w (suc n) b) ∙ f));
    child_kept = λ j f. absurd (none-ne-some j (sym u_empty ∙ f));
  }
    where
      fresh : Mid (entry_node (suc n)) → ⊥
      fresh (inl l) = omega arith
      fresh (inr z) = omega arith

      one : Mid 1 → ⊥
      one (inl l) = omega arith
      one (inr z) = omega arith

      old : (a : ℕ) → Mid a → Live (suc n) a
      old a (inl l) = omega arith
      old a (inr z) = let l = px.live in omega arith

      inv : (a : ℕ) → Live (suc n) a → Dec (a ≡ entry_node (suc n)) → Dec (a ≡ branch_node (suc n)) → Mid a ⊎ (a ≡ entry_node (suc n))
      inv a l (yes z) t = inr z
      inv a l (no z) (yes y) = inl (inr y)
      inv a l (no z) (no y) = inl (inl (omega arith))

  branch_full : (b : Bool) → Dec (b ≡ d) → (j : ℕ) × (child_at w (Kid (branch_node (suc n)) b) ≡ some j)
  branch_full b (yes z) = full_old S₁ (inr refl) f₂ g₂ (Kid (branch_node (suc n)) b) (c.child q) (inr refl) (rw z u_full)
  branch_full b (no ne) = (entry_node (suc n), rw (bool_other b d ne) g₂.child_cell)

  hang_branchy : Branchy (Live (suc n)) (trie w)
  hang_branchy a l h b = go (g₂.joined.inv a l)
    where
      go : Mid a ⊎ (a ≡ entry_node (suc n)) → (j : ℕ) × (child_at w (Kid a b) ≡ some j)
      go (inl (inl k)) = branchy_old S₁ (inr refl) f₂ g₂ a (inl k) (branchy_old S.pointers (inside_cell n q qi) lf g₁ a k (S.branchy a k)) h b
      go (inl (inr z)) = rw z (branch_full b (Bool-discrete b d))
      go (inr z) = absurd (some-ne-none H (sym g₂.hop_new ∙ ap (hop_at w) (sym z) ∙ h))

  pub insert_split : Inserted n c (insert_at c (suc n) q d (length L) P H) P H
  unfolding insert_at hang set_entry set_branch_length set_child set_up
  insert_split = inserted w S (grown_sound S₁ (inr refl) f₂ g₂) hang_branchy refl refl refl refl

-- ---- where the walk by its address stops is where the entry goes

fits_shared : (v : Trie) (e : Cell) (x y : Bits) → Fits v e x → Fits v e y → Fits v e (shared x y)
fits_shared v Root x y f g = tt
fits_shared v (Kid i b) x y f g = below_shared f g

module _ {n : ℕ} {c : Cache} (S : SoundCache n c) (X P : Bits) (H : ℕ) (px : P ⊑ X) (free : Free n c P) (x : ℕ) (o : On n c X x) (e : passes c X x ≡ false) where
  -- the entry of the slot where the walk stops
  abbrev E : Bits
  E = c.entry (x / 2)

  apart_E : (¬ (P ⊑ E)) × (¬ (E ⊑ P))
  apart_E = apart_⊑ P E (free (x / 2) (let l = o.live in omega arith))

  fork : (b : Bool) × Below (shared P E) b P × Below (shared P E) (not b) E
  fork = shared_fork P E apart_E.0 apart_E.1

  same : shared P E ≡ shared X E
  same =
      let k = ap (λ (p : Bits). common p E) (⊑_take px) in
      ⊑_eq (shared_great (⊑_trans (shared_left P E) px) (shared_right P E))
      (omega (arith, shared_length P E, shared_length X E, below_< fork.1, common_take (length P) X E, k))

  -- it is longer than what it has in common with X
  longer : length (shared X E) < length (prefix_at c x)
  longer = go (dec_lt (length (shared X E)) (length (prefix_at c x)))
    where
      go : Dec (length (shared X E) < length (prefix_at c x)) → length (shared X E) < length (prefix_at c x)
      go (yes l) = l
      go (no l) = absurd (sub (miss_or_entry S X x o e))
        where
          within : prefix_at c x ⊑ X
          within = ⊑_trans (⊑_by_length (prefix_slot c x) (shared_right X E) (omega arith)) (shared_left X E)

          sub : ((i : ℕ) × (x ≡ entry_node i)) ⊎ (¬ (prefix_at c x ⊑ X)) → ⊥
          sub (inr m) = m within
          sub (inl (i, z)) =
              let k : x / 2 ≡ i = omega arith in
              apart_not (free (x / 2) (let l = o.live in omega arith)) px (subst (λ (p : Bits). p ⊑ X) (ap (prefix_at c) z ∙ prefix_entry c i ∙ ap c.entry (sym k)) within)

  hx : InUse n (c.up x) × (c.child (c.up x) ≡ x)
  hx = hangs S x o.live

  full : 0 < c.child (c.up x)
  full = let l = o.live in omega (arith, hx.1)

  fits : Fits (trie c) (cell_at (c.up x)) (shared X E)
  fits =
      let f = (pointed S (c.up x) hx.0 full).fits in
      let g : Fits (trie c) (cell_at (c.up x)) (prefix_at c x) = subst (λ (y : ℕ). Fits (trie c) (cell_at (c.up x)) (prefix_at c y)) hx.1 f in
      fits_trans (trie c) (cell_at (c.up x)) (shared X (prefix_at c x)) (shared X E) (fits_shared (trie c) (cell_at (c.up x)) X (prefix_at c x) o.fits g)
      (shared_great (shared_left X (prefix_at c x)) (⊑_trans (shared_right X (prefix_at c x)) (prefix_slot c x)))

  side : fork.0 ≡ get_or X (common X E) false
  side =
      let f : Below (shared X E) fork.0 X = below_trans (subst (λ (p : Bits). Below p fork.0 P) same fork.1) px in
      subst (λ (k : ℕ). fork.0 ≡ get_or X k false) (shared_length X E) (below_bit f (next_below (shared_left X E) (below_< f)))

  insert_stop : Inserted n c (insert_at c (suc n) (c.up x) (not (get_or X (common X E) false)) (common X E) P H) P H
  insert_stop =
      subst (λ (b : Bool). Inserted n c (insert_at c (suc n) (c.up x) (not b) (common X E) P H) P H) side
      (subst (λ (m : ℕ). Inserted n c (insert_at c (suc n) (c.up x) (not fork.0) m P H) P H) (shared_length X E)
      (insert_split S (c.up x) hx.0 full (not fork.0) (shared X E) P H fits
      (subst (λ (y : ℕ). Below (shared X E) (not fork.0) (prefix_at c y)) (sym hx.1) (below_by_length (subst (λ (p : Bits). Below p (not fork.0) E) same fork.2) (prefix_slot c x) longer))
      (subst (λ (b : Bool). Below (shared X E) b P) (sym (not_not fork.0)) (subst (λ (p : Bits). Below p fork.0 P) same fork.1))))
    where
      not_not : (b : Bool) → not (not b) ≡ b
      not_not false = refl
      not_not true = refl

-- the new branch hangs in the cell of the node where the walk stops, is as long as what X has in common with that node's slot, and
-- has the entry on X's side
pub insert_found : {n : ℕ} {c : Cache} → SoundCache n c → (X P : Bits) (H x m : ℕ) → 0 < n → Short n c X → P ⊑ X → Free n c P → x ≡ find c X → m ≡ common X (c.entry (x / 2))
    → Inserted n c (insert_at c (suc n) (c.up x) (not (get_or X m false)) m P H) P H
insert_found {n} {c} S X P H x m h short px free ex em =
    let f = find_ends S X short h in
    subst (λ (k : ℕ). Inserted n c (insert_at c (suc n) (c.up x) (not (get_or X k false)) k P H) P H) (sym em)
    (insert_stop S X P H px free x (rw ex f.0) (rw ex f.1))

-- ---- the first entry

pub insert_first_inserts : {c : Cache} → SoundCache 0 c → (P : Bits) (H : ℕ) → Inserted 0 c (insert_first c P H) P H
unfolding insert_first set_entry set_child set_up
insert_first_inserts {c} S P H = inserted w S (grown_sound S.pointers tt tt g) (grown_branchy S.pointers tt tt g S.branchy (λ e. absurd (some-ne-none H e))) refl refl refl refl
  where
    w : Cache
    w = set_child (set_up (set_entry c 1 P H) (entry_node 1) root_cell) root_cell (entry_node 1)

    one : (a : ℕ) → Live 1 a → a ≡ entry_node 1
    one a l = omega arith

    g : Grown (Live 0) (Live 1) (trie c) (trie w) Root (entry_node 1) P (some H)
    g = record {
      joined = record { fresh = λ l. omega arith; old = λ a l. omega arith; new = omega arith; inv = λ a l. inr (one a l) };
      prefix_old = λ a l. absurd (omega arith);
      prefix_new = prefix_entry w 1 ∙ upd_same _ _ _ _ 1 refl;
      hop_old = λ a l. absurd (omega arith);
      hop_new = hop_entry w 1 ∙ ap {B = Option ℕ} some (upd_same _ _ _ _ 1 refl);
      up_old = λ a l ne. absurd (omega arith);
      up_new = ap cell_at (upd_same _ _ _ _ (entry_node 1) refl) ∙ cell_root;
      child_old = λ e i ne. none_else e i ne;
      child_cell = ap (child_at w) (sym cell_root) ∙ child_cell w root_cell ∙ ap pointer (upd_same _ _ _ _ root_cell refl) ∙ pointer_some (entry_node 1) (omega arith);
      child_new = λ b j f. absurd (none-ne-some j (sym (child_entry w 1 b) ∙ f));
      child_kept = λ j f. absurd (let p = (S.pointers.points Root j tt f).is_live in omega arith);
    }
      where
        none_else : (e : Cell) → Inside (Live 0) e → ¬ (e ≡ Root) → child_at w e ≡ child_at c e
        none_else Root i ne = absurd (ne refl)
        none_else (Kid a b) i ne = absurd (omega arith)
