-- The steps of a removal on the nodes: an entry and its branch are cut out, an entry is moved, a branch is moved. Assumes nothing.
use mathlib.Core.Path.{◌≡◌, refl, sym, ap, ap₂, ◌∙◌, subst}
use mathlib.Core.Bool.{Bool, true, false, not, false≢true}
use mathlib.Core.Logic.{◌⊎◌, inl, inr}
use mathlib.Core.Option.{Option, none, some, none-ne-some}
use Prim.Native.Nat.{ℕ, ◌≤◌, ◌<◌}
use native.Mathlib.Decide.{ℕ_discrete}
use native.Mathlib.Omega.{arith}
use lib.ListN.{length, take}
use Rattle.prefix.specs.Bits.{Bits}
use Rattle.prefix.specs.Prefix.{◌⊑◌, Below}
use Rattle.prefix.proofs.BitLaws.{digit_below}
use Rattle.prefix.proofs.Order.{⊑_trans, ⊑_length, ⊑_total, ⊑_cases, ⊑_take, below_⊑, below_bit, below_trans, take_⊑}
use Rattle.trie.specs.Trie.{Cell, Root, Kid, Inside, Fits, Points, Sound, Branchy, Removed}
use Rattle.trie.proofs.Descent.{inject, under}
use Rattle.trie.specs.Updates as Updates
use Rattle.trie.specs.Updates.{cell_dec, upd, cut_at}
use Rattle.trie.proofs.Stores.{upd_same, upd_other, kid_slot, kid_side, not_root}
use Rattle.trie.proofs.Moving.{Agrees, agrees_sound, agrees_branchy, Moved}
use Rattle.trie.proofs.Withdrawing.{Without, pair_removed}
use Rattle.lru_cache.specs.Slots.{Cache, entry_node, branch_node, cell_of, set_entry, set_branch_length, set_child, set_up, set_prev, set_next}
use Rattle.lru_cache.specs.Sound.{prefix_at, hop_at, pointer, child_at, cell_at, trie, Slot, Live, InUse, SoundCache}
use Rattle.lru_cache.specs.Changes.{move_links, prune, move_entry, move_branch}
use Rattle.lru_cache.proofs.Nodes.{Node, is_entry, is_branch, node, prefix_entry, prefix_branch, hop_entry, hop_branch, child_entry, child_branch, pointer_some, some_pointer, cell_branch, child_cell, prefix_same, hop_same, child_same}
use Rattle.lru_cache.proofs.Shape.{hangs, branch_full, branch_short, branch_length}

-- ---- the entry of slot k, which hangs on the side b of the branch in slot j, is cut out with that branch

-- the nodes that are left
abbrev pub Left : ℕ → ℕ → ℕ → ℕ → Type 0
Left n k j = Without (Without (Live n) (entry_node k)) (branch_node j)

module _ {n : ℕ} {c : Cache} (S : SoundCache n c) (k j : ℕ) (b : Bool) (lk : Slot n k) (is_up : c.up (entry_node k) ≡ cell_of j b) (pos : 0 < j) where
  live_k : Live n (entry_node k)
  live_k = omega arith

  pub parent_slot : (1 < j) × (j ≤ n)
  parent_slot = go (hangs S (entry_node k) live_k).0
    where
      go : InUse n (c.up (entry_node k)) → (1 < j) × (j ≤ n)
      go (inl e) = absurd (omega arith)
      go (inr h) = let s = digit_below b in omega (arith, is_up)

  cell_k : cell_at (c.up (entry_node k)) ≡ Kid (branch_node j) b
  cell_k = ap cell_at is_up ∙ cell_branch j b pos

  -- the other child of the branch
  abbrev x : ℕ
  x = c.child (cell_of j (not b))

  x_full : child_at c (Kid (branch_node j) (not b)) ≡ some x
  x_full = child_branch c j (not b) ∙ pointer_some x (branch_full S j (not b) parent_slot.0 parent_slot.1)

  live_j : Live n (branch_node j)
  live_j = omega (arith, parent_slot)

  -- both cut out of the trie, which is as the cache has it
  cut : Removed (Live n) (Left n k j) (trie c) (cut_at (cut_at (trie c) (entry_node k) none) (branch_node j) (some x)) (prefix_at c (entry_node k))
  cut = pair_removed S.pointers S.branchy (entry_node k) live_k (child_entry c k) (c.hop k) (hop_entry c k) (branch_node j) b cell_k (hop_branch c j) x x_full

  agrees : Agrees (Left n k j) (cut_at (cut_at (trie c) (entry_node k) none) (branch_node j) (some x)) (trie (prune c j b))
  unfolding cut_at Updates.set_up_of Updates.upd_of Updates.set_child prune set_child set_up
  agrees = record {
    prefix = λ a l. prefix_same c (prune c j b) a refl refl;
    hop = λ a l. hop_same c (prune c j b) a refl;
    up = λ a l. up a (ℕ_discrete a x);
    child = λ e i. child e i (cell_dec e (cell_at (c.up (branch_node j))));
  }
    where
      up : (a : ℕ) → Dec (a ≡ x) → cell_at (upd ℕ_discrete c.up x (c.up (branch_node j)) a) ≡ upd ℕ_discrete (λ y. cell_at (c.up y)) x (cell_at (c.up (branch_node j))) a
      up a (yes z) = ap cell_at (upd_same _ _ _ _ a z) ∙ sym (upd_same ℕ_discrete (λ y. cell_at (c.up y)) x (cell_at (c.up (branch_node j))) a z)
      up a (no ne) = ap cell_at (upd_other _ _ _ _ a ne) ∙ sym (upd_other ℕ_discrete (λ y. cell_at (c.up y)) x (cell_at (c.up (branch_node j))) a ne)

      -- the cell of entry k goes with its branch
      other : (e : Cell) → Inside (Left n k j) e → ¬ (e ≡ cell_at (c.up (entry_node k)))
      other Root i z = not_root (sym (z ∙ cell_k))
      other (Kid a y) l z = l.1 (kid_slot (z ∙ cell_k))

      child : (e : Cell) → Inside (Left n k j) e → Dec (e ≡ cell_at (c.up (branch_node j))) → child_at (prune c j b) e ≡ upd cell_dec (upd cell_dec (child_at c) (cell_at (c.up (entry_node k))) none) (cell_at (c.up (branch_node j))) (some x) e
      child e i (yes z) = ap (child_at (prune c j b)) z ∙ child_cell (prune c j b) (c.up (branch_node j)) ∙ ap pointer (upd_same _ _ _ _ (c.up (branch_node j)) refl) ∙ sym (child_branch c j (not b)) ∙ x_full ∙ sym (upd_same cell_dec _ _ _ e z)
      child e i (no ne) =
          child_same c (prune c j b) (Left n k j) (λ l. omega (arith, l.0.0)) e i (λ r z. upd_other _ _ _ _ r (λ y. ne (z ∙ ap cell_at y)))
          ∙ sym (upd_other cell_dec _ _ _ e ne ∙ upd_other cell_dec (child_at c) _ _ e (other e i))

  pub prune_sound : Sound (Left n k j) (trie (prune c j b))
  prune_sound = agrees_sound agrees cut.sound

  pub prune_branchy : Branchy (Left n k j) (trie (prune c j b))
  prune_branchy = agrees_branchy agrees cut.sound cut.branchy

  -- the branch of slot k, if it has another than j's, keeps its prefix when entry j takes the place of entry k: it stands above both
  pub relocated : 1 < k → ¬ (j ≡ k) → take (c.branch_length k) (c.entry j) ≡ take (c.branch_length k) (c.entry k)
  relocated h ne =
      subst (λ (m : ℕ). take m (c.entry j) ≡ take (c.branch_length k) (c.entry k)) (branch_length S k h lk.1)
      (⊑_take (⊑_trans (go (⊑_total own below_k)) above_j) ∙ prefix_branch c k)
    where
      p : ℕ → Bits
      p = prefix_at c

      own : p (branch_node k) ⊑ p (entry_node k)
      own = rw (prefix_branch c k, prefix_entry c k) (take_⊑ (c.branch_length k) (c.entry k))

      fits_k : Below (p (branch_node j)) b (p (entry_node k))
      fits_k =
          let o = S.pointers.owned (entry_node k) live_k in
          subst (λ (e : Cell). Fits (trie c) e (p (entry_node k))) cell_k (S.pointers.points (cell_at (c.up (entry_node k))) (entry_node k) o.inside o.child).fits

      below_k : p (branch_node j) ⊑ p (entry_node k)
      below_k = below_⊑ fits_k

      above_j : p (branch_node j) ⊑ c.entry j
      above_j = rw (prefix_branch c j) (take_⊑ (c.branch_length j) (c.entry j))

      live_b : Live n (branch_node k)
      live_b = omega arith

      under_k : (y : Bool) → Below (p (branch_node j)) y (p (branch_node k)) → ⊥
      under_k y t =
          let z : y ≡ b = below_bit (below_trans t own) fits_k in
          let w = under S.pointers (branch_node j) (branch_node k) b live_j live_b (subst (λ (y : Bool). Below (p (branch_node j)) y (p (branch_node k))) z t) in
          let r : child_at c (Kid (branch_node j) b) ≡ some (entry_node k) = subst (λ (e : Cell). child_at c e ≡ some (entry_node k)) cell_k (S.pointers.owned (entry_node k) live_k).child in
          let i : w.0 ≡ entry_node k = cc w.1 in
          omega (arith, ⊑_length w.2, ap (λ (a : ℕ). length (p a)) i, branch_length S k h lk.1, branch_short S k h lk.1, ap length (prefix_entry c k))

      go : (p (branch_node k) ⊑ p (branch_node j)) ⊎ (p (branch_node j) ⊑ p (branch_node k)) → p (branch_node k) ⊑ p (branch_node j)
      go (inl q) = q
      go (inr q) = sub (⊑_cases q)
        where
          sub : (p (branch_node j) ≡ p (branch_node k)) ⊎ ((y : Bool) × Below (p (branch_node j)) y (p (branch_node k))) → p (branch_node k) ⊑ p (branch_node j)
          sub (inl e) = let z : branch_node j ≡ branch_node k = inject S.pointers (branch_node j) (branch_node k) live_j live_b e in absurd (ne (omega arith))
          sub (inr t) = absurd (under_k t.0 t.1)

-- ---- the entry of slot s goes to slot t

module _ (live : ℕ → Type 0) (c : Cache) (s t : ℕ) (pos : 0 < t) (one : ¬ live 1) (free : ¬ live (entry_node t))
    (ok : live (branch_node t) → take (c.branch_length t) (c.entry s) ≡ take (c.branch_length t) (c.entry t)) where
  abbrev w : Cache
  w = move_entry c s t

  not_t : (i : ℕ) → live (entry_node i) → ¬ (i ≡ t)
  not_t i l z = free (subst (λ (y : ℕ). live (entry_node y)) z l)

  pub entry_moved : Moved live (trie c) (trie (move_entry c s t)) (entry_node s) (entry_node t)
  unfolding move_entry move_links set_entry set_child set_up set_prev set_next
  entry_moved = record {
    prefix_new = prefix_entry w t ∙ upd_same _ _ _ _ t refl ∙ sym (prefix_entry c s);
    prefix_old = λ a l ne. prefix_old a l (node a);
    hop_new = hop_entry w t ∙ ap {B = Option ℕ} some (upd_same _ _ _ _ t refl) ∙ sym (hop_entry c s);
    hop_old = λ a l ne. hop_old a l (node a);
    up_new = ap cell_at (upd_same _ _ _ _ (entry_node t) refl);
    up_kid = λ b j h. absurd (none-ne-some j (sym (child_entry c s b) ∙ h));
    up_old = λ a l ne n. ap cell_at (upd_other _ _ _ _ a (λ z. free (rw z at l)));
    child_new = λ b. child_entry w t b ∙ sym (child_entry c s b);
    child_cell = child_cell w (c.up (entry_node s)) ∙ ap pointer (upd_same _ _ _ _ (c.up (entry_node s)) refl) ∙ pointer_some (entry_node t) (omega (arith, pos));
    child_old = λ e i n ne. child_same c w live one e i (λ r z. upd_other _ _ _ _ r (λ y. ne (z ∙ ap cell_at y)));
  }
    where
      prefix_old : (a : ℕ) → live a → Node a → prefix_at w a ≡ prefix_at c a
      prefix_old a l (is_entry i e) = rw e (prefix_entry w i ∙ upd_other _ _ _ _ i (not_t i (rw e at l)) ∙ sym (prefix_entry c i))
      prefix_old a l (is_branch i e) = rw e (prefix_branch w i ∙ go (ℕ_discrete i t) ∙ sym (prefix_branch c i))
        where
          go : Dec (i ≡ t) → take (c.branch_length i) (upd ℕ_discrete c.entry t (c.entry s) i) ≡ take (c.branch_length i) (c.entry i)
          go (yes z) = rw (z, upd_same ℕ_discrete c.entry t (c.entry s) t refl) (ok (subst (λ (y : ℕ). live (branch_node y)) z (rw e at l)))
          go (no n) = rw (upd_other ℕ_discrete c.entry t (c.entry s) i n)

      hop_old : (a : ℕ) → live a → Node a → hop_at w a ≡ hop_at c a
      hop_old a l (is_entry i e) = rw e (hop_entry w i ∙ ap {B = Option ℕ} some (upd_other _ _ _ _ i (not_t i (rw e at l))) ∙ sym (hop_entry c i))
      hop_old a l (is_branch i e) = rw e (hop_branch w i ∙ sym (hop_branch c i))

-- ---- the branch of slot s goes to slot t, which has the same entry

module _ (live : ℕ → Type 0) (c : Cache) (s t : ℕ) (S : Sound live (trie c)) (B : Branchy live (trie c)) (pos-s : 0 < s) (pos : 0 < t) (one : ¬ live 1)
    (ls : live (branch_node s)) (free : ¬ live (branch_node t)) (same : c.entry t ≡ c.entry s) where
  abbrev w₂ : Cache
  w₂ = move_branch c s t

  kid_some : (b : Bool) → child_at c (Kid (branch_node s) b) ≡ some (c.child (cell_of s b))
  kid_some b =
      let t = B (branch_node s) ls (hop_branch c s) b in
      let p = some_pointer (c.child (cell_of s b)) t.0 (sym (child_branch c s b) ∙ t.1) in
      t.1 ∙ ap {B = Option ℕ} some (sym p.0)

  kid_points : (b : Bool) → Points live (trie c) (Kid (branch_node s) b) (c.child (cell_of s b))
  kid_points b = S.points (Kid (branch_node s) b) (c.child (cell_of s b)) ls (kid_some b)

  not_new : (a : ℕ) → live a → ¬ (a ≡ branch_node t)
  not_new a l z = free (rw z at l)

  kids_apart : ¬ (c.child (cell_of s false) ≡ c.child (cell_of s true))
  kids_apart z = false≢true (kid_side (sym (kid_points false).back ∙ ap (λ (a : ℕ). cell_at (c.up a)) z ∙ (kid_points true).back))

  -- a cell in use is none of slot t's
  not_cell : (r : ℕ) → Inside live (cell_at r) → (b : Bool) → ¬ (r ≡ cell_of t b)
  not_cell r i b z = free (subst (λ (e : Cell). Inside live e) (ap cell_at z ∙ cell_branch t b pos) i)

  pub branch_moved : Moved live (trie c) (trie (move_branch c s t)) (branch_node s) (branch_node t)
  unfolding move_branch set_branch_length set_child set_up
  branch_moved = record {
    prefix_new = prefix_branch w₂ t ∙ ap₂ take (upd_same ℕ_discrete c.branch_length t (c.branch_length s) t refl) same ∙ sym (prefix_branch c s);
    prefix_old = λ a l ne. prefix_old a l (node a);
    hop_new = hop_branch w₂ t ∙ sym (hop_branch c s);
    hop_old = λ a l ne. hop_same c w₂ a refl;
    up_new = ap cell_at (upd_same _ _ _ _ (branch_node t) refl);
    up_kid = λ b j h. let z : c.child (cell_of s b) ≡ j = cc (kid_some b) in subst (λ (y : ℕ). cell_at (w₂.up y) ≡ Kid (branch_node t) b) z (up_kid b);
    up_old = λ a l ne n. ap cell_at (simp (upd_other, not_new a l, not_kid a n));
    child_new = λ b. child_branch w₂ t b ∙ ap pointer (child_new b) ∙ sym (child_branch c s b);
    child_cell = child_cell w₂ (c.up (branch_node s)) ∙ ap pointer (upd_same _ _ _ _ (c.up (branch_node s)) refl) ∙ pointer_some (branch_node t) (omega arith);
    child_old = λ e i n ne. child_same c w₂ live one e i (λ r z. simp (upd_other, not_cell r (subst (λ (e : Cell). Inside live e) z i), not_up e ne r z));
  }
    where
      prefix_old : (a : ℕ) → live a → Node a → prefix_at w₂ a ≡ prefix_at c a
      prefix_old a l (is_entry i e) = rw e (prefix_entry w₂ i ∙ sym (prefix_entry c i))
      prefix_old a l (is_branch i e) = rw e (prefix_branch w₂ i ∙ ap (λ (m : ℕ). take m (c.entry i)) (upd_other ℕ_discrete c.branch_length t (c.branch_length s) i (λ z. free (subst (λ (y : ℕ). live (branch_node y)) z (rw e at l)))) ∙ sym (prefix_branch c i))

      not_kid : (a : ℕ) → ((b : Bool) → ¬ (cell_at (c.up a) ≡ Kid (branch_node s) b)) → (b : Bool) → ¬ (a ≡ c.child (cell_of s b))
      not_kid a n b z = n b (ap (λ (y : ℕ). cell_at (c.up y)) z ∙ (kid_points b).back)

      not_up : (e : Cell) → ¬ (e ≡ cell_at (c.up (branch_node s))) → (r : ℕ) → e ≡ cell_at r → ¬ (r ≡ c.up (branch_node s))
      not_up e ne r z y = ne (z ∙ ap cell_at y)

      up_kid : (b : Bool) → cell_at (w₂.up (c.child (cell_of s b))) ≡ Kid (branch_node t) b
      up_kid false = ap cell_at (simp (upd_other, upd_same, not_new (c.child (cell_of s false)) (kid_points false).is_live, kids_apart)) ∙ cell_branch t false pos
      up_kid true = ap cell_at (simp (upd_other, upd_same, not_new (c.child (cell_of s true)) (kid_points true).is_live)) ∙ cell_branch t true pos

      cell_other : (b : Bool) → ¬ (cell_of t b ≡ c.up (branch_node s))
      cell_other b z = not_cell (c.up (branch_node s)) (S.owned (branch_node s) ls).inside b (sym z)

      sides : ¬ (cell_of t false ≡ cell_of t true)
      sides z = omega arith

      child_new : (b : Bool) → w₂.child (cell_of t b) ≡ c.child (cell_of s b)
      child_new false = upd_other _ _ _ _ (cell_of t false) (cell_other false) ∙ upd_other _ _ _ _ (cell_of t false) sides ∙ upd_same _ _ _ _ (cell_of t false) refl
      child_new true = simp (upd_other, upd_same, cell_other true)
