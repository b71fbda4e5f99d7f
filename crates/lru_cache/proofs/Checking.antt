-- The check decides soundness: the conditions on single slots and the walk along the ring hold exactly for a sound cache. Assumes nothing.
use mathlib.Core.Path.{◌≡◌, refl, sym, ap, ◌∙◌, subst}
use mathlib.Core.Bool.{Bool, false, cond}
use mathlib.Core.Logic.{◌⊎◌, inl, inr}
use mathlib.Core.Option.{none, some, none-ne-some, some-ne-none}
use Prim.Native.Nat.{ℕ, zero, suc, ◌/◌, ◌%◌, ◌≤◌, ◌<◌}
use native.Mathlib.Decide.{ℕ_discrete, dec_lt}
use native.Mathlib.Omega.{arith}
use lib.ListN.{length, take, get_or}
use Rattle.prefix.specs.Bits.{Bits, one?}
use Rattle.prefix.specs.Prefix.{common, ◌⊑◌, Below}
use Rattle.prefix.proofs.BitLaws.{digit_below}
use Rattle.prefix.proofs.Order.{⊑_length, take_⊑, take_len, below_⊑, below_<, below_bit, below_trans, below_by_length}
use Rattle.prefix.proofs.Common.{le_common, common_⊑}
use Rattle.trie.specs.Trie.{Cell, Root, Kid, Inside, Fits, Points, Owned}
use Rattle.trie.proofs.Next.{next_below}
use Rattle.lru_cache.specs.Slots.{Cache, entry_node, branch_node, cell_of, root_cell}
use Rattle.lru_cache.specs.Sound.{prefix_at, hop_at, pointer, child_at, cell_at, trie, Live, along, Ring, SoundCache}
use Rattle.lru_cache.specs.Checks.{length_at, Hangs, Leads, BranchOk, RootOk, Checked, Walked}
use Rattle.lru_cache.proofs.Nodes.{Node, is_entry, is_branch, node, prefix_entry, prefix_branch, hop_entry, child_entry, child_branch, pointer_some, some_pointer, cell_root, cell_branch, child_cell}
use Rattle.lru_cache.proofs.Shape.{inside_cell, Pointed, pointed, hangs, root_full, branch_full, branch_short, prefix_slot}

-- ---- one side of a branch

module _ (c : Cache) (i y : ℕ) (b : Bool) (short : c.branch_length i < length (c.entry i)) where
  abbrev p : Bits
  p = take (c.branch_length i) (c.entry i)

  p_length : length p ≡ c.branch_length i
  p_length = take_len (c.branch_length i) (c.entry i) (omega arith)

  goes : p ⊑ c.entry (y / 2) → c.branch_length i < length (c.entry (y / 2)) → Below p (get_or (c.entry (y / 2)) (c.branch_length i) false) (c.entry (y / 2))
  goes h l = subst (λ (m : ℕ). Below p (get_or (c.entry (y / 2)) m false) (c.entry (y / 2))) p_length (next_below h (omega (arith, p_length)))

  side_below : c.branch_length i < length (prefix_at c y) → c.branch_length i ≤ common (c.entry i) (c.entry (y / 2)) → get_or (c.entry (y / 2)) (c.branch_length i) false ≡ b → Below p b (prefix_at c y)
  side_below l a s =
      let h : p ⊑ c.entry (y / 2) = common_⊑ (take_⊑ (c.branch_length i) (c.entry i)) (omega (arith, p_length)) in
      below_by_length (subst (λ (d : Bool). Below p d (c.entry (y / 2))) s (goes h (omega (arith, ⊑_length (prefix_slot c y))))) (prefix_slot c y) (omega (arith, p_length))

  below_side : Below p b (prefix_at c y) → (c.branch_length i < length (prefix_at c y)) × (c.branch_length i ≤ common (c.entry i) (c.entry (y / 2))) × (get_or (c.entry (y / 2)) (c.branch_length i) false ≡ b)
  below_side h =
      let f = below_trans h (prefix_slot c y) in (
        omega (arith, below_< h, p_length),
        omega (arith, le_common (take_⊑ (c.branch_length i) (c.entry i)) (below_⊑ f), p_length),
        below_bit (goes (below_⊑ f) (omega (arith, below_< f, p_length))) f,
      )

-- the length of a live node's prefix
length_at_is : {n : ℕ} (c : Cache) → ((i : ℕ) → 1 < i → i ≤ n → c.branch_length i < length (c.entry i)) → (x : ℕ) → Live n x → length (prefix_at c x) ≡ length_at c x
unfolding length_at
length_at_is {n} c short x l = go (node x)
  where
    go : Node x → length (prefix_at c x) ≡ cond (one? (x % 2)) (c.branch_length (x / 2)) (length (c.entry (x / 2)))
    go (is_entry i e) = let q : x % 2 ≡ 0 = omega arith in let r : x / 2 ≡ i = omega arith in rw (q, r, e, prefix_entry c i)
    go (is_branch i e) =
        let q : x % 2 ≡ 1 = omega arith in
        let r : x / 2 ≡ i = omega arith in
        rw (q, r, e, prefix_branch c i) (take_len (c.branch_length i) (c.entry i) (omega (arith, short i (omega arith) (omega arith))))

-- ---- the slots

module _ {n : ℕ} {c : Cache} (S : SoundCache n c) where
  hangs_ok : (x : ℕ) → Live n x → Hangs n c x
  hangs_ok x l = let h = hangs S x l in record { in_use = h.0; points = h.1 }

  leads_ok : (i : ℕ) (b : Bool) → 1 < i → i ≤ n → Leads n c i b (c.child (cell_of i b))
  leads_ok i b h k =
      let s = branch_short S i h k in
      let t = below_side c i (c.child (cell_of i b)) b s (rw (← prefix_branch c i) (subst (λ (e : Cell). Fits (trie c) e (prefix_at c (c.child (cell_of i b)))) (cell_branch i b (omega arith)) P.fits)) in
      record { live = P.live; knows = P.knows; longer = rw (← length_at_is c (branch_short S) (c.child (cell_of i b)) P.live) t.0; agrees = t.1; side = t.2 }
    where
      P : Pointed n c (cell_of i b)
      P = pointed S (cell_of i b) (inr (omega (arith, digit_below b))) (branch_full S i b h k)

  root_ok : RootOk n c
  root_ok = record {
    empty = λ z. go z (c.child root_cell) refl;
    full = λ h. let P = pointed S root_cell (inl refl) (root_full S h) in (P.live, P.knows);
  }
    where
      go : n ≡ 0 → (x : ℕ) → c.child root_cell ≡ x → c.child root_cell ≡ 0
      go z zero e = e
      go z (suc x) e = let l = (pointed S root_cell (inl refl) (omega arith)).live in absurd (omega arith)

  pub sound_checked : Checked n c
  sound_checked = record {
    root = root_ok;
    slots = λ i l. record { entry = hangs_ok (entry_node i) (omega arith); branch = λ h. record { short = branch_short S i h l.1; hangs = hangs_ok (branch_node i) (omega arith); leads = λ b. leads_ok i b h l.1 } };
    ring = S.ring;
  }

module _ {n : ℕ} {c : Cache} (K : Checked n c) where
  branch_ok : (i : ℕ) → 1 < i → i ≤ n → BranchOk n c i
  branch_ok i h k = (K.slots i (omega arith)).branch h

  owned : (x : ℕ) → Live n x → Owned (Live n) (trie c) x
  owned x l = go (node x)
    where
      make : Hangs n c x → Owned (Live n) (trie c) x
      make h = record { inside = inside_cell n (c.up x) h.in_use; child = child_cell c (c.up x) ∙ ap pointer h.points ∙ pointer_some x (omega arith) }

      go : Node x → Owned (Live n) (trie c) x
      go (is_entry i e) = make (rw e (K.slots i (omega arith)).entry)
      go (is_branch i e) = make (rw e (branch_ok i (omega arith) (omega arith)).hangs)

  points : (e : Cell) (j : ℕ) → Inside (Live n) e → child_at c e ≡ some j → Points (Live n) (trie c) e j
  points Root j i h = go (dec_lt 0 n)
    where
      s : (c.child root_cell ≡ j) × (0 < j)
      s = some_pointer (c.child root_cell) j (sym (child_cell c root_cell) ∙ ap (child_at c) cell_root ∙ h)

      go : Dec (0 < n) → Points (Live n) (trie c) Root j
      go (yes l) = let r = K.root.full l in rw (← s.0) (record { is_live = r.0; back = ap cell_at r.1 ∙ cell_root; fits = tt })
      go (no l) = absurd (omega (arith, s, K.root.empty (omega arith)))
  points (Kid x b) j l h = go (node x)
    where
      go : Node x → Points (Live n) (trie c) (Kid x b) j
      go (is_entry i e) = absurd (none-ne-some j (sym (ap (λ (a : ℕ). child_at c (Kid a b)) e ∙ child_entry c i b) ∙ h))
      go (is_branch i e) =
          let s = some_pointer (c.child (cell_of i b)) j (sym (child_branch c i b) ∙ ap (λ (a : ℕ). child_at c (Kid a b)) (sym e) ∙ h) in
          rw (e, ← s.0) (make i (omega arith) (omega arith))
        where
          make : (i : ℕ) → 1 < i → i ≤ n → Points (Live n) (trie c) (Kid (branch_node i) b) (c.child (cell_of i b))
          make i h k =
              let o = branch_ok i h k in
              let t = o.leads b in
              record {
                is_live = t.live;
                back = ap cell_at t.knows ∙ cell_branch i b (omega arith);
                fits = rw (prefix_branch c i) (side_below c i (c.child (cell_of i b)) b o.short (rw (length_at_is c (λ i h k. (branch_ok i h k).short) (c.child (cell_of i b)) t.live) t.longer) t.agrees t.side);
              }

  pub checked_sound : SoundCache n c
  checked_sound = record { pointers = record { points = points; owned = owned }; branchy = λ a l h b. go a l b (node a) h; ring = K.ring }
    where
      go : (a : ℕ) → Live n a → (b : Bool) → Node a → hop_at c a ≡ none → (j : ℕ) × (child_at c (Kid a b) ≡ some j)
      go a l b (is_entry i e) h = absurd (some-ne-none _ (sym (hop_entry c i) ∙ ap (hop_at c) (sym e) ∙ h))
      go a l b (is_branch i e) h =
          let t = ((branch_ok i (omega arith) (omega arith)).leads b).live in
          (c.child (cell_of i b), rw e (child_branch c i b ∙ pointer_some (c.child (cell_of i b)) (omega arith)))

-- ---- the ring, walked step by step

module _ {n : ℕ} {c : Cache} where
  pub walked_start : Walked n 0 c
  walked_start = record { within = λ j h. absurd (omega arith); undone = λ j h. absurd (omega arith); others = λ j l h. absurd (omega arith) }

  -- a step from s
  pub walked_step : (k s : ℕ) → Walked n k c → s ≡ along c 0 k → (k ≡ 0) ⊎ (¬ (s ≡ 0)) → c.next s ≤ n → c.prev (c.next s) ≡ s → Walked n (suc k) c
  unfolding along
  walked_step k s W e first low back = record {
    within = λ j h. within j h (ℕ_discrete j k);
    undone = λ j h. undone j h (ℕ_discrete j k);
    others = λ j l h. others j l h first (ℕ_discrete j k);
  }
    where
      at : (j : ℕ) → j ≡ k → along c 0 j ≡ s
      at j z = ap (along c 0) z ∙ sym e

      within : (j : ℕ) → j < suc k → Dec (j ≡ k) → along c 0 (suc j) ≤ n
      within j h (yes z) = omega (arith, ap c.next (at j z))
      within j h (no z) = W.within j (omega arith)

      undone : (j : ℕ) → j < suc k → Dec (j ≡ k) → c.prev (along c 0 (suc j)) ≡ along c 0 j
      undone j h (yes z) = ap (λ (x : ℕ). c.prev (c.next x)) (at j z) ∙ back ∙ sym (at j z)
      undone j h (no z) = W.undone j (omega arith)

      others : (j : ℕ) → 0 < j → j < suc k → (k ≡ 0) ⊎ (¬ (s ≡ 0)) → Dec (j ≡ k) → ¬ (along c 0 j ≡ 0)
      others j l h (inl y) (yes z) = absurd (omega arith)
      others j l h (inr y) (yes z) = λ x. y (sym (at j z) ∙ x)
      others j l h f (no z) = W.others j l (omega arith)

  -- the walk comes back to slot 0 after n + 1 steps
  pub walked_ring : Walked n (suc n) c → along c 0 (suc n) ≡ 0 → Ring n c
  walked_ring W e = record { within = λ k h. W.within k (omega arith); undone = λ k h. W.undone k (omega arith); others = λ k s. W.others k s.0 (omega arith); back = e }
