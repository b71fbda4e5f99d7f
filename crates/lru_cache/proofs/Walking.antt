-- The walk by an address stops at the entry that contains it, or at one that has the most in common with it. Assumes nothing.
use mathlib.Core.Path.{◌≡◌, refl, ap, ◌∙◌, subst}
use mathlib.Core.Bool.{Bool, true, false, ◌&&◌}
use mathlib.Core.Logic.{◌⊎◌, inl, inr}
use Prim.Native.Nat.{ℕ, zero, suc, ◌+◌, ◌/◌, ◌%◌, ◌≤◌, ◌<◌}
use native.Mathlib.Decide.{dec_le, dec_lt}
use native.Mathlib.Omega.{arith}
use lib.ListN.{length, get_or}
use borrow.Author.Tests.{le-leb, lt-leb}
use Rattle.prefix.specs.Bits.{Bits, one?}
use Rattle.prefix.specs.Prefix.{common, shared, ◌⊑◌, Below}
use Rattle.prefix.proofs.Order.{⊑_refl, ⊑_trans, ⊑_length, ⊑_by_length, ⊑_total, below_⊑, below_<, below_trans, below_by_length, take_⊑}
use Rattle.prefix.proofs.Common.{common_sym, shared_left, shared_right, shared_great, shared_length, le_common, common_⊑}
use Rattle.prefix.proofs.Booleans.{is_false, clash}
use Rattle.prefix.proofs.BitLaws.{digit_below}
use Rattle.trie.specs.Trie.{Cell, Root, Kid, Fits}
use Rattle.trie.proofs.Next.{next_below}
use Rattle.trie.proofs.Descent.{through}
use Rattle.lru_cache.specs.Slots.{Cache, entry_node, branch_node, cell_of, root_cell}
use Rattle.lru_cache.specs.Sound.{prefix_at, pointer, cell_at, trie, Slot, InUse, SoundCache}
use Rattle.lru_cache.specs.Changes.{passes, towards, walk, find, On}
use Rattle.lru_cache.specs.Results.{Short, Nearest}
use Rattle.lru_cache.proofs.Nodes.{Node, is_entry, is_branch, node, prefix_entry, prefix_branch, pointer_some, child_cell, cell_root, cell_branch}
use Rattle.lru_cache.proofs.Shape.{pointed, hangs, root_full, branch_full, inside_cell, apart, branch_short, branch_length, prefix_slot}

-- ---- the walk, as a loop takes it: start, one step, and the two ends

module _ (c : Cache) (X : Bits) where
  pub find_start : find c X ≡ walk c X (suc (length X)) (c.child root_cell)
  unfolding find
  find_start = refl

  pub passes_branch : (x : ℕ) → ¬ (x % 2 ≡ 0) → c.branch_length (x / 2) ≤ common X (c.entry (x / 2)) → passes c X x ≡ true
  unfolding passes
  passes_branch x h l = let e : x % 2 ≡ 1 = omega arith in rw (e, le-leb (c.branch_length (x / 2)) (common X (c.entry (x / 2))) l)

  pub stops_entry : (x : ℕ) → x % 2 ≡ 0 → passes c X x ≡ false
  unfolding passes
  stops_entry x e = rw e

  pub stops_miss : (x : ℕ) → common X (c.entry (x / 2)) < c.branch_length (x / 2) → passes c X x ≡ false
  unfolding passes
  stops_miss x l = rw (lt-leb (c.branch_length (x / 2)) (common X (c.entry (x / 2))) l) (no_test (one? (x % 2)))
    where
      no_test : (b : Bool) → (b && false) ≡ false
      no_test false = refl
      no_test true = refl

  pub walk_on : (f x : ℕ) → passes c X x ≡ true → walk c X (suc f) x ≡ walk c X f (c.child (towards c X x))
  unfolding walk
  walk_on f x e = rw e

  pub walk_end : (f x : ℕ) → passes c X x ≡ false → walk c X f x ≡ x
  unfolding walk
  walk_end zero x e = refl
  walk_end (suc f) x e = rw e

-- ---- where it is

module _ {n : ℕ} {c : Cache} (S : SoundCache n c) (X : Bits) where
  on_cell : (q : ℕ) → InUse n q → 0 < c.child q → Fits (trie c) (cell_at q) X → On n c X (c.child q)
  on_cell q i h f = let p = pointed S q i h in record { live = p.live; fits = rw p.knows f }

  pub on_start : 0 < n → On n c X (c.child root_cell)
  on_start h = on_cell root_cell (inl refl) (root_full S h) (rw cell_root tt)

  -- a branch, of slot i, that passes
  passed : (x : ℕ) → passes c X x ≡ true → (i : ℕ) × (x ≡ branch_node i) × (c.branch_length i ≤ common X (c.entry i))
  passed x e = go (node x)
    where
      go : Node x → (i : ℕ) × (x ≡ branch_node i) × (c.branch_length i ≤ common X (c.entry i))
      go (is_entry i z) = absurd (clash e (stops_entry c X x (omega arith)))
      go (is_branch i z) = sub (dec_le (c.branch_length i) (common X (c.entry i)))
        where
          sub : Dec (c.branch_length i ≤ common X (c.entry i)) → (i : ℕ) × (x ≡ branch_node i) × (c.branch_length i ≤ common X (c.entry i))
          sub (yes l) = (i, z, l)
          sub (no l) =
              let u : x / 2 ≡ i = omega arith in
              absurd (clash e (stops_miss c X x (rw u (omega arith))))

  -- it contains X
  passed_⊑ : (i : ℕ) → 1 < i → i ≤ n → c.branch_length i ≤ common X (c.entry i) → prefix_at c (branch_node i) ⊑ X
  passed_⊑ i h k l =
      rw (prefix_branch c i)
      (common_⊑ {q = X} (take_⊑ (c.branch_length i) (c.entry i)) (omega (arith, common_sym X (c.entry i), branch_length S i h k, ap length (prefix_branch c i))))

  module _ (short : Short n c X) where
    -- a step goes on to a longer prefix
    pub on_step : (x : ℕ) → On n c X x → passes c X x ≡ true
        → On n c X (c.child (towards c X x)) × (length (prefix_at c x) < length (prefix_at c (c.child (towards c X x))))
    unfolding towards
    on_step x o e = go (passed x e)
      where
        go : (i : ℕ) × (x ≡ branch_node i) × (c.branch_length i ≤ common X (c.entry i))
            → On n c X (c.child (cell_of (x / 2) (get_or X (c.branch_length (x / 2)) false))) × (length (prefix_at c x) < length (prefix_at c (c.child (cell_of (x / 2) (get_or X (c.branch_length (x / 2)) false)))))
        go (i, z, l) = rw (u, z) (on_cell (cell_of i b) q (branch_full S i b lo hi) (rw cell f), below_< (rw cell at (pointed S (cell_of i b) q (branch_full S i b lo hi)).fits))
          where
            u : x / 2 ≡ i
            u = omega arith

            lo : 1 < i
            lo = omega (arith, o.live)

            hi : i ≤ n
            hi = omega (arith, o.live)

            b : Bool
            b = get_or X (c.branch_length i) false

            cell : cell_at (cell_of i b) ≡ Kid (branch_node i) b
            cell = cell_branch i b (omega (arith, lo))

            q : InUse n (cell_of i b)
            q = inr (omega (arith, lo, hi, digit_below b))

            f : Below (prefix_at c (branch_node i)) b X
            f =
                let m = branch_length S i lo hi in
                subst (λ (k : ℕ). Below (prefix_at c (branch_node i)) (get_or X k false) X) m
                (next_below (passed_⊑ i lo hi l) (omega (arith, m, branch_short S i lo hi, short i (omega (arith, lo, hi)))))

    -- with a step for each length the walk comes to its end
    pub walk_ends : (f x : ℕ) → On n c X x → length X < f + length (prefix_at c x) → On n c X (walk c X f x) × (passes c X (walk c X f x) ≡ false)
    unfolding walk
    walk_ends zero x o h = (o, is_false (λ e. late (passed x e)))
      where
        late : (i : ℕ) × (x ≡ branch_node i) × (c.branch_length i ≤ common X (c.entry i)) → ⊥
        late (i, z, l) =
            let v = o.live in
            omega (arith, ⊑_length (passed_⊑ i (omega arith) (omega arith) l), ap (λ (y : ℕ). length (prefix_at c y)) z)
    walk_ends (suc f) x o h = go (passes c X x) refl (λ y. walk_ends f y)
      where
        go : (t : Bool) → passes c X x ≡ t → ((y : ℕ) → On n c X y → length X < f + length (prefix_at c y) → On n c X (walk c X f y) × (passes c X (walk c X f y) ≡ false))
            → On n c X (walk c X (suc f) x) × (passes c X (walk c X (suc f) x) ≡ false)
        go false e rec = rw (walk_end c X (suc f) x e) (o, e)
        go true e rec = let s = on_step x o e in rw (walk_on c X f x e) (rec (c.child (towards c X x)) s.0 (omega (arith, s.1)))

    pub find_ends : 0 < n → On n c X (find c X) × (passes c X (find c X) ≡ false)
    find_ends h = rw (find_start c X) (walk_ends (suc (length X)) (c.child root_cell) (on_start h) (omega arith))

  -- ---- what it finds

  module _ (x : ℕ) (o : On n c X x) (e : passes c X x ≡ false) where
    -- where the walk stops X contains no branch
    pub miss_or_entry : ((i : ℕ) × (x ≡ entry_node i)) ⊎ (¬ (prefix_at c x ⊑ X))
    miss_or_entry = go (node x)
      where
        go : Node x → ((i : ℕ) × (x ≡ entry_node i)) ⊎ (¬ (prefix_at c x ⊑ X))
        go (is_entry i z) = inl (i, z)
        go (is_branch i z) = inr (λ p. clash (passes_branch c X x (omega arith) (rw u (fits p))) e)
          where
            u : x / 2 ≡ i
            u = omega arith

            fits : prefix_at c x ⊑ X → c.branch_length i ≤ common X (c.entry i)
            fits p =
                let v = o.live in
                omega (arith, le_common p (subst (λ (k : ℕ). prefix_at c x ⊑ c.entry k) u (prefix_slot c x)), ap (λ (y : ℕ). length (prefix_at c y)) z, branch_length S i (omega arith) (omega arith))

    -- what X has in common with an entry is a prefix of x
    below_stop : (k : ℕ) → Slot n k → prefix_at c x ⊑ c.entry k → shared X (c.entry k) ⊑ prefix_at c x
    below_stop k lk h = go miss_or_entry (⊑_total h (shared_right X (c.entry k)))
      where
        go : ((i : ℕ) × (x ≡ entry_node i)) ⊎ (¬ (prefix_at c x ⊑ X)) → (prefix_at c x ⊑ shared X (c.entry k)) ⊎ (shared X (c.entry k) ⊑ prefix_at c x) → shared X (c.entry k) ⊑ prefix_at c x
        go t (inr q) = q
        go (inr m) (inl q) = absurd (m (⊑_trans q (shared_left X (c.entry k))))
        go (inl (i, z)) (inl q) =
            let v = o.live in
            let p : prefix_at c x ≡ c.entry i = ap (prefix_at c) z ∙ prefix_entry c i in
            let y : i ≡ k = apart S i k (omega arith) lk (rw p at h) in
            rw (p, y) (shared_right X (c.entry k))

    shared_stop : (k : ℕ) → Slot n k → shared X (c.entry k) ⊑ prefix_at c x
    shared_stop k lk = go (cell_at (c.up x)) refl o.fits
      where
        h : InUse n (c.up x) × (c.child (c.up x) ≡ x)
        h = hangs S x o.live

        -- an entry that belongs below x's cell is below x
        reach : Fits (trie c) (cell_at (c.up x)) (c.entry k) → prefix_at c x ⊑ c.entry k
        reach f =
            let t = through S.pointers (cell_at (c.up x)) (entry_node k) (inside_cell n (c.up x) h.0) (omega arith) (rw (prefix_entry c k) f) in
            let v = o.live in
            let y : t.0 ≡ x = cc (t.1, child_cell c (c.up x) ∙ ap pointer h.1 ∙ pointer_some x (omega arith)) in
            subst (λ (p : Bits). p ⊑ c.entry k) (ap (prefix_at c) y) (rw (prefix_entry c k) at t.2)

        fits : Fits (trie c) (cell_at (c.up x)) (prefix_at c x)
        fits = subst (λ (y : ℕ). Fits (trie c) (cell_at (c.up x)) (prefix_at c y)) h.1 (pointed S (c.up x) h.0 (let v = o.live in omega (arith, h.1))).fits

        go : (e : Cell) → cell_at (c.up x) ≡ e → Fits (trie c) e X → shared X (c.entry k) ⊑ prefix_at c x
        go Root z f = below_stop k lk (reach (rw z tt))
        go (Kid p b) z f = sub (dec_lt (length (prefix_at c p)) (length (shared X (c.entry k))))
          where
            sub : Dec (length (prefix_at c p) < length (shared X (c.entry k))) → shared X (c.entry k) ⊑ prefix_at c x
            sub (yes lt) = below_stop k lk (reach (rw z (below_trans (below_by_length f (shared_left X (c.entry k)) lt) (shared_right X (c.entry k)))))
            sub (no ge) = ⊑_trans (⊑_by_length (shared_left X (c.entry k)) (below_⊑ f) (omega arith)) (below_⊑ (rw z at fits))

    pub stop_nearest : Nearest n c X (x / 2)
    stop_nearest = record {
      slot = let v = o.live in omega arith;
      most = λ k lk. omega (arith, le_common (shared_left X (c.entry k)) (⊑_trans (shared_stop k lk) (prefix_slot c x)), shared_length X (c.entry k));
      only = λ k lk h. let v = o.live in apart S k (x / 2) lk (omega arith) (⊑_trans (shared_great h (⊑_refl _)) (⊑_trans (shared_stop k lk) (prefix_slot c x)));
    }

  -- the walk finds the entry that has the most in common with X: the one that contains X if any does
  pub find_nearest : Short n c X → 0 < n → Nearest n c X (find c X / 2)
  find_nearest short h = let f = find_ends short h in stop_nearest (find c X) f.0 f.1
