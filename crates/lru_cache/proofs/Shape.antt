-- What soundness says of the slots' numbers, and that no two entries overlap. Assumes nothing.
use mathlib.Core.Path.{◌≡◌, sym, ap, ◌∙◌}
use mathlib.Core.Bool.{Bool, true, false}
use mathlib.Core.Logic.{◌⊎◌, inl, inr}
use mathlib.Core.Option.{none-ne-some}
use Prim.Native.Nat.{ℕ, ◌/◌, ◌≤◌, ◌<◌}
use native.Mathlib.Decide.{dec_lt}
use native.Mathlib.Omega.{arith}
use lib.ListN.{length}
use lib.Seq.{take_all}
use Rattle.prefix.specs.Prefix.{overlap, ◌⊑◌, Below}
use Rattle.prefix.proofs.Order.{⊑_refl, ⊑_cases, take_⊑, take_len}
use Rattle.prefix.proofs.Tests.{⊑_apart}
use Rattle.trie.specs.Trie.{Inside, Fits}
use Rattle.trie.proofs.Descent.{inject, root_least, under}
use Rattle.lru_cache.specs.Slots.{Cache, entry_node, branch_node, cell_of, root_cell}
use Rattle.lru_cache.specs.Sound.{prefix_at, child_at, cell_at, trie, Slot, Live, InUse, SoundCache}
use Rattle.lru_cache.proofs.Nodes.{Node, is_entry, is_branch, node, prefix_entry, prefix_branch, hop_branch, child_entry, child_branch, pointer_some, some_pointer, cell_root, cell_suc, child_cell, cell_inj}

-- ---- cells in use

module _ (n q : ℕ) where
  pub inside_cell : InUse n q → Inside (Live n) (cell_at q)
  inside_cell (inl e) = rw (e, cell_root) tt
  inside_cell (inr h) = rw (cell_suc q (omega arith)) (omega arith)

  pub cell_inside : Inside (Live n) (cell_at q) → InUse n q
  cell_inside i = go (dec_lt 0 q)
    where
      go : Dec (0 < q) → InUse n q
      go (no h) = inl (omega arith)
      go (yes h) = let l : Live n (branch_node (q / 2)) = rw (cell_suc q h) at i in inr (omega arith)

  pub cell_low : InUse n q → q ≤ cell_of n true
  cell_low (inl e) = omega arith
  cell_low (inr h) = omega arith

-- the cell q points at a live node that knows it and goes on from it
pub record Pointed (n : ℕ) (c : Cache) (q : ℕ) : Type 0 where
  pub live : Live n (c.child q)
  pub knows : c.up (c.child q) ≡ q
  pub fits : Fits (trie c) (cell_at q) (prefix_at c (c.child q))

module _ {n : ℕ} {c : Cache} (S : SoundCache n c) where
  pub pointed : (q : ℕ) → InUse n q → 0 < c.child q → Pointed n c q
  pointed q i h =
      let p = S.pointers.points (cell_at q) (c.child q) (inside_cell n q i) (child_cell c q ∙ pointer_some (c.child q) h) in
      record { live = p.is_live; knows = cell_inj _ _ p.back; fits = p.fits }

  -- each node hangs in a cell in use
  pub hangs : (x : ℕ) → Live n x → InUse n (c.up x) × (c.child (c.up x) ≡ x)
  hangs x l =
      let o = S.pointers.owned x l in
      (cell_inside n (c.up x) o.inside, (some_pointer _ x (sym (child_cell c (c.up x)) ∙ o.child)).0)

  -- a cell in use is empty only where there is no entry
  pub root_full : 0 < n → 0 < c.child root_cell
  root_full h =
      let r = root_least S.pointers (entry_node 1) (omega arith) in
      let s = some_pointer (c.child root_cell) r.0 (sym (child_cell c root_cell) ∙ ap (child_at c) cell_root ∙ r.1) in
      omega (arith, s)

  pub branch_full : (i : ℕ) (b : Bool) → 1 < i → i ≤ n → 0 < c.child (cell_of i b)
  branch_full i b h k =
      let t = S.branchy (branch_node i) (omega arith) (hop_branch c i) b in
      let s = some_pointer (c.child (cell_of i b)) t.0 (sym (child_branch c i b) ∙ t.1) in
      omega (arith, s)

  -- no entry is a prefix of another
  pub apart : (i j : ℕ) → Slot n i → Slot n j → c.entry i ⊑ c.entry j → i ≡ j
  apart i j li lj h = go (⊑_cases h)
    where
      go : (c.entry i ≡ c.entry j) ⊎ ((b : Bool) × Below (c.entry i) b (c.entry j)) → i ≡ j
      go (inl e) =
          let z : entry_node i ≡ entry_node j = inject S.pointers (entry_node i) (entry_node j) (omega arith) (omega arith) (prefix_entry c i ∙ e ∙ sym (prefix_entry c j)) in
          omega arith
      go (inr (b, t)) =
          let u = under S.pointers (entry_node i) (entry_node j) b (omega arith) (omega arith) (rw (prefix_entry c i, prefix_entry c j) t) in
          absurd (none-ne-some u.0 (sym (child_entry c i b) ∙ u.1))

  pub no_overlap : (i j : ℕ) → Slot n i → Slot n j → ¬ (i ≡ j) → overlap (c.entry i) (c.entry j) ≡ false
  no_overlap i j li lj n = ⊑_apart (λ h. n (apart i j li lj h)) (λ h. n (sym (apart j i lj li h)))

  -- a branch is shorter than its slot's entry
  pub branch_short : (i : ℕ) → 1 < i → i ≤ n → c.branch_length i < length (c.entry i)
  branch_short i h k = go (dec_lt (c.branch_length i) (length (c.entry i)))
    where
      go : Dec (c.branch_length i < length (c.entry i)) → c.branch_length i < length (c.entry i)
      go (yes s) = s
      go (no s) =
          let z : branch_node i ≡ entry_node i = inject S.pointers (branch_node i) (entry_node i) (omega arith) (omega arith)
          (prefix_branch c i ∙ take_all (c.branch_length i) (c.entry i) (omega arith) ∙ sym (prefix_entry c i)) in
          absurd (omega arith)

  pub branch_length : (i : ℕ) → 1 < i → i ≤ n → length (prefix_at c (branch_node i)) ≡ c.branch_length i
  branch_length i h k = ap length (prefix_branch c i) ∙ take_len (c.branch_length i) (c.entry i) (omega (arith, branch_short i h k))

-- a node's prefix is the first bits of its slot's entry
pub prefix_slot : (c : Cache) (x : ℕ) → prefix_at c x ⊑ c.entry (x / 2)
prefix_slot c x = go (node x)
  where
    go : Node x → prefix_at c x ⊑ c.entry (x / 2)
    go (is_entry i e) = let z : x / 2 ≡ i = omega arith in rw (z, e, prefix_entry c i) (⊑_refl (c.entry i))
    go (is_branch i e) = let z : x / 2 ≡ i = omega arith in rw (z, e, prefix_branch c i) (take_⊑ (c.branch_length i) (c.entry i))
