-- Each change is a row of single stores, with the values that are read before them; and a cache is known by its values. Assumes nothing.
use mathlib.Core.Path.{◌≡◌, refl, fun_ext}
use mathlib.Core.Bool.{Bool, true, false, not}
use Prim.Native.Nat.{ℕ}
use Rattle.prefix.specs.Bits.{Bits}
use Rattle.lru_cache.specs.Slots.{Cache, entry_node, branch_node, cell_of, root_cell, set_entry, set_branch_length, set_child, set_up, set_prev, set_next}
use Rattle.lru_cache.specs.Changes.{unlink, push_front, move_links, insert_first, hang, remove_only, prune, move_entry, move_branch}

-- two caches with the same values
pub cache_path : {c w : Cache} → ((i : ℕ) → w.entry i ≡ c.entry i) → ((i : ℕ) → w.hop i ≡ c.hop i) → ((i : ℕ) → w.branch_length i ≡ c.branch_length i)
    → ((q : ℕ) → w.child q ≡ c.child q) → ((x : ℕ) → w.up x ≡ c.up x) → ((i : ℕ) → w.prev i ≡ c.prev i) → ((i : ℕ) → w.next i ≡ c.next i) → w ≡ c
cache_path e h b d u p n = λ i. record { entry = fun_ext e i; hop = fun_ext h i; branch_length = fun_ext b i; child = fun_ext d i; up = fun_ext u i; prev = fun_ext p i; next = fun_ext n i }

-- ---- the changes

module _ (c : Cache) where
  pub unlink_stores : (k p n : ℕ) → p ≡ c.prev k → n ≡ c.next k → set_prev (set_next c p n) n p ≡ unlink c k
  unfolding unlink
  unlink_stores k p n ep en = rw (ep, en)

  pub push_stores : (k f : ℕ) → f ≡ c.next 0 → set_prev (set_prev (set_next (set_next c k f) 0 k) k 0) f k ≡ push_front c k
  unfolding push_front
  push_stores k f e = rw e

  pub links_stores : (s t p n : ℕ) → p ≡ c.prev s → n ≡ c.next s → set_prev (set_prev (set_next (set_next c t n) p t) t p) n t ≡ move_links c s t
  unfolding move_links
  links_stores s t p n ep en = rw (ep, en)

  pub first_stores : (P : Bits) (H : ℕ) → push_front (set_child (set_up (set_entry c 1 P H) (entry_node 1) root_cell) root_cell (entry_node 1)) 1 ≡ insert_first c P H
  unfolding insert_first
  first_stores P H = refl

  pub hang_stores : (s q : ℕ) (d : Bool) (m : ℕ) (P : Bits) (H x : ℕ) → x ≡ c.child q
      → set_child (set_child (set_child
      (set_up (set_branch_length (set_up (set_up (set_entry c s P H) x (cell_of s d)) (entry_node s) (cell_of s (not d))) s m) (branch_node s) q)
      (cell_of s d) x) (cell_of s (not d)) (entry_node s)) q (branch_node s) ≡ hang c s q d m P H
  unfolding hang
  hang_stores s q d m P H x e = rw e

  pub only_stores : set_child (unlink c 1) root_cell 0 ≡ remove_only c
  unfolding remove_only
  only_stores = refl

  pub prune_stores : (j : ℕ) (b : Bool) (x q : ℕ) → x ≡ c.child (cell_of j (not b)) → q ≡ c.up (branch_node j) → set_up (set_child c q x) x q ≡ prune c j b
  unfolding prune
  prune_stores j b x q ex eq = rw (ex, eq)

  pub entry_stores : (s t q : ℕ) → q ≡ c.up (entry_node s) → move_links (set_up (set_child (set_entry c t (c.entry s) (c.hop s)) q (entry_node t)) (entry_node t) q) s t ≡ move_entry c s t
  unfolding move_entry
  entry_stores s t q e = rw e

  pub branch_stores : (s t x y q : ℕ) → x ≡ c.child (cell_of s false) → y ≡ c.child (cell_of s true) → q ≡ c.up (branch_node s)
      → set_up (set_branch_length (set_up (set_up (set_child (set_child (set_child c (cell_of t false) x) (cell_of t true) y) q (branch_node t)) x (cell_of t false)) y (cell_of t true)) t (c.branch_length s)) (branch_node t) q
      ≡ move_branch c s t
  unfolding move_branch
  branch_stores s t x y q ex ey eq = rw (ex, ey, eq)
