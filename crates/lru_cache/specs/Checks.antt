-- The check of a cache, as a loop over its slots and a walk along its ring take it: each condition compares a few values of a slot and
-- of the slots that it names. All of them together are soundness. Assumes nothing.
use Rattle.std.specs.Prelude.{◌≡◌, Bool, false, cond, ℕ, suc, ◌/◌, ◌%◌, ◌≤◌, ◌<◌, length, get_or}
use Rattle.prefix.specs.Bits.{one?}
use Rattle.prefix.specs.Prefix.{common}
use Rattle.lru_cache.specs.Slots.{Cache, entry_node, branch_node, cell_of, root_cell}
use Rattle.lru_cache.specs.Sound.{Slot, Live, InUse, along, Ring}

-- the length of a node's prefix
unfoldable pub length_at : Cache → ℕ → ℕ
length_at c x = cond (one? (x % 2)) (c.branch_length (x / 2)) (length (c.entry (x / 2)))

-- the node x hangs in a cell in use, which points at it
pub record Hangs (n : ℕ) (c : Cache) (x : ℕ) : Type 0 where
  pub in_use : InUse n (c.up x)
  pub points : c.child (c.up x) ≡ x

-- the branch in slot i leads on its side b to a live node y that knows it, is longer, and goes on from it with b
pub record Leads (n : ℕ) (c : Cache) (i : ℕ) (b : Bool) (y : ℕ) : Type 0 where
  pub live : Live n y
  pub knows : c.up y ≡ cell_of i b
  pub longer : c.branch_length i < length_at c y
  pub agrees : c.branch_length i ≤ common (c.entry i) (c.entry (y / 2))
  pub side : get_or (c.entry (y / 2)) (c.branch_length i) false ≡ b

-- what is checked of a branch, of a slot, of the root cell, and of all
pub record BranchOk (n : ℕ) (c : Cache) (i : ℕ) : Type 0 where
  pub short : c.branch_length i < length (c.entry i)
  pub hangs : Hangs n c (branch_node i)
  pub leads : (b : Bool) → Leads n c i b (c.child (cell_of i b))

pub record SlotOk (n : ℕ) (c : Cache) (i : ℕ) : Type 0 where
  pub entry : Hangs n c (entry_node i)
  pub branch : 1 < i → BranchOk n c i

pub record RootOk (n : ℕ) (c : Cache) : Type 0 where
  pub empty : n ≡ 0 → c.child root_cell ≡ 0
  pub full : 0 < n → Live n (c.child root_cell) × (c.up (c.child root_cell) ≡ root_cell)

pub record Checked (n : ℕ) (c : Cache) : Type 0 where
  pub root : RootOk n c
  pub slots : (i : ℕ) → Slot n i → SlotOk n c i
  pub ring : Ring n c

-- the first k steps along the ring are sound, and none but the first was made from slot 0
pub record Walked (n k : ℕ) (c : Cache) : Type 0 where
  pub within : (j : ℕ) → j < k → along c 0 (suc j) ≤ n
  pub undone : (j : ℕ) → j < k → c.prev (along c 0 (suc j)) ≡ along c 0 j
  pub others : (j : ℕ) → 0 < j → j < k → ¬ (along c 0 j ≡ 0)
