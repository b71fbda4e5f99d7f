-- What the parts of the check answer, each by itself: a yes exactly where its condition holds. Assumes nothing.
use Rattle.std.specs.Prelude.{◌≡◌, Bool, true, false, List, ℕ, ◌/◌, ◌%◌, ◌≤◌, ◌<◌, length, get_or}
use Rattle.prefix.specs.Bits.{bits}
use Rattle.prefix.specs.Prefix.{common}
use Rattle.lru_cache.specs.Slots.{entry_node, branch_node, cell_of}
use Rattle.lru_cache.specs.Sound.{Live}
use Rattle.lru_cache.specs.Checks.{length_at, Hangs}
use Rattle.sizes.specs.BothStores.{slot_word, word}
use Rattle.slots.specs.Layout.{entries_held, cache_of}

pub record Decides (good : Type 0) (r : Bool) : Type 0 where
  pub yes : r ≡ true → good
  pub no : r ≡ false → ¬ good

-- the node y and its slot's entry have more than m bits
pub record Longer (w : List ℕ) (m y : ℕ) : Type 0 where
  pub entry : m < length ((cache_of w).entry (y / 2))
  pub node : m < length_at (cache_of w) y

-- the node y is longer than the branch in slot i, begins with the first bits of slot i's address, and goes on with b
pub record GoesOn (w : List ℕ) (i : ℕ) (b : Bool) (y : ℕ) : Type 0 where
  pub longer : Longer w ((cache_of w).branch_length i) y
  pub agrees : (cache_of w).branch_length i ≤ common (bits 32 (word w (slot_word i 0))) ((cache_of w).entry (y / 2))
  pub side : get_or ((cache_of w).entry (y / 2)) ((cache_of w).branch_length i) false ≡ b

-- the cell of slot i on its side b leads to a live node that knows it and, but for the root cell, goes on from the branch
pub record CellFine (w : List ℕ) (i : ℕ) (b : Bool) : Type 0 where
  pub live : Live (entries_held w) ((cache_of w).child (cell_of i b))
  pub knows : (cache_of w).up ((cache_of w).child (cell_of i b)) ≡ cell_of i b
  pub onward : 0 < i → GoesOn w i b ((cache_of w).child (cell_of i b))

pub record BranchFine (w : List ℕ) (i : ℕ) : Type 0 where
  pub short : (cache_of w).branch_length i < length ((cache_of w).entry i)
  pub hangs : Hangs (entries_held w) (cache_of w) (branch_node i)
  pub left : CellFine w i false
  pub right : CellFine w i true

pub record SlotFine (w : List ℕ) (i : ℕ) : Type 0 where
  pub plain : word w (slot_word i 1) % 64 ≤ 32
  pub hangs : Hangs (entries_held w) (cache_of w) (entry_node i)
  pub branch : 1 < i → BranchFine w i
