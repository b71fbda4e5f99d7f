-- What the steps of a removal leave. Assumes nothing.
use Rattle.std.specs.Prelude.{◌≡◌, List, ℕ, ◌+◌, ◌-◌, ◌*◌, ◌<◌}
use Rattle.lru_cache.specs.Slots.{Cache, set_child, set_up}
use Rattle.lru_cache.specs.Sound.{Slot, SoundCache, entry_of, entries}
use Rattle.lru_cache.specs.Results.{others}
use Rattle.slots.specs.Layout.{cache_of, Plain}
use Rattle.slots.specs.Stores.{put_child, put_branch, put_up, Kept}
use Rattle.entries.specs.Changed.{Low}

-- the numbers of n entries that are read fit
pub record Tidy (n : ℕ) (w : List ℕ) : Type 0 where
  pub low : Low n (cache_of w)
  pub plain : Plain w n

-- a cell points at the node x, which knows it
unfoldable pub hung : Cache → ℕ → ℕ → Cache
hung c cell x = set_up (set_child c cell x) x cell

-- slot t has a branch of m bits in a cell, and two nodes below it
unfoldable pub branched : List ℕ → ℕ → ℕ → ℕ → ℕ → ℕ → List ℕ
branched w t left right cell m =
    put_branch (put_up (put_up
    (put_child (put_child (put_child w (2 * t) left) (2 * t + 1) right) cell (2 * t + 1))
    left (2 * t)) right (2 * t + 1)) t cell m

-- d has what c has in its n slots but for the entry of slot k, and in each later slot the entry of one that was later too
pub record Without (n : ℕ) (c d : Cache) (k : ℕ) : Type 0 where
  pub sound : SoundCache (n - 1) d
  pub holds : entries (n - 1) d ≡ others n c k
  pub later : (s : ℕ) → Slot (n - 1) s → k < s → (z : ℕ) × Slot n z × (k < z) × (entry_of d s ≡ entry_of c z)

-- the entry of slot k is gone, but for the count
pub record Gone (n : ℕ) (w w' : List ℕ) (k : ℕ) : Type 0 where
  pub kept : Kept n w w'
  pub rest : Plain w n → SoundCache n (cache_of w) → Without n (cache_of w) (cache_of w') k
