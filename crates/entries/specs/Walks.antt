-- The walk by an address over a store: where it stands, what one turn of it answers, and where it stops. Assumes nothing.
use Rattle.std.specs.Prelude.{◌≡◌, Bool, true, false, List, Option, Some, None, ℕ, ◌%◌, ◌≤◌, ◌<◌, leb}
use Rattle.prefix.specs.Bits.{Bits}
use Rattle.prefix.specs.Prefix.{common}
use Rattle.lru_cache.specs.Sound.{Live}
use Rattle.lru_cache.specs.Changes as walking
use Rattle.lru_cache.specs.Changes.{passes, towards, walk, find}
use Rattle.sizes.specs.BothStores.{slot_word, word}
use Rattle.slots.specs.Layout.{entries_held, cache_of}
use Rattle.entries.specs.Caches.{SoundEntries}

-- r bits of X agree with the entry of slot i, where its length is one of a sound store
pub record CommonWith (w : List ℕ) (i : ℕ) (X : Bits) (r : ℕ) : Type 0 where
  pub small : r < 64
  pub is_common : word w (slot_word i 1) % 64 ≤ 32 → r ≡ common X ((cache_of w).entry i)

-- whether the first m bits of slot i's address contain X, where that is a length of the entry's and it is one of a sound store
pub record BranchCovers (w : List ℕ) (i m : ℕ) (X : Bits) (r : Bool) : Type 0 where
  pub is_test : m ≤ word w (slot_word i 1) % 64 → word w (slot_word i 1) % 64 ≤ 32 → r ≡ leb m (common X ((cache_of w).entry i))

-- a sound store with entries: what the walk finds is what it finds from the node at with the steps left
pub record Going (w : List ℕ) (X : Bits) (at left : ℕ) : Type 0 where
  pub here : SoundEntries w → 0 < entries_held w → walking.On (entries_held w) (cache_of w) X at
  pub rest : SoundEntries w → 0 < entries_held w → walk (cache_of w) X left at ≡ find (cache_of w) X

-- from a node of a sound store: the walk goes on to a node, or it is over
unfoldable pub Turned : List ℕ → Bits → ℕ → Option ℕ → Type 0
Turned w X at (Some next) = SoundEntries w → Live (entries_held w) at → (passes (cache_of w) X at ≡ true) × (next ≡ (cache_of w).child (towards (cache_of w) X at))
Turned w X at None = SoundEntries w → Live (entries_held w) at → passes (cache_of w) X at ≡ false

-- on a sound store with entries r is the node where the walk stops
pub record Walked (w : List ℕ) (X : Bits) (r : ℕ) : Type 0 where
  pub found : SoundEntries w → 0 < entries_held w → r ≡ find (cache_of w) X
