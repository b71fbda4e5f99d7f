-- What a change of a few stores leaves: of any words, all but the slots 0 to n; and of those whose numbers fit, these values of the
-- slots. A number that is read from a store that is not sound may name no slot: then nothing is stored there. Assumes nothing.
use Rattle.std.specs.Prelude.{◌≡◌, List, ℕ, ◌/◌, ◌≤◌}
use Rattle.sizes.specs.Sizes.{largest_limit}
use Rattle.lru_cache.specs.Slots.{Cache}
use Rattle.lru_cache.specs.Sound.{Live, InUse}
use Rattle.sizes.specs.BothStores.{Room}
use Rattle.slots.specs.Layout.{cache_of}
use Rattle.slots.specs.Stores.{put_prev, put_next, Kept}

-- the words of the slots 0 to n are in the store
abbrev pub InStore : List ℕ → ℕ → Type 0
InStore w n = Room w n × (n ≤ largest_limit)

pub record Changed (n : ℕ) (w w' : List ℕ) (fits : Type 0) (c : Cache) : Type 0 where
  pub kept : Kept n w w'
  pub does : fits → cache_of w' ≡ c

-- ---- the order of use

-- the neighbours of slot k are slots
abbrev pub Linked : ℕ → List ℕ → ℕ → Type 0
Linked n w k = ((cache_of w).prev k ≤ n) × ((cache_of w).next k ≤ n)

-- slot k comes between two others
unfoldable pub between : List ℕ → ℕ → ℕ → ℕ → List ℕ
between w before k after = put_prev (put_prev (put_next (put_next w k after) before k) k before) after k

-- ---- numbers

-- the numbers in the slots in use of n entries are of the slots 0 to n, their cells and their nodes
pub record Low (n : ℕ) (c : Cache) : Type 0 where
  pub next_low : (i : ℕ) → i ≤ n → c.next i ≤ n
  pub prev_low : (i : ℕ) → i ≤ n → c.prev i ≤ n
  pub child_low : (q : ℕ) → InUse n q → c.child q / 2 ≤ n
  pub up_low : (x : ℕ) → Live n x → c.up x / 2 ≤ n
