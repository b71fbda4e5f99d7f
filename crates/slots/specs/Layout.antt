-- The words of a cache store, and the slots that they spell. Header: word 0 is the limit, word 1 the entries held. Slot i, for i from
-- 0 to the entries held, starts at word 1,016 + 8 i: address; hop and length; prev; next; the entry's up; left; right; the branch's
-- up and length. Slot 0 is the header's own: its left cell is the root's, and the order of use begins and ends there. A cell is a
-- place for a node number: cell 2 i + b is the side b of slot i's branch. Assumes nothing.
use Rattle.std.specs.Prelude.{cond, List, ℕ, ◌+◌, ◌*◌, ◌/◌, ◌%◌, ◌≤◌, ◌<◌, length}
use Rattle.prefix.specs.Bits.{one?}
use Rattle.prefix.specs.Prefix.{prefix_of}
use Rattle.lru_cache.specs.Slots.{Cache}
use Rattle.sizes.specs.Sizes.{LegalLimit, cache_need}
use Rattle.sizes.specs.BothStores.{word, limit_of, slot_word}

abbrev pub cell_word : ℕ → ℕ
cell_word cell = 1016 + 8 * (cell / 2) + 5 + cell % 2

-- ---- what it says

abbrev pub entries_held : List ℕ → ℕ
entries_held w = word w 1

-- two numbers in one word: a hop or a cell, and a length below 64
abbrev pub packed : ℕ → ℕ → ℕ
packed n length = n * 64 + length

unfoldable pub up_in : List ℕ → ℕ → ℕ
up_in w x = cond (one? (x % 2)) (word w (slot_word (x / 2) 7) / 64) (word w (slot_word (x / 2) 4))

unfoldable pub cache_of : List ℕ → Cache
cache_of w = record {
  entry = λ i. prefix_of 32 (word w (slot_word i 0)) (word w (slot_word i 1) % 64);
  hop = λ i. word w (slot_word i 1) / 64;
  branch_length = λ i. word w (slot_word i 7) % 64;
  child = λ q. word w (cell_word q);
  up = up_in w;
  prev = λ i. word w (slot_word i 2);
  next = λ i. word w (slot_word i 3);
}

-- ---- a header that fits its store

pub record Shaped (w : List ℕ) : Type 0 where
  pub legal : LegalLimit (limit_of w)
  pub enough : cache_need (limit_of w) ≤ length w
  pub entries_fit : entries_held w ≤ limit_of w

-- ---- what the slots' values do not show

-- in the slots of n entries no prefix is longer than its address
pub record Plain (w : List ℕ) (n : ℕ) : Type 0 where
  pub short : (i : ℕ) → 0 < i → i ≤ n → word w (slot_word i 1) % 64 ≤ 32
