-- What each store leaves of the words. Assumes nothing.
use Rattle.std.specs.Prelude.{◌≡◌, cond, List, ℕ, ◌/◌, ◌%◌, length, set, drop}
use Rattle.prefix.specs.Bits.{one?}
use Rattle.sizes.specs.Sizes.{cache_need}
use Rattle.sizes.specs.BothStores.{slot_word, word, limit_of}
use Rattle.slots.specs.Layout.{cell_word, entries_held, packed, Plain}

unfoldable pub put_entry : List ℕ → ℕ → ℕ → ℕ → ℕ → List ℕ
put_entry w i address length hop = set (set w (slot_word i 0) address) (slot_word i 1) (packed hop length)

unfoldable pub put_hop : List ℕ → ℕ → ℕ → List ℕ
put_hop w i hop = set w (slot_word i 1) (packed hop (word w (slot_word i 1) % 64))

unfoldable pub put_prev : List ℕ → ℕ → ℕ → List ℕ
put_prev w i s = set w (slot_word i 2) s

unfoldable pub put_next : List ℕ → ℕ → ℕ → List ℕ
put_next w i s = set w (slot_word i 3) s

unfoldable pub put_child : List ℕ → ℕ → ℕ → List ℕ
put_child w cell x = set w (cell_word cell) x

-- the branch of slot i hangs in a cell and has so many bits
unfoldable pub put_branch : List ℕ → ℕ → ℕ → ℕ → List ℕ
put_branch w i cell m = set w (slot_word i 7) (packed cell m)

-- the node x, an entry or a branch, hangs in a cell
unfoldable pub put_up : List ℕ → ℕ → ℕ → List ℕ
put_up w x cell = cond (one? (x % 2)) (put_branch w (x / 2) cell (word w (slot_word (x / 2) 7) % 64)) (set w (slot_word (x / 2) 4) cell)

unfoldable pub put_count : List ℕ → ℕ → List ℕ
put_count w n = set w 1 n

-- an empty cache: no entry, no root, and the order of use leads from slot 0 to slot 0
unfoldable pub emptied : List ℕ → ℕ → List ℕ
emptied w limit = set (set (set (set (set w 0 limit) 1 0) (cell_word 0) 0) (slot_word 0 2) 0) (slot_word 0 3) 0

-- ---- what they do not touch

-- stores to the slots from 0 to n leave the header and all that stands past slot n, and store no prefix that is too long
pub record Kept (n : ℕ) (w w' : List ℕ) : Type 0 where
  pub size : length w' ≡ length w
  pub limit : limit_of w' ≡ limit_of w
  pub entries : entries_held w' ≡ entries_held w
  pub past : drop (cache_need n) w' ≡ drop (cache_need n) w
  pub plain : (m : ℕ) → Plain w m → Plain w' m
