-- A new entry in the slot after those in use: its place in the search trie, before it has one in the order of use. Assumes nothing.
use Rattle.std.specs.Prelude.{◌≡◌, List, ℕ, suc, ◌+◌, ◌-◌, ◌*◌, ◌/◌, ◌≤◌, ◌<◌}
use Rattle.prefix.specs.Bits.{Bits}
use Rattle.lru_cache.specs.Changes.{push_front}
use Rattle.lru_cache.specs.Results.{Inserted}
use Rattle.slots.specs.Layout.{entries_held, up_in, cache_of, Plain}
use Rattle.slots.specs.Stores.{put_child, put_branch, put_up, Kept}
use Rattle.entries.specs.Caches.{Free, SoundEntries}
use Rattle.entries.specs.Changed.{InStore}
use Rattle.entries.specs.Walks.{Walked}

-- a branch of m bits, of slot s, in a cell: below it the slot's entry in its own cell, and the node x in the other
unfoldable pub forked : List ℕ → ℕ → ℕ → ℕ → ℕ → ℕ → List ℕ
forked w s own cell x m =
    put_child (put_child (put_child (put_branch (put_up (put_up w x (4 * s + 1 - own)) (2 * s) own) s cell m) (4 * s + 1 - own) x) own (2 * s)) cell (2 * s + 1)

-- slot s comes after those in use, and x is the node where the walk by X stops, in its cell
pub record Beside (w : List ℕ) (X : Bits) (s x cell : ℕ) : Type 0 where
  pub has : InStore w s
  pub after : s ≡ entries_held w + 1
  pub some_held : 0 < entries_held w
  pub x_inside : x / 2 ≤ entries_held w
  pub cell_inside : cell / 2 ≤ entries_held w
  pub walked : Walked w X x
  pub is_cell : cell ≡ up_in w x

-- w' wants only the order of use to hold P → H in front of what w holds
pub record Ready (w w' : List ℕ) (P : Bits) (H : ℕ) : Type 0 where
  pub plain : Plain w' (suc (entries_held w))
  pub first_low : (cache_of w').next 0 ≤ suc (entries_held w)
  pub inserts : Inserted (entries_held w) (cache_of w) (push_front (cache_of w') (suc (entries_held w))) P H

pub record Hung (w w' : List ℕ) (P : Bits) (H : ℕ) : Type 0 where
  pub kept : Kept (suc (entries_held w)) w w'
  pub ready : SoundEntries w → Free w P → Ready w w' P H
