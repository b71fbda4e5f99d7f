-- Each word that is read as a value of the cache's slots. Assumes nothing.
use mathlib.Core.Path.{◌≡◌, refl}
use mathlib.Core.List.{List}
use Prim.Native.Nat.{ℕ, ◌/◌, ◌%◌}
use Rattle.prefix.specs.Prefix.{prefix_of}
use Rattle.sizes.specs.BothStores.{slot_word, word}
use Rattle.slots.specs.Layout.{cell_word, up_in, cache_of}

module _ (w : List ℕ) (i : ℕ) where
  pub read_entry : prefix_of 32 (word w (slot_word i 0)) (word w (slot_word i 1) % 64) ≡ (cache_of w).entry i
  unfolding cache_of
  read_entry = refl

  pub read_hop : word w (slot_word i 1) / 64 ≡ (cache_of w).hop i
  unfolding cache_of
  read_hop = refl

  pub read_prev : word w (slot_word i 2) ≡ (cache_of w).prev i
  unfolding cache_of
  read_prev = refl

  pub read_next : word w (slot_word i 3) ≡ (cache_of w).next i
  unfolding cache_of
  read_next = refl

  pub read_child : word w (cell_word i) ≡ (cache_of w).child i
  unfolding cache_of
  read_child = refl

  pub read_branch : word w (slot_word i 7) % 64 ≡ (cache_of w).branch_length i
  unfolding cache_of
  read_branch = refl

  pub read_up : up_in w i ≡ (cache_of w).up i
  unfolding cache_of
  read_up = refl
