-- Where the cell that points at a node is read and stored: an entry's in word 4 of its slot, a branch's in word 7, with its length.
-- Assumes nothing.
use mathlib.Core.Path.{◌≡◌, refl}
use mathlib.Core.Bool.{true}
use mathlib.Core.List.{List}
use Prim.Native.Nat.{ℕ, zero, suc, ◌/◌, ◌%◌}
use lib.ListN.{set}
use Rattle.prefix.specs.Bits.{one?}
use Rattle.sizes.specs.BothStores.{slot_word, word}
use Rattle.slots.specs.Layout.{up_in}
use Rattle.slots.specs.Stores.{put_branch, put_up}

odd : (x : ℕ) → ¬ (x % 2 ≡ 0) → one? (x % 2) ≡ true
odd x n = go (x % 2) n
  where
    go : (d : ℕ) → ¬ (d ≡ 0) → one? d ≡ true
    go zero n = absurd (n refl)
    go (suc d) n = refl

module _ (w : List ℕ) (x : ℕ) where
  pub up_entry : x % 2 ≡ 0 → word w (slot_word (x / 2) 4) ≡ up_in w x
  unfolding up_in
  up_entry e = rw e

  pub up_branch : ¬ (x % 2 ≡ 0) → word w (slot_word (x / 2) 7) / 64 ≡ up_in w x
  unfolding up_in
  up_branch n = rw (odd x n)

  pub put_up_entry : (cell : ℕ) → x % 2 ≡ 0 → set w (slot_word (x / 2) 4) cell ≡ put_up w x cell
  unfolding put_up
  put_up_entry cell e = rw e

  pub put_up_branch : (cell m : ℕ) (w' : List ℕ) → ¬ (x % 2 ≡ 0) → m ≡ word w (slot_word (x / 2) 7) % 64
      → w' ≡ put_branch w (x / 2) cell m → w' ≡ put_up w x cell
  unfolding put_up
  put_up_branch cell m w' n em e = rw (odd x n) cc
