-- A trie is sound and branchy when each slot passes its test. Assumes nothing.
use mathlib.Core.Path.{◌≡◌}
use mathlib.Core.Bool.{true, false}
use mathlib.Core.Option.{Option, none, some, none-ne-some}
use Prim.Native.Nat.{ℕ}
use Rattle.trie.specs.Trie.{Cell, Root, Kid, Trie, Inside, Points, Sound, Branchy, Dense}
use Rattle.trie.specs.Check.{CellOk, Checked}

cell_ok : (m : ℕ) (v : Trie) (c : Cell) (o : Option ℕ) → CellOk m v c o → (j : ℕ) → o ≡ some j → Points (Dense m) v c j
cell_ok m v c none k j e = absurd (none-ne-some j e)
cell_ok m v c (some x) k j e = let z : x ≡ j = cc in rw z at k

pub checked_sound : (m : ℕ) (v : Trie) → Checked m v → Sound (Dense m) v × Branchy (Dense m) v
checked_sound m v k = (record { points = points; owned = λ j l. (k.slots j l).owned }, λ i l. (k.slots i l).branch)
  where
    points : (c : Cell) (j : ℕ) → Inside (Dense m) c → v.child c ≡ some j → Points (Dense m) v c j
    points Root j i h = cell_ok m v Root _ k.root j h
    points (Kid a false) j i h = cell_ok m v (Kid a false) _ (k.slots a i).left j h
    points (Kid a true) j i h = cell_ok m v (Kid a true) _ (k.slots a i).right j h
