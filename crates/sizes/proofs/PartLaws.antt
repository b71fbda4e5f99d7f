-- A store through a part of a lent store is a store to the whole. Assumes nothing.
use mathlib.Core.Path.{◌≡◌, ◌∙◌, ap, sym}
use mathlib.Core.Bool.{true}
use mathlib.Core.List.{List, [], ◌∷◌, ◌++◌}
use Prim.Native.Nat.{ℕ, suc, ◌+◌, ◌-◌, ◌*◌, ◌<◌}
use native.Mathlib.Nat.{zero-add}
use native.Mathlib.Omega.{arith}
use lib.ListN.{length, take, drop, set, length-drop}
use lib.Seq.{set-append_left, length-take-le}
use lib.Dec.{ltb}
use borrow.Author.Tests.{ltb-true, lt-ltb}
use borrow.Rule.Slice.PartMut.{mid_of, put_mid, put_same}
use Rattle.sizes.specs.BothStores.{slot_word, Room}

set_past : (p q : List ℕ) (j v : ℕ) → set (p ++ q) (length p + j) v ≡ p ++ set q j v
set_past [] q j v = rw zero-add
set_past (x ∷ p) q j v =
    let e : suc (length p) + j ≡ suc (length p + j) = omega arith in
    rw e (ap (λ (l : List ℕ). x ∷ l) (set_past p q j v))

-- a store at j of a part is a store at a + j of the whole
pub part_set : (w part : List ℕ) (a k j v : ℕ) → length (take a w) ≡ a → length part ≡ k → ltb j k ≡ true → put_mid a k w (set part j v) ≡ set (put_mid a k w part) (a + j) v
part_set w part a k j v e size h =
    let s = set_past (take a w) (part ++ drop k (drop a w)) j v in
    let t = set-append_left part (drop k (drop a w)) j v (omega (arith, ltb-true j k h)) in
    sym (rw t at (rw e at s))

-- a store to a word of a slot, through the part that the slot is
pub slot_part : (w part : List ℕ) (p j v : ℕ) → Room w p → j < 8 → part ≡ set (mid_of (1016 + 8 * p) (1016 + 8 * p + 8 - (1016 + 8 * p)) w) j v
    → put_mid (1016 + 8 * p) (1016 + 8 * p + 8 - (1016 + 8 * p)) w part ≡ set w (slot_word p j) v
slot_part w part p j v fits small e =
    let front : length (take (1016 + 8 * p) w) ≡ 1016 + 8 * p = length-take-le (1016 + 8 * p) w (omega arith) in
    let size : length (mid_of (1016 + 8 * p) 8 w) ≡ 8 = length-take-le 8 (drop (1016 + 8 * p) w) (omega (arith, length-drop (1016 + 8 * p) w)) in
    let k : 1016 + 8 * p + 8 - (1016 + 8 * p) ≡ 8 = omega arith in
    rw (e, k) (part_set w (mid_of (1016 + 8 * p) 8 w) (1016 + 8 * p) 8 j v front size (lt-ltb j 8 small) ∙ ap (λ u. set u (1016 + 8 * p + j) v) (simp put_same))
