-- Numbers of nodes and of cells. Assumes nothing.
use mathlib.Core.Path.{◌≡◌, refl, sym, ◌∙◌}
use mathlib.Core.Option.{none, some, none-ne-some}
use Prim.Native.Nat.{ℕ, zero, suc, ◌+◌, ◌-◌, ◌*◌, ◌/◌, ◌%◌, ◌<◌}
use native.Mathlib.Omega.{arith}
use Rattle.prefix.specs.Bits.{one?, digit}
use Rattle.prefix.proofs.BitLaws.{digit_bit, bit_digit, digit_below}
use Rattle.trie.specs.Trie.{Cell, Root, Kid}
use Rattle.sizes.specs.BothStores.{slot_word}
use Rattle.nodes.specs.Layout.{cell_word, numbered, cell_of, cell_number}

-- ---- a number of a node, or a mark

pub numbered_some : (p k : ℕ) → numbered p ≡ some k → p ≡ suc k
unfolding numbered
numbered_some zero k e = absurd (none-ne-some k e)
numbered_some (suc p) k e = cc

pub some_numbered : (p k : ℕ) → p ≡ suc k → numbered p ≡ some k
unfolding numbered
some_numbered p k e = rw e

pub numbered_node : (p : ℕ) → 0 < p → numbered p ≡ some (p - 1)
numbered_node p h = some_numbered p (p - 1) (omega arith)

pub numbered_none : (p : ℕ) → numbered p ≡ none → p ≡ 0
unfolding numbered
numbered_none zero e = refl
numbered_none (suc p) e = absurd (none-ne-some p (sym e))

pub none_numbered : numbered 0 ≡ none
unfolding numbered
none_numbered = refl

-- ---- a number of a cell

cell_kid : (q : ℕ) → 0 < q → cell_of q ≡ Kid (q / 2 - 1) (one? (q % 2))
unfolding cell_of
cell_kid zero h = absurd (omega arith)
cell_kid (suc q) h = refl

pub cell_root : cell_of 0 ≡ Root
unfolding cell_of
cell_root = refl

-- the side b of node p
pub cell_side : (p b : ℕ) → 0 < p → b < 2 → cell_of (2 * p + b) ≡ Kid (p - 1) (one? b)
cell_side p b h l =
    let e : (2 * p + b) / 2 ≡ p = omega arith in
    let d : (2 * p + b) % 2 ≡ b = omega arith in
    cell_kid (2 * p + b) (omega arith) ∙ rw (e, d)

-- every cell has a number, and no cell the number 1
pub cell_numbered : (c : Cell) → cell_of (cell_number c) ≡ c
unfolding cell_number
cell_numbered Root = cell_root
cell_numbered (Kid k b) =
    let e : suc k - 1 ≡ k = omega arith in
    cell_side (suc k) (digit b) (omega arith) (digit_below b) ∙ rw (e, bit_digit b)

pub number_not_one : (c : Cell) → ¬ (cell_number c ≡ 1)
unfolding cell_number
number_not_one Root z = omega arith
number_not_one (Kid k b) z = omega arith

pub number_celled : (q : ℕ) → ¬ (q ≡ 1) → cell_number (cell_of q) ≡ q
unfolding cell_number cell_of
number_celled zero n = refl
number_celled (suc q) n = omega (arith, digit_bit (suc q))

pub cell_injective : (q r : ℕ) → ¬ (q ≡ 1) → ¬ (r ≡ 1) → cell_of q ≡ cell_of r → q ≡ r
cell_injective q r n m e = cc (number_celled q n, number_celled r m)

pub side_word : (p b : ℕ) → b < 2 → cell_word (2 * p + b) ≡ slot_word p (3 + b)
side_word p b l = omega arith
