-- The numbers of nodes and cells, and what of the slots a node and a cell depend on. Assumes nothing.
use mathlib.Core.Path.{◌≡◌, refl, sym, ap, ◌∙◌}
use mathlib.Core.Bool.{Bool}
use mathlib.Core.Option.{none, some, none-ne-some}
use Prim.Native.Nat.{ℕ, zero, suc, ◌+◌, ◌*◌, ◌/◌, ◌%◌, ◌<◌}
use native.Mathlib.Omega.{arith}
use lib.ListN.{take}
use Rattle.prefix.specs.Bits.{one?, digit}
use Rattle.prefix.proofs.BitLaws.{digit_one, bit_digit, digit_below}
use Rattle.trie.specs.Trie.{Cell, Root, Kid, Inside}
use Rattle.trie.proofs.Stores.{kid_slot, kid_side, not_root}
use Rattle.lru_cache.specs.Slots.{Cache, entry_node, branch_node, cell_of, root_cell}
use Rattle.lru_cache.specs.Sound.{prefix_at, hop_at, pointer, child_at, cell_at}

-- ---- nodes

pub data Node (x : ℕ) : Type 0 where
  is_entry : (i : ℕ) → x ≡ entry_node i → Node x
  is_branch : (i : ℕ) → x ≡ branch_node i → Node x

pub node : (x : ℕ) → Node x
node x = go (x % 2) refl
  where
    go : (d : ℕ) → x % 2 ≡ d → Node x
    go zero e = is_entry (x / 2) (omega arith)
    go (suc d) e = is_branch (x / 2) (omega arith)

even : (i : ℕ) → (2 * i % 2 ≡ 0) × (2 * i / 2 ≡ i)
even i = omega arith

odd : (i : ℕ) → ((2 * i + 1) % 2 ≡ 1) × ((2 * i + 1) / 2 ≡ i)
odd i = omega arith

module _ (c : Cache) (i : ℕ) where
  pub prefix_entry : prefix_at c (entry_node i) ≡ c.entry i
  unfolding prefix_at
  prefix_entry = rw ((even i).0, (even i).1)

  pub prefix_branch : prefix_at c (branch_node i) ≡ take (c.branch_length i) (c.entry i)
  unfolding prefix_at
  prefix_branch = rw ((odd i).0, (odd i).1)

  pub hop_entry : hop_at c (entry_node i) ≡ some (c.hop i)
  unfolding hop_at
  hop_entry = rw ((even i).0, (even i).1)

  pub hop_branch : hop_at c (branch_node i) ≡ none
  unfolding hop_at
  hop_branch = rw (odd i).0

  pub child_entry : (b : Bool) → child_at c (Kid (entry_node i) b) ≡ none
  unfolding child_at
  child_entry b = rw (even i).0

  pub child_branch : (b : Bool) → child_at c (Kid (branch_node i) b) ≡ pointer (c.child (cell_of i b))
  unfolding child_at
  child_branch b = rw ((odd i).0, (odd i).1)

-- ---- pointers

pub pointer_some : (x : ℕ) → 0 < x → pointer x ≡ some x
unfolding pointer
pointer_some zero h = absurd (omega arith)
pointer_some (suc x) h = refl

pub some_pointer : (x y : ℕ) → pointer x ≡ some y → (x ≡ y) × (0 < y)
unfolding pointer
some_pointer zero y e = absurd (none-ne-some y e)
some_pointer (suc x) y e = let z : suc x ≡ y = cc in (z, omega arith)

pub pointer_none : pointer 0 ≡ none
unfolding pointer
pointer_none = refl

-- ---- cells

pub cell_root : cell_at root_cell ≡ Root
unfolding cell_at
cell_root = refl

pub cell_suc : (q : ℕ) → 0 < q → cell_at q ≡ Kid (branch_node (q / 2)) (one? (q % 2))
unfolding cell_at
cell_suc zero h = absurd (omega arith)
cell_suc (suc q) h = refl

pub cell_branch : (i : ℕ) (b : Bool) → 0 < i → cell_at (cell_of i b) ≡ Kid (branch_node i) b
cell_branch i b h =
    let s = digit_below b in
    let p : (2 * i + digit b) / 2 ≡ i = omega arith in
    let q : (2 * i + digit b) % 2 ≡ digit b = omega arith in
    cell_suc (cell_of i b) (omega arith) ∙ rw (p, q, bit_digit b)

-- a cell number is the root cell's, or that of a slot and a side
pub cell_split : (q : ℕ) → q ≡ cell_of (q / 2) (one? (q % 2))
cell_split q = let d = digit_one (q % 2) (omega arith) in omega arith

pub child_cell : (c : Cache) (q : ℕ) → child_at c (cell_at q) ≡ pointer (c.child q)
unfolding child_at
child_cell c zero = rw cell_root
child_cell c (suc q) =
    ap (child_at c) (cell_suc (suc q) (omega arith)) ∙ child_branch c (suc q / 2) (one? (suc q % 2)) ∙ ap (λ (k : ℕ). pointer (c.child k)) (sym (cell_split (suc q)))

pub cell_inj : (q r : ℕ) → cell_at q ≡ cell_at r → q ≡ r
unfolding cell_at
cell_inj zero zero e = refl
cell_inj zero (suc r) e = absurd (not_root (sym e))
cell_inj (suc q) zero e = absurd (not_root e)
cell_inj (suc q) (suc r) e =
    let s : 2 * (suc q / 2) + 1 ≡ 2 * (suc r / 2) + 1 = kid_slot e in
    let t : digit (one? (suc q % 2)) ≡ digit (one? (suc r % 2)) = ap digit (kid_side e) in
    omega (arith, cell_split (suc q), cell_split (suc r))

-- ---- what a node and a cell depend on

module _ (c w : Cache) where
  pub prefix_same : (x : ℕ) → w.entry (x / 2) ≡ c.entry (x / 2) → w.branch_length (x / 2) ≡ c.branch_length (x / 2) → prefix_at w x ≡ prefix_at c x
  unfolding prefix_at
  prefix_same x e f = rw (e, f)

  pub hop_same : (x : ℕ) → w.hop (x / 2) ≡ c.hop (x / 2) → hop_at w x ≡ hop_at c x
  unfolding hop_at
  hop_same x e = rw e

  -- a cell in use; slot 0 has no branch
  pub child_same : (live : ℕ → Type 0) → ¬ live (branch_node 0) → (e : Cell) → Inside live e → ((q : ℕ) → e ≡ cell_at q → w.child q ≡ c.child q) → child_at w e ≡ child_at c e
  child_same live n Root i h = rw (← cell_root) (child_cell w root_cell ∙ ap pointer (h root_cell (sym cell_root)) ∙ sym (child_cell c root_cell))
  child_same live n (Kid x b) l h = go (node x)
    where
      go : Node x → child_at w (Kid x b) ≡ child_at c (Kid x b)
      go (is_entry i e) = rw e (child_entry w i b ∙ sym (child_entry c i b))
      go (is_branch zero e) = absurd (n (rw e at l))
      go (is_branch (suc i) e) =
          let z : Kid x b ≡ cell_at (cell_of (suc i) b) = ap (λ (y : ℕ). Kid y b) e ∙ sym (cell_branch (suc i) b (omega arith)) in
          rw z (child_cell w (cell_of (suc i) b) ∙ ap pointer (h (cell_of (suc i) b) z) ∙ sym (child_cell c (cell_of (suc i) b)))
