-- Which slots make a sound cache of n entries, and the entries that it holds, the most recently used first. Soundness is said of one
-- slot at a time, but for the ring of use, which is said of a walk along it. Assumes nothing.
use Rattle.std.specs.Prelude.{◌≡◌, true, cond, List, [], ◌∷◌, map, ◌⊎◌, ℕ, zero, suc, ◌/◌, ◌%◌, ◌≤◌, ◌<◌, take}
use Rattle.std.proofs.Math.Option.{Option, none, some}
use Rattle.prefix.specs.Bits.{Bits, one?}
use Rattle.model.specs.Model.{Entry}
use Rattle.trie.specs.Trie.{Cell, Root, Kid, Trie, Sound, Branchy}
use Rattle.lru_cache.specs.Slots.{Cache, branch_node, cell_of, root_cell}

-- ---- the trie of the slots

-- the prefix of a node: entries are even, branches odd
unfoldable pub prefix_at : Cache → ℕ → Bits
prefix_at c x = cond (one? (x % 2)) (take (c.branch_length (x / 2)) (c.entry (x / 2))) (c.entry (x / 2))

-- a branch has no hop
unfoldable pub hop_at : Cache → ℕ → Option ℕ
hop_at c x = cond (one? (x % 2)) none (some (c.hop (x / 2)))

-- 0 points at nothing
unfoldable pub pointer : ℕ → Option ℕ
pointer zero = none
pointer (suc x) = some (suc x)

-- an entry has no cells
unfoldable pub child_at : Cache → Cell → Option ℕ
child_at c Root = pointer (c.child root_cell)
child_at c (Kid x side) = cond (one? (x % 2)) (pointer (c.child (cell_of (x / 2) side))) none

-- the cell of a number
unfoldable pub cell_at : ℕ → Cell
cell_at zero = Root
cell_at (suc q) = Kid (branch_node (suc q / 2)) (one? (suc q % 2))

-- the entries are its routes
abbrev pub trie : Cache → Trie
trie c = record { prefix = prefix_at c; hop = hop_at c; child = child_at c; up = λ x. cell_at (c.up x) }

-- the slots of n entries
abbrev pub Slot : ℕ → ℕ → Type 0
Slot n i = (0 < i) × (i ≤ n)

-- their nodes: an entry in each of the slots 1 to n, and a branch in each but slot 1
abbrev pub Live : ℕ → ℕ → Type 0
Live n x = (1 < x) × (x ≤ branch_node n) × (¬ (x ≡ branch_node 1))

-- their cells: the root cell, and two for each branch
abbrev pub InUse : ℕ → ℕ → Type 0
InUse n q = (q ≡ root_cell) ⊎ ((cell_of 1 true < q) × (q ≤ cell_of n true))

-- ---- the ring of use

-- the slot that is k places along from slot a
unfoldable pub along : Cache → ℕ → ℕ → ℕ
along c a zero = a
along c a (suc k) = c.next (along c a k)

-- `next` leads from slot 0 through n others and then back to it, and `prev` undoes each step
pub record Ring (n : ℕ) (c : Cache) : Type 0 where
  pub within : (k : ℕ) → k ≤ n → along c 0 (suc k) ≤ n
  pub undone : (k : ℕ) → k ≤ n → c.prev (along c 0 (suc k)) ≡ along c 0 k
  pub others : (k : ℕ) → Slot n k → ¬ (along c 0 k ≡ 0)
  pub back : along c 0 (suc n) ≡ 0

-- a sound cache of n entries
pub record SoundCache (n : ℕ) (c : Cache) : Type 0 where
  -- what a cell in use points at is live, knows the cell and goes on from it; and each live node hangs in such a cell
  pub pointers : Sound (Live n) (trie c)
  -- a branch has two children
  pub branchy : Branchy (Live n) (trie c)
  pub ring : Ring n c

-- ---- the entries

-- the entry in a slot
abbrev pub entry_of : Cache → ℕ → Entry
entry_of c i = record { prefix = c.entry i; hop = c.hop i }

-- n slots along from slot a
unfoldable pub stretch : Cache → ℕ → ℕ → List ℕ
stretch c a zero = []
stretch c a (suc n) = c.next a ∷ stretch c (c.next a) n

-- the slots in the order of use, the most recently used first
unfoldable pub order : ℕ → Cache → List ℕ
order n c = stretch c 0 n

-- the entries in that order
unfoldable pub entries : ℕ → Cache → List Entry
entries n c = map (entry_of c) (order n c)
