-- A path-compressed trie in numbered slots. Each node holds a prefix; a node that is a route holds its hop, and any other, a branch,
-- stands where two parts of the trie divide. A cell is a place that can point at a node: the root cell, or one of the two in each
-- node, for the prefixes that go on with a 0 and with a 1. Each node knows its cell. There is no tree in the definition: a trie is
-- sound by facts of one slot each, and the rest follows from them. Which slots are live is a parameter. Assumes nothing.
use Rattle.std.specs.Prelude.{◌≡◌, Bool, ◌⊎◌, ℕ, ◌<◌}
use Rattle.std.proofs.Math.Option.{Option, none, some}
use Rattle.prefix.specs.Bits.{Bits}
use Rattle.prefix.specs.Prefix.{Below}

-- a cell that can point at a node: the root cell, and two in each node
pub data Cell : Type 0 where
  Root : Cell
  Kid : ℕ → Bool → Cell
  deriving Discrete as Cell-discrete

pub record Trie : Type 0 where
  pub prefix : ℕ → Bits
  pub hop : ℕ → Option ℕ
  pub child : Cell → Option ℕ
  pub up : ℕ → Cell

-- a cell that is in use: the root cell, or one of a live slot
abbrev pub Inside : (ℕ → Type 0) → Cell → Type 0
Inside live Root = Unit {0}
Inside live (Kid i b) = live i

-- what the cell asks of the prefix of the node that it points at
abbrev pub Fits : Trie → Cell → Bits → Type 0
Fits v Root p = Unit {0}
Fits v (Kid i b) p = Below (v.prefix i) b p

-- the cell c points at j as it should
pub record Points (live : ℕ → Type 0) (v : Trie) (c : Cell) (j : ℕ) : Type 0 where
  pub is_live : live j
  pub back : v.up j ≡ c
  pub fits : Fits v c (v.prefix j)

-- j's up names a cell in use that points at j
pub record Owned (live : ℕ → Type 0) (v : Trie) (j : ℕ) : Type 0 where
  pub inside : Inside live (v.up j)
  pub child : v.child (v.up j) ≡ some j

-- the pointers are sound: local conditions on the live slots
pub record Sound (live : ℕ → Type 0) (v : Trie) : Type 0 where
  pub points : (c : Cell) (j : ℕ) → Inside live c → v.child c ≡ some j → Points live v c j
  pub owned : (j : ℕ) → live j → Owned live v j

-- a node that is no route has two children
abbrev pub Branchy : (ℕ → Type 0) → Trie → Type 0
Branchy live v = (i : ℕ) → live i → v.hop i ≡ none → (b : Bool) → (j : ℕ) × (v.child (Kid i b) ≡ some j)

-- the live slots of a table with m nodes
abbrev pub Dense : ℕ → ℕ → Type 0
Dense m a = a < m

-- ---- what a trie holds, and what an update makes of it

-- a route that is held
pub record Held (live : ℕ → Type 0) (v : Trie) (p : Bits) (h : ℕ) : Type 0 where
  pub slot : ℕ
  pub is_live : live slot
  pub is_prefix : v.prefix slot ≡ p
  pub is_hop : v.hop slot ≡ some h

-- w holds P → H, and else what v holds
pub record Put (live live' : ℕ → Type 0) (v w : Trie) (P : Bits) (H : ℕ) : Type 0 where
  pub sound : Sound live' w
  pub branchy : Branchy live' w
  pub new : Held live' w P H
  pub keep : {p : Bits} {h : ℕ} → Held live v p h → ¬ (p ≡ P) → Held live' w p h
  pub inv : {p : Bits} {h : ℕ} → Held live' w p h → ((p ≡ P) × (h ≡ H)) ⊎ (Held live v p h × (¬ (p ≡ P)))

-- w holds what v holds, less the route of P
pub record Removed (live live' : ℕ → Type 0) (v w : Trie) (P : Bits) : Type 0 where
  pub sound : Sound live' w
  pub branchy : Branchy live' w
  pub keep : {p : Bits} {h : ℕ} → Held live v p h → ¬ (p ≡ P) → Held live' w p h
  pub inv : {p : Bits} {h : ℕ} → Held live' w p h → Held live v p h × (¬ (p ≡ P))
