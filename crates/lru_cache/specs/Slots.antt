-- The cache's slots as values, and each single store. A slot has an entry (a prefix and its hop), its place in the order of use, and a
-- branch, where two parts of the search trie divide: the branch in slot i has as its prefix the first bits of entry i. Slot 0 is the
-- header's own: it holds the root cell, and the order of use begins and ends there. Slot 1 has an entry and no branch, every later one
-- has both. Left out: how the values are packed into words. Assumes nothing.
use Rattle.std.specs.Prelude.{ℕ, ◌+◌, ◌*◌, Bool}
use Rattle.std.proofs.Math.Decide.{ℕ_discrete}
use Rattle.prefix.specs.Bits.{Bits, digit}
use Rattle.trie.specs.Updates.{upd}

pub record Cache : Type 0 where
  -- of a slot: its entry's prefix and hop, and the length of its branch
  pub entry : ℕ → Bits
  pub hop : ℕ → ℕ
  pub branch_length : ℕ → ℕ
  -- the node that a cell points at, 0 for none, and the cell that points at a node
  pub child : ℕ → ℕ
  pub up : ℕ → ℕ
  -- of a slot: the one used next after it, and the one used last before it
  pub prev : ℕ → ℕ
  pub next : ℕ → ℕ

-- the numbers of a slot's two nodes and two cells; the root cell is the left cell of slot 0
abbrev pub entry_node : ℕ → ℕ
entry_node i = 2 * i

abbrev pub branch_node : ℕ → ℕ
branch_node i = 2 * i + 1

abbrev pub cell_of : ℕ → Bool → ℕ
cell_of i side = 2 * i + digit side

abbrev pub root_cell : ℕ
root_cell = 0

-- ---- one value changed (an entry's prefix and hop at once)

unfoldable pub set_entry : Cache → ℕ → Bits → ℕ → Cache
set_entry c i p h = record { entry = upd ℕ_discrete c.entry i p; hop = upd ℕ_discrete c.hop i h; branch_length = c.branch_length; child = c.child; up = c.up; prev = c.prev; next = c.next }

unfoldable pub set_hop : Cache → ℕ → ℕ → Cache
set_hop c i h = record { entry = c.entry; hop = upd ℕ_discrete c.hop i h; branch_length = c.branch_length; child = c.child; up = c.up; prev = c.prev; next = c.next }

unfoldable pub set_branch_length : Cache → ℕ → ℕ → Cache
set_branch_length c i m = record { entry = c.entry; hop = c.hop; branch_length = upd ℕ_discrete c.branch_length i m; child = c.child; up = c.up; prev = c.prev; next = c.next }

unfoldable pub set_child : Cache → ℕ → ℕ → Cache
set_child c cell x = record { entry = c.entry; hop = c.hop; branch_length = c.branch_length; child = upd ℕ_discrete c.child cell x; up = c.up; prev = c.prev; next = c.next }

unfoldable pub set_up : Cache → ℕ → ℕ → Cache
set_up c x cell = record { entry = c.entry; hop = c.hop; branch_length = c.branch_length; child = c.child; up = upd ℕ_discrete c.up x cell; prev = c.prev; next = c.next }

unfoldable pub set_prev : Cache → ℕ → ℕ → Cache
set_prev c i s = record { entry = c.entry; hop = c.hop; branch_length = c.branch_length; child = c.child; up = c.up; prev = upd ℕ_discrete c.prev i s; next = c.next }

unfoldable pub set_next : Cache → ℕ → ℕ → Cache
set_next c i s = record { entry = c.entry; hop = c.hop; branch_length = c.branch_length; child = c.child; up = c.up; prev = c.prev; next = upd ℕ_discrete c.next i s }
