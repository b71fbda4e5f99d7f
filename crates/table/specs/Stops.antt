-- Where the code's descent stops, as the trie's. Assumes nothing.
use Rattle.std.specs.Prelude.{◌≡◌, List, ℕ, suc, ◌≤◌, take}
use Rattle.prefix.specs.Bits.{Bits}
use Rattle.trie.specs.Walk as walk
use Rattle.nodes.specs.Layout.{nodes_of, trie_of, numbered}
use Rattle.table.specs.Tables.{SoundTable}
use Rattle.table.specs.declared.Stop.{Stop}

-- node numbers as slots: 0 is none
abbrev pub stop_of : Stop → walk.Stop
stop_of s = record { last = numbered s.last; beyond = numbered s.beyond; best = numbered s.best; examined = s.examined }

-- on any store the nodes are ones in use, or none; on a sound one the place is the trie's, for the first n bits of an address X
pub record Stopped (w : List ℕ) (X : Bits) (n : ℕ) (s : Stop) : Type 0 where
  pub last_in : s.last ≤ nodes_of w
  pub beyond_in : s.beyond ≤ nodes_of w
  pub best_in : s.best ≤ nodes_of w
  pub few : s.examined ≤ suc n
  pub place : SoundTable w → stop_of s ≡ walk.descent (trie_of w) (take n X)
