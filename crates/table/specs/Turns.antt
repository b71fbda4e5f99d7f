-- What the descent's loop keeps, and what one turn of it answers. Assumes nothing.
use Rattle.std.specs.Prelude.{◌≡◌, Bool, List, ℕ, suc, ◌-◌, ◌≤◌, take}
use Rattle.prefix.specs.Bits.{Bits}
use Rattle.prefix.specs.Prefix.{contains}
use Rattle.trie.specs.Trie.{Dense}
use Rattle.trie.specs.Walk.{Walking, better}
use Rattle.sizes.specs.BothStores.{slot_word, word}
use Rattle.nodes.specs.Layout.{nodes_of, trie_of, numbered}
use Rattle.table.specs.Tables.{SoundTable}
use Rattle.table.specs.Stops.{Stopped}
use Rattle.table.specs.declared.Stop.{Stop}
use Rattle.table.specs.declared.Walk.{Walk}
use Rattle.std.specs.declared.ops.ControlFlow.{ControlFlow}
use Rattle.std.specs.declared.ops.ControlFlow.TheVariants.{Continue, Break}

-- on any store the nodes are ones in use, or none, and few were examined; on a sound one the trie's descent goes on from there
pub record Going (w : List ℕ) (X : Bits) (n : ℕ) (k : Walk) : Type 0 where
  pub last_in : k.last ≤ nodes_of w
  pub best_in : k.best ≤ nodes_of w
  pub few : k.examined ≤ suc n
  pub way : SoundTable w → Walking (Dense (nodes_of w)) (trie_of w) (take n X) (numbered k.at) (numbered k.last) (numbered k.best) k.examined

-- whether node p contains the first n bits of X: on a store with a length above 32 the answer is open
pub record Tested (w : List ℕ) (X : Bits) (n p : ℕ) (r : Bool) : Type 0 where
  pub answer : word w (slot_word p 1) ≤ 32 → r ≡ contains ((trie_of w).prefix (p - 1)) (take n X)

-- node p where it is a route, else the best before it
pub record Chosen (w : List ℕ) (p best r : ℕ) : Type 0 where
  pub among : (m : ℕ) → p ≤ m → best ≤ m → r ≤ m
  pub route : numbered r ≡ better ((trie_of w).hop (p - 1)) (p - 1) (numbered best)

-- one more node was examined, and the descent goes on
pub record Onward (w : List ℕ) (X : Bits) (n : ℕ) (k next : Walk) : Type 0 where
  pub going : Going w X n next
  pub one_more : next.examined ≡ suc k.examined

-- it goes on, or it is over
unfoldable pub Turned : List ℕ → Bits → ℕ → Walk → ControlFlow Stop Walk → Type 0
Turned w X n k (Continue next) = Onward w X n k next
Turned w X n k (Break stop) = Stopped w X n stop

-- there is no node in hand
abbrev pub off_of : Walk → Stop
off_of k = record { last = k.last; beyond = 0; best = k.best; examined = k.examined }
