-- What the steps of an announcement promise to each other. Assumes nothing.
use Rattle.std.specs.Prelude.{◌≡◌, false, List, ℕ, ◌-◌, ◌/◌, ◌≤◌, take, Ok}
use Rattle.std.proofs.Math.Option.{some}
use Rattle.prefix.specs.declared.Address.{Address}
use Rattle.prefix.specs.Bits.{Bits, bits}
use Rattle.prefix.specs.Prefix.{contains, common}
use Rattle.prefix.specs.Addresses.{address_bits, ipv4_bits}
use Rattle.model.specs.Routes as model
use Rattle.model.specs.Demands.{Hop}
use Rattle.trie.specs.Trie.{Inside, Fits, Dense}
use Rattle.sizes.specs.BothStores.{slot_word, word}
use Rattle.nodes.specs.Layout.{nodes_of, numbered, cell_of, trie_of}
use Rattle.nodes.specs.Headers.{HeaderRead}
use Rattle.nodes.specs.declared.Header.{Header}
use Rattle.table.specs.Tables.{routes, SoundTable}
use Rattle.table.specs.Stops.{Stopped}
use Rattle.table.specs.declared.Stop.{Stop}
use Rattle.announce.specs.declared.Route.{Route}
use Rattle.announce.specs.declared.Newcomer.{Newcomer}

abbrev pub announcement : Address → ℕ → ℕ → model.Update
announcement a n hop = record { prefix = take n (ipv4_bits a); action = model.announce hop }

abbrev pub announcement_of : Route → model.Update
announcement_of r = announcement r.prefix.address r.prefix.length r.hop

-- of the prefix of node p
abbrev pub announcement_at : List ℕ → ℕ → ℕ → model.Update
announcement_at w p hop = record { prefix = (trie_of w).prefix (p - 1); action = model.announce hop }

-- ---- where it belongs

-- an announcement, after the descent for its prefix
pub record Sought (w : List ℕ) (h : Header) (stop : Stop) (r : Route) : Type 0 where
  pub header : HeaderRead w (Ok h)
  pub short : r.prefix.length ≤ 32
  pub its_hop : Hop r.hop
  pub stopped : Stopped w (ipv4_bits r.prefix.address) r.prefix.length stop

-- a prefix that no node has belongs in the cell, where node p hangs, or none
pub record Belongs (w : List ℕ) (P : Bits) (cell p : ℕ) : Type 0 where
  pub is_cell : ¬ (cell ≡ 1)
  pub inside : Inside (Dense (nodes_of w)) (cell_of cell)
  pub fits : Fits (trie_of w) (cell_of cell) P
  pub child : (trie_of w).child (cell_of cell) ≡ numbered p
  pub parts : (j : ℕ) → numbered p ≡ some j → contains ((trie_of w).prefix j) P ≡ false
  pub new : model.held (routes w) P ≡ false

-- an announcement that is to be added so
pub record Adds (w : List ℕ) (h : Header) (cell p : ℕ) (a : Address) (n hop : ℕ) : Type 0 where
  pub header : HeaderRead w (Ok h)
  pub node_in_use : p ≤ h.nodes
  pub cell_in_use : cell / 2 ≤ h.nodes
  pub short : n ≤ 32
  pub its_hop : Hop hop
  pub belongs : SoundTable w → Belongs w (take n (ipv4_bits a)) cell p

abbrev pub Comes : List ℕ → Newcomer → Type 0
Comes w x = Adds w x.header x.cell x.below x.route.prefix.address x.route.prefix.length x.route.hop

-- there is the address of node p, and agreed the bits in which a agrees with its prefix
pub record Meets (w : List ℕ) (p : ℕ) (a there : Address) (agreed : ℕ) : Type 0 where
  pub own_short : word w (slot_word p 1) ≤ 32
  pub is_there : take 32 (address_bits there) ≡ bits 32 (word w (slot_word p 0))
  pub is_agreed : agreed ≡ common (address_bits a) (take (word w (slot_word p 1)) (address_bits there))
