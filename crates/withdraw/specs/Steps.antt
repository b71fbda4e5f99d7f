-- What the steps of a withdrawal promise to each other. Assumes nothing.
use Rattle.std.specs.Prelude.{◌≡◌, List, ℕ, ◌-◌, ◌<◌, take, Result, Ok}
use Rattle.prefix.specs.declared.Address.{Address}
use Rattle.model.specs.Routes as model
use Rattle.sizes.specs.BothStores.{slot_word, word}
use Rattle.nodes.specs.Layout.{trie_of}
use Rattle.nodes.specs.declared.Header.{Header}
use Rattle.prefix.specs.Addresses.{ipv4_bits}
use Rattle.table.specs.Tables.{SoundTable}
use Rattle.verdicts.specs.Verdicts.{Late, TableAfter, NodeAt}
use Rattle.verdicts.specs.declared.UpdateError.{UpdateError}

abbrev pub withdrawal : Address → ℕ → model.Update
withdrawal a n = record { prefix = take n (ipv4_bits a); action = model.withdraw }

-- of the prefix of node p
abbrev pub withdrawal_at : List ℕ → ℕ → model.Update
withdrawal_at w p = record { prefix = (trie_of w).prefix (p - 1); action = model.withdraw }

-- node p is in use, and a route
pub record RouteAt (w : List ℕ) (h : Header) (p : ℕ) : Type 0 where
  pub node : NodeAt w h p
  pub some_route : 0 < h.routes
  pub is_route : ¬ (word w (slot_word p 2) ≡ 0)

-- the route at node p is gone
pub record Gone (w w' : List ℕ) (p : ℕ) (r : Result (Unit {0}) UpdateError) : Type 0 where
  pub late : Late r
  pub done : SoundTable w → r ≡ Ok tt
  pub after : SoundTable w → TableAfter w w' (withdrawal_at w p)
