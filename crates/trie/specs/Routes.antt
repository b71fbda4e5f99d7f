-- The routes that a trie with m live slots holds, as the model's table: slot by slot. Assumes nothing.
use Rattle.std.specs.Prelude.{[], ◌∷◌, ℕ, zero, suc}
use Rattle.std.proofs.Math.Option.{Option, none, some}
use Rattle.prefix.specs.Bits.{Bits}
use Rattle.model.specs.Routes.{Table}
use Rattle.trie.specs.Trie.{Trie}

unfoldable pub and_route : Bits → Option ℕ → Table → Table
and_route p none table = table
and_route p (some h) table = record { prefix = p; hop = h } ∷ table

unfoldable pub routes_of : Trie → ℕ → Table
routes_of v zero = []
routes_of v (suc m) = and_route (v.prefix m) (v.hop m) (routes_of v m)
