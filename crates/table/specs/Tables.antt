-- Which words are a sound table store, and the routes that they hold. docs/SOUND.md says it in prose. Assumes nothing.
use Rattle.std.specs.Prelude.{◌≡◌, Bool, true, ◌↔◌, List, [], ℕ, ◌<◌, length, Result}
use Rattle.std.proofs.Math.Option.{some}
use Rattle.sizes.specs.Sizes.{table_need}
use Rattle.sizes.specs.BothStores.{SetUp, Fresh}
use Rattle.sizes.specs.declared.SetupError.{SetupError}
use Rattle.model.specs.Routes.{Table}
use Rattle.model.specs.Demands.{Hop}
use Rattle.trie.specs.Trie.{Sound, Branchy, Dense}
use Rattle.trie.specs.Routes.{routes_of}
use Rattle.nodes.specs.Layout.{nodes_of, route_count, trie_of, Shaped, Plain}

-- the routes of a store, node by node
unfoldable pub routes : List ℕ → Table
routes w = routes_of (trie_of w) (nodes_of w)

pub record SoundTable (w : List ℕ) : Type 0 where
  -- the limit is legal, the store has the words that it needs, and no more nodes and routes are in use than fit
  pub shaped : Shaped w
  -- no length above 32, and no node in the cell 1, which there is not
  pub plain : Plain w (nodes_of w)
  -- each cell points at a node that points back and goes on from the cell's own prefix, and each node has such a cell
  pub trie : Sound (Dense (nodes_of w)) (trie_of w)
  -- a node that is no route has two nodes below it
  pub branches : Branchy (Dense (nodes_of w)) (trie_of w)
  -- every hop is 1 to 65,535
  pub hops : (k h : ℕ) → k < nodes_of w → (trie_of w).hop k ≡ some h → Hop h
  -- the count of routes is right
  pub counted : route_count w ≡ length (routes w)

-- ---- what set-up promises: "Set-up checks 8, then 7." "Set-up never reads old contents", and never changes words past the need

abbrev pub EmptyTable : List ℕ → Type 0
EmptyTable w = SoundTable w × (routes w ≡ [])

abbrev pub TableSetUp : List ℕ → List ℕ → ℕ → Result (Unit {0}) SetupError → Type 0
TableSetUp = SetUp table_need (Fresh table_need EmptyTable)

-- ---- what the check promises: "answers yes or no and writes nothing"

abbrev pub TableChecked : List ℕ → Bool → Type 0
TableChecked w r = (r ≡ true) ↔ SoundTable w
