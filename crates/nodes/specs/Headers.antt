-- Which headers fit their store, and what set-up leaves of it. Assumes nothing.
use Rattle.std.specs.Prelude.{◌≡◌, List, ℕ, Result, Ok, Err}
use Rattle.sizes.specs.BothStores.{limit_of}
use Rattle.sizes.specs.declared.refusal.Unsound.{Unsound}
use Rattle.nodes.specs.Layout.{nodes_of, route_count, Shaped}
use Rattle.nodes.specs.Stores.{emptied}
use Rattle.nodes.specs.declared.Header.{Header}

-- the answer is the header exactly where it fits
abbrev pub HeaderRead : List ℕ → Result Header Unsound → Type 0
HeaderRead w (Ok h) = Shaped w × (h.limit ≡ limit_of w) × (h.nodes ≡ nodes_of w) × (h.routes ≡ route_count w)
HeaderRead w (Err e) = ¬ (Shaped w)

-- what set-up makes of the store
abbrev pub Emptied : List ℕ → List ℕ → ℕ → Type 0
Emptied w w' limit = w' ≡ emptied w limit
