-- Which headers fit their store, and what set-up leaves. Assumes nothing.
use Rattle.std.specs.Prelude.{◌≡◌, List, ℕ, Result, Ok, Err}
use Rattle.sizes.specs.BothStores.{limit_of}
use Rattle.sizes.specs.declared.refusal.Unsound.{Unsound}
use Rattle.slots.specs.Layout.{entries_held, Shaped}
use Rattle.slots.specs.Stores.{emptied}
use Rattle.slots.specs.declared.Header.{Header}

-- the answer is the header exactly where it fits
abbrev pub HeaderRead : List ℕ → Result Header Unsound → Type 0
HeaderRead w (Ok h) = Shaped w × (h.limit ≡ limit_of w) × (h.entries ≡ entries_held w)
HeaderRead w (Err e) = ¬ (Shaped w)

-- what set-up makes of the store
abbrev pub Emptied : List ℕ → List ℕ → ℕ → Type 0
Emptied w w' limit = w' ≡ emptied w limit
