-- What the calls on a cache store promise, on any words: what each answers, exactly when a change is refused, and that a refusal
-- leaves every word. What a change makes of the entries is said of a sound store. Assumes nothing.
use Rattle.std.specs.Prelude.{◌≡◌, Bool, true, ◌↔◌, List, [], ◌∷◌, ℕ, suc, ◌-◌, ◌≤◌, ◌<◌, take, Option, Some, None, Result, Ok, Err}
use Rattle.prefix.specs.Bits.{Bits}
use Rattle.sizes.specs.Sizes.{cache_need}
use Rattle.sizes.specs.BothStores.{limit_of, SetUp, Fresh}
use Rattle.sizes.specs.declared.SetupError.{SetupError}
use Rattle.sizes.specs.declared.refusal.Unsound.{Unsound}
use Rattle.model.specs.Demands.{Hop}
use Rattle.slots.specs.Layout.{entries_held, Shaped}
use Rattle.entries.specs.Caches.{entries, Slot, entry_in, others_in, Free, SoundEntries, Kept, Holds, Removes, Rehops, NearestTo, Oldest}
use Rattle.cache.specs.declared.FindError.{FindError}
use Rattle.cache.specs.declared.Refused.{Refused}

-- "a cache set up again is empty"
abbrev pub EmptyCache : List ℕ → Type 0
EmptyCache w = Holds w []

abbrev pub CacheSetUp : List ℕ → List ℕ → ℕ → Result (Unit {0}) SetupError → Type 0
CacheSetUp = SetUp cache_need (Fresh cache_need EmptyCache)

abbrev pub EntriesChecked : List ℕ → Bool → Type 0
EntriesChecked w r = (r ≡ true) ↔ SoundEntries w

-- ---- what is found

-- the entry that contains the address X; where none does, one more than the largest Common of X with any entry
abbrev pub Finds : List ℕ → Bits → Result ℕ FindError → Type 0
Finds w X (Ok k) = Shaped w × NearestTo w X (Ok k)
Finds w X (Err (FindError.Nothing past)) = Shaped w × NearestTo w X (Err (record { past = past }))
Finds w X (Err FindError.Unsound) = ¬ (Shaped w)

-- the header fits, and slot k is one of those that it counts
abbrev pub Held : List ℕ → ℕ → Type 0
Held w k = Shaped w × Slot w k

-- the least recently used entry, where there is one
abbrev pub OldestIs : List ℕ → Result (Option ℕ) Unsound → Type 0
OldestIs w (Ok (Some k)) = Held w k × (SoundEntries w → Oldest w k)
OldestIs w (Ok None) = Shaped w × (entries_held w ≡ 0)
OldestIs w (Err e) = ¬ (SoundEntries w)

abbrev pub Placed : List ℕ → ℕ → Result ℕ Refused → Type 0
Placed w k (Ok held) = Held w k × (held ≡ entries_held w)
Placed w k (Err e) = ¬ (Held w k)

-- ---- what is changed

-- the change is made exactly where it may be; a refusal leaves every word
abbrev pub Changes : Type 0 → Type 0 → List ℕ → List ℕ → Result (Unit {0}) Refused → Type 0
Changes may does w w' (Ok x) = may × does
Changes may does w w' (Err e) = (¬ may) × (w' ≡ w)

-- the entry of slot k comes first, and the others keep their order
abbrev pub Touched : List ℕ → List ℕ → ℕ → Result (Unit {0}) Refused → Type 0
Touched w w' k = Changes (Held w k) (Kept w w' (entries_held w) × (SoundEntries w → Holds w' (entry_in w k ∷ others_in w k))) w w'

-- a prefix that overlaps no entry comes first, and the others follow as they were
abbrev pub MayInsert : List ℕ → ℕ → ℕ → Type 0
MayInsert w n hop = Shaped w × (entries_held w < limit_of w) × (n ≤ 32) × Hop hop

abbrev pub Inserted : List ℕ → List ℕ → Bits → ℕ → ℕ → Result (Unit {0}) Refused → Type 0
Inserted w w' X n hop =
    Changes (MayInsert w n hop) (Kept w w' (suc (entries_held w)) × (SoundEntries w → Free w (take n X) → Holds w' (record { prefix = take n X; hop = hop } ∷ entries w))) w w'

-- the entry of slot k goes, and the others keep their order
abbrev pub Removed : List ℕ → List ℕ → ℕ → Result (Unit {0}) Refused → Type 0
Removed w w' k = Changes (Held w k) (Kept w w' (entries_held w - 1) × (SoundEntries w → Removes w w' k)) w w'

-- the entry of slot k takes the hop, and nothing else changes
abbrev pub HopGiven : List ℕ → List ℕ → ℕ → ℕ → Result (Unit {0}) Refused → Type 0
HopGiven w w' k hop = Changes (Held w k × Hop hop) (Kept w w' (entries_held w) × (SoundEntries w → Rehops w w' k hop)) w w'
