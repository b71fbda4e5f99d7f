-- Which pairs of stores are sound: "Soundness of a cache is against its table." docs/SOUND.md says it in prose. Assumes nothing.
use Rattle.std.specs.Prelude.{Bool, true, ◌≡◌, ◌↔◌, List, ℕ}
use Rattle.model.specs.Lists.{◌∈◌}
use Rattle.model.specs.Model.{Entry, Limits}
use Rattle.model.specs.Demands.{Covered}
use Rattle.sizes.specs.BothStores.{limit_of}
use Rattle.table.specs.Tables.{routes, SoundTable}
use Rattle.entries.specs.Caches.{entries, SoundEntries}

-- entries "that don't overlap, have a covering route, hold no route strictly inside and carry their match's hop": that they do not
-- overlap follows from the cache's own structure
pub record SoundPair (table cache : List ℕ) : Type 0 where
  pub its_table : SoundTable table
  pub its_cache : SoundEntries cache
  pub covered : (E : Entry) → E ∈ entries cache → Covered (routes table) E

-- "Both limits are .. fixed at set-up"; an address is 32 bits
abbrev pub limits_of : List ℕ → List ℕ → Limits
limits_of table cache = record { width = 32; routes = limit_of table; entries = limit_of cache }

-- "The check of soundness answers yes or no and writes nothing."
abbrev pub PairChecked : List ℕ → List ℕ → Bool → Type 0
PairChecked table cache r = (r ≡ true) ↔ SoundPair table cache
