-- Set-up leaves a sound cache of no entries. Assumes nothing.
use mathlib.Core.Path.{◌≡◌}
use mathlib.Core.List.{List}
use Prim.Native.Nat.{ℕ, ◌≤◌}
use native.Mathlib.Omega.{arith}
use lib.ListN.{length}
use Rattle.sizes.specs.Sizes.{LegalLimit, cache_need}
use Rattle.std.specs.Prelude.{Result}
use Rattle.sizes.specs.declared.SetupError.{SetupError}
use Rattle.sizes.specs.BothStores.{Room, SetUp, Fresh}
use Rattle.sizes.proofs.SetUpLaws.{set_up_makes}
use Rattle.slots.specs.Layout.{entries_held}
use Rattle.slots.specs.Stores.{emptied}
use Rattle.slots.specs.Headers.{Emptied}
use Rattle.slots.proofs.KeptLaws.{plain_none}
use Rattle.slots.proofs.Emptied.{emptied_limit, emptied_entries, emptied_past, emptied_shaped, emptied_sound}
use Rattle.entries.proofs.EntryLaws.{none_held}
use Rattle.cache.specs.Calls.{EmptyCache, CacheSetUp}

fresh : (w : List ℕ) (limit : ℕ) → LegalLimit limit → cache_need limit ≤ length w → Fresh cache_need EmptyCache w (emptied w limit) limit
fresh w limit legal enough =
    let room : Room w 0 = omega arith in
    let none : entries_held (emptied w limit) ≡ 0 = emptied_entries w limit room in
    record {
      is_empty = record {
        sound = record { shaped = emptied_shaped w limit room legal enough; plain = rw none (plain_none _); slots = rw none (emptied_sound w limit room) };
        are_entries = none_held (emptied w limit) none;
      };
      its_limit = emptied_limit w limit room;
      past_kept = emptied_past w limit room limit;
    }

pub cache_set_up : (w w' : List ℕ) (limit : ℕ) (r : Result (Unit {0}) SetupError) → SetUp cache_need Emptied w w' limit r → CacheSetUp w w' limit r
cache_set_up w w' limit r = set_up_makes cache_need Emptied (Fresh cache_need EmptyCache) w w' limit r (λ legal enough e. rw e (fresh w limit legal enough))
