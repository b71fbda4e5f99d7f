-- What the pass over the cache's entries promises, turn by turn. Assumes nothing.
use Rattle.std.specs.Prelude.{◌≡◌, Bool, true, false, ◌&&◌, List, ℕ, ◌+◌, ◌-◌, ◌≤◌, ◌<◌, length, take}
use Rattle.prefix.specs.Prefix.{overlap, same}
use Rattle.prefix.specs.Addresses.{ipv4_bits}
use Rattle.sizes.specs.Sizes.{largest_limit}
use Rattle.model.specs.Lists.{◌∈◌}
use Rattle.model.specs.Routes as model
use Rattle.model.specs.Model.{Entry, highest_hop, withdraws, leaves, fresh, refreshed, removed, changed}
use Rattle.slots.specs.Layout.{entries_held, Shaped}
use Rattle.table.specs.Tables.{routes, SoundTable}
use Rattle.entries.specs.Caches.{entries, SoundEntries, Slot, entry_in, Kept}
use Rattle.updates.specs.Updates.{action_of, prefix_of_update, update_of}
use Rattle.updates.specs.declared.Prefix.{Prefix}
use Rattle.updates.specs.declared.Update.{Update}
use Rattle.renewal.specs.declared.Pass.{Pass}

-- ---- on any store

-- the pass stands at one of the slots in use, or before the first; its counts stay small
pub record Within (w : List ℕ) (p : Pass) : Type 0 where
  pub shaped : Shaped w
  pub count : p.entries ≡ entries_held w
  pub at_most : p.at ≤ p.entries
  pub few_removed : p.removed + p.entries ≤ largest_limit
  pub few_changed : p.changed + p.at ≤ largest_limit

-- the slot in hand is done
abbrev pub next_pass : Pass → ℕ → Pass
next_pass p changed = record { at = p.at - 1; entries = p.entries; removed = p.removed; changed = p.changed + changed }

-- one turn
pub record Stepped (w w' : List ℕ) (p q : Pass) : Type 0 where
  pub within : Within w' q
  pub kept : Kept w w' q.entries
  pub less : q.at + q.entries < p.at + p.entries

-- ---- on sound entries, with a table and the update that made it

-- an entry that the pass leaves alone
pub record Right (T : model.Table) (u : model.Update) (E : Entry) : Type 0 where
  pub stays : leaves T u E ≡ false
  pub its_hop : E.hop ≡ (fresh T E).hop

abbrev pub RightAbove : model.Table → model.Update → List ℕ → ℕ → Type 0
RightAbove T u w at = (s : ℕ) → Slot w s → at < s → Right T u (entry_in w s)

-- entries that do not overlap the updated prefix: the pass need not ask the table about them
abbrev pub RightApart : model.Table → model.Update → List ℕ → Type 0
RightApart T u w = (E : Entry) → E ∈ entries w → overlap E.prefix u.prefix ≡ false → Right T u E

-- what is left to do leads to the same cache and the same counts; the slots after `at` are done
pub record Turned (T : model.Table) (u : model.Update) (w w' : List ℕ) (p q : Pass) : Type 0 where
  pub sound : SoundEntries w'
  pub same_cache : refreshed T u (entries w') ≡ refreshed T u (entries w)
  pub same_removed : q.removed + removed T u (entries w') ≡ p.removed + removed T u (entries w)
  pub same_changed : q.changed + changed T u (entries w') ≡ p.changed + changed T u (entries w)
  pub done : RightAbove T u w p.at → RightAbove T u w' q.at
  pub apart : RightApart T u w → RightApart T u w'

-- the entry in hand leaves
abbrev pub Drops : List ℕ → List ℕ → Pass → Pass → Type 0
Drops w w' p q = (T : model.Table) (u : model.Update) → SoundEntries w → leaves T u (entry_in w p.at) ≡ true → Turned T u w w' p q

-- it stays, with this hop
abbrev pub Keeps : List ℕ → List ℕ → Pass → ℕ → Pass → Type 0
Keeps w w' p hop q = (T : model.Table) (u : model.Update) → SoundEntries w → leaves T u (entry_in w p.at) ≡ false
    → (fresh T (entry_in w p.at)).hop ≡ hop → hop ≤ highest_hop → Turned T u w w' p q

-- a table and a cache that are sound, each in itself, and an update that was not too long and left the other entries right
pub record Ready (table w : List ℕ) (u : Update) : Type 0 where
  pub its_table : SoundTable table
  pub its_entries : SoundEntries w
  pub short : u.prefix.length ≤ 32
  pub apart : RightApart (routes table) (update_of u) w

abbrev pub Turns : List ℕ → List ℕ → List ℕ → Update → Pass → Pass → Type 0
Turns table w w' u p q = Ready table w u → Turned (routes table) (update_of u) w w' p q

-- the prefix of an entry overlaps p
abbrev pub Touches : Prefix → Prefix → Bool → Type 0
Touches p held r = held.length ≤ 32 → p.length ≤ 32 → r ≡ overlap (take held.length (ipv4_bits held.address)) (take p.length (ipv4_bits p.address))

-- the prefix of an entry is p
abbrev pub Alike : Prefix → Prefix → Bool → Type 0
Alike p held r = held.length ≤ 32 → p.length ≤ 32 → r ≡ same (take p.length (ipv4_bits p.address)) (take held.length (ipv4_bits held.address))

-- it was "just withdrawn"
abbrev pub Withdrawn : Update → Prefix → Bool → Type 0
Withdrawn u held r = held.length ≤ 32 → u.prefix.length ≤ 32 → r ≡ (withdraws (action_of u.action) && same (prefix_of_update u) (take held.length (ipv4_bits held.address)))

-- ---- the whole pass

abbrev pub start_pass : ℕ → Pass
start_pass entries = record { at = entries; entries = entries; removed = 0; changed = 0 }

-- the pass has come so far
pub record Going (table w w' : List ℕ) (u : Update) (p : Pass) : Type 0 where
  pub within : Within w' p
  pub kept : Kept w w' p.entries
  pub size : length w' ≡ length w
  pub turned : Ready table w u → Turned (routes table) (update_of u) w w' (start_pass (entries_held w)) p

pub record Renewed (T : model.Table) (u : model.Update) (w w' : List ℕ) (r : Pass) : Type 0 where
  pub sound : SoundEntries w'
  pub are_entries : entries w' ≡ refreshed T u (entries w)
  pub is_removed : r.removed ≡ removed T u (entries w)
  pub is_changed : r.changed ≡ changed T u (entries w)

pub record Passed (table w w' : List ℕ) (u : Update) (r : Pass) : Type 0 where
  pub kept : Kept w w' r.entries
  pub renewed : Ready table w u → Renewed (routes table) (update_of u) w w' r
