-- Which words are a cache store that is sound in itself, the entries that they hold, and what the calls on it promise. Assumes nothing.
use Rattle.std.specs.Prelude.{◌≡◌, true, false, cond, List, [], ◌∷◌, ◌++◌, map, ℕ, suc, ◌<◌, ◌≤◌, drop, eqb, Result, Ok, Err, Option, Some, None}
use Rattle.prefix.specs.Bits.{Bits}
use Rattle.prefix.specs.Prefix.{contains, overlap, common}
use Rattle.sizes.specs.Sizes.{cache_need}
use Rattle.model.specs.Lists.{◌∈◌, largest}
use Rattle.model.specs.Model.{Entry, Cache}
use Rattle.model.specs.Demands.{NoneCached}
use Rattle.lru_cache.specs.Sound as lru
use Rattle.lru_cache.specs.Results.{others}
use Rattle.sizes.specs.BothStores.{limit_of}
use Rattle.slots.specs.Layout.{entries_held, cache_of, Shaped, Plain}
use Rattle.entries.specs.declared.find.Absent.{Absent}

-- the entries of a store in their order of use, the most recently used first
unfoldable pub entries : List ℕ → Cache
entries w = lru.entries (entries_held w) (cache_of w)

-- sound in itself: whether the entries are right is a matter of the table
pub record SoundEntries (w : List ℕ) : Type 0 where
  -- the limit is legal, the store has the words that it needs, and no more entries are held than fit
  pub shaped : Shaped w
  -- no entry's length is above 32
  pub plain : Plain w (entries_held w)
  -- the search trie and the ring of use
  pub slots : lru.SoundCache (entries_held w) (cache_of w)

-- ---- one slot's entry, and the others in their order

abbrev pub Slot : List ℕ → ℕ → Type 0
Slot w k = lru.Slot (entries_held w) k

abbrev pub entry_in : List ℕ → ℕ → Entry
entry_in w k = lru.entry_of (cache_of w) k

abbrev pub others_in : List ℕ → ℕ → Cache
others_in w k = others (entries_held w) (cache_of w) k

-- the entries, with another hop in slot k
abbrev pub with_hop : List ℕ → ℕ → ℕ → ℕ → Entry
with_hop w k hop i = cond (eqb i k) (record { prefix = (entry_in w k).prefix; hop = hop }) (entry_in w i)

unfoldable pub rehopped : List ℕ → ℕ → ℕ → Cache
rehopped w k hop = map (with_hop w k hop) (lru.order (entries_held w) (cache_of w))

-- no entry overlaps p
abbrev pub Free : List ℕ → Bits → Type 0
Free w p = (E : Entry) → E ∈ entries w → overlap p E.prefix ≡ false

-- ---- what the calls promise

-- what a change leaves on any store: the limit, the words past the need, and so many entries
pub record Kept (w w' : List ℕ) (held : ℕ) : Type 0 where
  pub limit_kept : limit_of w' ≡ limit_of w
  pub count : entries_held w' ≡ held
  pub past_kept : drop (cache_need (limit_of w)) w' ≡ drop (cache_need (limit_of w)) w

-- a sound store after a change: what it holds
pub record Holds (w' : List ℕ) (cache : Cache) : Type 0 where
  pub sound : SoundEntries w'
  pub are_entries : entries w' ≡ cache

-- after a removal of slot k's entry: every later slot has the entry of a slot that was later too
pub record Removes (w w' : List ℕ) (k : ℕ) : Type 0 where
  pub holds : Holds w' (others_in w k)
  pub later : (s : ℕ) → Slot w' s → k < s → (z : ℕ) × Slot w z × (k < z) × (entry_in w' s ≡ entry_in w z)

-- after slot k's entry took another hop
pub record Rehops (w w' : List ℕ) (k hop : ℕ) : Type 0 where
  pub holds : Holds w' (rehopped w k hop)
  pub here : entry_in w' k ≡ record { prefix = (entry_in w k).prefix; hop = hop }
  pub there : (i : ℕ) → ¬ (i ≡ k) → entry_in w' i ≡ entry_in w i

-- an entry that contains the address X, or one more than the largest Common of X with any entry, 0 where there is none
abbrev pub NearestTo : List ℕ → Bits → Result ℕ Absent → Type 0
NearestTo w X (Ok k) = Slot w k × (SoundEntries w → contains (entry_in w k).prefix X ≡ true)
NearestTo w X (Err e) = (e.past ≤ 33) × (SoundEntries w → NoneCached (entries w) X × (e.past ≡ largest (map (λ E. suc (common X E.prefix)) (entries w))))

-- the least recently used entry is the last
pub record Oldest (w : List ℕ) (k : ℕ) : Type 0 where
  pub slot : Slot w k
  pub is_last : entries w ≡ others_in w k ++ (entry_in w k ∷ [])

-- its slot; or that there is no entry
abbrev pub OldestOf : List ℕ → Option ℕ → Type 0
OldestOf w (Some k) = Slot w k × (SoundEntries w → Oldest w k)
OldestOf w None = SoundEntries w → entries_held w ≡ 0
