-- What is claimed of the walk and of the changes: how the entries of the cache after a change are those before it, and in which slots
-- they are. Assumes nothing.
use Rattle.std.specs.Prelude.{◌≡◌, false, List, [], ◌∷◌, map, ℕ, suc, ◌≤◌, ◌<◌, length}
use Rattle.std.proofs.Math.Decide.{ℕ_discrete}
use Rattle.prefix.specs.Bits.{Bits}
use Rattle.prefix.specs.Prefix.{overlap, common, ◌⊑◌}
use Rattle.model.specs.Model.{Entry}
use Rattle.trie.specs.Updates.{renumbered}
use Rattle.lru_cache.specs.Slots.{Cache}
use Rattle.lru_cache.specs.Sound.{Slot, Live, InUse, SoundCache, entry_of, order, entries}

-- ---- the walk

-- no entry is longer than X
abbrev pub Short : ℕ → Cache → Bits → Type 0
Short n c X = (i : ℕ) → Slot n i → length (c.entry i) ≤ length X

-- the entry of slot i has the most in common with X, and no other contains X
pub record Nearest (n : ℕ) (c : Cache) (X : Bits) (i : ℕ) : Type 0 where
  pub slot : Slot n i
  pub most : (k : ℕ) → Slot n k → common X (c.entry k) ≤ common X (c.entry i)
  pub only : (k : ℕ) → Slot n k → c.entry k ⊑ X → k ≡ i

-- ---- insertion

-- P overlaps no entry
abbrev pub Free : ℕ → Cache → Bits → Type 0
Free n c P = (k : ℕ) → Slot n k → overlap P (c.entry k) ≡ false

-- w holds P → H in front of what c holds
pub record Inserted (n : ℕ) (c w : Cache) (P : Bits) (H : ℕ) : Type 0 where
  pub sound : SoundCache (suc n) w
  pub holds : entries (suc n) w ≡ record { prefix = P; hop = H } ∷ entries n c

-- ---- removal

-- a list less the slot k
unfoldable pub without : ℕ → List ℕ → List ℕ
without k [] = []
without k (x ∷ l) = elim (ℕ_discrete x k) [ yes e ↦ l | no n ↦ x ∷ without k l ]

-- the entries but that of slot k, in their order
abbrev pub others : ℕ → Cache → ℕ → List Entry
others n c k = map (entry_of c) (without k (order n c))

-- w holds what c holds but for the entry of slot k, and has the entry of each other slot i in the slot place i
pub record Removed (n : ℕ) (c w : Cache) (k : ℕ) (place : ℕ → ℕ) : Type 0 where
  pub sound : SoundCache n w
  pub holds : entries n w ≡ others (suc n) c k
  pub slots : order n w ≡ map place (without k (order (suc n) c))
  pub moved : (i : ℕ) → Slot (suc n) i → ¬ (i ≡ k) → entry_of w (place i) ≡ entry_of c i

-- where the entry of slot i is after the removal of slot k, whose branch is in slot j: that of j in slot k, and that of the last
-- slot, m, in slot j
abbrev pub place_after : ℕ → ℕ → ℕ → ℕ → ℕ
place_after m k j i = renumbered m j (renumbered j k i)

-- ---- what a cache carries

pub record Carried (es : List Entry) : Type 0 where
  pub cache : Cache
  pub sound : SoundCache (length es) cache
  pub holds : entries (length es) cache ≡ es

-- w has the values of c that n entries use
pub record Agree (n : ℕ) (c w : Cache) : Type 0 where
  pub entry : (i : ℕ) → Slot n i → w.entry i ≡ c.entry i
  pub hop : (i : ℕ) → Slot n i → w.hop i ≡ c.hop i
  pub branch_length : (i : ℕ) → 1 < i → i ≤ n → w.branch_length i ≡ c.branch_length i
  pub child : (q : ℕ) → InUse n q → w.child q ≡ c.child q
  pub up : (x : ℕ) → Live n x → w.up x ≡ c.up x
  pub prev : (i : ℕ) → i ≤ n → w.prev i ≡ c.prev i
  pub next : (i : ℕ) → i ≤ n → w.next i ≡ c.next i
