-- One turn of the walk, and the walk. Assumes nothing.
use mathlib.Core.Path.{◌≡◌, refl, sym, ap, ◌∙◌}
use mathlib.Core.Bool.{Bool, true, false, not}
use mathlib.Core.List.{List}
use mathlib.Core.Logic.{◌⊎◌, inl, inr}
use Rattle.std.specs.Prelude.{Option, Some, None}
use Prim.Native.Nat.{ℕ, suc, ◌+◌, ◌-◌, ◌*◌, ◌/◌, ◌%◌, ◌≤◌, ◌<◌}
use native.Mathlib.Omega.{arith}
use lib.ListN.{length, get_or}
use lib.Dec.{leb}
use borrow.Author.Tests.{leb-true, leb-false}
use lib.Seq.{get_or-take}
use Rattle.prefix.specs.Bits.{Bits, digit}
use Rattle.prefix.specs.Prefix.{common}
use Rattle.prefix.specs.Addresses.{address_bits, ipv4_bits}
use Rattle.prefix.specs.declared.Address.{Address}
use Rattle.prefix.proofs.Booleans.{not_false}
use Rattle.prefix.proofs.BitLaws.{bit_small}
use Rattle.prefix.proofs.AddressLaws.{length_ipv4}
use Rattle.lru_cache.specs.Slots.{cell_of}
use Rattle.lru_cache.specs.Sound.{Live}
use Rattle.lru_cache.specs.Changes.{passes, towards, walk}
use Rattle.lru_cache.proofs.Shape.{branch_short}
use Rattle.lru_cache.proofs.Walking.{find_start, passes_branch, stops_entry, stops_miss, walk_on, walk_end, on_start, on_step}
use Rattle.sizes.specs.BothStores.{slot_word, word}
use Rattle.slots.specs.Layout.{cell_word, entries_held, cache_of}
use Rattle.slots.proofs.ReadLaws.{read_child, read_branch}
use Rattle.entries.specs.Caches.{SoundEntries}
use Rattle.entries.specs.Walks.{BranchCovers, Going, Turned, Walked}
use Rattle.entries.proofs.EntryLaws.{entry_short, entry_size, all_short}

-- ---- the cell on a side

pub side_is : (x : Bits) (m i r : ℕ) → r ≡ digit (get_or x m false) → 2 * i + r ≡ cell_of i (get_or x m false)
side_is x m i r e = ap (λ k. 2 * i + k) e

pub side_slot : (x : Bits) (m i r : ℕ) → r ≡ digit (get_or x m false) → (2 * i + r) / 2 ≡ i
side_slot x m i r e = omega (arith, bit_small x m r e)

not_true : (b : Bool) → not b ≡ false → b ≡ true
not_true true h = refl
not_true false h = sym h

-- ---- one turn

module _ (w : List ℕ) (x : Address) (at : ℕ) where
  module _ (entries : ℕ) (held : entries ≡ entries_held w) where
    -- an entry, or no slot's node
    pub ends_here : (at % 2 ≡ 0) ⊎ ((at % 2 ≡ 0 → ⊥) × (entries < at / 2)) → Turned w (ipv4_bits x) at None
    unfolding Turned
    ends_here (inl e) S l = stops_entry (cache_of w) (ipv4_bits x) at e
    ends_here (inr h) S l = absurd (omega (arith, h))

    -- a branch of m bits, and whether it contains x
    module _ (inside : at / 2 ≤ entries) (m : ℕ) (em : m ≡ word w (slot_word (at / 2) 7) % 64) (b : Bool) (eb : BranchCovers w (at / 2) m (ipv4_bits x) b) where
      m_is : m ≡ (cache_of w).branch_length (at / 2)
      m_is = em ∙ read_branch w (at / 2)

      -- it is shorter than the slot's entry
      m_short : SoundEntries w → Live (entries_held w) at → ¬ (at % 2 ≡ 0) → m < length ((cache_of w).entry (at / 2))
      m_short S l odd = rw m_is (branch_short S.slots (at / 2) (omega arith) (omega arith))

      b_is : SoundEntries w → Live (entries_held w) at → ¬ (at % 2 ≡ 0) → b ≡ leb m (common (ipv4_bits x) ((cache_of w).entry (at / 2)))
      b_is S l odd =
          let short = S.plain.short (at / 2) (omega arith) (omega arith) in
          eb.is_test (omega (arith, m_short S l odd, entry_size w (at / 2) (word w (slot_word (at / 2) 1) % 64) refl short)) short

      pub ends_miss : ¬ (at % 2 ≡ 0) → not b ≡ true → Turned w (ipv4_bits x) at None
      unfolding Turned
      ends_miss odd h S l =
          stops_miss (cache_of w) (ipv4_bits x) at (omega (arith, leb-false m (common (ipv4_bits x) ((cache_of w).entry (at / 2))) (sym (b_is S l odd) ∙ not_false b h), m_is))

      pub goes_on : ¬ (at % 2 ≡ 0) → not b ≡ false → (q r : ℕ) → q ≡ cell_of (at / 2) (get_or (address_bits x) m false) → r ≡ word w (cell_word q) → Turned w (ipv4_bits x) at (Some r)
      unfolding Turned towards
      goes_on odd h q r eq er S l =
          let bit : get_or (ipv4_bits x) m false ≡ get_or (address_bits x) m false = get_or-take 32 (address_bits x) m false (omega (arith, m_short S l odd, entry_short w (at / 2))) in (
            passes_branch (cache_of w) (ipv4_bits x) at odd (omega (arith, leb-true m (common (ipv4_bits x) ((cache_of w).entry (at / 2))) (sym (b_is S l odd) ∙ not_true b h), m_is)),
            er ∙ read_child w q ∙ ap (cache_of w).child (eq ∙ ap (cell_of (at / 2)) (sym bit ∙ ap (λ k. get_or (ipv4_bits x) k false) m_is)),
          )

-- ---- the walk

pub start : (w : List ℕ) (x : Address) (r : ℕ) → r ≡ word w (cell_word 0) → Going w (ipv4_bits x) r 33
start w x r e =
    let root = e ∙ read_child w 0 in
    record {
      here = λ S h. rw root (on_start S.slots (ipv4_bits x) h);
      rest = λ S h. rw root (sym (find_start (cache_of w) (ipv4_bits x) ∙ ap (λ k. walk (cache_of w) (ipv4_bits x) (suc k) ((cache_of w).child 0)) (length_ipv4 x)));
    }

-- after so many of the 33 turns
module _ (w : List ℕ) (x : Address) (at taken : ℕ) (g : Going w (ipv4_bits x) at (33 - taken)) where
  pub walk_out : 33 ≤ taken → Walked w (ipv4_bits x) at
  unfolding walk
  walk_out z = record { found = λ S h. let e : 33 - taken ≡ 0 = omega arith in rw e at (g.rest S h) }

  module _ (t : Option ℕ) (turned : Turned w (ipv4_bits x) at t) where
    pub walk_over : t ≡ None → Walked w (ipv4_bits x) at
    unfolding Turned
    walk_over e = record {
      found = λ S h. sym (walk_end (cache_of w) (ipv4_bits x) (33 - taken) at ((rw e at turned) S (g.here S h).live)) ∙ g.rest S h;
    }

    pub walk_further : (next : ℕ) → t ≡ Some next → taken < 33 → Going w (ipv4_bits x) next (33 - (taken + 1))
    unfolding Turned
    walk_further next e more = record {
      here = λ S h. let p = passed S h in rw p.1 (on_step S.slots (ipv4_bits x) (all_short w x) at (g.here S h) p.0).0;
      rest = λ S h.
          let p = passed S h in
          let one : 33 - taken ≡ suc (33 - (taken + 1)) = omega arith in
          rw p.1 (sym (walk_on (cache_of w) (ipv4_bits x) (33 - (taken + 1)) at p.0) ∙ ap (λ k. walk (cache_of w) (ipv4_bits x) k at) (sym one) ∙ g.rest S h);
    }
      where
        passed : SoundEntries w → 0 < entries_held w → (passes (cache_of w) (ipv4_bits x) at ≡ true) × (next ≡ (cache_of w).child (towards (cache_of w) (ipv4_bits x) at))
        passed S h = (rw e at turned) S (g.here S h).live
