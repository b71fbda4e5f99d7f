-- Each answer of `find_entry`. Assumes nothing.
use mathlib.Core.Path.{◌≡◌, refl, sym, ap, ◌∙◌, subst}
use mathlib.Core.Bool.{false}
use mathlib.Core.List.Memᴰ
use mathlib.Core.List.{List, map}
use mathlib.Core.Logic.{◌⊎◌, inl, inr}
use Prim.Native.Nat.{ℕ, suc, ◌+◌, ◌/◌, ◌%◌, ◌≤◌, ◌<◌}
use native.Mathlib.Numerals.{add-one}
use native.Mathlib.Omega.{arith}
use Rattle.std.specs.Prelude.{Result, Ok, Err}
use Rattle.prefix.specs.Bits.{Bits}
use Rattle.prefix.specs.Prefix.{contains, common, ◌⊑◌}
use Rattle.prefix.specs.Addresses.{ipv4_bits}
use Rattle.prefix.specs.declared.Address.{Address}
use Rattle.prefix.proofs.Common.{common_sym, common_⊑, le_common}
use Rattle.prefix.proofs.Order.{⊑_refl}
use Rattle.prefix.proofs.Tests.{⊑_contains, ⊑_not}
use Rattle.model.specs.Lists.{largest}
use Rattle.model.specs.Model.{Entry}
use Rattle.lru_cache.specs.Sound as lru
use Rattle.lru_cache.specs.Results as results
use Rattle.lru_cache.proofs.Walking.{find_nearest}
use Rattle.lru_cache.proofs.Holding.{entry_slot, nearest_largest}
use Rattle.sizes.specs.BothStores.{slot_word, word}
use Rattle.slots.specs.Layout.{entries_held, cache_of}
use Rattle.entries.specs.Caches.{entries, SoundEntries, NearestTo}
use Rattle.entries.specs.Walks.{CommonWith, Walked}
use Rattle.entries.specs.declared.find.Absent.{Absent}
use Rattle.entries.proofs.EntryLaws.{none_held, all_short, entry_size}

abbrev none_near : Result ℕ Absent
none_near = Err (record { past = 0 })

module _ (w : List ℕ) (x : Address) (held : ℕ) (are_held : held ≡ entries_held w) where
  pub miss_empty : held ≡ 0 → NearestTo w (ipv4_bits x) none_near
  unfolding largest
  miss_empty z = (
    omega arith,
    λ S. let none = none_held w (sym are_held ∙ z) in rw none (λ E m. absurd (Memᴰ.not-nil m), refl),
  )

  -- the walk stopped at r
  module _ (some_held : ¬ (held ≡ 0)) (r : ℕ) (walked : Walked w (ipv4_bits x) r) where
    nearest : SoundEntries w → results.Nearest (entries_held w) (cache_of w) (ipv4_bits x) (r / 2)
    nearest S = rw (walked.found S (omega arith)) (find_nearest S.slots (ipv4_bits x) (all_short w x) (omega arith))

    -- no sound store
    unsound : (SoundEntries w → ⊥) → NearestTo w (ipv4_bits x) none_near
    unsound f = (omega arith, λ S. absurd (f S))

    pub no_slot : (r / 2 ≡ 0) ⊎ ((r / 2 ≡ 0 → ⊥) × (held < r / 2)) → NearestTo w (ipv4_bits x) none_near
    no_slot (inl z) = unsound (λ S. omega (arith, (nearest S).slot))
    no_slot (inr h) = unsound (λ S. omega (arith, h, (nearest S).slot))

    module _ (some-slot : ¬ (r / 2 ≡ 0)) (in_use : r / 2 ≤ held) (n : ℕ) (en : n ≡ word w (slot_word (r / 2) 1) % 64) where
      pub too_long : 32 < n → NearestTo w (ipv4_bits x) none_near
      too_long h = unsound (λ S. omega (arith, S.plain.short (r / 2) (omega arith) (omega arith)))

      module _ (short : n ≤ 32) (s : ℕ) (es : CommonWith w (r / 2) (ipv4_bits x) s) where
        abbrev E : Bits
        E = (cache_of w).entry (r / 2)

        s_is : s ≡ common (ipv4_bits x) E
        s_is = es.is_common (omega arith)

        pub hit : n ≤ s → NearestTo w (ipv4_bits x) (Ok (r / 2))
        hit h = (
          (omega arith, omega arith),
          λ S. ⊑_contains (common_⊑ (⊑_refl E) (omega (arith, entry_size w (r / 2) n en short, s_is, common_sym (ipv4_bits x) E))),
        )

        pub miss : s < n → NearestTo w (ipv4_bits x) (Err (record { past = s + 1 }))
        unfolding entries
        miss h = (
          omega arith,
          λ S. (λ E m. none S E (entry_slot S.slots E m), add-one s ∙ ap suc s_is ∙ sym (largest_is S)),
        )
          where
            outside : ¬ (E ⊑ ipv4_bits x)
            outside p = omega (arith, le_common p (⊑_refl E), entry_size w (r / 2) n en short, s_is)

            none : SoundEntries w → (F : Entry) → (k : ℕ) × lru.Slot (entries_held w) k × (lru.entry_of (cache_of w) k ≡ F) → contains F.prefix (ipv4_bits x) ≡ false
            none S F (k, l, z) = rw (← z) (⊑_not (λ p. outside (subst (λ (j : ℕ). (cache_of w).entry j ⊑ ipv4_bits x) ((nearest S).only k l p) p)))

            largest_is : SoundEntries w → largest (map (λ F. suc (common (ipv4_bits x) F.prefix)) (entries w)) ≡ suc (common (ipv4_bits x) E)
            largest_is S = nearest_largest S.slots (ipv4_bits x) (r / 2) (nearest S)
