-- The parts of a lookup that change the cache: an entry used, room made, an entry stored. Assumes nothing.
use mathlib.Core.Path.{◌≡◌, refl, sym, ap, ◌∙◌}
use mathlib.Core.List.{List, [], ◌∷◌}
use Prim.Native.Nat.{ℕ, zero, suc, ◌-◌, ◌/◌, ◌≤◌, ◌<◌}
use native.Mathlib.Omega.{arith}
use lib.ListN.{length, take, length-append}
use lib.Seq.{take_at, take_all}
use Rattle.prefix.specs.Bits.{Bits, bits}
use Rattle.prefix.specs.Prefix.{trimmed}
use Rattle.prefix.specs.Addresses.{ipv4_bits}
use Rattle.prefix.specs.declared.Address.{Address}
use Rattle.prefix.proofs.Trimming.{take_trimmed, trimmed_longer}
use Rattle.tallies.specs.Counting.{after_hit, after_miss}
use Rattle.tallies.specs.declared.Tallies.{Tallies}
use Rattle.model.specs.Model as model
use Rattle.model.specs.Model.{Entry}
use Rattle.model.proofs.ListLaws.{take_in}
use Rattle.sizes.specs.BothStores.{slot_word, word, limit_of}
use Rattle.slots.specs.Layout.{entries_held, cache_of, Shaped}
use Rattle.slots.specs.declared.Header.{Header}
use Rattle.entries.specs.Caches.{entries, entry_in, others_in, Free, SoundEntries, Kept, Holds, Removes, OldestOf}
use Rattle.lookup.specs.Lookups.{Used, Stored, Cleared, MadeRoom}
use Rattle.lookup.specs.declared.Answer.TheVariants.{Hit, Miss}
use Rattle.lookup.specs.declared.Looked.{Looked}
use Rattle.std.specs.Prelude.{Result, Ok, Err, Some, None}
use Rattle.sizes.specs.declared.refusal.Unsound.{Unsound}
use Rattle.pairs.proofs.Pairing.{held_entries}

-- ---- an entry used

pub used : (w w' : List ℕ) (held k hop : ℕ) (t u : Tallies) → hop ≡ word w (slot_word k 1) / 64 → u ≡ after_hit t
    → Kept w w' held → (SoundEntries w → Holds w' (entry_in w k ∷ others_in w k)) → Used w w' k t (record { answer = Hit hop; tallies = u })
unfolding cache_of
used w w' held k hop t u e f kept holds = record { says = rw (e, f); holds = holds; kept = (kept.limit_kept, kept.past_kept) }

-- ---- room

module _ (w : List ℕ) (h : Header) (s : Shaped w) (are-limit : h.limit ≡ limit_of w) (are_held : h.entries ≡ entries_held w) where
  pub has_room : h.entries < h.limit → MadeRoom w w (Ok h.entries)
  has_room l = record {
    shaped = s;
    is_held = are_held;
    room = omega (arith, are-limit);
    fewer = omega (arith, are_held);
    kept = (refl, refl);
    holds = λ S. record { sound = S; are_entries = sym (take_all (limit_of w - 1) (entries w) (omega (arith, held_entries S, are-limit, are_held))) };
    evicted = λ S. omega (arith, held_entries S, are-limit, are_held);
  }

module _ (w : List ℕ) (s : Shaped w) (held : ℕ) (are_held : held ≡ entries_held w) (full : limit_of w ≤ held) where
  pub no_oldest : OldestOf w None → ¬ (SoundEntries w)
  no_oldest none S = omega (arith, none S, s.legal, are_held)

  pub others_left : (k : ℕ) → OldestOf w (Some k) → (w' : List ℕ) → (SoundEntries w → Removes w w' k) → SoundEntries w → Holds w' (take (limit_of w - 1) (entries w))
  others_left k old w' gone S = record {
    sound = (gone S).holds.sound;
    are_entries = (gone S).holds.are_entries
        ∙ sym (ap (take (limit_of w - 1)) (old.1 S).is_last
        ∙ take_at (others_in w k) (entry_in w k ∷ []) (limit_of w - 1)
        (omega (arith, ap length (old.1 S).is_last, length-append (others_in w k) (entry_in w k ∷ []), held_entries S, full, are_held, s.entries_fit)));
  }

pub one_evicted : (w : List ℕ) → Shaped w → (held : ℕ) → held ≡ entries_held w → held ≡ limit_of w → SoundEntries w → entries_held w - (held - 1) ≡ suc (length (entries w)) - limit_of w
one_evicted w s held are_held full S = omega (arith, held_entries S, full, are_held, s.legal)

-- ---- an entry stored

pub no_room : (w w' : List ℕ) (e : Unsound) → MadeRoom w w' (Err e) → (w'' : List ℕ) (X : Bits) (n hop examined : ℕ) (t : Tallies) (r : Result Looked Unsound)
    → SoundEntries w → Free w (take n X) → Stored w w'' X n hop examined t r
no_room w w' e none w'' X n hop examined t r S f = absurd (none S)

module _ (w w' : List ℕ) (held : ℕ) (cleared : Cleared w w' held) where
  pub room_left : held < limit_of w'
  room_left = cleared.room

  pub stored : (w'' : List ℕ) (h : Header) (x : Address) (n hop examined a : ℕ) (t u : Tallies)
      → h.entries ≡ entries_held w
      → Kept w' w'' (suc held) → (SoundEntries w' → Free w' (take n (ipv4_bits x)) → Holds w'' (record { prefix = take n (ipv4_bits x); hop = hop } ∷ entries w'))
      → bits 32 a ≡ trimmed n (ipv4_bits x) → n ≤ 32
      → u ≡ after_miss t (h.entries - held)
      → SoundEntries w → Free w (take n (ipv4_bits x)) → Stored w w'' (ipv4_bits x) n hop examined t (Ok (record { answer = Miss hop a n examined; tallies = u }))
  stored w'' h x n hop examined a t u are_held kept put ea short eu S free = record {
    answer = ap (λ (p : Bits). model.miss hop p examined) (ap (take n) ea ∙ take_trimmed n (ipv4_bits x));
    cleared = (short, ea ∙ sym (ap (trimmed n) ea ∙ trimmed_longer n n (ipv4_bits x) (omega arith)));
    counted = eu ∙ ap (after_miss t) (ap (λ (m : ℕ). m - held) are_held ∙ c.evicted S);
    holds = record { sound = p.sound; are_entries = p.are_entries ∙ before (limit_of w) (omega (arith, c.room, c.kept)) (c.holds S).are_entries };
    kept = (kept.limit_kept ∙ c.kept.0, rw c.kept.0 at kept.past_kept ∙ c.kept.1);
  }
    where
      c : Cleared w w' held
      c = cleared

      new : Entry
      new = record { prefix = take n (ipv4_bits x); hop = hop }

      still : Free w' (take n (ipv4_bits x))
      still E m = free E (take_in (limit_of w - 1) (entries w) (rw (c.holds S).are_entries at m))

      p : Holds w'' (new ∷ entries w')
      p = put (c.holds S).sound still

      before : (limit : ℕ) → 0 < limit → entries w' ≡ take (limit - 1) (entries w) → new ∷ entries w' ≡ take limit (new ∷ entries w)
      before zero l e = absurd (omega arith)
      before (suc m) l e = let z : suc m - 1 ≡ m = omega arith in ap (λ (q : List Entry). new ∷ q) (e ∙ ap (λ (i : ℕ). take i (entries w)) z)
