-- A new entry is the most recently used. Assumes nothing.
use mathlib.Core.Path.{◌≡◌, sym, ap, ◌∙◌}
use mathlib.Core.List.{List, ◌∷◌}
use Prim.Native.Nat.{ℕ, suc, ◌+◌, ◌≤◌, ◌<◌}
use native.Mathlib.Omega.{arith}
use lib.ListN.{length}
use Rattle.prefix.specs.Bits.{Bits}
use Rattle.lru_cache.specs.Changes.{push_front}
use Rattle.sizes.specs.BothStores.{limit_of}
use Rattle.slots.specs.Layout.{entries_held, cache_of, Shaped}
use Rattle.slots.specs.Stores.{put_count}
use Rattle.slots.specs.Stores as slots
use Rattle.slots.proofs.StoreLaws.{cache_count}
use Rattle.slots.proofs.KeptLaws.{kept_then, count_size, count_limit, count_entries, count_past, count_plain}
use Rattle.entries.specs.Caches.{entries, Free, SoundEntries, Kept, Holds}
use Rattle.entries.specs.Changed.{Changed}
use Rattle.insertion.specs.Hangs.{Hung}
use Rattle.entries.proofs.Changing.{past_more}

module _ (w u v w' : List ℕ) (P : Bits) (hop held : ℕ) (shaped : Shaped w) (are_held : held ≡ entries_held w) (free-slot : held < limit_of w) (hung : Hung w u P hop)
    (pushed : Changed (held + 1) u v ((cache_of u).next 0 ≤ held + 1) (push_front (cache_of u) (held + 1))) (counted : w' ≡ put_count v (held + 1)) where
  one_more : held + 1 ≡ suc (entries_held w)
  one_more = omega arith

  kept : slots.Kept (suc (entries_held w)) w v
  kept = kept_then hung.kept (rw one_more at pushed.kept)

  long : 1 < length v
  long = omega (arith, kept.size, shaped.enough)

  limit_kept : limit_of w' ≡ limit_of w
  limit_kept = rw counted (count_limit v (held + 1)) ∙ kept.limit

  count : entries_held w' ≡ suc (entries_held w)
  count = rw counted (count_entries v (held + 1) long) ∙ one_more

  pub insert_kept : Kept w w' (suc held)
  insert_kept = record {
    limit_kept = limit_kept;
    count = count ∙ ap suc (sym are_held);
    past_kept = rw counted (count_past v (held + 1) (limit_of w)) ∙ past_more (suc (entries_held w)) (limit_of w) w v (omega arith) kept.past;
  }

  pub insert_holds : SoundEntries w → Free w P → Holds w' (record { prefix = P; hop = hop } ∷ entries w)
  unfolding entries
  insert_holds S free =
      let r = hung.ready S free in
      let cache_is : cache_of w' ≡ push_front (cache_of u) (suc (entries_held w))
      = rw counted (cache_count v (held + 1)) ∙ rw one_more at (pushed.does (omega (arith, r.first_low))) in
      record {
        sound = record {
          shaped = record {
            legal = rw limit_kept shaped.legal;
            enough = omega (arith, limit_kept, shaped.enough, ap length counted, count_size v (held + 1), kept.size);
            entries_fit = omega (arith, count, limit_kept);
          };
          plain = rw (count, counted) (count_plain v (held + 1) _ long (pushed.kept.plain _ r.plain));
          slots = rw (count, cache_is) r.inserts.sound;
        };
        are_entries = rw (count, cache_is) r.inserts.holds;
      }
