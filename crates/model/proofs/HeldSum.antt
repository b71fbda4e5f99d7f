-- Entries held = misses - evicted - removed, modulo 2 ^ 32. Assumes nothing.
use mathlib.Core.List.{List, [], ◌∷◌}
use mathlib.Core.Option.{Option, none, some}
use mathlib.Core.Path.{◌≡◌, refl}
use Prim.Native.Nat.{◌%◌, ◌+◌, ◌<◌, ◌^◌, suc, zero, ℕ}
use native.Mathlib.Omega.{arith}
use lib.ListN.{length, length-map, length-take, take}
use Rattle.prefix.specs.Bits.{Bits}
use Rattle.prefix.specs.Prefix.{contains}
use Rattle.tallies.specs.Counting.{held_sum}
use Rattle.tallies.specs.declared.Tallies.{Tallies}
use Rattle.model.specs.Demands.{AllFull}
use Rattle.model.specs.Lists.{first}
use Rattle.model.specs.Model.{Entry, Limits, Looked, leaves, look_cache, look_table, lookup, refreshed, refusal, removed}
use Rattle.model.specs.Routes.{Route, Update, match, updated}
use Rattle.model.specs.Runs.{Call, State, accepted, after, empty, judged, look, looked, step, tallied, update}
use Rattle.model.proofs.Legal.{legal_run}
use Rattle.model.proofs.ListLaws.{keep_both, omit_length}

-- the tallies k account for n entries held
pub record Counted (n : ℕ) (k : Tallies) : Type 0 where
  pub misses_below : k.misses < 2 ^ 32
  pub evicted_below : k.evicted < 2 ^ 32
  pub removed_below : k.removed < 2 ^ 32
  pub sum : (n + k.evicted + k.removed) % 2 ^ 32 ≡ k.misses

counted_lookup : (s : State) (limit : ℕ) (X : Bits) → Counted (length s.cache) s.tallies
    → Counted (length (lookup s.table s.cache limit X).cache) (tallied s.tallies (lookup s.table s.cache limit X).answer (lookup s.table s.cache limit X).evicted)
unfolding lookup look_table look_cache
counted_lookup s limit X C = on_cache (first (λ (e : Entry). contains e.prefix X) s.cache) refl
  where
    Goal : Looked → Type 0
    Goal r = Counted (length r.cache) (tallied s.tallies r.answer r.evicted)

    on_table : (o : Option Route) → Goal (look_table s.table s.cache limit X o)
    on_table none = record { misses_below = C.misses_below; evicted_below = C.evicted_below; removed_below = C.removed_below; sum = C.sum }
    on_table (some M) = record {
      misses_below = omega arith;
      evicted_below = omega arith;
      removed_below = C.removed_below;
      sum = simp length-take (omega (arith, C.sum));
    }

    on_cache : (o : Option Route) → first (λ (e : Entry). contains e.prefix X) s.cache ≡ o → Goal (look_cache s.table s.cache limit X o)
    on_cache none h = on_table (match s.table X)
    on_cache (some e) h = record {
      misses_below = C.misses_below;
      evicted_below = C.evicted_below;
      removed_below = C.removed_below;
      sum = rw (omit_length (λ (e : Entry). contains e.prefix X) s.cache e h) C.sum;
    }

pub counted_step : (L : Limits) (s : State) (x : Call) → Counted (length s.cache) s.tallies → Counted (length (step L s x).state.cache) (step L s x).state.tallies
unfolding step looked judged accepted refreshed removed
counted_step L s (look X) C = counted_lookup s L.entries X C
counted_step L s (update a n act) C = go (refusal L s.table n (take n a) act)
  where
    u : Update
    u = record { prefix = take n a; action = act }

    go : (k : ℕ) → Counted (length (judged s u k).state.cache) (judged s u k).state.tallies
    go zero = record {
      misses_below = C.misses_below;
      evicted_below = C.evicted_below;
      removed_below = omega arith;
      sum = simp length-map (omega (arith, C.sum, keep_both (leaves (updated s.table u) u) s.cache));
    }
    go (suc k) = C

pub counted_after : (L : Limits) (s : State) (l : List Call) → Counted (length s.cache) s.tallies → Counted (length (after L s l).cache) (after L s l).tallies
unfolding after
counted_after L s [] C = C
counted_after L s (x ∷ l) C = counted_after L (step L s x).state l (counted_step L s x C)

-- entries held = misses - evicted - removed, modulo 2 ^ 32: from any counted state, and so over any run from zero
pub held_sum_is : (n : ℕ) (k : Tallies) → Counted n k → held_sum k ≡ n % 2 ^ 32
held_sum_is n k C = omega (arith, C.sum, C.misses_below, C.evicted_below, C.removed_below)

pub held_sum_of_run : (L : Limits) (l : List Call) → held_sum (after L empty l).tallies ≡ length (after L empty l).cache % 2 ^ 32
unfolding empty
held_sum_of_run L l = held_sum_is _ _ (counted_after L empty l (record { misses_below = omega arith; evicted_below = omega arith; removed_below = omega arith; sum = refl }))

-- the number itself, where the limit stands in 32 bits
pub held_of_run : (L : Limits) (l : List Call) → L.entries < 2 ^ 32 → AllFull L l → held_sum (after L empty l).tallies ≡ length (after L empty l).cache
held_of_run L l h fs = omega (arith, held_sum_of_run L l, (legal_run L fs).entries_fit)
