-- An update of a pair of stores, by what the table said. Assumes nothing.
use mathlib.Core.Path.{◌≡◌, refl, sym, ap, ap₂, ◌∙◌, subst}
use mathlib.Core.Bool.{Bool, not}
use mathlib.Core.List.{List}
use Prim.Native.Nat.{ℕ, suc}
use native.Mathlib.Omega.{arith}
use lib.ListN.{take}
use Rattle.std.specs.Prelude.{Result, Ok, Err}
use Rattle.prefix.specs.Bits.{Bits}
use Rattle.prefix.specs.Addresses.{ipv4_bits}
use Rattle.tallies.specs.declared.Tallies.{Tallies}
use Rattle.tallies.specs.Counting.{after_update}
use Rattle.model.specs.Lists.{◌∈◌, keep}
use Rattle.model.specs.Routes as model
use Rattle.model.specs.Routes.{updated}
use Rattle.model.specs.Model as answers
use Rattle.model.specs.Model.{Entry, Cache, Limits, refusal, leaves, fresh, refreshed, removed, changed}
use Rattle.model.specs.Runs.{State, Outcome, step, judged, accepted, update}
use Rattle.model.specs.Demands.{Covered}
use Rattle.model.proofs.ListLaws.{keep_in, map_in}
use Rattle.model.proofs.Match.{OneEach, one_each}
use Rattle.model.proofs.Updates.{updated_distinct, fresh_entry, update_refused, apart_stays, apart_unchanged}
use Rattle.model.proofs.SameRoutes.{leaves_same, fresh_same, refreshed_same, removed_same, changed_same}
use Rattle.prefix.proofs.Booleans.{not_false}
use Rattle.slots.specs.Layout.{Shaped}
use Rattle.table.specs.Tables.{routes, SoundTable}
use Rattle.entries.specs.Caches.{entries}
use Rattle.verdicts.specs.Verdicts as verdicts
use Rattle.verdicts.specs.Verdicts.{verdict_number, update_error_number, Late, TableAfter}
use Rattle.verdicts.specs.declared.UpdateError.{UpdateError}
use Rattle.verdicts.specs.declared.UpdateError.TheVariants.{TooLong, BadHop, Full, NotHeld, Unsound}
use Rattle.updates.specs.Updates.{action_of, prefix_of_update, update_of, first_refusal, TableUpdated}
use Rattle.updates.specs.declared.Update.{Update}
use Rattle.updates.proofs.Updating.{refused, short_enough}
use Rattle.renewal.specs.declared.Pass.{Pass}
use Rattle.refresh.specs.declared.Updated.{Updated}
use Rattle.pairs.specs.Pairs.{SoundPair, limits_of}
use Rattle.pairs.specs.States.{state_of, Reached}
use Rattle.refresh.specs.Promises.{updated_of, update_step, UpdatedPair, Refused, UpdatePromise}
use Rattle.renewal.specs.Passes.{RightApart, Renewed, Passed}
use Rattle.pairs.proofs.Pairing.{legal_pair}

-- ---- what the model says

-- no refusal depends on the entries
refusal_entries : (w x : List ℕ) (t : model.Table) (n : ℕ) (p : Bits) (a : model.Action) → refusal (verdicts.limits_of w) t n p a ≡ refusal (limits_of w x) t n p a
unfolding refusal
refusal_entries w x t n p (model.announce hop) = refl
refusal_entries w x t n p model.withdraw = refl

step_accepted : (L : Limits) (s : State) (a : Bits) (n : ℕ) (act : model.Action) → refusal L s.table n (take n a) act ≡ 0
    → step L s (update a n act) ≡ accepted s (record { prefix = take n a; action = act }) (updated s.table (record { prefix = take n a; action = act }))
unfolding step judged
step_accepted L s a n act e = rw e

-- the number of a refusal is not 0
some_number : (e : UpdateError) → (m : ℕ) × (update_error_number e ≡ suc m)
some_number TooLong = (0, refl)
some_number BadHop = (1, refl)
some_number Full = (2, refl)
some_number NotHeld = (3, refl)
some_number Unsound = (8, refl)

-- a refusal has counted nothing
nothing_changed : (w x : List ℕ) (t : Tallies) (e : UpdateError) → Refused w x w x t (Err e)
nothing_changed w x t e = record { no_counts = (refl, refl); same_tallies = refl; same_table = refl; same_cache = refl }

module _ {w w' : List ℕ} {u : Update} where
  model_number : {v : Result (Unit {0}) UpdateError} → TableUpdated w w' u v → (x : List ℕ) → SoundTable w
      → verdict_number v ≡ refusal (limits_of w x) (routes w) u.prefix.length (prefix_of_update u) (action_of u.action)
  model_number a x S = a.number S ∙ refusal_entries w x (routes w) u.prefix.length (prefix_of_update u) (action_of u.action)

  -- ---- refused by the table

  module _ {e : UpdateError} (a : TableUpdated w w' u (Err e)) (x : List ℕ) (t : Tallies) where
    same_table : SoundTable w → w' ≡ w
    same_table S = a.refused S (λ z. absurd (let n : ◌≡◌ {A = ℕ} 0 1 = cc in omega arith))

    kept_refused : w' ≡ w → Refused w x w' x t (Err e)
    kept_refused z = subst (λ (y : List ℕ). Refused w x y x t (Err e)) (sym z) (nothing_changed w x t e)

    step_refused : (m : ℕ) → update_error_number e ≡ suc m → SoundTable w → update_step w x t u ≡ record { answer = answers.refused (suc m); state = state_of w x t }
    step_refused m k S =
        update_refused (limits_of w x) (state_of w x t) (ipv4_bits u.prefix.address) u.prefix.length (action_of u.action) m (sym (model_number a x S) ∙ k)

    pair_same : SoundPair w x → UpdatedPair w x w x t u (Err e)
    pair_same P = go (some_number e)
      where
        go : (m : ℕ) × (update_error_number e ≡ suc m) → UpdatedPair w x w x t u (Err e)
        go (m, k) = record {
          answer = rw k (ap (λ (o : Outcome). o.answer) (sym (step_refused m k P.its_table)));
          state = subst (λ (o : Outcome). Reached w x t o.state) (sym (step_refused m k P.its_table)) (record {
            are_routes = record { to = λ r i. i; from = λ r i. i };
            are_entries = refl;
            are_tallies = refl;
          });
          sound = P;
          table_kept = (refl, refl);
          cache_kept = (refl, refl);
        }

    -- of a cache whose header fits it, or an update that is refused first
    pub table_refused : (first_refusal u ≡ 0 → Shaped x) → UpdatePromise w x w' x t u (Err e)
    table_refused s = record {
      first = λ ne. ((a.first ne).0, kept_refused (a.first ne).1);
      unfit = λ z n. absurd (n (s z));
      sound_pair = λ P. subst (λ (y : List ℕ). UpdatedPair w x y x t u (Err e)) (sym (same_table P.its_table)) (pair_same P);
      refused = λ P ne. kept_refused (same_table P.its_table);
    }

  -- ---- accepted by the table

  module _ (a : TableUpdated w w' u (Ok tt)) (none : 0 ≡ first_refusal u) (x x' : List ℕ) (t : Tallies) (p : Pass) (passed : Passed w' x x' u p) (ts : Tallies)
      (counted : ts ≡ after_update t p.removed) where
    abbrev done : Result Updated UpdateError
    done = Ok (record { removed = p.removed; changed = p.changed; tallies = ts })

    module _ (P : SoundPair w x) where
      after : TableAfter w w' (update_of u)
      after = a.accepted P.its_table refl

      one : OneEach (updated (routes w) (update_of u))
      one = one_each (updated_distinct (routes w) (update_of u) (legal_pair P).distinct)

      apart : RightApart (routes w') (update_of u) x
      apart E m o = record {
        stays = ap (λ (f : Entry → Bool). f E) (leaves_same (routes w') (updated (routes w) (update_of u)) (update_of u) after.are_routes)
            ∙ apart_stays (routes w) (update_of u) E (legal_pair P).distinct (P.covered E m) o;
        its_hop = sym (ap (λ (f : Entry → Entry). (f E).hop) (fresh_same (routes w') (updated (routes w) (update_of u)) one after.are_routes)
            ∙ ap (λ (D : Entry). D.hop) (apart_unchanged (routes w) (update_of u) E (legal_pair P).distinct (P.covered E m) o));
      }

      renewed : Renewed (routes w') (update_of u) x x' p
      renewed = passed.renewed (record { its_table = after.sound; its_entries = P.its_cache; short = short_enough u none; apart = apart })

      is_removed : p.removed ≡ removed (updated (routes w) (update_of u)) (update_of u) (entries x)
      is_removed = renewed.is_removed ∙ removed_same (routes w') (updated (routes w) (update_of u)) (update_of u) (entries x) after.are_routes

      is_changed : p.changed ≡ changed (updated (routes w) (update_of u)) (update_of u) (entries x)
      is_changed = renewed.is_changed ∙ changed_same (routes w') (updated (routes w) (update_of u)) (update_of u) (entries x) one after.are_routes

      are_entries : entries x' ≡ refreshed (updated (routes w) (update_of u)) (update_of u) (entries x)
      are_entries = renewed.are_entries ∙ refreshed_same (routes w') (updated (routes w) (update_of u)) (update_of u) (entries x) one after.are_routes

      stepped : update_step w x t u ≡ accepted (state_of w x t) (update_of u) (updated (routes w) (update_of u))
      stepped =
          step_accepted (limits_of w x) (state_of w x t) (ipv4_bits u.prefix.address) u.prefix.length (action_of u.action) (sym (model_number a x P.its_table))

      all_covered : (E : Entry) → E ∈ entries x' → Covered (routes w') E
      unfolding refreshed
      all_covered E m = go (map_in (fresh (routes w')) _ (subst (λ (c : Cache). E ∈ c) renewed.are_entries m))
        where
          go : (D : Entry) × (D ∈ keep (λ (F : Entry). not (leaves (routes w') (update_of u) F)) (entries x)) × (E ≡ fresh (routes w') D) → Covered (routes w') E
          go (D, d, e) = subst (Covered (routes w')) (sym e) (fresh_entry (routes w') (update_of u) D (not_false (leaves (routes w') (update_of u) D) (keep_in (λ (F : Entry). not (leaves (routes w') (update_of u) F)) (entries x) d).1))

      reached : Reached w' x' ts (accepted (state_of w x t) (update_of u) (updated (routes w) (update_of u))).state
      unfolding accepted
      reached = record { are_routes = after.are_routes; are_entries = are_entries; are_tallies = counted ∙ ap (after_update t) is_removed }

      answered : updated_of done ≡ (accepted (state_of w x t) (update_of u) (updated (routes w) (update_of u))).answer
      unfolding accepted
      answered = ap₂ answers.done is_removed is_changed

      updated_pair : UpdatedPair w x w' x' t u done
      updated_pair = record {
        answer = answered ∙ ap (λ (o : Outcome). o.answer) (sym stepped);
        state = subst (λ (o : Outcome). Reached w' x' ts o.state) (sym stepped) reached;
        sound = record { its_table = after.sound; its_cache = renewed.sound; covered = all_covered };
        table_kept = (after.limit_kept, after.past_kept);
        cache_kept = (passed.kept.limit_kept, passed.kept.past_kept);
      }

    pub all_done : Shaped x → UpdatePromise w x w' x' t u done
    all_done s = record {
      first = λ ne. absurd (ne (sym none));
      unfit = λ z n. absurd (n s);
      sound_pair = updated_pair;
      refused = λ P ne. absurd (ne refl);
    }

-- ---- refused before the table is asked

-- the check's refusal
module _ (w : List ℕ) (u : Update) (e : UpdateError) (is : update_error_number e ≡ first_refusal u) (x : List ℕ) (t : Tallies) where
  pub check_refused : UpdatePromise w x w x t u (Err e)
  check_refused = table_refused (refused w u e is) x t (λ z. absurd (omega (arith, (some_number e).1, is, z)))
