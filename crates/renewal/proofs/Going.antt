-- The pass from turn to turn, and what it has done at the end. Assumes nothing.
use mathlib.Core.Path.{◌≡◌, refl, sym, ap, ◌∙◌, subst}
use mathlib.Core.List.{List}
use Prim.Native.Nat.{ℕ}
use native.Mathlib.Omega.{arith}
use lib.ListN.{length, drop}
use Rattle.sizes.specs.Sizes.{cache_need}
use Rattle.model.specs.Lists.{◌∈◌}
use Rattle.model.specs.Routes as model
use Rattle.model.specs.Model.{Entry}
use Rattle.lru_cache.proofs.Holding.{entry_slot}
use Rattle.slots.specs.Layout.{entries_held, Shaped}
use Rattle.table.specs.Tables.{routes}
use Rattle.entries.specs.Caches.{entries, SoundEntries, Slot, entry_in, Kept}
use Rattle.updates.specs.Updates.{update_of}
use Rattle.updates.specs.declared.Update.{Update}
use Rattle.renewal.specs.declared.Pass.{Pass}
use Rattle.renewal.specs.Passes.{Stepped, Right, RightAbove, Turned, Ready, Turns, start_pass, Going, Renewed, Passed}
use Rattle.renewal.proofs.Passing.{right_cache, right_removed, right_changed}

pub going_start : {table w : List ℕ} {u : Update} {n : ℕ} → Shaped w → n ≡ entries_held w → Going table w w u (start_pass n)
going_start {table} {w} {u} {n} s e = rw e (record {
  within = record {
    shaped = s;
    count = refl;
    at_most = omega arith;
    few_removed = omega (arith, s.entries_fit, s.legal.1);
    few_changed = omega (arith, s.entries_fit, s.legal.1);
  };
  kept = record { limit_kept = refl; count = refl; past_kept = refl };
  size = refl;
  turned = λ R. record { sound = R.its_entries; same_cache = refl; same_removed = refl; same_changed = refl; done = λ h. h; apart = λ h. h };
})

kept_on : {w x y : List ℕ} {m n : ℕ} → Kept w x m → Kept x y n → Kept w y n
kept_on {w} {x} {y} a b = record {
  limit_kept = b.limit_kept ∙ a.limit_kept;
  count = b.count;
  past_kept = ap (λ (l : ℕ). drop (cache_need l) y) (sym a.limit_kept) ∙ b.past_kept ∙ ap (λ (l : ℕ). drop (cache_need l) x) a.limit_kept ∙ a.past_kept;
}

turned_on : {T : model.Table} {v : model.Update} {w x y : List ℕ} {o p q : Pass} → Turned T v w x o p → Turned T v x y p q → Turned T v w y o q
turned_on a b = record {
  sound = b.sound;
  same_cache = b.same_cache ∙ a.same_cache;
  same_removed = b.same_removed ∙ a.same_removed;
  same_changed = b.same_changed ∙ a.same_changed;
  done = λ h. b.done (a.done h);
  apart = λ h. b.apart (a.apart h);
}

pub going_on : {table w x y : List ℕ} {u : Update} {p q : Pass} → Going table w x u p → Stepped x y p q → Turns table x y u p q → length y ≡ length x → Going table w y u q
going_on g s t z = record {
  within = s.within;
  kept = kept_on g.kept s.kept;
  size = z ∙ g.size;
  turned = λ R. let a = g.turned R in turned_on a (t (record { its_table = R.its_table; its_entries = a.sound; short = R.short; apart = a.apart R.apart }));
}

-- every slot is done
module _ (T : model.Table) (v : model.Update) (w : List ℕ) (S : SoundEntries w) (right : RightAbove T v w 0) where
  all_right : (E : Entry) → E ∈ entries w → Right T v E
  unfolding entries
  all_right E m = go (entry_slot S.slots E m)
    where
      go : (k : ℕ) × Slot w k × (entry_in w k ≡ E) → Right T v E
      go (k, l, e) = subst (Right T v) e (right k l l.0)

module _ {table w w' : List ℕ} {u : Update} {p : Pass} (g : Going table w w' u p) (e : p.at ≡ 0) where
  renewed : Ready table w u → Renewed (routes table) (update_of u) w w' p
  renewed R = record {
    sound = t.sound;
    are_entries = sym (right_cache T v (entries w') all) ∙ t.same_cache;
    is_removed = omega (arith, t.same_removed, right_removed T v (entries w') all);
    is_changed = omega (arith, t.same_changed, right_changed T v (entries w') all);
  }
    where
      T : model.Table
      T = routes table

      v : model.Update
      v = update_of u

      t : Turned (routes table) (update_of u) w w' (start_pass (entries_held w)) p
      t = g.turned R

      above : RightAbove (routes table) (update_of u) w' p.at
      above = t.done (λ s ls lt. absurd (omega (arith, ls.1)))

      all : (E : Entry) → E ∈ entries w' → Right (routes table) (update_of u) E
      all = all_right (routes table) (update_of u) w' t.sound (subst (RightAbove (routes table) (update_of u) w') e above)

  pub going_done : Passed table w w' u p
  going_done = record { kept = g.kept; renewed = renewed }
