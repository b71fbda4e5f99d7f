-- Which number an update gives. Assumes nothing.
use mathlib.Core.Path.{◌≡◌, refl, sym, ap}
use mathlib.Core.Bool.{true, false}
use mathlib.Core.List.{List}
use Prim.Native.Nat.{ℕ, ◌≤◌, ◌<◌}
use native.Mathlib.Omega.{arith}
use lib.ListN.{length}
use Rattle.std.specs.Prelude.{Result, Ok, Err}
use borrow.Author.Tests.{ne_eqb, le-ltb, le-leb, lt-leb}
use Rattle.prefix.specs.Bits.{Bits}
use Rattle.model.specs.Routes.{Table, Action, announce, withdraw, Update, held}
use Rattle.model.specs.Model.{Limits, refusal, highest_hop}
use Rattle.model.specs.Demands.{Hop}
use Rattle.table.specs.Tables.{routes, SoundTable}
use Rattle.verdicts.specs.Verdicts.{verdict_number, limits_of, TableAfter, Late, Answered}
use Rattle.verdicts.specs.declared.UpdateError.{UpdateError}
use Rattle.verdicts.specs.declared.UpdateError.TheVariants.{Full, NotHeld, Unsound}

-- ---- not one of the first refusals

late : (r : Result (Unit {0}) UpdateError) → ¬ (verdict_number r ≡ 1) → ¬ (verdict_number r ≡ 2) → Late r
late r a b = (λ e. a (ap verdict_number e), λ e. b (ap verdict_number e))

pub late_done : Late (Ok tt)
late_done = late (Ok tt) (λ z. omega arith) (λ z. omega arith)

pub late_unsound : Late (Err Unsound)
late_unsound = late (Err Unsound) (λ z. omega arith) (λ z. omega arith)

-- ---- what the model gives

module _ (limits : Limits) (table : Table) (n : ℕ) (P : Bits) (short : n ≤ limits.width) where
  pub withdraw_held : held table P ≡ true → refusal limits table n P withdraw ≡ 0
  unfolding refusal
  withdraw_held e = rw (le-ltb limits.width n short, e)

  pub withdraw_not_held : held table P ≡ false → refusal limits table n P withdraw ≡ 4
  unfolding refusal
  withdraw_not_held e = rw (le-ltb limits.width n short, e)

  -- a length that is right does not matter
  pub any_length : (x : Action) → refusal limits table 0 P x ≡ refusal limits table n P x
  unfolding refusal
  any_length (announce H) = rw (le-ltb limits.width n short, le-ltb limits.width 0 (omega arith))
  any_length withdraw = rw (le-ltb limits.width n short, le-ltb limits.width 0 (omega arith))

  module _ (H : ℕ) (hop : Hop H) where
    pub announce_held : held table P ≡ true → refusal limits table n P (announce H) ≡ 0
    unfolding refusal
    announce_held e = rw (le-ltb limits.width n short, ne_eqb H 0 (λ z. omega (arith, hop)), le-ltb highest_hop H hop.1, e)

    module _ (new : held table P ≡ false) where
      pub announce_room : length table < limits.routes → refusal limits table n P (announce H) ≡ 0
      unfolding refusal
      announce_room l = rw (le-ltb limits.width n short, ne_eqb H 0 (λ z. omega (arith, hop)), le-ltb highest_hop H hop.1, new, lt-leb limits.routes (length table) l)

      pub announce_full : limits.routes ≤ length table → refusal limits table n P (announce H) ≡ 3
      unfolding refusal
      announce_full l = rw (le-ltb limits.width n short, ne_eqb H 0 (λ z. omega (arith, hop)), le-ltb highest_hop H hop.1, new, le-leb limits.routes (length table) l)

-- ---- answers

module _ (w w' : List ℕ) (n : ℕ) (u : Update) where
  pub unsound : ¬ SoundTable w → Answered w w' n u (Err Unsound)
  unsound f = record { late = late_unsound; number = λ s. absurd (f s); refused = λ s. absurd (f s); accepted = λ s. absurd (f s) }

  pub done : (SoundTable w → refusal (limits_of w) (routes w) n u.prefix u.action ≡ 0) → (SoundTable w → TableAfter w w' u) → Answered w w' n u (Ok tt)
  done f g = record { late = late_done; number = λ s. sym (f s); refused = λ s ne. absurd (ne refl); accepted = λ s e. g s }

module _ (w : List ℕ) (n : ℕ) (u : Update) where
  pub full : (SoundTable w → refusal (limits_of w) (routes w) n u.prefix u.action ≡ 3) → Answered w w n u (Err Full)
  full f = record { late = late (Err Full) (λ z. omega arith) (λ z. omega arith); number = λ s. sym (f s); refused = λ s ne. refl; accepted = λ s e. absurd (let z : ◌≡◌ {A = ℕ} 0 1 = cc in omega arith) }

  pub not_held : (SoundTable w → refusal (limits_of w) (routes w) n u.prefix u.action ≡ 4) → Answered w w n u (Err NotHeld)
  not_held f = record { late = late (Err NotHeld) (λ z. omega arith) (λ z. omega arith); number = λ s. sym (f s); refused = λ s ne. refl; accepted = λ s e. absurd (let z : ◌≡◌ {A = ℕ} 0 1 = cc in omega arith) }
