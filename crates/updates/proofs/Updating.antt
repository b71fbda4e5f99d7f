-- What an update answers, by the number of the refusal that is given first. Assumes nothing.
use mathlib.Core.Path.{◌≡◌, refl, sym, ◌∙◌}
use mathlib.Core.List.{List}
use Prim.Native.Nat.{ℕ, ◌≤◌, ◌<◌}
use native.Mathlib.Omega.{arith}
use borrow.Author.Tests.{lt-ltb, le-ltb}
use Rattle.std.specs.Prelude.{Result, Err}
use Rattle.model.specs.Routes as model
use Rattle.model.specs.Model.{refusal}
use Rattle.table.specs.Tables.{routes}
use Rattle.updates.specs.Updates.{action_of, prefix_of_update, first_refusal, TableUpdated}
use Rattle.verdicts.specs.Verdicts.{update_error_number, limits_of, Answered}
use Rattle.announce.specs.Steps.{announcement}
use Rattle.withdraw.specs.Steps.{withdrawal}
use Rattle.updates.specs.declared.Action.TheVariants.{Announce, Withdraw}
use Rattle.updates.specs.declared.Update.{Update}
use Rattle.verdicts.specs.declared.UpdateError.{UpdateError}
use Rattle.verdicts.specs.declared.UpdateError.TheVariants.{TooLong, BadHop, Full, NotHeld, Unsound}
use Rattle.updates.proofs.FirstRefusals.{First, too_long, bad_hop, may_announce, may_withdraw, first_tells}

-- ---- the refusals that are given first

no_number : (e : UpdateError) → ¬ (update_error_number e ≡ 0)
no_number TooLong z = omega arith
no_number BadHop z = omega arith
no_number Full z = omega arith
no_number NotHeld z = omega arith
no_number Unsound z = omega arith

module _ (w : List ℕ) (u : Update) (e : UpdateError) where
  given_first : (k : ℕ) → 0 < k → update_error_number e ≡ k → first_refusal u ≡ k → ((x : model.Action) → x ≡ action_of u.action → refusal (limits_of w) (routes w) u.prefix.length (prefix_of_update u) x ≡ k)
      → TableUpdated w w u (Err e)
  given_first k pos f g number = record {
    first = λ n. (f ∙ sym g, refl);
    later = λ z. absurd (omega (arith, g, z));
    number = λ s. f ∙ sym (number _ refl);
    refused = λ s n. refl;
    accepted = λ s d. absurd (let z : ◌≡◌ {A = ℕ} 0 1 = cc in omega arith);
  }

  long : 32 < u.prefix.length → (x : model.Action) → refusal (limits_of w) (routes w) u.prefix.length (prefix_of_update u) x ≡ 1
  unfolding refusal
  long l (model.announce h) = rw (lt-ltb 32 u.prefix.length l)
  long l model.withdraw = rw (lt-ltb 32 u.prefix.length l)

  pub refused : update_error_number e ≡ first_refusal u → TableUpdated w w u (Err e)
  unfolding refusal
  refused f = go (first_tells u) f refl
    where
      go : {j : ℕ} → First u j → update_error_number e ≡ j → first_refusal u ≡ j → TableUpdated w w u (Err e)
      go (too_long l) f g = given_first 1 (omega arith) f g (λ x z. long l x)
      go (bad_hop hop short is b) f g = given_first 2 (omega arith) f g (λ x z. rw (z, is, le-ltb 32 u.prefix.length short, b))
      go (may_announce hop short is h) f g = absurd (no_number e f)
      go (may_withdraw short is) f g = absurd (no_number e f)

-- ---- the rest

module _ (u : Update) (none_given : 0 ≡ first_refusal u) where
  pub short_enough : u.prefix.length ≤ 32
  short_enough = go (first_tells u) (sym none_given)
    where
      go : {j : ℕ} → First u j → j ≡ 0 → u.prefix.length ≤ 32
      go (too_long l) e = absurd (omega (arith, e))
      go (bad_hop hop short is b) e = short
      go (may_announce hop short is h) e = short
      go (may_withdraw short is) e = short

  module _ (w w' : List ℕ) (r : Result (Unit {0}) UpdateError) where
    pub announced : (hop : ℕ) → u.action ≡ Announce hop → Answered w w' u.prefix.length (announcement u.prefix.address u.prefix.length hop) r → TableUpdated w w' u r
    announced hop is a = record { first = λ ne. absurd (ne (sym none_given)); later = λ z. a.late; number = λ s. rw is (a.number s); refused = a.refused; accepted = λ s d. rw is (a.accepted s d) }

    pub withdrawn : u.action ≡ Withdraw → Answered w w' u.prefix.length (withdrawal u.prefix.address u.prefix.length) r → TableUpdated w w' u r
    withdrawn is a = record { first = λ ne. absurd (ne (sym none_given)); later = λ z. a.late; number = λ s. rw is (a.number s); refused = a.refused; accepted = λ s d. rw is (a.accepted s d) }
