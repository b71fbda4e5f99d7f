-- Which refusals are given first, by the tests that find them, and what the number tells. Assumes nothing.
use mathlib.Core.Path.{◌≡◌, refl, subst}
use mathlib.Core.Bool.{true, ◌||◌}
use Prim.Native.Nat.{ℕ, ◌≤◌, ◌<◌}
use native.Mathlib.Decide.{ℕ_discrete, dec_le}
use native.Mathlib.Omega.{arith}
use lib.Dec.{eqb, ltb}
use borrow.Author.Tests.{eq-eqb, ne_eqb, lt-ltb, le-ltb}
use Rattle.prefix.proofs.Booleans.{or_right}
use Rattle.model.specs.Model.{highest_hop}
use Rattle.model.specs.Demands.{Hop}
use Rattle.updates.specs.Updates.{first_refusal}
use Rattle.updates.specs.declared.Action.{Action}
use Rattle.updates.specs.declared.Action.TheVariants.{Announce, Withdraw}
use Rattle.updates.specs.declared.Update.{Update}

module _ (u : Update) where
  pub first_long : 32 < u.prefix.length → 1 ≡ first_refusal u
  first_long l = rw (lt-ltb 32 u.prefix.length l)

  module _ (short : u.prefix.length ≤ 32) where
    module _ (hop : ℕ) (is : u.action ≡ Announce hop) where
      pub first_zero : hop ≡ 0 → 2 ≡ first_refusal u
      first_zero z = rw (le-ltb 32 u.prefix.length short, is, eq-eqb hop 0 z)

      pub first_high : 65535 < hop → 2 ≡ first_refusal u
      first_high l = rw (le-ltb 32 u.prefix.length short, is, or_right (eqb hop 0) (ltb highest_hop hop) (lt-ltb highest_hop hop l))

      pub first_none : ¬ (hop ≡ 0) → hop ≤ 65535 → 0 ≡ first_refusal u
      first_none n l = rw (le-ltb 32 u.prefix.length short, is, ne_eqb hop 0 n, le-ltb highest_hop hop l)

    pub first_withdrawal : u.action ≡ Withdraw → 0 ≡ first_refusal u
    first_withdrawal is = rw (le-ltb 32 u.prefix.length short, is)

-- ---- what the number tells

pub data First (u : Update) : ℕ → Type 0 where
  too_long : 32 < u.prefix.length → First u 1
  bad_hop : (hop : ℕ) → u.prefix.length ≤ 32 → u.action ≡ Announce hop → (eqb hop 0 || ltb highest_hop hop) ≡ true → First u 2
  may_announce : (hop : ℕ) → u.prefix.length ≤ 32 → u.action ≡ Announce hop → Hop hop → First u 0
  may_withdraw : u.prefix.length ≤ 32 → u.action ≡ Withdraw → First u 0

pub first_tells : (u : Update) → First u (first_refusal u)
first_tells u = by_length (dec_le u.prefix.length 32)
  where
    by_hop : u.prefix.length ≤ 32 → (hop : ℕ) → u.action ≡ Announce hop → Dec (hop ≡ 0) → Dec (hop ≤ 65535) → First u (first_refusal u)
    by_hop short hop is (yes z) d = subst (First u) (first_zero u short hop is z) (bad_hop hop short is (rw (eq-eqb hop 0 z)))
    by_hop short hop is (no n) (yes l) = subst (First u) (first_none u short hop is n l) (may_announce hop short is (omega (arith, n), l))
    by_hop short hop is (no n) (no m) =
        let h : highest_hop < hop = omega (arith, m) in
        subst (First u) (first_high u short hop is h) (bad_hop hop short is (or_right (eqb hop 0) (ltb highest_hop hop) (lt-ltb highest_hop hop h)))

    by_action : u.prefix.length ≤ 32 → (x : Action) → u.action ≡ x → First u (first_refusal u)
    by_action short (Announce hop) is = by_hop short hop is (ℕ_discrete hop 0) (dec_le hop 65535)
    by_action short Withdraw is = subst (First u) (first_withdrawal u short is) (may_withdraw short is)

    by_length : Dec (u.prefix.length ≤ 32) → First u (first_refusal u)
    by_length (yes short) = by_action short u.action refl
    by_length (no n) = let l : 32 < u.prefix.length = omega (arith, n) in subst (First u) (first_long u l) (too_long l)
