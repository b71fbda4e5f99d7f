-- From line to line through a block, as long as the output has room. Assumes nothing.
use mathlib.Core.Path.{◌≡◌, ◌∙◌}
use mathlib.Core.List.{List}
use mathlib.Core.Logic.{inl, inr}
use Prim.Native.Nat.{ℕ, ◌+◌, ◌-◌, ◌<◌, ◌≤◌}
use native.Mathlib.Omega.{arith}
use lib.ListN.{length}
use lib.Seq.{sets, length-sets}
use lib.Dec.{leb}
use borrow.Author.Tests.{leb-true}
use Rattle.std.specs.Prelude.{Some, None}
use Rattle.answers.specs.Answers.{room, answer_of, Printed}
use Rattle.answers.specs.declared.Said.{Said}
use Rattle.answers.proofs.Booleans.{by_cases}
use Rattle.answers.proofs.DecimalLaws.{line_fits}
use Rattle.script.proofs.Callers.{ends_after}
use Rattle.koprzywist.specs.Blocks.{LineStep, Stepped, Stopped, Lines, and_line}
use Rattle.koprzywist.specs.declared.Reached.{Reached}

-- what is printed ends within the output
pub printed_inside : (s : Said) (at : ℕ) (entry exit : List ℕ) (next : ℕ) → Printed s at entry exit next → at ≤ length entry → next ≤ length exit
printed_inside s at entry exit next P h =
    by_cases (leb (at + room) (length entry))
    (λ e.
    let its_end : next ≡ at + length (answer_of s) = P.ended ∙ rw e in
    let stored : exit ≡ sets entry at (answer_of s) = P.stored ∙ rw e in
    rw (stored, length-sets) (omega (arith, its_end, line_fits s, leb-true _ _ e)))
    (λ e.
    let its_end : next ≡ at = P.ended ∙ rw e in
    let same : exit ≡ entry = P.stored ∙ rw e in
    rw same (omega (arith, its_end, h)))

module _ {block table cache out table' cache' out' : List ℕ} {r : Reached} where
  pub step_inside : (p : Reached) → LineStep block table cache out table' cache' out' r p → p.waiting ≤ length out'
  step_inside p S = printed_inside S.taken.answered.said r.waiting out out' p.waiting S.taken.printed (omega (arith, S.has_room))

  module _ (p : Reached) (S : Stepped block table cache out table' cache' out' r (Some p)) where
    pub step_onward : length block - p.at < length block - r.at
    step_onward = omega (arith, S.step.has_feed, S.step.next_place, ends_after block r.at)

    pub and_step : {table₀ cache₀ out₀ : List ℕ} {r₀ : Reached} → Lines block table₀ cache₀ out₀ r₀ table cache out r → Lines block table₀ cache₀ out₀ r₀ table' cache' out' p
    and_step K = and_line K S.step

  module _ (S : Stepped block table cache out table' cache' out' r None) where
    pub stopped_there : (out₀ : List ℕ) → length out ≡ length out₀ → Stopped block out₀ r
    stopped_there out₀ same = of S.step.stopped
      where
        of : Stopped block out r → Stopped block out₀ r
        of (inl none) = inl none
        of (inr full) = inr (omega (arith, full, same))

    pub lines_left : {table₀ cache₀ out₀ : List ℕ} {r₀ : Reached} → Lines block table₀ cache₀ out₀ r₀ table cache out r → Lines block table₀ cache₀ out₀ r₀ table' cache' out' r
    lines_left K = rw (S.step.same_table, S.step.same_cache, S.step.same_out) K
