-- The lines of a block in rounds: each is answered as far as the output has room, and then written. Assumes nothing.
use mathlib.Core.Path.{◌≡◌}
use mathlib.Core.List.{List}
use mathlib.Core.Logic.{◌⊎◌, inl, inr}
use Prim.Native.Nat.{ℕ, ◌-◌, ◌<◌, ◌≤◌}
use native.Mathlib.Omega.{arith}
use lib.ListN.{length}
use Rattle.std.specs.Prelude.{Result, Ok, Err, IsErr}
use Rattle.tallies.specs.declared.Tallies.{Tallies}
use Rattle.answers.specs.Answers.{room}
use Rattle.script.specs.Blocks.{line_end}
use Rattle.script.proofs.Callers.{ends_after}
use Rattle.koprzywist.specs.Blocks.{from, Stopped, Lines, at_start, and_line, and_written, AllAnswered, FirstAnswered, BlockAnswered}
use Rattle.koprzywist.proofs.Stepping.{step_inside}
use Rattle.koprzywist.specs.declared.Answered.{Answered}
use Rattle.koprzywist.specs.declared.Reached.{Reached}

module _ {block table cache out : List ℕ} {r : Reached} where
  pub and_lines : {p : Reached} {t c o t' c' o' : List ℕ} {q : Reached} → Lines block table cache out r t c o p → Lines block t c o p t' c' o' q → Lines block table cache out r t' c' o' q
  and_lines K at_start = K
  and_lines K (and_line M S) = and_line (and_lines K M) S
  and_lines K (and_written M) = and_written (and_lines K M)

  pub and_round : {t c o t' c' o' : List ℕ} {p : Reached} (q : Reached) → Lines block table cache out r t c o p → Lines block t c o p t' c' o' q
      → Lines block table cache out r t' c' o' (from q.at q.tallies)
  and_round q K round = and_written (and_lines K round)

  -- no line ends behind the block
  pub lines_inside : {t c o : List ℕ} {p : Reached} → Lines block table cache out r t c o p → r.at ≤ length block → p.at ≤ length block
  lines_inside at_start h = h
  lines_inside (and_line {p = p} K S) h = omega (arith, S.has_feed, S.next_place)
  lines_inside (and_written K) h = lines_inside K h

  -- only a line puts something behind what waits
  pub lines_onward : {t c o : List ℕ} {p : Reached} → Lines block table cache out r t c o p → (r.at ≤ p.at) × ((p.waiting ≤ r.waiting) ⊎ (r.at < p.at))
  lines_onward at_start = (omega arith, inl (omega arith))
  lines_onward (and_line {p = p} K S) =
      let after = ends_after block p.at in
      let further = (lines_onward K).0 in
      let next = S.next_place in
      (omega arith, inr (omega arith))
  lines_onward (and_written K) = ((lines_onward K).0, inl (omega arith))

  -- what waits is in the output
  pub waiting_inside : {t c o : List ℕ} {p : Reached} → Lines block table cache out r t c o p → r.waiting ≤ length out → p.waiting ≤ length o
  waiting_inside at_start h = h
  waiting_inside (and_line K S) h = step_inside _ S
  waiting_inside (and_written K) h = omega arith

-- a round begins with nothing waiting
pub nothing_waits : {block table cache out t c o : List ℕ} {at : ℕ} {tallies : Tallies} {p : Reached} → Lines block table cache out (from at tallies) t c o p → p.waiting ≤ length o
nothing_waits K = waiting_inside K (omega arith)

-- a block that was answered ends within itself
pub answered_inside : {block table cache out t c o : List ℕ} {t₀ : Tallies} (w : Answered) → AllAnswered block table cache out t c o t₀ w → w.end ≤ length block
answered_inside w A = lines_inside A.lines (omega arith)

module _ {block table cache out t c o : List ℕ} (at : ℕ) (tallies : Tallies) (p : Reached) (lines : Lines block table cache out (from at tallies) t c o p) (stopped : Stopped block out p) where
  pub round_inside : at ≤ length block → p.at ≤ length block
  round_inside h = lines_inside lines h

  pub round_onward : at ≤ length block → at < p.at → length block - p.at < length block - at
  round_onward h k = omega (arith, round_inside h, h, k)

  -- a round without a line had no line to take, where the output has room for any
  all_taken : p.at ≤ at → room ≤ length out → length block ≤ line_end block p.at
  all_taken h size = of stopped (lines_onward lines).1
    where
      of : Stopped block out p → ((p.waiting ≤ 0) ⊎ (at < p.at)) → length block ≤ line_end block p.at
      of (inl none) w = none
      of (inr full) (inl none-waits) = absurd (omega (arith, full, none-waits, size))
      of (inr full) (inr on) = absurd (omega (arith, on, h))

  module _ (table₀ cache₀ out₀ : List ℕ) (t₀ : Tallies) (K : Lines block table₀ cache₀ out₀ (from 0 t₀) table cache out (from at tallies)) where
    pub all_written : length out ≡ length out₀ → p.at ≤ at → AllAnswered block table₀ cache₀ out₀ t c o t₀ (record { end = p.at; tallies = p.tallies })
    all_written same h = record { lines = and_round p K lines; none_left = λ size. all_taken h (omega (arith, same, size)) }

    pub not_written : FirstAnswered block table₀ cache₀ out₀ t c o t₀
    not_written = record { reached = record { end = p.at; tallies = p.tallies }; lines = and_round p K lines }

    -- where the write failed
    pub failed : {E : Type 0} (r : Result Answered E) → IsErr r → BlockAnswered block table₀ cache₀ out₀ t c o t₀ r
    failed (Ok w) e = absurd cc
    failed (Err x) e = record { is = not_written }
