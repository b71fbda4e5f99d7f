-- What the program makes of a block of input: each whole line, one after the other, is answered as `interpreter` says, and its answer
-- stands in the output behind the earlier ones that wait to be written. Assumes nothing.
use Rattle.std.specs.Prelude.{◌≡◌, List, ◌⊎◌, ℕ, ◌+◌, ◌≤◌, ◌<◌, length, Option, MatchOption, Result, MatchResult}
use Rattle.tallies.specs.declared.Tallies.{Tallies}
use Rattle.answers.specs.Answers.{room, Printed}
use Rattle.script.specs.Blocks.{line_from, line_end}
use Rattle.script.specs.Lines.{line_of}
use Rattle.interpreter.specs.Lines.{LineAnswered}
use Rattle.interpreter.specs.declared.Answered as interpreter
use Rattle.koprzywist.specs.declared.Reached.{Reached}
use Rattle.koprzywist.specs.declared.Answered.{Answered}

-- a place of a block, with nothing waiting
abbrev pub from : ℕ → Tallies → Reached
from at t = record { at = at; waiting = 0; tallies = t }

-- one line, without its line feed
pub record Taken (table cache out table' cache' out' line : List ℕ) (r p : Reached) : Type 0 where
  pub answered : interpreter.Answered
  pub answer : LineAnswered table cache table' cache' r.tallies (line_of line) answered
  pub printed : Printed answered.said r.waiting out out' p.waiting
  pub are_tallies : p.tallies ≡ answered.tallies

-- the block has no whole line any more, or the output has no room for its answer
abbrev pub Stopped : List ℕ → List ℕ → Reached → Type 0
Stopped block out r = (length block ≤ line_end block r.at) ⊎ (length out < r.waiting + room)

-- the line from a place of a block to its line feed
pub record LineStep (block table cache out table' cache' out' : List ℕ) (r p : Reached) : Type 0 where
  pub has_feed : line_end block r.at < length block
  pub next_place : p.at ≡ line_end block r.at + 1
  pub has_room : r.waiting + room ≤ length out
  pub taken : Taken table cache out table' cache' out' (line_from block r.at) r p

-- nothing changes
pub record NoStep (block table cache out table' cache' out' : List ℕ) (r : Reached) : Type 0 where
  pub stopped : Stopped block out r
  pub same_table : table' ≡ table
  pub same_cache : cache' ≡ cache
  pub same_out : out' ≡ out

pub record Stepped (block table cache out table' cache' out' : List ℕ) (r : Reached) (s : Option Reached) : Type 0 where
  pub step : MatchOption s (NoStep block table cache out table' cache' out' r) (LineStep block table cache out table' cache' out' r)

-- the lines of a block, in their order; what waits may be written at any time, and then nothing waits
pub data Lines (block table cache out : List ℕ) (r : Reached) : List ℕ → List ℕ → List ℕ → Reached → Type 0 where
  at_start : Lines block table cache out r table cache out r
  and_line : {t c o t' c' o' : List ℕ} {p q : Reached}
      → Lines block table cache out r t c o p
      → LineStep block t c o t' c' o' p q
      → Lines block table cache out r t' c' o' q
  and_written : {t c o : List ℕ} {p : Reached} → Lines block table cache out r t c o p → Lines block table cache out r t c o (from p.at p.tallies)

-- every whole line of a block, unless the output has no room for any answer
pub record AllAnswered (block table cache out table' cache' out' : List ℕ) (t : Tallies) (w : Answered) : Type 0 where
  pub lines : Lines block table cache out (from 0 t) table' cache' out' (from w.end w.tallies)
  pub none_left : room ≤ length out → length block ≤ line_end block w.end

-- the first lines of a block, as many as were answered when a write failed
pub record FirstAnswered (block table cache out table' cache' out' : List ℕ) (t : Tallies) : Type 0 where
  pub reached : Answered
  pub lines : Lines block table cache out (from 0 t) table' cache' out' (from reached.end reached.tallies)

pub record BlockAnswered {E : Type 0} (block table cache out table' cache' out' : List ℕ) (t : Tallies) (r : Result Answered E) : Type 0 where
  pub is : MatchResult r (AllAnswered block table cache out table' cache' out' t) (λ _. FirstAnswered block table cache out table' cache' out' t)
