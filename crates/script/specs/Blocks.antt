-- The lines of a block of bytes: where one ends, and what is read of it. Assumes nothing.
use Rattle.std.specs.Prelude.{ℕ, ◌+◌, ◌^◌, ◌≤◌, ◌<◌, ◌≡◌, cond, List, [], ◌∷◌, length, drop, eqb, Option, MatchOption}
use Prim.Native.Char.{code}
use Rattle.script.specs.Lines.{line_of}
use Rattle.script.specs.declared.Read.{Read}

-- the bytes before the first mark, or all of them
unfoldable pub before : ℕ → List ℕ → List ℕ
before mark [] = []
before mark (b ∷ l) = cond (eqb b mark) [] (b ∷ before mark l)

abbrev pub feed : ℕ
feed = code "\n"

-- the line from a place of a block on, without its line feed
unfoldable pub line_from : List ℕ → ℕ → List ℕ
line_from l at = before feed (drop at l)

-- the place of its line feed, or the end of the block
unfoldable pub line_end : List ℕ → ℕ → ℕ
line_end l at = at + length (line_from l at)

-- what the line from a place on asks for, and where its line feed is, with a place after it
pub record EndedLine (l : List ℕ) (at : ℕ) (r : Read) : Type 0 where
  pub its_feed : r.feed ≡ line_end l at
  pub inside : r.feed < length l
  pub its_line : r.line ≡ line_of (line_from l at)
  pub passable : r.feed + 1 < 2 ^ 64

-- the line from a place on, or there is no line feed any more
pub record LineRead (l : List ℕ) (at : ℕ) (r : Option Read) : Type 0 where
  pub is : MatchOption r (length l ≤ line_end l at) (EndedLine l at)
