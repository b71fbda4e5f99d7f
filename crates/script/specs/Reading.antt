-- What the functions of the reader answer at a place of a block. Assumes nothing.
use Rattle.std.specs.Prelude.{ℕ, ◌+◌, ◌≤◌, ◌≡◌, Bool, true, false, cond, List, [], ◌∷◌, length, drop, eqb, ltb, Option, Some, None, MatchOption, Result, MatchResult}
use Rattle.script.specs.Blocks.{before, line_from, line_end}
use Rattle.script.specs.Lines.{digit, number, parts, both, numbers, address, call, space, point}
use Rattle.script.specs.declared.Found.{Found}
use Rattle.script.specs.declared.Line.{Line}
use Rattle.script.specs.declared.Line.TheVariants.{Bad}
use Rattle.script.specs.declared.Seen.{Seen}

-- ---- numbers

-- the digits that a list starts with
unfoldable pub run : List ℕ → List ℕ
run [] = []
run (b ∷ l) = cond (digit b) (b ∷ run l) []

unfoldable pub ended : Option ℕ → ℕ → Option Found
ended None end = None
ended (Some v) end = Some (record { value = v; end = end })

-- the number of the digits from a place on, and the place after them
unfoldable pub number_at : ℕ → List ℕ → ℕ → Option Found
number_at most l at = ended (number most (run (drop at l))) (at + length (run (drop at l)))

-- ---- what follows

unfoldable pub over : List ℕ → Bool
over [] = true
over (b ∷ l) = false

unfoldable pub marked : ℕ → List ℕ → Bool
marked mark [] = false
marked mark (b ∷ l) = eqb b mark

-- the place after a mark, where it is there
unfoldable pub past : ℕ → List ℕ → ℕ → Option ℕ
past mark l at = cond (marked mark (drop at l)) (Some (at + 1)) None

-- a part is over, or its mark follows
unfoldable pub closed : ℕ → List ℕ → Bool
closed mark [] = true
closed mark (b ∷ l) = eqb b mark

-- ---- an address

-- the octets of a field that a space or the end of the line closes
unfoldable pub octets : List ℕ → Option (List ℕ)
octets l = numbers 255 (parts point (before space l))

-- the place of that space, or the end of the line
unfoldable pub field_end : List ℕ → ℕ → ℕ
field_end l at = at + length (before space (line_from l at))

-- none, or one number
pub data Few : Option (List ℕ) → Type 0 where
  few_none : Few None
  few_one : {n : ℕ} → Few (Some (n ∷ []))

-- one octet with a point after it, and the place after the point
pub record OneOctet (l : List ℕ) (at : ℕ) (r : Found) : Type 0 where
  pub small : r.value ≤ 255
  pub others : octets (line_from l at) ≡ both (Some r.value) (octets (line_from l r.end))
  pub same_line : line_end l r.end ≡ line_end l at
  pub same_field : field_end l r.end ≡ field_end l at

pub record OctetRead (l : List ℕ) (at : ℕ) (r : Option Found) : Type 0 where
  pub is : MatchOption r (Few (octets (line_from l at))) (OneOctet l at)

-- four octets, and the place after them: they are the address if a space or the end of the line is there
pub record OneAddress (l : List ℕ) (at : ℕ) (r : Found) : Type 0 where
  pub its_address : address (before space (line_from l at)) ≡ cond (closed space (line_from l r.end)) (Some r.value) None
  pub its_end : closed space (line_from l r.end) ≡ true → r.end ≡ field_end l at
  pub same_line : line_end l r.end ≡ line_end l at

pub record AddressRead (l : List ℕ) (at : ℕ) (r : Option Found) : Type 0 where
  pub is : MatchOption r (address (before space (line_from l at)) ≡ None) (OneAddress l at)

-- ---- a line feed

-- the first line feed at or after a place
unfoldable pub feed_at : List ℕ → ℕ → Option ℕ
feed_at l from = cond (ltb (line_end l from) (length l)) (Some (line_end l from)) None

-- ---- a line

-- the letter, the address, and the numbers after it
abbrev pub lettered : ℕ → ℕ → Option (List ℕ) → Line
lettered letter a ns = call (letter ∷ []) (Some a) ns

-- the line is read, up to a place before its line feed or at it
pub record SeenTo (l : List ℕ) (at : ℕ) (line : Line) (seen : Seen) : Type 0 where
  pub its_line : seen.line ≡ line
  pub same_line : line_end l seen.to ≡ line_end l at

-- the line is bad, up to such a place
pub record BadTo (l : List ℕ) (at : ℕ) (line : Line) (to : ℕ) : Type 0 where
  pub is_bad : line ≡ Bad
  pub same_line : line_end l to ≡ line_end l at

-- a call is read so; any other line is bad so
pub record CallSeen (l : List ℕ) (at : ℕ) (line : Line) (r : Result Seen ℕ) : Type 0 where
  pub is : MatchResult r (SeenTo l at line) (BadTo l at line)
