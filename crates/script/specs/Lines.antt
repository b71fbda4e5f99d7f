-- Which lines are which calls. A line is the list of its bytes, without its line feed.
-- "The program reads lines of at most 64 bytes: `A address length hop`, `W address length`, `L address`, single spaces. An
-- address is four octets with a point between each two. Numbers are decimal digits; leading zeros are allowed. A line of
-- another form, empty or too long, an octet above 255 or a number above 4,294,967,295 prints `bad` once."
-- A field is what stands between two spaces, or beside one. An empty field is no number and no address, so a leading, a
-- doubled and a trailing space are bad by themselves. Assumes nothing.
use Rattle.std.specs.Prelude.{ℕ, ◌+◌, ◌-◌, ◌*◌, Bool, true, false, cond, ◌&&◌, List, [], ◌∷◌, length, leb, eqb, Option, Some, None}
use Prim.Native.Char.{code}
use Rattle.script.specs.declared.Line.{Line}
use Rattle.script.specs.declared.Line.TheVariants.{Announce, Withdraw, Look, Bad}

-- ---- numbers

unfoldable pub digit : ℕ → Bool
digit b = leb (code "0") b && leb b (code "9")

unfoldable pub digits : List ℕ → Bool
digits [] = true
digits (b ∷ l) = digit b && digits l

-- the value of digits that follow the value v
unfoldable pub value_from : ℕ → List ℕ → ℕ
value_from v [] = v
value_from v (b ∷ l) = value_from (v * 10 + (b - code "0")) l

-- digits, at least one, of a value that is at most `most`
unfoldable pub number : ℕ → List ℕ → Option ℕ
number most [] = None
number most (b ∷ l) = cond (digits (b ∷ l) && leb (value_from 0 (b ∷ l)) most) (Some (value_from 0 (b ∷ l))) None

-- ---- parts

unfoldable pub onto : ℕ → List (List ℕ) → List (List ℕ)
onto b [] = []
onto b (p ∷ ps) = (b ∷ p) ∷ ps

-- a list split at each mark: always one part more than it has marks
unfoldable pub parts : ℕ → List ℕ → List (List ℕ)
parts mark [] = [] ∷ []
parts mark (b ∷ l) = cond (eqb b mark) ([] ∷ parts mark l) (onto b (parts mark l))

unfoldable pub both : Option ℕ → Option (List ℕ) → Option (List ℕ)
both None ns = None
both (Some n) None = None
both (Some n) (Some ns) = Some (n ∷ ns)

-- the numbers that the parts are, if each is one
unfoldable pub numbers : ℕ → List (List ℕ) → Option (List ℕ)
numbers most [] = Some []
numbers most (p ∷ ps) = both (number most p) (numbers most ps)

-- ---- lines

abbrev pub largest : ℕ
largest = 4294967295

abbrev pub longest : ℕ
longest = 64

abbrev pub space : ℕ
space = code " "

abbrev pub point : ℕ
point = code "."

-- the first octet is highest
unfoldable pub four : Option (List ℕ) → Option ℕ
four None = None
four (Some []) = None
four (Some (a ∷ [])) = None
four (Some (a ∷ b ∷ [])) = None
four (Some (a ∷ b ∷ c ∷ [])) = None
four (Some (a ∷ b ∷ c ∷ d ∷ [])) = Some (((a * 256 + b) * 256 + c) * 256 + d)
four (Some (a ∷ b ∷ c ∷ d ∷ e ∷ ns)) = None

unfoldable pub address : List ℕ → Option ℕ
address field = four (numbers 255 (parts point field))

-- whether a field is this letter alone
unfoldable pub only : ℕ → List ℕ → Bool
only letter [] = false
only letter (b ∷ []) = eqb b letter
only letter (b ∷ c ∷ l) = false

-- by the first field, the address and the numbers after it
unfoldable pub call : List ℕ → Option ℕ → Option (List ℕ) → Line
call word None ns = Bad
call word (Some a) None = Bad
call word (Some a) (Some []) = cond (only (code "L") word) (Look a) Bad
call word (Some a) (Some (n ∷ [])) = cond (only (code "W") word) (Withdraw a n) Bad
call word (Some a) (Some (n ∷ h ∷ [])) = cond (only (code "A") word) (Announce a n h) Bad
call word (Some a) (Some (n ∷ h ∷ x ∷ ns)) = Bad

unfoldable pub fields : List (List ℕ) → Line
fields [] = Bad
fields (word ∷ []) = Bad
fields (word ∷ a ∷ ns) = call word (address a) (numbers largest ns)

unfoldable pub line_of : List ℕ → Line
line_of l = cond (leb (length l) longest) (fields (parts space l)) Bad
