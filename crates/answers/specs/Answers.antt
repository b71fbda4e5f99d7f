-- The bytes of each line that is printed.
-- "An accepted update prints `ok`, removed, changed. A hit prints `hit` and hop; a miss `miss`, hop, stored prefix, nodes
-- examined; a drop `drop` and nodes examined; a refusal `refused` and number. The last line gives three tallies, each after
-- its name: `hits`, `misses`, `drops`. Fields printed are parted by single spaces, a prefix is address, `/`, length, numbers
-- have no leading zeros, and each line ends in a line feed." Assumes nothing.
use Rattle.std.specs.Prelude.{ℕ, zero, suc, ◌+◌, ◌/◌, ◌%◌, ◌^◌, ◌≡◌, cond, List, [], ◌∷◌, ◌++◌, length, leb, ltb}
use Prim.Native.Char.{code}
use Prim.Native.String.{String}
use Rattle.std.proofs.lemmas.List.Edits.{sets}
use Rattle.answers.specs.Text.{text}
use Rattle.answers.specs.declared.Said.{Said}
use Rattle.answers.specs.declared.Said.TheVariants.{Done, Hit, Miss, Drop, Refused, Bad, Tallies}

unfoldable pub decimal_in : ℕ → ℕ → List ℕ
decimal_in zero n = []
decimal_in (suc places) n =
    cond (ltb n 10) ((code "0" + n) ∷ []) (decimal_in places (n / 10) ++ ((code "0" + n % 10) ∷ []))

-- a number of 32 bits in decimal: ten places are enough
unfoldable pub decimal : ℕ → List ℕ
decimal n = decimal_in 10 n

-- a word, with its space, and a number
abbrev pub said : String → ℕ → List ℕ
said word n = text word ++ decimal n

-- the first octet highest
unfoldable pub dotted : ℕ → List ℕ
dotted a = decimal (a / 2 ^ 24) ++ said "." (a / 2 ^ 16 % 256) ++ said "." (a / 2 ^ 8 % 256) ++ said "." (a % 256)

unfoldable pub answer_of : Said → List ℕ
answer_of (Done removed changed) = said "ok " removed ++ said " " changed ++ text "\n"
answer_of (Hit hop) = said "hit " hop ++ text "\n"
answer_of (Miss hop address long examined) =
    said "miss " hop ++ text " " ++ dotted address ++ said "/" long ++ said " " examined ++ text "\n"
answer_of (Drop examined) = said "drop " examined ++ text "\n"
answer_of (Refused number) = said "refused " number ++ text "\n"
answer_of Bad = text "bad\n"
answer_of (Tallies hits misses drops) = said "hits " hits ++ said " misses " misses ++ said " drops " drops ++ text "\n"

-- ---- in a lent buffer

-- no line is longer
abbrev pub room : ℕ
room = 64

-- the line is stored from the place on, and next is the place after it; or there is no room from the place on, and nothing is
-- stored
pub record Printed (s : Said) (at : ℕ) (entry exit : List ℕ) (next : ℕ) : Type 0 where
  pub stored : exit ≡ cond (leb (at + room) (length entry)) (sets entry at (answer_of s)) entry
  pub ended : next ≡ cond (leb (at + room) (length entry)) (at + length (answer_of s)) at
