-- "An address is 32 bits, bit 0 the highest." A number's bits as a list, highest first, at any width. Assumes nothing.
use Rattle.std.specs.Prelude.{ℕ, zero, suc, ◌+◌, ◌*◌, ◌/◌, ◌%◌, ◌^◌, Bool, true, false, List, [], ◌∷◌, length}

abbrev pub Bits : Type 0
Bits = List Bool

-- a digit as a bit, and a bit as a digit
abbrev pub one? : ℕ → Bool
one? zero = false
one? (suc d) = true

abbrev pub digit : Bool → ℕ
digit false = 0
digit true = 1

-- the w lowest bits of x, highest first: all the bits of an x below 2 ^ w
unfoldable pub bits : ℕ → ℕ → Bits
bits zero x = []
bits (suc w) x = one? (x / 2 ^ w % 2) ∷ bits w x

-- the number that a list of bits writes, highest first
unfoldable pub value : Bits → ℕ
value [] = 0
value (b ∷ l) = digit b * 2 ^ length l + value l
