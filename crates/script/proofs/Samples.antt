-- By computing: the worked run's lines as they are read, odd but good lines, and bad ones of each kind. Assumes nothing.
use Prim.Native.String.{String}
use mathlib.Core.Path.{◌≡◌, refl}
use mathlib.Core.List.{List, [], ◌∷◌}
use lib.ListN.{replicate}
use Rattle.answers.specs.Text.{text}
use Rattle.script.specs.Lines.{digit, digits, value_from, number, onto, parts, both, numbers, four, address, only, call, fields, line_of}
use Rattle.script.specs.declared.Line.{Line}
use Rattle.script.specs.declared.Line.TheVariants.{Announce, Withdraw, Look, Bad}
use Rattle.answers.proofs.Samples.{ip}

unfoldable lines : List String → List Line
lines [] = []
lines (s ∷ l) = line_of (text s) ∷ lines l

-- all that a claim has to open
unfoldable computing : Unit {0}
unfolding ip lines digit digits value_from number onto parts both numbers four address only call fields line_of
computing = tt

worked_run :
    lines
    ("A 10.0.0.0 8 4"
    ∷ "A 10.64.0.0 12 2"
    ∷ "A 10.64.0.0 16 1"
    ∷ "L 10.72.0.1"
    ∷ "L 10.65.0.1"
    ∷ "L 10.64.9.9"
    ∷ "L 10.73.0.0"
    ∷ "W 10.64.0.0 16"
    ∷ "L 10.64.9.9"
    ∷ "W 10.64.0.0 12"
    ∷ "L 11.0.0.1"
    ∷ "A 10.73.128.0 17 9"
    ∷ "L 10.72.0.1"
    ∷ "L 10.200.0.1"
    ∷ "L 10.65.0.1"
    ∷ "A 10.0.0.0 33 4"
    ∷ "W 10.64.0.0 16"
    ∷ [])
    ≡ Announce (ip 10 0 0 0) 8 4
    ∷ Announce (ip 10 64 0 0) 12 2
    ∷ Announce (ip 10 64 0 0) 16 1
    ∷ Look (ip 10 72 0 1)
    ∷ Look (ip 10 65 0 1)
    ∷ Look (ip 10 64 9 9)
    ∷ Look (ip 10 73 0 0)
    ∷ Withdraw (ip 10 64 0 0) 16
    ∷ Look (ip 10 64 9 9)
    ∷ Withdraw (ip 10 64 0 0) 12
    ∷ Look (ip 11 0 0 1)
    ∷ Announce (ip 10 73 128 0) 17 9
    ∷ Look (ip 10 72 0 1)
    ∷ Look (ip 10 200 0 1)
    ∷ Look (ip 10 65 0 1)
    ∷ Announce (ip 10 0 0 0) 33 4
    ∷ Withdraw (ip 10 64 0 0) 16
    ∷ []
unfolding computing
worked_run = refl

-- leading zeros, the largest numbers, 64 bytes, and fields that no table takes: refusing those is not the reader's
odd_but_good :
    lines
    ("L 010.000.0.01"
    ∷ "L 255.255.255.255"
    ∷ "W 0.0.0.0 4294967295"
    ∷ "A 1.2.3.4 000000000000000000000000000000000000033 00004294967295"
    ∷ [])
    ≡ Look (ip 10 0 0 1)
    ∷ Look 4294967295
    ∷ Withdraw 0 4294967295
    ∷ Announce (ip 1 2 3 4) 33 4294967295
    ∷ []
unfolding computing
odd_but_good = refl

bad_lines :
    lines
    (""  -- empty
    ∷ "A"  -- a letter alone
    ∷ "L 1.2.3.4 "  -- a trailing space
    ∷ " L 1.2.3.4"  -- a leading space
    ∷ "L  1.2.3.4"  -- a doubled space
    ∷ "W 1.2.3.4  8"  -- a doubled space before a number
    ∷ "L 1.2.3.4\r"  -- a carriage return
    ∷ "L\t1.2.3.4"  -- a tab
    ∷ "L 1.2.3.4\0"  -- a NUL
    ∷ "L 1.2.3.²"  -- a byte above 127
    ∷ "W 1.2.3.4 +8"  -- a sign
    ∷ "W 1.2.3.4 -1"  -- a sign
    ∷ "l 1.2.3.4"  -- a lower-case command
    ∷ "X 1.2.3.4"  -- another command
    ∷ "AL 1.2.3.4"  -- two letters
    ∷ "L 256.2.3.4"  -- an octet above 255
    ∷ "L 1.2.3"  -- three octets
    ∷ "L 1.2.3.4.5"  -- five octets
    ∷ "L 1..3.4"  -- an empty octet
    ∷ "L .1.2.3.4"  -- a point before
    ∷ "L 1.2.3.4."  -- a point after
    ∷ "L 1.2.3,4"  -- another mark
    ∷ "L 0x1.2.3.4"  -- not decimal
    ∷ "W 1.2.3.4 4294967296"  -- a number above 4,294,967,295
    ∷ "A 1.2.3.4 33 4294967296"  -- that also after a length that would be refused
    ∷ "A 1.2.3.4 8 18446744073709551617"  -- 2^64 + 1
    ∷ "W 1.2.3.4"  -- a field too few
    ∷ "A 1.2.3.4 8"  -- a field too few
    ∷ "L 1.2.3.4 8"  -- a field too many
    ∷ "A 1.2.3.4 8 4 1"  -- a field too many
    ∷ "A 1.2.3.4 0000000000000000000000000000000000000033 00004294967295"  -- 65 bytes
    ∷ [])
    ≡ replicate 31 Bad
unfolding computing
bad_lines = refl
