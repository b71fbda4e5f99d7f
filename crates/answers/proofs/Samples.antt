-- By computing: the worked run's lines as they are printed, and the edges. Assumes nothing.
use Prim.Native.Nat.{ℕ, ◌+◌, ◌*◌}
use mathlib.Core.Path.{◌≡◌, refl}
use mathlib.Core.List.{List, [], ◌∷◌, ◌++◌}
use Rattle.answers.specs.Text.{text}
use Rattle.answers.specs.Answers.{decimal_in, decimal, dotted, answer_of}
use Rattle.answers.specs.declared.Said.{Said}
use Rattle.answers.specs.declared.Said.TheVariants.{Done, Hit, Miss, Drop, Refused, Bad, Tallies}

-- the address a.b.c.d
unfoldable pub ip : ℕ → ℕ → ℕ → ℕ → ℕ
ip a b c d = ((a * 256 + b) * 256 + c) * 256 + d

unfoldable printed : List Said → List ℕ
printed [] = []
printed (s ∷ l) = answer_of s ++ printed l

-- all that a claim has to open
unfoldable computing : Unit {0}
unfolding ip printed decimal_in decimal dotted answer_of
computing = tt

worked_run :
    printed
    (Done 0 0
    ∷ Done 0 0
    ∷ Done 0 0
    ∷ Miss 2 (ip 10 72 0 0) 13 2
    ∷ Miss 2 (ip 10 65 0 0) 16 3
    ∷ Miss 1 (ip 10 64 0 0) 16 3
    ∷ Hit 2
    ∷ Done 1 0
    ∷ Miss 2 (ip 10 64 0 0) 16 2
    ∷ Done 0 3
    ∷ Drop 1
    ∷ Done 1 0
    ∷ Miss 4 (ip 10 72 0 0) 16 2
    ∷ Miss 4 (ip 10 128 0 0) 9 1
    ∷ Miss 4 (ip 10 65 0 0) 16 2
    ∷ Refused 1
    ∷ Refused 4
    ∷ Tallies 1 7 1
    ∷ [])
    ≡ text "ok 0 0\n"
    ++ text "ok 0 0\n"
    ++ text "ok 0 0\n"
    ++ text "miss 2 10.72.0.0/13 2\n"
    ++ text "miss 2 10.65.0.0/16 3\n"
    ++ text "miss 1 10.64.0.0/16 3\n"
    ++ text "hit 2\n"
    ++ text "ok 1 0\n"
    ++ text "miss 2 10.64.0.0/16 2\n"
    ++ text "ok 0 3\n"
    ++ text "drop 1\n"
    ++ text "ok 1 0\n"
    ++ text "miss 4 10.72.0.0/16 2\n"
    ++ text "miss 4 10.128.0.0/9 1\n"
    ++ text "miss 4 10.65.0.0/16 2\n"
    ++ text "refused 1\n"
    ++ text "refused 4\n"
    ++ text "hits 1 misses 7 drops 1\n"
unfolding computing
worked_run = refl

-- zero, the largest numbers, and the line that only this claim prints
edges :
    printed
    (Hit 0 ∷ Miss 4294967295 4294967295 32 33 ∷ Tallies 4294967295 10 9 ∷ Bad ∷ [])
    ≡ text "hit 0\n"
    ++ text "miss 4294967295 255.255.255.255/32 33\n"
    ++ text "hits 4294967295 misses 10 drops 9\n"
    ++ text "bad\n"
unfolding computing
edges = refl
