-- Routes announced and withdrawn by computing. Assumes nothing.
use mathlib.Core.Path.{◌≡◌, refl}
use mathlib.Core.Bool.{true, false}
use mathlib.Core.List.{[], ◌∷◌}
use mathlib.Core.Option.{none, some}
use native.Mathlib.Decide.{ℕ_discrete}
use Rattle.prefix.specs.Prefix.{contains}
use Rattle.trie.specs.Trie.{Root, Kid, Trie}
use Rattle.trie.specs.Walk.{better, follow, walk, descent}
use Rattle.trie.specs.Updates.{cell_dec, upd, set_node, set_child, set_up, set_slot, upd_of, set_up_of, leaf_at, on_side, splice_at, fork_at, cut_at, move_at, fill_at, fill_both}
use Rattle.trie.specs.Routes.{and_route, routes_of}

-- the route 0 in slot 0, and 011 below it in slot 1
two : Trie
unfolding leaf_at set_slot set_child set_up set_node upd cell_dec
two = leaf_at (leaf_at (record { prefix = λ i. []; hop = λ i. none; child = λ c. none; up = λ i. Root }) Root 0 (false ∷ []) 7) (Kid 0 true) 1 (false ∷ true ∷ true ∷ []) 8

-- 010 parts from 011 after 01: the branch in slot 2, the route in slot 3
three : Trie
unfolding two fork_at splice_at on_side
three = fork_at two (Kid 0 true) 2 3 (false ∷ true ∷ []) true 1 (false ∷ true ∷ false ∷ []) 9

met : descent three (false ∷ true ∷ false ∷ false ∷ []) ≡ record { last = some 3; beyond = none; best = some 3; examined = 3 }
unfolding three descent walk follow better contains ℕ_discrete
met = refl

missed : descent three (false ∷ false ∷ false ∷ false ∷ []) ≡ record { last = some 0; beyond = none; best = some 0; examined = 1 }
unfolding three descent walk follow better contains ℕ_discrete
missed = refl

-- 011 goes, and the branch: 010 moves to slot 1
without : routes_of (fill_both (cut_at (cut_at three 1 none) 2 (some 3)) 4 1 2) 2 ≡ record { prefix = false ∷ true ∷ false ∷ []; hop = 9 } ∷ record { prefix = false ∷ []; hop = 7 } ∷ []
unfolding three fill_both fill_at move_at cut_at set_up_of upd_of routes_of and_route ℕ_discrete
without = refl

moved : descent (fill_both (cut_at (cut_at three 1 none) 2 (some 3)) 4 1 2) (false ∷ true ∷ false ∷ false ∷ []) ≡ record { last = some 1; beyond = none; best = some 1; examined = 2 }
unfolding three fill_both fill_at move_at cut_at set_up_of upd_of descent walk follow better contains ℕ_discrete
moved = refl
