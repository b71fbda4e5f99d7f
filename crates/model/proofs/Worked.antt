-- The worked run, and short runs for what it does not show. Each claim is decided by computing the model. Assumes nothing.
use mathlib.Core.List.{List, [], ◌∷◌, flat_map}
use mathlib.Core.Path.{◌≡◌, refl}
use Prim.Native.Nat.{ℕ, ◌+◌, ◌-◌, ◌*◌, ◌^◌}
use lib.ListN.{take}
use Rattle.prefix.specs.Bits.{Bits, bits}
use Rattle.prefix.specs.Prefix.{contains, strictly_inside, overlap, same, common, shared}
use Rattle.tallies.specs.Counting.{zero_tallies}
use Rattle.model.specs.Lists.{keep, any, first, omit, bigger, biggest, largest}
use Rattle.model.specs.Routes.{match, announce, withdraw, held, with_announced, updated}
use Rattle.model.specs.Nodes.{without_repeats, branches, nodes, is_root, parent, towards, is_examined, examined}
use Rattle.model.specs.Model.{hit, miss, drop, done, refused, new_length, look_table, look_cache, lookup, withdraws, leaves, hop_of, fresh, refreshed, removed, changed, Limits, refusal}
use Rattle.model.specs.Runs.{Call, look, update, State, tallied, looked, accepted, judged, step, answers, after, empty}

-- the address a.b.c.d
unfoldable ip : ℕ → ℕ → ℕ → ℕ → Bits
ip a b c d = bits 32 (((a * 256 + b) * 256 + c) * 256 + d)

-- the prefix a.b.c.d/n
unfoldable net : ℕ → ℕ → ℕ → ℕ → ℕ → Bits
net a b c d n = take n (ip a b c d)

-- all that a claim has to open
unfoldable computing : Unit {0}
unfolding ip net bits contains strictly_inside overlap same common shared keep any first omit bigger biggest largest match held with_announced updated without_repeats branches nodes is_root parent towards is_examined examined new_length look_table look_cache lookup withdraws leaves hop_of fresh refreshed removed changed refusal looked accepted judged step answers after empty flat_map
computing = tt

-- "Table limit 512, cache limit 3."
abbrev limits : Limits
limits = record { width = 32; routes = 512; entries = 3 }

abbrev lines_1_to_3 : List Call
lines_1_to_3 = update (ip 10 0 0 0) 8 (announce 4) ∷ update (ip 10 64 0 0) 12 (announce 2) ∷ update (ip 10 64 0 0) 16 (announce 1) ∷ []

abbrev start : State
start = record {
  table = record { prefix = net 10 64 0 0 16; hop = 1 } ∷ record { prefix = net 10 64 0 0 12; hop = 2 } ∷ record { prefix = net 10 0 0 0 8; hop = 4 } ∷ [];
  cache = [];
  tallies = zero_tallies;
}

start_is_left : after limits empty lines_1_to_3 ≡ start
unfolding computing
start_is_left = refl

abbrev lines_4_to_15 : List Call
lines_4_to_15 =
    look (ip 10 72 0 1)  -- 4
    ∷ look (ip 10 65 0 1)  -- 5
    ∷ look (ip 10 64 9 9)  -- 6
    ∷ look (ip 10 73 0 0)  -- 7
    ∷ update (ip 10 64 0 0) 16 withdraw  -- 8
    ∷ look (ip 10 64 9 9)  -- 9
    ∷ update (ip 10 64 0 0) 12 withdraw  -- 10
    ∷ look (ip 11 0 0 1)  -- 11
    ∷ update (ip 10 73 128 0) 17 (announce 9)  -- 12
    ∷ look (ip 10 72 0 1)  -- 13
    ∷ look (ip 10 200 0 1)  -- 14
    ∷ look (ip 10 65 0 1)  -- 15
    ∷ []

worked_run : answers limits start lines_4_to_15 ≡
    miss 2 (net 10 72 0 0 13) 2  -- 4
    ∷ miss 2 (net 10 65 0 0 16) 3  -- 5
    ∷ miss 1 (net 10 64 0 0 16) 3  -- 6
    ∷ hit 2  -- 7
    ∷ done 1 0  -- 8
    ∷ miss 2 (net 10 64 0 0 16) 2  -- 9
    ∷ done 0 3  -- 10
    ∷ drop 1  -- 11
    ∷ done 1 0  -- 12
    ∷ miss 4 (net 10 72 0 0 16) 2  -- 13
    ∷ miss 4 (net 10 128 0 0 9) 1  -- 14
    ∷ miss 4 (net 10 65 0 0 16) 2  -- 15
    ∷ []
unfolding computing
worked_run = refl

-- the last line, "hits 1 misses 7 drops 1", and the two tallies that it leaves out
worked_tallies : (after limits start lines_4_to_15).tallies ≡ record { hits = 1; misses = 7; drops = 1; evicted = 2; removed = 2 }
unfolding computing
worked_tallies = refl

-- lines 16 and 17
worked_refusals : answers limits (after limits start lines_4_to_15) (update (ip 10 0 0 0) 33 (announce 4) ∷ update (ip 10 64 0 0) 16 withdraw ∷ []) ≡
    refused 1 ∷ refused 4 ∷ []
unfolding computing
worked_refusals = refl

-- ---- what that run does not show, at a width of 4 bits

abbrev small : ℕ → Limits
small routes = record { width = 4; routes = routes; entries = 2 }

-- Catches a hit that is not moved to the front: the third lookup hits 8/2, so the fourth evicts 12/2, and the fifth hits again.
hit_moves_to_front : answers (small 4) empty
    (update (bits 4 0) 0 (announce 7) ∷ update (bits 4 2) 3 (announce 6) ∷ update (bits 4 8) 2 (announce 5) ∷ update (bits 4 12) 2 (announce 4)
    ∷ look (bits 4 8) ∷ look (bits 4 12) ∷ look (bits 4 8) ∷ look (bits 4 2) ∷ look (bits 4 8) ∷ []) ≡
    done 0 0 ∷ done 0 0 ∷ done 0 0 ∷ done 0 0
    ∷ miss 5 (take 2 (bits 4 8)) 3 ∷ miss 4 (take 2 (bits 4 12)) 3 ∷ hit 5 ∷ miss 6 (take 3 (bits 4 2)) 2 ∷ hit 5 ∷ []
unfolding computing
hit_moves_to_front = refl

-- Catches a table without branch nodes: above its three routes stand 8/1 and 8/2, which are examined first.
branches_are_nodes : answers (small 3) empty
    (update (bits 4 8) 3 (announce 5) ∷ update (bits 4 10) 3 (announce 6) ∷ update (bits 4 12) 2 (announce 7)
    ∷ look (bits 4 8) ∷ look (bits 4 12) ∷ look (bits 4 0) ∷ []) ≡
    done 0 0 ∷ done 0 0 ∷ done 0 0
    ∷ miss 5 (take 3 (bits 4 8)) 3 ∷ miss 7 (take 2 (bits 4 12)) 2 ∷ drop 1 ∷ []
unfolding computing
branches_are_nodes = refl

-- Catches an entry that stays without cover: 0/2 was stored for the route 0/1, which is withdrawn.
uncovered_entry_leaves : answers (small 2) empty
    (update (bits 4 0) 1 (announce 3) ∷ update (bits 4 4) 2 (announce 4) ∷ look (bits 4 0) ∷ update (bits 4 0) 1 withdraw ∷ look (bits 4 0) ∷ []) ≡
    done 0 0 ∷ done 0 0 ∷ miss 3 (take 2 (bits 4 0)) 1 ∷ done 1 0 ∷ drop 1 ∷ []
unfolding computing
uncovered_entry_leaves = refl

-- Catches the announced hop in an entry that a longer route covers: 0/2 keeps hop 3 when 0/1 comes with 5. It takes the new hop of 0/2
-- itself, and leaves when 0/3 comes, though with the same hop.
longest_cover_gives_hop : answers (small 3) empty
    (update (bits 4 0) 2 (announce 3) ∷ look (bits 4 0) ∷ update (bits 4 0) 1 (announce 5) ∷ look (bits 4 0)
    ∷ update (bits 4 0) 2 (announce 6) ∷ look (bits 4 0) ∷ update (bits 4 0) 3 (announce 6) ∷ []) ≡
    done 0 0 ∷ miss 3 (take 2 (bits 4 0)) 1 ∷ done 0 0 ∷ hit 3
    ∷ done 0 1 ∷ hit 6 ∷ done 1 0 ∷ []
unfolding computing
longest_cover_gives_hop = refl

-- Catches tallies that do not wrap.
tallies_wrap : tallied (record { hits = 2 ^ 32 - 1; misses = 5; drops = 0; evicted = 0; removed = 0 }) (hit 1) 0 ≡
    record { hits = 0; misses = 5; drops = 0; evicted = 0; removed = 0 }
tallies_wrap = refl

-- Catches a missing bound on hops: "hop 1 and 65,535 accepted, 0 and 65,536 refused".
hops_are_bounded : answers (small 2) empty
    (update (bits 4 0) 1 (announce 0) ∷ update (bits 4 0) 1 (announce 1) ∷ update (bits 4 0) 1 (announce 65535) ∷ update (bits 4 0) 1 (announce 65536) ∷ []) ≡
    refused 2 ∷ done 0 0 ∷ done 0 0 ∷ refused 2 ∷ []
unfolding computing
hops_are_bounded = refl

-- Catches a held prefix that is refused in a full table, and refusals in another order than 1, 2, 3 and 1, 4.
full_table_replaces : answers (small 1) empty
    (update (bits 4 0) 1 (announce 1) ∷ update (bits 4 8) 1 (announce 1) ∷ update (bits 4 0) 1 (announce 2) ∷ update (bits 4 8) 1 (announce 0) ∷ update (bits 4 8) 5 (announce 0)
    ∷ update (bits 4 8) 1 withdraw ∷ update (bits 4 8) 5 withdraw ∷ update (bits 4 0) 1 withdraw ∷ update (bits 4 8) 4 (announce 1) ∷ []) ≡
    done 0 0 ∷ refused 3 ∷ done 0 0 ∷ refused 2 ∷ refused 1
    ∷ refused 4 ∷ refused 1 ∷ done 0 0 ∷ done 0 0 ∷ []
unfolding computing
full_table_replaces = refl
