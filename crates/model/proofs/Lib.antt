-- What is proved, and the names under which to look for it.
--   Match       match_longest, longest_unique, longest_match: the match is the longest match, and there is only one
--               storable_match: every address in a prefix that may be stored has the same match
--   Lookups     lookup_outcome, only_outcome: a lookup does what demand 2 says, and that leaves nothing open
--               stored_is_shortest, hit_exactly, hop_of_match
--   Updates     update_outcome, update_refused: an update does what demand 3 says, or nothing
--   Legal       legal_step, legal_run: every call keeps what Legal says, so every run does
--   HeldSum     held_sum_of_run: entries held = misses - evicted - removed, modulo 2 ^ 32
--   SameRoutes  step_same, answers_same, examined_same: the order in which a table lists its routes does not matter
--               update_outcomes_alike: what demand 3 says leaves nothing open but that order
--   NodeLaws    node_in, in_node, one_root: the nodes and the root; examined_at_most, examined_at_most_33, examined_none
--   Visit       visited_count, visited_routes: a descent by the address's bits visits the nodes examined and every route that matches
--   Descent     new_split, new_next, new_turn, new_leaf: n from the place where that descent stops
--   Worked      worked_run: lines 4 to 15 of the worked run
pub mod ListLaws
pub mod Match
pub mod Lookups
pub mod Updates
pub mod Legal
pub mod HeldSum
pub mod SameRoutes
pub mod NodeLaws
pub mod Visit
pub mod Descent
mod Worked
