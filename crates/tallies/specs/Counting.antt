-- "Five numbers in one record that the caller keeps and lends": hits, misses (with a match), drops, evicted, removed by updates.
-- "Tallies wrap at 2^32 as Counter32 of RFC 2578 does; the difference of two readings is taken the same way." Assumes nothing.
use Rattle.std.specs.Prelude.{◌≡◌, ℕ, ◌+◌, ◌-◌, ◌%◌, ◌^◌, ◌<◌}
use Rattle.tallies.specs.declared.Tallies.{Tallies}

-- n more, and n less, modulo 2 ^ 32
abbrev pub plus : ℕ → ℕ → ℕ
plus x n = (x + n) % 2 ^ 32

abbrev pub minus : ℕ → ℕ → ℕ
minus x n = (x + (2 ^ 32 - n)) % 2 ^ 32

abbrev pub zero_tallies : Tallies
zero_tallies = record { hits = 0; misses = 0; drops = 0; evicted = 0; removed = 0 }

-- what each call moves
abbrev pub after_hit : Tallies → Tallies
after_hit t = record { hits = plus t.hits 1; misses = t.misses; drops = t.drops; evicted = t.evicted; removed = t.removed }

abbrev pub after_miss : Tallies → ℕ → Tallies
after_miss t n = record { hits = t.hits; misses = plus t.misses 1; drops = t.drops; evicted = plus t.evicted n; removed = t.removed }

abbrev pub after_drop : Tallies → Tallies
after_drop t = record { hits = t.hits; misses = t.misses; drops = plus t.drops 1; evicted = t.evicted; removed = t.removed }

abbrev pub after_update : Tallies → ℕ → Tallies
after_update t n = record { hits = t.hits; misses = t.misses; drops = t.drops; evicted = t.evicted; removed = plus t.removed n }

-- two records, tally by tally
abbrev pub both : (ℕ → ℕ → ℕ) → Tallies → Tallies → Tallies
both op t u = record {
  hits = op t.hits u.hits;
  misses = op t.misses u.misses;
  drops = op t.drops u.drops;
  evicted = op t.evicted u.evicted;
  removed = op t.removed u.removed;
}

abbrev pub sum : Tallies → Tallies → Tallies
sum t moved = both plus t moved

-- the difference of two readings
abbrev pub difference : Tallies → Tallies → Tallies
difference now then = both minus now then

-- "entries held = misses - evicted - removed, modulo 2^32"
abbrev pub held_sum : Tallies → ℕ
held_sum t = minus (minus t.misses t.evicted) t.removed

-- each is a number of 32 bits
pub record InRange (t : Tallies) : Type 0 where
  pub hits_fit : t.hits < 2 ^ 32
  pub misses_fit : t.misses < 2 ^ 32
  pub drops_fit : t.drops < 2 ^ 32
  pub evicted_fit : t.evicted < 2 ^ 32
  pub removed_fit : t.removed < 2 ^ 32

-- "Five numbers in one record that the caller keeps and lends, and that a call updates there": what the call moved is added
pub record Added (t t' moved : Tallies) : Type 0 where
  pub is_sum : t' ≡ sum t moved
  pub was_in_range : InRange t
