-- "any run of lookups, announcements and withdrawals, refused ones included": a call, the state that it leaves, and its tallies.
-- Assumes nothing.
use Rattle.std.specs.Prelude.{ℕ, zero, suc, List, [], ◌∷◌, take}
use Rattle.prefix.specs.Bits.{Bits}
use Rattle.tallies.specs.declared.Tallies.{Tallies}
use Rattle.tallies.specs.Counting.{zero_tallies, after_hit, after_miss, after_drop, after_update}
use Rattle.model.specs.Routes.{Table, Action, Update, updated}
use Rattle.model.specs.Model.{Cache, Answer, hit, miss, drop, done, refused, Looked, lookup, refreshed, removed, changed, Limits, refusal}

-- a lookup of an address, or an update of the prefix of so many bits of an address: "Bits past the length are cleared"
pub data Call : Type 0 where
  look : Bits → Call
  update : Bits → ℕ → Action → Call

pub record State : Type 0 where
  pub table : Table
  pub cache : Cache
  pub tallies : Tallies

pub record Outcome : Type 0 where
  pub answer : Answer
  pub state : State

-- "hits, misses (with a match), drops, evicted, removed by updates", by the answer and the number of entries evicted
abbrev pub tallied : Tallies → Answer → ℕ → Tallies
tallied k (hit hop) evicted = after_hit k
tallied k (miss hop p nodes) evicted = after_miss k evicted
tallied k (drop nodes) evicted = after_drop k
tallied k (done gone new) evicted = after_update k gone
tallied k (refused number) evicted = k

-- "A lookup changes no route"
unfoldable pub looked : State → Looked → Outcome
looked s l = record {
  answer = l.answer;
  state = record { table = s.table; cache = l.cache; tallies = tallied s.tallies l.answer l.evicted };
}

-- "An update changes the table, then the cache"
unfoldable pub accepted : State → Update → Table → Outcome
accepted s u table =
    let answer : Answer = done (removed table u s.cache) (changed table u s.cache) in
    record {
      answer = answer;
      state = record { table = table; cache = refreshed table u s.cache; tallies = tallied s.tallies answer 0 };
    }

-- by the number of the refusal: "A refusal is a number from the table and changes nothing."
unfoldable pub judged : State → Update → ℕ → Outcome
judged s u zero = accepted s u (updated s.table u)
judged s u (suc k) = record { answer = refused (suc k); state = s }

unfoldable pub step : Limits → State → Call → Outcome
step limits s (look X) = looked s (lookup s.table s.cache limits.entries X)
step limits s (update a len action) =
    let u : Update = record { prefix = take len a; action = action } in
    judged s u (refusal limits s.table len u.prefix action)

-- the answers of a run, and the state after it
unfoldable pub answers : Limits → State → List Call → List Answer
answers limits s [] = []
answers limits s (x ∷ l) = let out : Outcome = step limits s x in out.answer ∷ answers limits out.state l

unfoldable pub after : Limits → State → List Call → State
after limits s [] = s
after limits s (x ∷ l) = after limits (step limits s x).state l

-- "From fresh stores and a zero record"
unfoldable pub empty : State
empty = record { table = []; cache = []; tallies = zero_tallies }
