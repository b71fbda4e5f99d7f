-- What a C program sees that sets up two stores, starts from a zero record and then makes any calls: the number that each returns and the
-- words that it writes. They are those of the model's run (proofs/Programs.antt), so whoever knows this file and the model knows every
-- answer, and need not read which words make a sound store. Assumes nothing.
use Rattle.std.specs.Prelude.{List, [], ◌∷◌, ℕ, ◌-◌, ◌*◌, ◌^◌, ◌<◌, length}
use Rattle.prefix.specs.Bits.{Bits, bits, value}
use Rattle.tallies.specs.Counting.{zero_tallies}
use Rattle.tallies.specs.declared.Tallies.{Tallies}
use Rattle.model.specs.Lists.{◌∈◌}
use Rattle.model.specs.Routes as action
use Rattle.model.specs.Model.{Limits, Answer, hit, miss, drop, done, refused}
use Rattle.model.specs.Runs as model
use Rattle.updates.specs.declared.Action.TheVariants.{Announce, Withdraw}
use Rattle.c_library.specs.Promises.{LentLookup, LentUpdate}
use Rattle.fib.specs.Runs.{Stores}

-- ---- a call, and what is seen of it

pub data Call : Type 0 where
  -- address
  lookup : ℕ → Call
  -- address, length, hop
  announce : ℕ → ℕ → ℕ → Call
  -- address, length
  withdraw : ℕ → ℕ → Call

abbrev pub call_of : Call → model.Call
call_of (lookup a) = model.look (bits 32 a)
call_of (announce a n hop) = model.update (bits 32 a) n (action.announce hop)
call_of (withdraw a n) = model.update (bits 32 a) n action.withdraw

-- the number that a call returns, and the words of its answer
pub record Told : Type 0 where
  pub number : ℕ
  pub words : List ℕ

-- a prefix's bits as an address of 32, with zeros after them
unfoldable pub address_of : Bits → ℕ
address_of p = value p * 2 ^ (32 - length p)

-- of a lookup: kind (0 hit, 1 miss, 2 drop), hop, stored address, stored length, nodes examined; of an update: removed, changed.
-- From sound stores only updates are refused
abbrev pub told_of : Answer → Told
told_of (hit hop) = record { number = 0; words = 0 ∷ hop ∷ 0 ∷ 0 ∷ 0 ∷ [] }
told_of (miss hop p nodes) = record { number = 0; words = 1 ∷ hop ∷ address_of p ∷ length p ∷ nodes ∷ [] }
told_of (drop nodes) = record { number = 0; words = 2 ∷ 0 ∷ 0 ∷ 0 ∷ nodes ∷ [] }
told_of (done removed changed) = record { number = 0; words = removed ∷ changed ∷ [] }
told_of (refused number) = record { number = number; words = 0 ∷ 0 ∷ [] }

-- ---- runs

-- two stores that were just set up, and a zero record
abbrev pub start : List ℕ → List ℕ → Stores
start table cache = record { table = table; cache = cache; tallies = zero_tallies }

-- the limits that they were set up with; an address is 32 bits
abbrev pub limits : ℕ → ℕ → Limits
limits routes entries = record { width = 32; routes = routes; entries = entries }

-- a word of C has 32 bits
abbrev pub AreWords : List ℕ → Type 0
AreWords words = (n : ℕ) → n ∈ words → n < 2 ^ 32

-- one call: what `kop_lookup`, `kop_announce` and `kop_withdraw` promise, and nothing else
pub data Called (s : Stores) : Call → Told → Stores → Type 0 where
  by_lookup : (a number : ℕ) (words cache : List ℕ) (t : Tallies)
      → AreWords words
      → LentLookup s.table s.cache cache s.tallies t a number words
      → Called s (lookup a) (record { number = number; words = words }) (record { table = s.table; cache = cache; tallies = t })
  by_announce : (a n hop number : ℕ) (words table cache : List ℕ) (t : Tallies)
      → LentUpdate s.table s.cache table cache s.tallies t a n (Announce hop) number words
      → Called s (announce a n hop) (record { number = number; words = words }) (record { table = table; cache = cache; tallies = t })
  by_withdraw : (a n number : ℕ) (words table cache : List ℕ) (t : Tallies)
      → LentUpdate s.table s.cache table cache s.tallies t a n Withdraw number words
      → Called s (withdraw a n) (record { number = number; words = words }) (record { table = table; cache = cache; tallies = t })

-- "any run of lookups, announcements and withdrawals, refused ones included"
pub data Calls : Stores → List Call → List Told → Stores → Type 0 where
  no_calls : {s : Stores} → Calls s [] [] s
  and_calls : {x : Call} {l : List Call} {a : Told} {k : List Told} {s m z : Stores}
      → Called s x a m → Calls m l k z → Calls s (x ∷ l) (a ∷ k) z
