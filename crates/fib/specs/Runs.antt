-- What may follow one another when the public calls are made on a pair of stores: each outcome is any that its contract admits.
-- Assumes nothing.
use Rattle.std.specs.Prelude.{◌≡◌, List, [], ◌∷◌, ◌↔◌, ℕ, ◌^◌, ◌<◌, Result, OnOk}
use Rattle.prefix.specs.Bits.{bits}
use Rattle.prefix.specs.Addresses.{ipv4_bits}
use Rattle.sizes.specs.BothStores.{limit_of}
use Rattle.sizes.specs.declared.SetupError.{SetupError}
use Rattle.sizes.specs.declared.refusal.Unsound.{Unsound}
use Rattle.tallies.specs.declared.Tallies.{Tallies}
use Rattle.model.specs.Model.{Answer, Limits}
use Rattle.model.specs.Runs as model
use Rattle.model.specs.Demands.{SameRoutes, Alike, LegalState}
use Rattle.table.specs.Tables.{routes, TableSetUp}
use Rattle.entries.specs.Caches.{entries}
use Rattle.cache.specs.Calls.{CacheSetUp}
use Rattle.verdicts.specs.declared.UpdateError.{UpdateError}
use Rattle.updates.specs.Updates.{action_of}
use Rattle.updates.specs.declared.Update.{Update}
use Rattle.pairs.specs.Pairs.{SoundPair, limits_of}
use Rattle.pairs.specs.States.{state_of}
use Rattle.lookup.specs.Promises as lookups
use Rattle.lookup.specs.Promises.{said, LookedUp}
use Rattle.refresh.specs.Promises as updates
use Rattle.refresh.specs.Promises.{updated_of, UpdatePromise}
use Rattle.lookup.specs.declared.Answer as lookup
use Rattle.lookup.specs.declared.Answer.TheVariants.{Hit, Miss, Drop}
use Rattle.lookup.specs.declared.Looked.{Looked}
use Rattle.refresh.specs.declared.Updated.{Updated}

-- ---- two outcomes of one call

-- an answer's address is a word of 32 bits, as its type in the code has it
abbrev pub AddressFits : lookup.Answer → Type 0
AddressFits (Hit hop) = Unit {0}
AddressFits (Miss hop address length nodes) = address < 2 ^ 32
AddressFits (Drop nodes) = Unit {0}

-- what two caches that a call may leave have in common
pub record SameCache (c d : List ℕ) : Type 0 where
  pub same_entries : entries c ≡ entries d
  pub same_limit : limit_of c ≡ limit_of d

-- and two tables: the slots may list the routes in another order
pub record SameTable (w z : List ℕ) : Type 0 where
  pub same_routes : SameRoutes (routes w) (routes z)
  pub same_limit : limit_of w ≡ limit_of z

-- ---- runs

-- the two stores' words and the tallies
pub record Stores : Type 0 where
  pub table : List ℕ
  pub cache : List ℕ
  pub tallies : Tallies

abbrev pub held : Stores → model.State
held s = state_of s.table s.cache s.tallies

pub data Call : Type 0 where
  look : ℕ → Call
  update : Update → Call

-- a call as the model's
abbrev pub call_of : Call → model.Call
call_of (look address) = model.look (bits 32 address)
call_of (update u) = model.update (ipv4_bits u.prefix.address) u.prefix.length (action_of u.action)

-- one call: what `look_up` and `update_pair` promise, word for word, and nothing else
pub data Called (s : Stores) : Call → Answer → Stores → Type 0 where
  by_look : (address : ℕ) (cache : List ℕ) (r : Result Looked Unsound)
      → (SoundPair s.table s.cache → LookedUp s.table s.cache cache s.tallies address r)
      → Called s (look address) (said r) (record { table = s.table; cache = cache; tallies = lookups.tallies_in s.tallies r })
  by_update : (u : Update) (table cache : List ℕ) (r : Result Updated UpdateError)
      → UpdatePromise s.table s.cache table cache s.tallies u r
      → Called s (update u) (updated_of r) (record { table = table; cache = cache; tallies = updates.tallies_in s.tallies r })

-- "any run of lookups, announcements and withdrawals, refused ones included": its answers, and what it leaves
pub data Calls : Stores → List Call → List Answer → Stores → Type 0 where
  no_calls : {s : Stores} → Calls s [] [] s
  and_calls : {x : Call} {l : List Call} {a : Answer} {k : List Answer} {s m z : Stores}
      → Called s x a m → Calls m l k z → Calls s (x ∷ l) (a ∷ k) z

-- a sound pair within these limits that holds what the model's state holds
pub record Follows (limits : Limits) (s : Stores) (z : model.State) : Type 0 where
  pub sound : SoundPair s.table s.cache
  pub its_limits : limits_of s.table s.cache ≡ limits
  pub alike : Alike (held s) z
  pub legal : LegalState limits z

-- ---- soundness

-- what each call makes of a sound pair: "A table set up again under a cache that holds entries ends it; a cache set up again is empty."
-- The check writes nothing.
pub record SoundKept (table cache : List ℕ) : Type 0 where
  pub by_lookup : (cache' : List ℕ) (tallies : Tallies) (address : ℕ) (r : Result Looked Unsound)
      → (SoundPair table cache → LookedUp table cache cache' tallies address r) → SoundPair table cache'
  pub by_updating : (table' cache' : List ℕ) (tallies : Tallies) (u : Update) (r : Result Updated UpdateError)
      → UpdatePromise table cache table' cache' tallies u r → SoundPair table' cache'
  pub by_table_set_up : (table' : List ℕ) (limit : ℕ) (r : Result (Unit {0}) SetupError)
      → TableSetUp table table' limit r → SoundPair table' cache ↔ OnOk r (entries cache ≡ [])
  pub by_cache_set_up : (cache' : List ℕ) (limit : ℕ) (r : Result (Unit {0}) SetupError)
      → CacheSetUp cache cache' limit r → SoundPair table cache'
