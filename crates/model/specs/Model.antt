-- "The lookup" and "Announcing and withdrawing": what each answers and what it leaves of the cache, and which updates are refused.
-- Left to Runs: the tallies, and calls one after the other. Assumes nothing.
use Rattle.std.specs.Prelude.{ℕ, suc, ◌-◌, Bool, true, false, not, cond, ◌&&◌, ◌||◌, List, [], ◌∷◌, ◌++◌, map, length, take, ltb, leb, eqb}
use Rattle.std.proofs.Math.Option.{Option, none, some}
use Rattle.prefix.specs.Bits.{Bits}
use Rattle.prefix.specs.Prefix.{contains, strictly_inside, same, common}
use Rattle.model.specs.Lists.{keep, any, first, omit, largest}
use Rattle.model.specs.Routes.{Route, Table, match, Action, announce, withdraw, Update, held}
use Rattle.model.specs.Nodes.{examined}

-- a cached prefix with its hop
abbrev pub Entry : Type 0
Entry = Route

-- the most recently used first
abbrev pub Cache : Type 0
Cache = List Entry

-- ---- answers

pub data Answer : Type 0 where
  -- hop
  hit : ℕ → Answer
  -- hop, stored prefix, nodes examined
  miss : ℕ → Bits → ℕ → Answer
  -- nodes examined
  drop : ℕ → Answer
  -- entries removed, and entries kept whose hop differs from before
  done : ℕ → ℕ → Answer
  -- the number of the refusal
  refused : ℕ → Answer

-- an answer's parts: a hit has "Nodes examined: 0", "A hit and a drop give the stored prefix as address 0, length 0; a drop's hop is
-- 0", and "Every refusal returns its number with all other parts of the answer 0." The prefix of length 0 is [].
pub record Values : Type 0 where
  pub number : ℕ
  pub hop : ℕ
  pub stored : Bits
  pub examined : ℕ
  pub removed : ℕ
  pub changed : ℕ

unfoldable pub values : Answer → Values
values (hit h) = record { number = 0; hop = h; stored = []; examined = 0; removed = 0; changed = 0 }
values (miss h p k) = record { number = 0; hop = h; stored = p; examined = k; removed = 0; changed = 0 }
values (drop k) = record { number = 0; hop = 0; stored = []; examined = k; removed = 0; changed = 0 }
values (done r d) = record { number = 0; hop = 0; stored = []; examined = 0; removed = r; changed = d }
values (refused k) = record { number = k; hop = 0; stored = []; examined = 0; removed = 0; changed = 0 }

-- ---- the lookup

-- "n is the largest of: M's length; 1 + Common(X, R) for each route R that does not contain X; 1 + Common(X, E) for each cached E."
unfoldable pub new_length : Table → Cache → Bits → Route → ℕ
new_length table cache X M = largest (length M.prefix
    ∷ map (λ R. suc (common X R.prefix)) (keep (λ R. not (contains R.prefix X)) table)
    ++ map (λ E. suc (common X E.prefix)) cache)

-- "With match M, the new prefix is the first n bits of X."
abbrev pub new_prefix : Table → Cache → Bits → Route → Bits
new_prefix table cache X M = take (new_length table cache X M) X

-- what a lookup answers, the cache that it leaves, and how many entries it evicts
pub record Looked : Type 0 where
  pub answer : Answer
  pub cache : Cache
  pub evicted : ℕ

-- "A lookup without a match answers drop at once and caches nothing." The new prefix "takes M's hop. It is chosen before anything is
-- evicted. If the cache is full, the least recently used entry leaves, else none does. The new entry is the most recently used.":
-- with the new entry in front, what stands past the limit leaves.
unfoldable pub look_table : Table → Cache → ℕ → Bits → Option Route → Looked
look_table table cache limit X none = record { answer = drop (examined table X); cache = cache; evicted = 0 }
look_table table cache limit X (some M) =
    let new : Entry = record { prefix = new_prefix table cache X M; hop = M.hop } in
    record { answer = miss M.hop new.prefix (examined table X); cache = take limit (new ∷ cache); evicted = suc (length cache) - limit }

-- "If a cached prefix contains X: hit. The answer is its hop; it becomes the most recently used."
-- "Otherwise find the longest route that contains X."
unfoldable pub look_cache : Table → Cache → ℕ → Bits → Option Entry → Looked
look_cache table cache limit X (some E) = record { answer = hit E.hop; cache = E ∷ omit (λ D. contains D.prefix X) cache; evicted = 0 }
look_cache table cache limit X none = look_table table cache limit X (match table X)

unfoldable pub lookup : Table → Cache → ℕ → Bits → Looked
lookup table cache limit X = look_cache table cache limit X (first (λ E. contains E.prefix X) cache)

-- ---- announcing and withdrawing: the table is the updated one

unfoldable pub withdraws : Action → Bool
withdraws (announce hop) = false
withdraws withdraw = true

-- "exactly the entries that now hold a route strictly inside, have no covering route, or had their own prefix just withdrawn"
unfoldable pub leaves : Table → Update → Entry → Bool
leaves table u E =
    any (λ R. strictly_inside R.prefix E.prefix) table
    || not (any (λ R. contains R.prefix E.prefix) table)
    || (withdraws u.action && same u.prefix E.prefix)

unfoldable pub hop_of : Option Route → ℕ
hop_of none = 0
hop_of (some R) = R.hop

-- "Every entry kept has the hop worked out afresh from the whole table"
unfoldable pub fresh : Table → Entry → Entry
fresh table E = record { prefix = E.prefix; hop = hop_of (match table E.prefix) }

-- "the cache is the old one in the same order of use, less exactly" those that leave
unfoldable pub refreshed : Table → Update → Cache → Cache
refreshed table u cache = map (fresh table) (keep (λ E. not (leaves table u E)) cache)

-- "The answer gives two counts: entries removed, and entries kept whose hop differs from before."
unfoldable pub removed : Table → Update → Cache → ℕ
removed table u cache = length (keep (leaves table u) cache)

unfoldable pub changed : Table → Update → Cache → ℕ
changed table u cache = length (keep (λ E. not (eqb E.hop (fresh table E).hop)) (keep (λ E. not (leaves table u E)) cache))

-- ---- refusals

-- the bits of an address, and how many routes and entries there may be
pub record Limits : Type 0 where
  pub width : ℕ
  pub routes : ℕ
  pub entries : ℕ

abbrev pub highest_hop : ℕ
highest_hop = 65535

-- "a length is above" the width
abbrev pub too_long : ℕ
too_long = 1

-- "a hop is 0 or above 65,535"
abbrev pub bad_hop : ℕ
bad_hop = 2

-- "a new prefix, and the table holds its limit of routes"
abbrev pub table_full : ℕ
table_full = 3

-- "the route to withdraw is not held"
abbrev pub not_held : ℕ
not_held = 4

-- the number of the refusal of an update of the prefix p, given with this length, or 0: "Announce: 1, 2, 3. Withdraw: 1, 4."
unfoldable pub refusal : Limits → Table → ℕ → Bits → Action → ℕ
refusal limits table len p (announce hop) =
    cond (ltb limits.width len) too_long
    (cond (eqb hop 0 || ltb highest_hop hop) bad_hop
    (cond (not (held table p) && leb limits.routes (length table)) table_full 0))
refusal limits table len p withdraw = cond (ltb limits.width len) too_long (cond (held table p) 0 not_held)
