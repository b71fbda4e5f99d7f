-- What the theorems of proofs/ claim. The demands and the sentences of the scope are said here once more, as facts that do not
-- mention how Model finds its answers: `new_length`, `take limit`, `omit`, `leaves` and `fresh` do not occur. Assumes nothing.
use Rattle.std.specs.Prelude.{ℕ, suc, ◌≤◌, ◌<◌, ◌≡◌, true, false, not, List, [], ◌∷◌, ◌++◌, ◌↔◌, length}
use Rattle.std.proofs.Math.Option.{some}
use Rattle.prefix.specs.Bits.{Bits}
use Rattle.prefix.specs.Prefix.{contains, strictly_inside, overlap}
use Rattle.tallies.specs.Counting.{after_update}
use Rattle.model.specs.Lists.{keep, ◌∈◌, Pairwise}
use Rattle.model.specs.Routes.{Route, Table, match, announce, withdraw, Update}
use Rattle.model.specs.Nodes.{examined}
use Rattle.model.specs.Model.{Entry, Cache, hit, miss, drop, done, Looked, Limits, highest_hop}
use Rattle.model.specs.Runs.{Call, look, update, State, Outcome}

-- ---- what every run keeps

-- "A table holds a prefix at most once."
abbrev pub Distinct : Table → Type 0
Distinct table = Pairwise (λ (R S : Route). ¬ (R.prefix ≡ S.prefix)) table

-- "No two cached prefixes ever overlap."
abbrev pub NoOverlap : Cache → Type 0
NoOverlap cache = Pairwise (λ (D E : Entry). overlap D.prefix E.prefix ≡ false) cache

abbrev pub NoLonger : ℕ → List Route → Type 0
NoLonger n l = (R : Route) → R ∈ l → length R.prefix ≤ n

abbrev pub Hop : ℕ → Type 0
Hop hop = (0 < hop) × (hop ≤ highest_hop)

-- entries that "have a covering route, hold no route strictly inside and carry their match's hop"
pub record Covered (table : Table) (E : Entry) : Type 0 where
  pub cover : Route
  pub is_match : match table E.prefix ≡ some cover
  pub its_hop : E.hop ≡ cover.hop
  pub none_inside : (R : Route) → R ∈ table → strictly_inside R.prefix E.prefix ≡ false

-- "every set of routes within its limit, with every set of entries within its limit that" are so
pub record Legal (limits : Limits) (table : Table) (cache : Cache) : Type 0 where
  pub distinct : Distinct table
  pub routes_short : NoLonger limits.width table
  pub routes_hops : (R : Route) → R ∈ table → Hop R.hop
  pub routes_fit : length table ≤ limits.routes
  pub no_overlap : NoOverlap cache
  pub entries_short : NoLonger limits.width cache
  pub covered : (E : Entry) → E ∈ cache → Covered table E
  pub entries_fit : length cache ≤ limits.entries

abbrev pub LegalState : Limits → State → Type 0
LegalState limits s = Legal limits s.table s.cache

-- "An address is 32 bits": those of a run's lookups have full width. An update may give any address and any length.
abbrev pub Full : Limits → Call → Type 0
Full limits (look X) = length X ≡ limits.width
Full limits (update a len action) = Unit {0}

pub data AllFull (limits : Limits) : List Call → Type 0 where
  no_calls : AllFull limits []
  and_calls : {x : Call} {l : List Call} → Full limits x → AllFull limits l → AllFull limits (x ∷ l)

-- ---- demand 2

-- "the longest match (RFC 4632) among the routes that stand"
pub record Longest (table : Table) (X : Bits) (M : Route) : Type 0 where
  pub is_route : M ∈ table
  pub covers : contains M.prefix X ≡ true
  pub longest : (R : Route) → R ∈ table → contains R.prefix X ≡ true → length R.prefix ≤ length M.prefix

-- a prefix that "contains the address, is no shorter than its match, contains no route longer than that match and overlaps nothing
-- cached"
pub record Storable (table : Table) (cache : Cache) (X : Bits) (M : Route) (p : Bits) : Type 0 where
  pub contains_address : contains p X ≡ true
  pub no_shorter : length M.prefix ≤ length p
  pub no_longer_route : (R : Route) → R ∈ table → length M.prefix < length R.prefix → contains p R.prefix ≡ false
  pub overlaps_nothing : (E : Entry) → E ∈ cache → overlap p E.prefix ≡ false

-- "the shortest prefix that" is so
pub record Shortest (table : Table) (cache : Cache) (X : Bits) (M : Route) (p : Bits) : Type 0 where
  pub storable : Storable table cache X M p
  pub shortest : (q : Bits) → Storable table cache X M q → length p ≤ length q

-- "If the cache is full, the least recently used entry leaves, else none does": the entries kept, and how many leave
pub data GivesWay (limit : ℕ) (cache : Cache) : Cache → ℕ → Type 0 where
  has_room : length cache < limit → GivesWay limit cache cache 0
  is_full : {kept : Cache} → length cache ≡ limit → (oldest : Entry) → cache ≡ kept ++ (oldest ∷ []) → GivesWay limit cache kept 1

-- "a hit exactly when a cached prefix contains the address": the next two exclude each other
abbrev pub NoneCached : Cache → Bits → Type 0
NoneCached cache X = (E : Entry) → E ∈ cache → contains E.prefix X ≡ false

-- E, and the entries used after it and before it
pub record Cached (cache : Cache) (X : Bits) (E : Entry) : Type 0 where
  pub newer : Cache
  pub older : Cache
  pub stands : cache ≡ newer ++ (E ∷ older)
  pub contains_address : contains E.prefix X ≡ true

-- what a lookup does: "the entries not named here keep their fields and their order among themselves"
pub data LookupOutcome (table : Table) (cache : Cache) (limit : ℕ) (X : Bits) (result : Looked) : Type 0 where
  is_hit : (E : Entry) (M : Route) (C : Cached cache X E)
      → Longest table X M
      → E.hop ≡ M.hop
      → result ≡ record { answer = hit E.hop; cache = E ∷ (C.newer ++ C.older); evicted = 0 }
      → LookupOutcome table cache limit X result
  is_miss : (M : Route) (p : Bits) {kept : Cache} {evicted : ℕ}
      → NoneCached cache X
      → Longest table X M
      → Shortest table cache X M p
      → GivesWay limit cache kept evicted
      → result ≡ record { answer = miss M.hop p (examined table X); cache = record { prefix = p; hop = M.hop } ∷ kept; evicted = evicted }
      → LookupOutcome table cache limit X result
  is_drop : NoneCached cache X
      → ((R : Route) → R ∈ table → contains R.prefix X ≡ false)
      → result ≡ record { answer = drop (examined table X); cache = cache; evicted = 0 }
      → LookupOutcome table cache limit X result

-- ---- demand 3

-- the routes that stand after an update of the table
pub data Standing (table : Table) (u : Update) (R : Route) : Type 0 where
  announced : (hop : ℕ) → u.action ≡ announce hop → R ≡ record { prefix = u.prefix; hop = hop } → Standing table u R
  stood : R ∈ table → ¬ (R.prefix ≡ u.prefix) → Standing table u R

-- "exactly the entries that now hold a route strictly inside, have no covering route, or had their own prefix just withdrawn"
pub data Leaving (table : Table) (u : Update) (E : Entry) : Type 0 where
  route_inside : (R : Route) → R ∈ table → strictly_inside R.prefix E.prefix ≡ true → Leaving table u E
  uncovered : ((R : Route) → R ∈ table → contains R.prefix E.prefix ≡ false) → Leaving table u E
  withdrawn : u.action ≡ withdraw → u.prefix ≡ E.prefix → Leaving table u E

-- "the old one in the same order of use, less exactly" those: the two caches entry by entry, with "entries removed, and entries kept
-- whose hop differs from before"
pub data Refreshed (table : Table) (u : Update) : Cache → Cache → ℕ → ℕ → Type 0 where
  at_end : Refreshed table u [] [] 0 0
  left : {E : Entry} {old new : Cache} {removed changed : ℕ} → Leaving table u E
      → Refreshed table u old new removed changed → Refreshed table u (E ∷ old) new (suc removed) changed
  same_hop : {E : Entry} {old new : Cache} {removed changed : ℕ} → ¬ Leaving table u E → Covered table E
      → Refreshed table u old new removed changed → Refreshed table u (E ∷ old) (E ∷ new) removed changed
  new_hop : {E D : Entry} {old new : Cache} {removed changed : ℕ} → ¬ Leaving table u E → Covered table D
      → D.prefix ≡ E.prefix → ¬ (D.hop ≡ E.hop)
      → Refreshed table u old new removed changed → Refreshed table u (E ∷ old) (D ∷ new) removed (suc changed)

-- what an update that is not refused does
pub record UpdateOutcome (s : State) (u : Update) (out : Outcome) : Type 0 where
  pub routes : (R : Route) → (R ∈ out.state.table) ↔ Standing s.table u R
  pub removed : ℕ
  pub changed : ℕ
  pub entries : Refreshed out.state.table u s.cache out.state.cache removed changed
  pub counts : out.answer ≡ done removed changed
  pub tallies : out.state.tallies ≡ after_update s.tallies removed
  -- "entries that don't overlap the updated prefix keep every field"
  pub others : keep (λ E. not (overlap E.prefix u.prefix)) out.state.cache
      ≡ keep (λ E. not (overlap E.prefix u.prefix)) s.cache

-- ---- the order in which a table lists its routes

abbrev pub Subset : {A : Type 0} → List A → List A → Type 0
Subset {A} l k = (x : A) → x ∈ l → x ∈ k

pub record SameRoutes (t u : Table) : Type 0 where
  pub to : Subset t u
  pub from : Subset u t

-- two states that differ in nothing else
pub record Alike (s z : State) : Type 0 where
  pub tables : SameRoutes s.table z.table
  pub caches : s.cache ≡ z.cache
  pub tallies : s.tallies ≡ z.tallies

pub record AlikeOutcome (a b : Outcome) : Type 0 where
  pub same_answer : a.answer ≡ b.answer
  pub still_alike : Alike a.state b.state
