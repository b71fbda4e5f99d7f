-- What both stores have in common: the limit in word 0, slots of eight words from word 1,016 on, of which slot 0 is the header's own,
-- and what set-up answers and fixes. Assumes nothing.
use Rattle.std.specs.Prelude.{◌≡◌, List, ℕ, ◌+◌, ◌*◌, ◌≤◌, length, get_or, drop, Result, OnOk, OnErr}
use Rattle.sizes.specs.Sizes.{setup_for}
use Rattle.sizes.specs.declared.SetupError.{SetupError}

abbrev pub word : List ℕ → ℕ → ℕ
word w i = get_or w i 0

abbrev pub limit_of : List ℕ → ℕ
limit_of w = word w 0

abbrev pub slot_word : ℕ → ℕ → ℕ
slot_word i field = 1016 + 8 * i + field

-- the words of slot i are in the store
abbrev pub Room : List ℕ → ℕ → Type 0
Room w i = 1016 + 8 * i + 8 ≤ length w

-- "Set-up checks 8, then 7." A refusal leaves every word; what is made of the store else is the parameter
pub record SetUp (need : ℕ → ℕ) (Made : List ℕ → List ℕ → ℕ → Type 0) (w w' : List ℕ) (limit : ℕ) (r : Result (Unit {0}) SetupError) : Type 0 where
  pub answer : r ≡ setup_for need (length w) limit
  pub done : OnOk r (Made w w' limit)
  pub refused : OnErr r (w' ≡ w)

-- an empty store of this limit; the words past the need are as they were
pub record Fresh (need : ℕ → ℕ) (Empty : List ℕ → Type 0) (w w' : List ℕ) (limit : ℕ) : Type 0 where
  pub is_empty : Empty w'
  pub its_limit : limit_of w' ≡ limit
  pub past_kept : drop (need limit) w' ≡ drop (need limit) w

-- what no other call moves: the limit, and the words past the need
abbrev pub Fixed : (ℕ → ℕ) → List ℕ → List ℕ → Type 0
Fixed need w w' = (limit_of w' ≡ limit_of w) × (drop (need (limit_of w)) w' ≡ drop (need (limit_of w)) w)
