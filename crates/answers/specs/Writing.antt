-- What the functions of the writer do. Assumes nothing.
use Rattle.std.specs.Prelude.{ℕ, ◌+◌, ◌≡◌, List, length}
use Rattle.std.proofs.lemmas.List.Edits.{sets}

-- these bytes are stored from the place on, every other byte is as before, and next is the place after them
pub record Written (entry exit : List ℕ) (at : ℕ) (bytes : List ℕ) (next : ℕ) : Type 0 where
  pub stored : exit ≡ sets entry at bytes
  pub ended : next ≡ at + length bytes
