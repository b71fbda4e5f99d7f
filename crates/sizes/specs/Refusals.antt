-- "0 is done": the number of an answer, by the numbers of its refusals. Assumes nothing.
use Rattle.std.specs.Prelude.{ℕ, Result, Ok, Err}

abbrev pub number_by : {T E : Type 0} → (E → ℕ) → Result T E → ℕ
number_by number (Ok x) = 0
number_by number (Err e) = number e
