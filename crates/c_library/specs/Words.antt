-- Answers as the words of C. Assumes nothing.
use Rattle.std.specs.Prelude.{List, [], ◌∷◌, ℕ, Result, Ok, Err}
use Rattle.sizes.specs.declared.refusal.Unsound.{Unsound}
use Rattle.lookup.specs.declared.Answer.{Answer}
use Rattle.lookup.specs.declared.Answer.TheVariants.{Hit, Miss, Drop}
use Rattle.lookup.specs.declared.Looked.{Looked}

-- kind (0 hit, 1 miss, 2 drop), hop, stored address, stored length, nodes examined: "A hit and a drop give the stored prefix as address
-- 0, length 0; a drop's hop is 0."
abbrev pub answer_words : Answer → List ℕ
answer_words (Hit hop) = 0 ∷ hop ∷ 0 ∷ 0 ∷ 0 ∷ []
answer_words (Miss hop address length nodes) = 1 ∷ hop ∷ address ∷ length ∷ nodes ∷ []
answer_words (Drop nodes) = 2 ∷ 0 ∷ 0 ∷ 0 ∷ nodes ∷ []

-- "Every refusal returns its number with all other parts of the answer 0."
abbrev pub look_words : Result Looked Unsound → List ℕ
look_words (Ok looked) = answer_words looked.answer
look_words (Err e) = 0 ∷ 0 ∷ 0 ∷ 0 ∷ 0 ∷ []

abbrev pub look_number : Result Looked Unsound → ℕ
look_number (Ok looked) = 0
look_number (Err e) = 9
