-- "Stores and sizes": the limits of both stores, the words that each needs, and the entries for a memory figure. Assumes nothing.
use Rattle.std.specs.Prelude.{ℕ, ◌+◌, ◌-◌, ◌*◌, ◌/◌, ◌≤◌, cond, ◌||◌, ltb, eqb, Result, Ok, Err}
use Rattle.sizes.specs.Refusals.{number_by}
use Rattle.sizes.specs.declared.SizeError.{SizeError}
use Rattle.sizes.specs.declared.SizeError.TheVariants.{TooSmall, TooLarge}
use Rattle.sizes.specs.declared.SetupError.{SetupError}
use Rattle.sizes.specs.declared.SetupError.TheVariants.{ShortStore, BadLimit}

-- "Both limits are 1 to 1,048,576"
abbrev pub largest_limit : ℕ
largest_limit = 1048576

abbrev pub LegalLimit : ℕ → Type 0
LegalLimit limit = (1 ≤ limit) × (limit ≤ largest_limit)

-- "The table store needs 1,024 words plus 16 for each route of its limit, the cache store 1,024 plus 8 for each entry."
abbrev pub reserved_words : ℕ
reserved_words = 1024

abbrev pub need : ℕ → ℕ → ℕ
need words_each limit = reserved_words + words_each * limit

abbrev pub table_need : ℕ → ℕ
table_need limit = need 16 limit

abbrev pub cache_need : ℕ → ℕ
cache_need limit = need 8 limit

-- "Set-up checks 8, then 7." 8: "a limit is 0 or above 1,048,576"; 7: "a store has fewer words than its limit needs"
abbrev pub setup_for : (ℕ → ℕ) → ℕ → ℕ → Result (Unit {0}) SetupError
setup_for need words limit = cond (eqb limit 0 || ltb largest_limit limit) (Err BadLimit) (cond (ltb words (need limit)) (Err ShortStore) (Ok tt))

abbrev pub setup_error_number : SetupError → ℕ
setup_error_number ShortStore = 7
setup_error_number BadLimit = 8

abbrev pub setup_number : Result (Unit {0}) SetupError → ℕ
setup_number r = number_by setup_error_number r

-- "Entries for a memory figure of B bytes (B is 64 bits wide): (B - 4,096) / 32, rounded down, for 4,128 <= B <= 33,558,559."
-- 5: "B is below 4,128"; 6: "B is above 33,558,559"
abbrev pub smallest_figure : ℕ
smallest_figure = 4128

abbrev pub largest_figure : ℕ
largest_figure = 33558559

abbrev pub entries_for : ℕ → Result ℕ SizeError
entries_for B = cond (ltb B smallest_figure) (Err TooSmall) (cond (ltb largest_figure B) (Err TooLarge) (Ok ((B - 4096) / 32)))

-- the number of the answer, and its entries: a refusal has none
abbrev pub size_error_number : SizeError → ℕ
size_error_number TooSmall = 5
size_error_number TooLarge = 6

abbrev pub sizing_number : Result ℕ SizeError → ℕ
sizing_number r = number_by size_error_number r

abbrev pub sizing_entries : Result ℕ SizeError → ℕ
sizing_entries (Ok n) = n
sizing_entries (Err e) = 0
