-- A C program that sets up two stores and makes any calls is told what the model's run answers. Assumes nothing.
use mathlib.Core.Path.{◌≡◌, refl, sym, ap, ap₂, ◌∙◌, subst}
use mathlib.Core.List.Memᴰ
use mathlib.Core.List.{List, [], ◌∷◌, map}
use Prim.Native.Nat.{ℕ, zero, suc, ◌+◌, ◌-◌, ◌*◌, ◌/◌, ◌^◌, ◌≤◌, ◌<◌}
use native.Mathlib.Omega.{arith}
use native.Mathlib.Nat.{mod-eq_of_lt, div-mul-le_self}
use lib.ListN.{length, take}
use lib.Pow.{shr_lt}
use Rattle.std.specs.Prelude.{Result, Ok, Err, IfOk}
use Rattle.prefix.specs.Bits.{bits, value}
use Rattle.prefix.specs.Prefix.{trimmed}
use Rattle.prefix.proofs.BitLaws.{take_bits, value_bits, bits_inj, trim_bits}
use Rattle.sizes.specs.Sizes.{setup_for, setup_number}
use Rattle.sizes.specs.BothStores.{SetUp}
use Rattle.sizes.specs.declared.SetupError.{SetupError}
use Rattle.sizes.specs.declared.SetupError.TheVariants.{ShortStore, BadLimit}
use Rattle.sizes.specs.declared.refusal.Unsound.{Unsound}
use Rattle.tallies.specs.declared.Tallies.{Tallies}
use Rattle.model.specs.Model.{Limits, values}
use Rattle.model.specs.Runs.{State, step, answers, after, empty}
use Rattle.model.specs.Runs as model
use Rattle.table.specs.Tables.{TableSetUp}
use Rattle.cache.specs.Calls.{CacheSetUp}
use Rattle.updates.specs.Updates.{action_of}
use Rattle.updates.specs.declared.Action.{Action}
use Rattle.updates.specs.declared.Action.TheVariants.{Announce, Withdraw}
use Rattle.pairs.specs.Pairs.{SoundPair}
use Rattle.lookup.specs.Promises.{answer_of, said, ClearedIn}
use Rattle.lookup.specs.declared.Answer as lookup
use Rattle.lookup.specs.declared.Answer.TheVariants.{Hit, Miss, Drop}
use Rattle.lookup.specs.declared.Looked.{Looked}
use Rattle.refresh.specs.Promises.{update_number, removed_in, changed_in, updated_number, updated_of}
use Rattle.c_library.specs.Words.{answer_words, look_words, look_number}
use Rattle.c_library.specs.Promises.{SetUpTold, LentLookup, LentUpdate}
use Rattle.fib.specs.Runs as fib
use Rattle.fib.specs.Runs.{Stores, Follows}
use Rattle.fib.proofs.AnswerWords.{length_first}
use Rattle.fib.proofs.Outcomes.{never_unsound}
use Rattle.fib.proofs.Runs.{call_follows, fresh_follows}
use Rattle.linked.specs.Programs.{Call, call_of, Told, address_of, told_of, start, limits, AreWords, Called, by_lookup, by_announce, by_withdraw, Calls, no_calls, and_calls}

-- ---- the words of an answer

-- the first n bits of an address are its value without the k bits past them
value_first : (n k a : ℕ) → n + k ≡ 32 → a < 2 ^ 32 → value (take n (bits 32 a)) ≡ a / 2 ^ k
value_first n k a e fits =
    ap value (take_bits 32 n k a e) ∙ value_bits n (a / 2 ^ k) ∙ mod-eq_of_lt (shr_lt n k (subst (λ (w : ℕ). a < 2 ^ w) (sym e) fits))

-- an address without bits past the length is nothing else
cleared_whole : (n k a : ℕ) → n + k ≡ 32 → a < 2 ^ 32 → bits 32 a ≡ trimmed n (bits 32 a) → a / 2 ^ k * 2 ^ k ≡ a
cleared_whole n k a e fits cleared =
    bits_inj 32 (a / 2 ^ k * 2 ^ k) a (omega (arith, div-mul-le_self a (2 ^ k), fits)) fits (trim_bits 32 n k a e ∙ sym cleared)

-- so a stored prefix is told as its address
address_of_bits : (n a : ℕ) → n ≤ 32 → a < 2 ^ 32 → bits 32 a ≡ trimmed n (bits 32 a) → address_of (take n (bits 32 a)) ≡ a
unfolding address_of
address_of_bits n a short fits cleared =
    let e : n + (32 - n) ≡ 32 = omega arith in
    rw (length_first n a short, value_first n (32 - n) a e fits) (cleared_whole n (32 - n) a e fits cleared)

told_answer : (a : lookup.Answer) → AreWords (answer_words a) → ClearedIn a → record { number = 0; words = answer_words a } ≡ told_of (answer_of a)
told_answer (Hit hop) W c = refl
told_answer (Miss hop a n nodes) W c =
    rw (length_first n a c.0, address_of_bits n a c.0 (W a (Memᴰ.tail (Memᴰ.tail (Memᴰ.head refl)))) c.1)
told_answer (Drop nodes) W c = refl

told_look : (r : Result Looked Unsound) → AreWords (look_words r) → IfOk r (λ l. ClearedIn l.answer) → (values (said r)).number ≡ 0
    → record { number = look_number r; words = look_words r } ≡ told_of (said r)
unfolding values
told_look (Ok l) W c z = told_answer l.answer W c
told_look (Err e) W c z = absurd (omega (arith, z))

told_update : (number removed changed : ℕ) → (¬ (number ≡ 0) → (removed ≡ 0) × (changed ≡ 0))
    → record { number = number; words = removed ∷ changed ∷ [] } ≡ told_of (updated_number number removed changed)
told_update zero removed changed h = refl
told_update (suc k) removed changed h = let z = h (λ e. omega (arith, e)) in rw (z.0, z.1)

-- ---- one call

abbrev told : ℕ → List ℕ → Told
told number words = record { number = number; words = words }

abbrev stores : List ℕ → List ℕ → Tallies → Stores
stores table cache t = record { table = table; cache = cache; tallies = t }

-- a call from stores that follow a state of the model: what it tells, and the state that its stores follow then
abbrev Goes : Limits → State → model.Call → Told → Stores → Type 0
Goes L z x k m = (k ≡ told_of (step L z x).answer) × Follows L m (step L z x).state

look_goes : {L : Limits} {s : Stores} {z : State} (a number : ℕ) (words cache : List ℕ) (t : Tallies)
    → AreWords words → LentLookup s.table s.cache cache s.tallies t a number words → Follows L s z
    → Goes L z (model.look (bits 32 a)) (told number words) (stores s.table cache t)
look_goes {L} {s} {z} a number words cache t W P F =
    let r = P.call in
    let f = call_follows (fib.by_look a cache r P.promise) F in
    let w : AreWords (look_words r) = subst AreWords P.are_words W in
    let k : told (look_number r) (look_words r) ≡ told_of (said r) = told_look r w (P.promise F.sound).cleared (never_unsound F.sound P.promise) in (
      rw (P.is_number, P.are_words) (k ∙ ap told_of f.0),
      subst (λ (v : Tallies). Follows L (stores s.table cache v) (step L z (model.look (bits 32 a))).state) (sym P.is_record) f.1,
    )

update_goes : {L : Limits} {s : Stores} {z : State} (a n : ℕ) (action : Action) (number : ℕ) (words table cache : List ℕ) (t : Tallies)
    → LentUpdate s.table s.cache table cache s.tallies t a n action number words → Follows L s z
    → Goes L z (model.update (bits 32 a) n (action_of action)) (told number words) (stores table cache t)
update_goes {L} {s} {z} a n action number words table cache t P F =
    let r = P.call in
    let u = P.update in
    let f = call_follows (fib.by_update u table cache r P.promise) F in
    let x : fib.call_of (fib.update u) ≡ model.update (bits 32 a) n (action_of action) = rw (P.means.its_address, P.means.its_length, P.means.its_action) in
    let none : ¬ (update_number r ≡ 0) → (removed_in r ≡ 0) × (changed_in r ≡ 0) = λ e. (P.promise.refused F.sound e).no_counts in
    let k : told (update_number r) (removed_in r ∷ changed_in r ∷ []) ≡ told_of (updated_of r) = told_update (update_number r) (removed_in r) (changed_in r) none in
    let g : Goes L z (fib.call_of (fib.update u)) (told number words) (stores table cache t) = (
      rw (P.is_number, P.are_words) (k ∙ ap told_of f.0),
      subst (λ (v : Tallies). Follows L (stores table cache v) (step L z (fib.call_of (fib.update u))).state) (sym P.is_record) f.1,
    ) in
    subst (λ (y : model.Call). Goes L z y (told number words) (stores table cache t)) x g

call_goes : {L : Limits} {s m : Stores} {x : Call} {k : Told} {z : State} → Called s x k m → Follows L s z → Goes L z (call_of x) k m
call_goes (by_lookup a number words cache t W P) F = look_goes a number words cache t W P F
call_goes (by_announce a n hop number words table cache t P) F = update_goes a n (Announce hop) number words table cache t P F
call_goes (by_withdraw a n number words table cache t P) F = update_goes a n Withdraw number words table cache t P F

-- ---- runs

pub run_told : {L : Limits} {s m : Stores} {l : List Call} {k : List Told} {z : State}
    → Calls s l k m → Follows L s z → (k ≡ map told_of (answers L z (map call_of l))) × Follows L m (after L z (map call_of l))
unfolding answers after
run_told no_calls F = (refl, F)
run_told (and_calls K R) F =
    let c = call_goes K F in
    let r = run_told R c.1 in
    (ap₂ ◌∷◌ c.0 r.0, r.1)

-- ---- from set-up on

-- what set-up returns is decided by the words' number and the limit
pub set_up_told : {need : ℕ → ℕ} {Made : List ℕ → List ℕ → ℕ → Type 0} {w w' : List ℕ} {limit number : ℕ}
    → SetUpTold (SetUp need Made w w' limit) number → number ≡ setup_number (setup_for need (length w) limit)
set_up_told P = P.is_number ∙ ap setup_number P.promise.answer

-- 0 is the number of a set-up that was done, and of no other
zero_done : (r : Result (Unit {0}) SetupError) → 0 ≡ setup_number r → r ≡ Ok tt
zero_done (Ok x) e = refl
zero_done (Err ShortStore) e = absurd (omega (arith, e))
zero_done (Err BadLimit) e = absurd (omega (arith, e))

-- both set-ups returned 0, and any calls followed
module _ {table table' cache cache' : List ℕ} {routes entries : ℕ} (A : SetUpTold (TableSetUp table table' routes) 0) (B : SetUpTold (CacheSetUp cache cache' entries) 0)
    {l : List Call} {k : List Told} {s : Stores} (R : Calls (start table' cache') l k s) where
  follows : (k ≡ map told_of (answers (limits routes entries) empty (map call_of l))) × Follows (limits routes entries) s (after (limits routes entries) empty (map call_of l))
  follows = run_told R (fresh_follows A.promise (zero_done A.call A.is_number) B.promise (zero_done B.call B.is_number))

  -- every number and every word that the program is told is the model's
  pub program_told : k ≡ map told_of (answers (limits routes entries) empty (map call_of l))
  program_told = follows.0

  -- so is its record of tallies
  pub program_tallies : s.tallies ≡ (after (limits routes entries) empty (map call_of l)).tallies
  program_tallies = follows.1.alike.tallies

  -- its stores are sound
  pub program_sound : SoundPair s.table s.cache
  program_sound = follows.1.sound
