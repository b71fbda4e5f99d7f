-- A lookup's contract leaves no word of its answer open: a stored prefix has its bits past the length cleared, so it has one address.
-- Assumes nothing.
use mathlib.Core.Path.{◌≡◌, refl, sym, ap, ◌∙◌}
use mathlib.Core.List.{List}
use Prim.Native.Nat.{ℕ, ◌^◌, ◌≤◌, ◌<◌}
use native.Mathlib.Omega.{arith}
use lib.ListN.{length, take}
use lib.Seq.{length-take-le}
use Rattle.std.specs.Prelude.{Result, Ok, Err, IfOk}
use Rattle.prefix.specs.Bits.{bits}
use Rattle.prefix.specs.Prefix.{trimmed}
use Rattle.prefix.proofs.BitLaws.{length_bits, trimmed_inj}
use Rattle.sizes.specs.declared.refusal.Unsound.{Unsound}
use Rattle.tallies.specs.declared.Tallies.{Tallies}
use Rattle.model.specs.Model.{refused}
use Rattle.pairs.specs.Pairs.{SoundPair}
use Rattle.lookup.specs.Promises.{answer_of, said, tallies_in, ClearedIn, LookedUp}
use Rattle.lookup.specs.declared.Answer.{Answer}
use Rattle.lookup.specs.declared.Answer.TheVariants.{Hit, Miss, Drop}
use Rattle.lookup.specs.declared.Looked.{Looked}
use Rattle.fib.specs.Runs.{AddressFits}

pub length_first : (n a : ℕ) → n ≤ 32 → length (take n (bits 32 a)) ≡ n
length_first n a h = length-take-le n (bits 32 a) (omega (arith, length_bits 32 a))

-- a prefix whose bits past the length are cleared has one length and one address
prefix_words : (a b n m : ℕ) → a < 2 ^ 32 → b < 2 ^ 32 → (n ≤ 32) × (bits 32 a ≡ trimmed n (bits 32 a)) → (m ≤ 32) × (bits 32 b ≡ trimmed m (bits 32 b))
    → take n (bits 32 a) ≡ take m (bits 32 b) → (n ≡ m) × (a ≡ b)
prefix_words a b n m fa fb ca cb p =
    let e : n ≡ m = sym (length_first n a ca.0) ∙ ap length p ∙ length_first m b cb.0 in
    let cleared : bits 32 b ≡ trimmed n (bits 32 b) = cb.1 ∙ ap (λ k. trimmed k (bits 32 b)) (sym e) in
    (e, trimmed_inj 32 n a b fa fb ca.1 cleared (p ∙ ap (λ k. take k (bits 32 b)) (sym e)))

same_words : (a b : Answer) → AddressFits a → AddressFits b → ClearedIn a → ClearedIn b → answer_of a ≡ answer_of b → a ≡ b
same_words (Hit h) (Hit k) fa fb ca cb e = cc
same_words (Hit h) (Miss k b m j) fa fb ca cb e = cc
same_words (Hit h) (Drop k) fa fb ca cb e = cc
same_words (Miss h a n i) (Hit k) fa fb ca cb e = cc
same_words (Miss h a n i) (Miss k b m j) fa fb ca cb e =
    let p : take n (bits 32 a) ≡ take m (bits 32 b) = cc in
    let q : (n ≡ m) × (a ≡ b) = prefix_words a b n m fa fb ca cb p in
    cc
same_words (Miss h a n i) (Drop k) fa fb ca cb e = cc
same_words (Drop h) (Hit k) fa fb ca cb e = cc
same_words (Drop h) (Miss k b m j) fa fb ca cb e = cc
same_words (Drop h) (Drop k) fa fb ca cb e = cc

-- no answer is said as a refusal
not_refused : (a : Answer) → ¬ (answer_of a ≡ refused 9)
not_refused (Hit h) e = cc
not_refused (Miss h a n i) e = cc
not_refused (Drop k) e = cc

-- a refusal has no word but its number
same_results : (t : Tallies) (r q : Result Looked Unsound)
    → IfOk r (λ l. AddressFits l.answer) → IfOk q (λ l. AddressFits l.answer) → IfOk r (λ l. ClearedIn l.answer) → IfOk q (λ l. ClearedIn l.answer)
    → said r ≡ said q → tallies_in t r ≡ tallies_in t q → r ≡ q
same_results t (Ok l) (Ok m) fa fb ca cb e k =
    let w = same_words l.answer m.answer fa fb ca cb e in
    λ i. Ok (record { answer = w i; tallies = k i })
same_results t (Ok l) (Err d) fa fb ca cb e k = absurd (not_refused l.answer e)
same_results t (Err d) (Ok m) fa fb ca cb e k = absurd (not_refused m.answer (sym e))
same_results t (Err d) (Err f) fa fb ca cb e k = refl

-- two answers of one lookup are the same, word for word
pub answers_alike : {table cache c d : List ℕ} {t : Tallies} {address : ℕ} {r q : Result Looked Unsound}
    → SoundPair table cache
    → (SoundPair table cache → LookedUp table cache c t address r)
    → (SoundPair table cache → LookedUp table cache d t address q)
    → IfOk r (λ l. AddressFits l.answer)
    → IfOk q (λ l. AddressFits l.answer)
    → r ≡ q
answers_alike {t} {r} {q} S A B fa fb =
    let a = A S in
    let b = B S in
    same_results t r q fa fb a.cleared b.cleared (a.answer ∙ sym b.answer) (a.state.are_tallies ∙ sym b.state.are_tallies)
