-- Words for given values: a list of words place by place, each below 2 ^ 32, and a prefix as an address and a length. Assumes nothing.
use mathlib.Core.Path.{◌≡◌, refl, ap, ap₂, ◌∙◌, subst}
use mathlib.Core.Bool.{Bool, true, false}
use mathlib.Core.List.{List, [], ◌∷◌, ◌++◌}
use Prim.Native.Nat.{ℕ, zero, suc, ◌+◌, ◌-◌, ◌%◌, ◌^◌, ◌≤◌, ◌<◌}
use native.Mathlib.Nat.{pow-suc, mod-lt, mod-eq_of_lt}
use native.Mathlib.Omega.{arith}
use lib.ListN.{length, take, get_or, replicate, length-append, length-replicate}
use lib.Seq.{take-append_seam}
use Rattle.prefix.specs.Bits.{Bits, digit, bits, value}
use Rattle.prefix.specs.Prefix.{prefix_of}
use Rattle.prefix.proofs.BitLaws.{bits_append}

-- ---- words

-- a word is 32 bits
abbrev pub word_end : ℕ
word_end = 4294967296

-- what a store of words can hold
abbrev pub Words : List ℕ → Type 0
Words w = (i : ℕ) → get_or w i 0 < word_end

-- n words, from place a on
from : (ℕ → ℕ) → ℕ → ℕ → List ℕ
from f a zero = []
from f a (suc n) = f a % word_end ∷ from f (suc a) n

from_length : (f : ℕ → ℕ) (a n : ℕ) → length (from f a n) ≡ n
unfolding from
from_length f a zero = refl
from_length f a (suc n) = ap suc (from_length f (suc a) n)

from_at : (f : ℕ → ℕ) (a n i : ℕ) → i < n → get_or (from f a n) i 0 ≡ f (a + i) % word_end
unfolding from
from_at f a zero i h = absurd (omega arith)
from_at f a (suc n) zero h = let e : a + 0 ≡ a = omega arith in rw e
from_at f a (suc n) (suc i) h = let e : a + suc i ≡ suc a + i = omega arith in rw e (from_at f (suc a) n i (omega arith))

from_below : (f : ℕ → ℕ) (a n i : ℕ) → get_or (from f a n) i 0 < word_end
unfolding from
from_below f a zero i = omega arith
from_below f a (suc n) zero = mod-lt (f a) (omega arith)
from_below f a (suc n) (suc i) = from_below f (suc a) n i

pub words : (ℕ → ℕ) → ℕ → List ℕ
words f n = from f 0 n

module _ (f : ℕ → ℕ) (n : ℕ) where
  pub words_length : length (words f n) ≡ n
  unfolding words
  words_length = from_length f 0 n

  pub words_at : (i : ℕ) → i < n → f i < word_end → get_or (words f n) i 0 ≡ f i
  unfolding words
  words_at i h b = let e : 0 + i ≡ i = omega arith in from_at f 0 n i h ∙ ap (λ (k : ℕ). f k % word_end) e ∙ mod-eq_of_lt b

  pub words_below : Words (words f n)
  unfolding words
  words_below i = from_below f 0 n i

-- ---- prefixes

value_below : (l : Bits) → value l < 2 ^ length l
unfolding value
value_below [] = omega arith
value_below (false ∷ l) = omega (arith, value_below l, pow-suc 2 (length l))
value_below (true ∷ l) = omega (arith, value_below l, pow-suc 2 (length l))

bit_one : (b : Bool) → bits 1 (digit b) ≡ b ∷ []
unfolding bits
bit_one false = refl
bit_one true = refl

bits_value : (l : Bits) → bits (length l) (value l) ≡ l
unfolding value bits
bits_value [] = refl
bits_value (b ∷ l) = bits_append (suc (length l)) 1 (length l) (digit b) (value l) (omega arith) (value_below l) ∙ ap₂ ◌++◌ (bit_one b) (bits_value l)

-- the address of 32 bits that begins with p and goes on with zeros
padded : Bits → Bits
padded p = p ++ replicate (32 - length p) false

pub address_for : Bits → ℕ
address_for p = value (padded p)

module _ (p : Bits) (h : length p ≤ 32) where
  padded_length : length (padded p) ≡ 32
  unfolding padded
  padded_length = omega (arith, length-append p (replicate (32 - length p) false), length-replicate (32 - length p) false)

  pub address_below : address_for p < word_end
  unfolding address_for
  address_below = subst (λ (n : ℕ). value (padded p) < 2 ^ n) padded_length (value_below (padded p))

  pub prefix_coded : prefix_of 32 (address_for p) (length p) ≡ p
  unfolding address_for padded
  prefix_coded = ap (take (length p)) (subst (λ (n : ℕ). bits n (value (padded p)) ≡ padded p) padded_length (bits_value (padded p))) ∙ take-append_seam p (replicate (32 - length p) false)
