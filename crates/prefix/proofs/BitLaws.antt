-- Laws of the bits of a number, at any width, and what xor and leading zeros say of prefixes. Assumes nothing.
use mathlib.Core.Path.{◌≡◌, refl, sym, ap, ap₂, ◌∙◌}
use mathlib.Core.Bool.{Bool, true, false, cond, beq}
use mathlib.Core.List.{◌++◌}
use Prim.Native.Nat.{ℕ, zero, suc, ◌+◌, ◌-◌, ◌*◌, ◌/◌, ◌%◌, ◌^◌, ◌≤◌, ◌<◌}
use native.Mathlib.Nat.{pow-suc, mod-one, mod-lt, mod-eq_of_lt, zero-div, div-mul-le_self, le_trans, mul-le-mul_right, le-mul_of_pos_right, mul_assoc, mul_comm}
use native.Mathlib.Numerals.{one-add}
use native.Mathlib.Omega.{arith}
use lib.ListN.{length, take, get_or, replicate, get_or-append}
use lib.Seq.{get_or-append-add}
use lib.Bits.{bit_xor, xor_shr, xor_mod, xor_lt}
use lib.Count.{count_leading_zeros, under, leading_length, leading_unique}
use lib.Pow.{pow_pos, pow-add, shr-shr, mod-pow-add, mod-mod-pow, field, high, low}
use Rattle.prefix.specs.Bits.{Bits, one?, digit, bits, value}
use Rattle.prefix.specs.Prefix.{common, prefix_of, trimmed}
use Rattle.prefix.proofs.Common.{common_append_less, common_append_full, common_le}
use Rattle.prefix.proofs.Trimming.{trimmed_take, trimmed_split}

-- ---- digits

pub digit_one : (d : ℕ) → d < 2 → digit (one? d) ≡ d
digit_one zero h = refl
digit_one (suc zero) h = refl
digit_one (suc (suc d)) h = absurd (omega arith)

pub digit_bit : (n : ℕ) → digit (one? (n % 2)) ≡ n % 2
digit_bit n = digit_one (n % 2) (mod-lt n (omega arith))

pub bit_digit : (b : Bool) → one? (digit b) ≡ b
bit_digit false = refl
bit_digit true = refl

pub digit_below : (b : Bool) → digit b < 2
digit_below false = omega arith
digit_below true = omega arith

pub bit_small : (l : Bits) (i x : ℕ) → x ≡ digit (get_or l i false) → x < 2
bit_small l i x e = omega (arith, digit_below (get_or l i false))

-- ---- the bits of a number

pub length_bits : (w x : ℕ) → length (bits w x) ≡ w
unfolding bits
length_bits zero x = refl
length_bits (suc w) x = ap suc (length_bits w x)

-- the bit with i bits above it and k below it
pub bits_at : (w i k x : ℕ) → i + suc k ≡ w → get_or (bits w x) i false ≡ one? (x / 2 ^ k % 2)
unfolding bits
bits_at zero i k x e = absurd (omega arith)
bits_at (suc w) zero k x e = let e' : w ≡ k = omega arith in rw e'
bits_at (suc w) (suc i) k x e = bits_at w i k x (omega arith)

-- the first j bits are those of the quotient
pub take_bits : (w j k x : ℕ) → j + k ≡ w → take j (bits w x) ≡ bits j (x / 2 ^ k)
unfolding bits
take_bits w zero k x e = refl
take_bits zero (suc j) k x e = absurd (omega arith)
take_bits (suc w) (suc j) k x e =
    let e' : k + j ≡ w = omega arith in
    rw (take_bits w j k x (omega arith), shr-shr x k j, e')

-- the bits write the number
pub value_bits : (w x : ℕ) → value (bits w x) ≡ x % 2 ^ w
unfolding bits value
value_bits zero x = sym (mod-one x)
value_bits (suc w) x =
    rw (length_bits w x, value_bits w x, digit_bit (x / 2 ^ w), ← one-add w) (sym (mod-pow-add x 1 w))

-- so numbers of w bits are equal where their bits are
pub bits_inj : (w x y : ℕ) → x < 2 ^ w → y < 2 ^ w → bits w x ≡ bits w y → x ≡ y
bits_inj w x y hx hy e =
    sym (value_bits w x ∙ mod-eq_of_lt hx) ∙ ap value e ∙ (value_bits w y ∙ mod-eq_of_lt hy)

-- higher digits do not matter
pub bits_mod : (w k x : ℕ) → w ≤ k → bits w (x % 2 ^ k) ≡ bits w x
unfolding bits
bits_mod zero k x h = refl
bits_mod (suc w) k x h =
    let j : ℕ = k - suc w in
    let e : j + 1 + w ≡ k = omega arith in
    let t : x % 2 ^ k / 2 ^ w % 2 ≡ x / 2 ^ w % 2 =
    ap (λ (m : ℕ). x % 2 ^ m / 2 ^ w % 2) (sym e) ∙ ap (λ (m : ℕ). m % 2) (field x (j + 1) w) ∙ mod-mod-pow (x / 2 ^ w) j 1 in
    rw (t, bits_mod w k x (omega arith))

-- two words side by side
pub bits_append : (w j k a b : ℕ) → j + k ≡ w → b < 2 ^ k → bits w (a * 2 ^ k + b) ≡ bits j a ++ bits k b
unfolding bits
bits_append w zero k a b e h =
    let e' : w ≡ k = omega arith in
    rw e' (sym (bits_mod k k (a * 2 ^ k + b) (omega arith)) ∙ ap (bits k) (low a k h))
bits_append zero (suc j) k a b e h = absurd (omega arith)
bits_append (suc w) (suc j) k a b e h =
    let e' : k + j ≡ w = omega arith in
    rw (bits_append w j k a b (omega arith) h, ← e', ← shr-shr (a * 2 ^ k + b) k j, high a k h)

-- ---- a number trimmed to its first n bits

pub bits_zero : (w : ℕ) → bits w 0 ≡ replicate w false
unfolding bits
bits_zero zero = refl
bits_zero (suc w) = rw (bits_zero w, zero-div (2 ^ w))

pub trim_bits : (w n k x : ℕ) → n + k ≡ w → bits w (x / 2 ^ k * 2 ^ k) ≡ trimmed n (bits w x)
trim_bits w n k x e =
    let z : x / 2 ^ k * 2 ^ k ≡ x / 2 ^ k * 2 ^ k + 0 = omega arith in
    let d : length (bits w x) - n ≡ k = omega (arith, length_bits w x) in
    ap (bits w) z ∙ bits_append w n k (x / 2 ^ k) 0 e (pow_pos k) ∙ ap₂ ◌++◌ (sym (take_bits w n k x e)) (bits_zero k)
    ∙ ap (λ (m : ℕ). take n (bits w x) ++ replicate m false) (sym d) ∙ sym (trimmed_split n (bits w x))

-- the same by two shifts each way
pub trim_shifts : (w n j k x : ℕ) → x < 2 ^ w → n + (j + k) ≡ w
    → bits w (x / 2 ^ j / 2 ^ k * 2 ^ k % 2 ^ w * 2 ^ j % 2 ^ w) ≡ trimmed n (bits w x)
trim_shifts w n j k x h e =
    let q : ℕ = x / 2 ^ j / 2 ^ k in
    let a = div-mul-le_self (x / 2 ^ j) (2 ^ k) in
    let b = div-mul-le_self x (2 ^ j) in
    let c : q * 2 ^ k * 2 ^ j ≤ x = le_trans (mul-le-mul_right (2 ^ j) a) b in
    let d : q * 2 ^ k ≤ q * 2 ^ k * 2 ^ j = le-mul_of_pos_right (q * 2 ^ k) (pow_pos j) in
    ap (bits w) (ap (λ (m : ℕ). m * 2 ^ j % 2 ^ w) (mod-eq_of_lt (omega arith)) ∙ mod-eq_of_lt (omega arith)
    ∙ mul_assoc q (2 ^ k) (2 ^ j) ∙ ap₂ (λ (u v : ℕ). u * v) (shr-shr x j k) (mul_comm (2 ^ k) (2 ^ j) ∙ sym (pow-add 2 j k)))
    ∙ trim_bits w n (j + k) x e

-- ---- the bridge to numbers: the first j bits agree where the quotients do

-- ---- the common prefix of two numbers, by the leading zeros of their `^`

lead_digit : (k d r : ℕ) → d < 2 → r < 2 ^ k → count_leading_zeros (suc k) (d * 2 ^ k + r) ≡ under d (count_leading_zeros k r)
lead_digit k zero r hd h =
    let s = leading_length k r h in
    let z : 0 * 2 ^ k + r ≡ r = omega arith in
    ap (count_leading_zeros (suc k)) z ∙ sym (leading_unique (suc k) r (suc (count_leading_zeros k r)) s.0 (omega (arith, s.1)) s.2 s.3)
lead_digit k (suc zero) r hd h =
    sym (leading_unique (suc k) (1 * 2 ^ k + r) 0 (suc k) (omega arith) (omega (arith, pow-suc 2 k)) (omega (arith, pow-suc 2 k)))
lead_digit k (suc (suc d)) r hd h = absurd (omega arith)

lead_step : (k n : ℕ) → count_leading_zeros (suc k) (n % 2 ^ suc k) ≡ under (n / 2 ^ k % 2) (count_leading_zeros k (n % 2 ^ k))
lead_step k n =
    ap (count_leading_zeros (suc k)) (ap (λ (m : ℕ). n % 2 ^ m) (sym (one-add k)) ∙ mod-pow-add n 1 k)
    ∙ lead_digit k (n / 2 ^ k % 2) (n % 2 ^ k) (mod-lt (n / 2 ^ k) (omega arith)) (mod-lt n (pow_pos k))

agree : (a b t : ℕ) → a < 2 → b < 2 → cond (beq (one? a) (one? b)) (suc t) 0 ≡ under (bit_xor a b) t
agree zero zero t ha hb = refl
agree zero (suc zero) t ha hb = refl
agree (suc zero) zero t ha hb = refl
agree (suc zero) (suc zero) t ha hb = refl
agree zero (suc (suc b)) t ha hb = absurd (omega arith)
agree (suc zero) (suc (suc b)) t ha hb = absurd (omega arith)
agree (suc (suc a)) b t ha hb = absurd (omega arith)

pub common_xor : (w x y : ℕ) → common (bits w x) (bits w y) ≡ count_leading_zeros w (bit_xor x y % 2 ^ w)
unfolding bits common count_leading_zeros
common_xor zero x y = refl
common_xor (suc w) x y =
    let a : ℕ = x / 2 ^ w in
    let b : ℕ = y / 2 ^ w in
    let t : ℕ = count_leading_zeros w (bit_xor x y % 2 ^ w) in
    ap (λ (n : ℕ). cond (beq (one? (a % 2)) (one? (b % 2))) (suc n) 0) (common_xor w x y)
    ∙ agree (a % 2) (b % 2) t (mod-lt a (omega arith)) (mod-lt b (omega arith))
    ∙ ap (λ (d : ℕ). under d t) (sym (ap (λ (m : ℕ). m % 2) (xor_shr x y w) ∙ xor_mod a b 1))
    ∙ sym (lead_step w (bit_xor x y))

-- the same for numbers of w bits
pub common_word : (w x y : ℕ) → x < 2 ^ w → y < 2 ^ w → common (bits w x) (bits w y) ≡ count_leading_zeros w (bit_xor x y)
common_word w x y hx hy = common_xor w x y ∙ ap (count_leading_zeros w) (mod-eq_of_lt (xor_lt w x y hx hy))

-- ---- words with more behind them

module _ (w x y : ℕ) (r s : Bits) where
  same_length : length (bits w x) ≡ length (bits w y)
  same_length = length_bits w x ∙ sym (length_bits w y)

  pub common_word_less : common (bits w x) (bits w y) < w → common (bits w x ++ r) (bits w y ++ s) ≡ common (bits w x) (bits w y)
  common_word_less h = common_append_less (bits w x) (bits w y) r s same_length (rw length_bits h)

  pub common_word_full : w ≤ common (bits w x) (bits w y) → common (bits w x ++ r) (bits w y ++ s) ≡ w + common r s
  common_word_full h =
      common_append_full (bits w x) (bits w y) r s same_length (rw length_bits h) ∙ ap (λ (n : ℕ). n + common r s) (length_bits w x)

pub common_word_le : (w x y : ℕ) → common (bits w x) (bits w y) ≤ w
common_word_le w x y = omega (arith, common_le (bits w x) (bits w y), length_bits w x)

-- an index within the first word, and one past it
module _ (w x : ℕ) (r : Bits) where
  pub word_at : (i : ℕ) → i < w → get_or (bits w x ++ r) i false ≡ get_or (bits w x) i false
  word_at i h = get_or-append (bits w x) r false i (rw length_bits h)

  pub word_past : (i : ℕ) → w ≤ i → get_or (bits w x ++ r) i false ≡ get_or r (i - w) false
  word_past i h =
      let e : i ≡ length (bits w x) + (i - w) = omega (arith, length_bits w x) in
      ap (λ (n : ℕ). get_or (bits w x ++ r) n false) e ∙ get_or-append-add (bits w x) r (i - w) false

-- a number that is trimmed to n bits is known by its first n
pub trimmed_inj : (w n a b : ℕ) → a < 2 ^ w → b < 2 ^ w → bits w a ≡ trimmed n (bits w a) → bits w b ≡ trimmed n (bits w b) → prefix_of w a n ≡ prefix_of w b n → a ≡ b
trimmed_inj w n a b ha hb ea eb e =
    bits_inj w a b ha hb (ea ∙ trimmed_take n (bits w a) (bits w b) (length_bits w a ∙ sym (length_bits w b)) e ∙ sym eb)
