-- Prefixes. A prefix is the list of its bits, and so is an address: nothing here knows a width. "Bits past the length are cleared
-- before any other use": a list of bits has none. Assumes nothing.
use Rattle.std.specs.Prelude.{ℕ, zero, suc, ◌≡◌, Bool, true, false, cond, ◌&&◌, ◌||◌, [], ◌∷◌, length, take, ltb}
use Rattle.std.specs.Bool.{beq}
use Rattle.prefix.specs.Bits.{Bits, bits}

-- the prefix of n bits of the address a, of width w
abbrev pub prefix_of : ℕ → ℕ → ℕ → Bits
prefix_of w a n = take n (bits w a)

-- "A prefix contains an address when its first length bits agree."
unfoldable pub contains : Bits → Bits → Bool
contains [] x = true
contains (a ∷ p) [] = false
contains (a ∷ p) (b ∷ x) = beq a b && contains p x

-- "Prefix Q lies inside P when P is no longer than Q and contains Q's address":
abbrev pub inside : Bits → Bits → Bool
inside q p = contains p q

-- "strictly inside when Q is also longer."
unfoldable pub strictly_inside : Bits → Bits → Bool
strictly_inside q p = inside q p && ltb (length p) (length q)

-- "Two prefixes overlap when one lies inside the other."
unfoldable pub overlap : Bits → Bits → Bool
overlap p q = inside q p || inside p q

unfoldable pub same : Bits → Bits → Bool
same p q = inside q p && inside p q

-- "Common(X, P) is the number of leading bits in which X agrees with P, at most P's length."
unfoldable pub common : Bits → Bits → ℕ
common [] p = 0
common (a ∷ x) [] = 0
common (a ∷ x) (b ∷ p) = cond (beq a b) (suc (common x p)) 0

-- the longest common prefix
unfoldable pub shared : Bits → Bits → Bits
shared x p = take (common x p) x

-- the first n bits, and zeros after them
unfoldable pub trimmed : ℕ → Bits → Bits
trimmed n [] = []
trimmed zero (b ∷ l) = false ∷ trimmed zero l
trimmed (suc n) (b ∷ l) = b ∷ trimmed n l

-- ---- as relations, for the shape of a trie

infix 50 ◌⊑◌
-- p contains x
pub data ◌⊑◌ : Bits → Bits → Type 0 where
  ⊑nil : {x : Bits} → [] ⊑ x
  ⊑cons : {a b : Bool} {p x : Bits} → a ≡ b → p ⊑ x → a ∷ p ⊑ b ∷ x

-- p contains x, which is longer and has the bit b after p's length
pub data Below : Bits → Bool → Bits → Type 0 where
  here : {b c : Bool} {x : Bits} → b ≡ c → Below [] b (c ∷ x)
  there : {a b c : Bool} {p x : Bits} → a ≡ c → Below p b x → Below (a ∷ p) b (c ∷ x)
