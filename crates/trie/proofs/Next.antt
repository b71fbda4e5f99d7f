-- The bit with which an address goes on from a prefix. Assumes nothing.
use mathlib.Core.Path.{◌≡◌, sym}
use mathlib.Core.Bool.{Bool, false}
use mathlib.Core.Logic.{◌⊎◌, inl, inr}
use mathlib.Core.Path.{ap}
use Prim.Native.Nat.{◌<◌}
use native.Mathlib.Omega.{arith}
use lib.ListN.{length, get_or}
use Rattle.prefix.specs.Bits.{Bits}
use Rattle.prefix.specs.Prefix.{◌⊑◌, Below, here, there}
use Rattle.prefix.proofs.Order.{⊑_cases}

pub below_next : {p x : Bits} {b : Bool} → Below p b x → get_or x (length p) false ≡ b
below_next (here e) = sym e
below_next (there e h) = below_next h

pub next_below : {p x : Bits} → p ⊑ x → length p < length x → Below p (get_or x (length p) false) x
next_below {p} {x} h l = go (⊑_cases h)
  where
    go : (p ≡ x) ⊎ ((b : Bool) × Below p b x) → Below p (get_or x (length p) false) x
    go (inl e) = absurd (omega (arith, ap length e))
    go (inr k) = rw (below_next k.1) k.1
