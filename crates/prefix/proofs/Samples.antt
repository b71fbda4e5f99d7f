-- The definitions at numbers. Assumes nothing.
use mathlib.Core.Path.{◌≡◌, refl}
use mathlib.Core.Bool.{true, false}
use mathlib.Core.List.{[], ◌∷◌}
use lib.ListN.{take}
use Prim.Native.Nat.{◌+◌, ◌^◌}
use Rattle.prefix.specs.Bits.{bits}
use Rattle.prefix.specs.Prefix.{contains, common, prefix_of}

a5 : bits 8 0xa5 ≡ true ∷ false ∷ true ∷ false ∷ false ∷ true ∷ false ∷ true ∷ []
unfolding bits
a5 = refl

ten : take 8 (bits 32 0x0a01_0203) ≡ false ∷ false ∷ false ∷ false ∷ true ∷ false ∷ true ∷ false ∷ []
unfolding bits
ten = refl

covers : contains (prefix_of 32 0x0a00_0000 8) (bits 32 0x0a01_0203) ≡ true
unfolding contains bits
covers = refl

covers_not : contains (prefix_of 32 0x0a00_0000 16) (bits 32 0x0a01_0203) ≡ false
unfolding contains bits
covers_not = refl

shared : common (bits 32 0x0a00_0000) (bits 32 0x0a01_0203) ≡ 15
unfolding common bits
shared = refl

all_of_it : common (bits 32 0xffff_ffff) (bits 32 0xffff_ffff) ≡ 32
unfolding common bits
all_of_it = refl

wide : common (bits 128 (2 ^ 127)) (bits 128 (2 ^ 127 + 1)) ≡ 127
unfolding common bits
wide = refl
