-- One address value for both families: 128 bits in two halves, highest first. An IPv4 address stands in the first 32, with zeros
-- after it, and its prefixes are the same lists as those of its 32-bit word. Assumes nothing.
use Rattle.std.specs.Prelude.{◌≡◌, ℕ, ◌<◌, ◌++◌, take, Option, Some, None}
use Rattle.prefix.specs.Bits.{Bits, bits}
use Rattle.prefix.specs.Prefix.{trimmed}
use Rattle.prefix.specs.declared.Address.{Address}
use Rattle.prefix.specs.declared.ipv4.Prefix.{Prefix}

abbrev pub address_bits : Address → Bits
address_bits a = bits 64 a.high ++ bits 64 a.low

-- the IPv4 address that an address value stands for
abbrev pub ipv4_bits : Address → Bits
ipv4_bits a = take 32 (address_bits a)

-- the address value of an IPv4 word: its bits are the first 32, and zeros come after them
pub record IsIpv4 (word : ℕ) (a : Address) : Type 0 where
  pub first : take 32 (address_bits a) ≡ bits 32 word
  pub zeros : address_bits a ≡ trimmed 32 (address_bits a)

-- the bits of an IPv4 prefix: "Bits past the length are cleared before any other use"
abbrev pub prefix_bits : Prefix → Bits
prefix_bits p = take p.length (ipv4_bits p.address)

-- "a length is above 32": then there is none
abbrev pub MadePrefix : Address → ℕ → Option Prefix → Type 0
MadePrefix a n (Some p) = (p.address ≡ a) × (p.length ≡ n)
MadePrefix a n None = 32 < n
