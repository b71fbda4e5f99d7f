-- What the calls read of a slot's entry, and of a store without entries. Assumes nothing.
use mathlib.Core.Path.{◌≡◌, refl, sym, ap, ◌∙◌}
use mathlib.Core.Bool.{Bool}
use mathlib.Core.List.{List, []}
use Prim.Native.Nat.{ℕ, ◌%◌, ◌≤◌}
use native.Mathlib.Omega.{arith}
use lib.Dec.{leb}
use lib.ListN.{length, take, length-take}
use lib.Seq.{take-take}
use Rattle.prefix.specs.Bits.{bits}
use Rattle.prefix.specs.Prefix.{contains, common, prefix_of}
use Rattle.prefix.specs.Addresses.{address_bits, ipv4_bits}
use Rattle.prefix.specs.declared.Address.{Address}
use Rattle.prefix.proofs.BitLaws.{length_bits}
use Rattle.prefix.proofs.Common.{common_sym, common_le}
use Rattle.prefix.proofs.Order.{take_len}
use Rattle.prefix.proofs.Tests.{contains_common}
use Rattle.prefix.proofs.AddressLaws.{common_32, length_address, length_ipv4}
use Rattle.lru_cache.specs.Sound as lru
use Rattle.lru_cache.specs.Results.{Short}
use Rattle.sizes.specs.BothStores.{slot_word, word}
use Rattle.slots.specs.Layout.{entries_held, cache_of}
use Rattle.entries.specs.Caches.{entries}
use Rattle.entries.specs.Walks.{CommonWith, BranchCovers}

pub none_held : (w : List ℕ) → entries_held w ≡ 0 → entries w ≡ []
unfolding entries lru.entries lru.order lru.stretch
none_held w e = rw e

-- no entry is longer than an address
pub entry_short : (w : List ℕ) (i : ℕ) → length ((cache_of w).entry i) ≤ 32
unfolding cache_of
entry_short w i = simp (length-take, length_bits) (omega arith)

pub all_short : (w : List ℕ) (x : Address) → Short (entries_held w) (cache_of w) (ipv4_bits x)
all_short w x i l = omega (arith, entry_short w i, length_ipv4 x)

pub entry_size : (w : List ℕ) (i n : ℕ) → n ≡ word w (slot_word i 1) % 64 → n ≤ 32 → length ((cache_of w).entry i) ≡ n
unfolding cache_of
entry_size w i n en short = rw (← en) (take_len n (bits 32 (word w (slot_word i 0))) (simp length_bits short))

pub common_read : (w : List ℕ) (i n r : ℕ) (x a : Address) → n ≡ word w (slot_word i 1) % 64 → take 32 (address_bits a) ≡ bits 32 (word w (slot_word i 0))
    → r ≡ common (address_bits x) (take n (address_bits a)) → CommonWith w i (ipv4_bits x) r
unfolding cache_of
common_read w i n r x a en ea er = record {
  small = omega (arith, turned, common_le (take n (address_bits a)) (address_bits x), length-take n (address_bits a));
  is_common = λ h. let short : n ≤ 32 = omega arith in
      rw (← en)
      (turned ∙ sym (common_32 n a x short)
      ∙ ap (λ p. common p (ipv4_bits x)) (sym (take-take n 32 (address_bits a) short) ∙ ap (take n) ea) ∙ common_sym (prefix_of 32 (word w (slot_word i 0)) n) (ipv4_bits x));
}
  where
    turned : r ≡ common (take n (address_bits a)) (address_bits x)
    turned = er ∙ common_sym (address_bits x) (take n (address_bits a))

-- the first m bits of a slot's address contain an address exactly where that has so many bits in common with the slot's entry
pub covers_read : (w : List ℕ) (i m : ℕ) (x a : Address) (r : Bool) → take 32 (address_bits a) ≡ bits 32 (word w (slot_word i 0))
    → r ≡ contains (take m (address_bits a)) (address_bits x) → BranchCovers w i m (ipv4_bits x) r
covers_read w i m x a r ea er = record {
  is_test = λ l short.
      let n : ℕ = word w (slot_word i 1) % 64 in
      let long : n ≤ length (address_bits a) = omega (arith, length_address a) in
      er ∙ ap (λ p. contains p (address_bits x)) (sym (take-take m n (address_bits a) l))
      ∙ contains_common m (take n (address_bits a)) (address_bits x) (rw (take_len n (address_bits a) long) l)
      ∙ ap (leb m) (common_sym (take n (address_bits a)) (address_bits x) ∙ (common_read w i n (common (address_bits x) (take n (address_bits a))) x a refl ea refl).is_common short);
}
