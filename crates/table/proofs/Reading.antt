-- What the descent reads at a node, as the trie's: whether it contains the bits, what is below it, and whether it is a route.
-- Assumes nothing.
use mathlib.Core.Path.{◌≡◌, sym, ap, ◌∙◌}
use mathlib.Core.Bool.{Bool, false}
use mathlib.Core.List.{List}
use Prim.Native.Nat.{ℕ, ◌+◌, ◌-◌, ◌*◌, ◌≤◌, ◌<◌}
use native.Mathlib.Omega.{arith}
use native.Mathlib.Decide.{dec_le}
use lib.ListN.{length, take, get_or}
use lib.Seq.{length-take-le, get_or-take, take_all}
use Rattle.prefix.specs.Bits.{Bits, bits, one?, digit}
use Rattle.prefix.specs.Prefix.{contains, prefix_of}
use Rattle.prefix.specs.Addresses.{address_bits, ipv4_bits}
use Rattle.prefix.specs.declared.Address.{Address}
use Rattle.prefix.proofs.BitLaws.{length_bits, digit_below, bit_digit}
use Rattle.prefix.proofs.Tests.{contains_of_take}
use Rattle.prefix.proofs.AddressLaws.{length_address, take_32, prefix_32, length_ipv4}
use Rattle.trie.specs.Trie.{Cell, Kid}
use Rattle.trie.specs.Walk.{follow, better}
use Rattle.trie.proofs.Walking.{follow_bit, follow_none, long_out}
use Rattle.sizes.specs.BothStores.{slot_word, word}
use Rattle.nodes.specs.Layout.{cell_word, trie_of, numbered}
use Rattle.nodes.proofs.Coding.{none_numbered, numbered_node, cell_side}
use Rattle.nodes.proofs.Spelling.{prefix_words, hop_word, child_word}
use Rattle.table.specs.Turns.{Tested, Chosen}

-- ---- the bits that are looked for

pub length_sought : (a : Address) (n : ℕ) → n ≤ 32 → length (take n (ipv4_bits a)) ≡ n
length_sought a n h = length-take-le n (ipv4_bits a) (omega (arith, length_ipv4 a))

-- ---- a node's own prefix

length_short : (u own : ℕ) → own ≤ 32 → length (prefix_of 32 u own) ≡ own
length_short u own h = length-take-le own (bits 32 u) (omega (arith, length_bits 32 u))

module _ (w : List ℕ) (p : ℕ) (pos : 0 < p) (own : ℕ) (is_own : own ≡ word w (slot_word p 1)) where
  own_prefix : prefix_of 32 (word w (slot_word p 0)) own ≡ (trie_of w).prefix (p - 1)
  own_prefix = ap (prefix_of 32 (word w (slot_word p 0))) is_own ∙ prefix_words w p pos

  pub own_length : own ≤ 32 → length ((trie_of w).prefix (p - 1)) ≡ own
  own_length h = sym (ap length own_prefix) ∙ length_short _ own h

  -- a longer node does not contain fewer bits
  pub holds_not : (a : Address) (n : ℕ) → n ≤ 32 → n < own → Tested w (ipv4_bits a) n p false
  holds_not a n hn l = record { answer = λ h. sym (long_out (trie_of w) (take n (ipv4_bits a)) (p - 1) (omega (arith, length_sought a n hn, own_length (omega arith)))) }

  -- the node's prefix is the same list of the 128 bits of its address
  pub node_bits : (q : Address) → take 32 (address_bits q) ≡ bits 32 (word w (slot_word p 0)) → own ≤ 32 → take own (address_bits q) ≡ (trie_of w).prefix (p - 1)
  node_bits q e h = take_32 own _ _ q q h e e ∙ own_prefix

  pub holds_is : (a q : Address) (n : ℕ) (r : Bool) → own ≤ n → take 32 (address_bits q) ≡ bits 32 (word w (slot_word p 0))
      → r ≡ contains (take own (address_bits q)) (address_bits a) → Tested w (ipv4_bits a) n p r
  holds_is a q n r l e is = record {
    answer = λ z. let h : own ≤ 32 = omega arith in
        is ∙ sym (prefix_32 own q a h) ∙ sym (contains_of_take n (take own (address_bits q)) (ipv4_bits a) (omega (arith, length-take-le own (address_bits q) (omega (arith, length_address q)))))
        ∙ ap (λ (l : Bits). contains l (take n (ipv4_bits a))) (node_bits q e h);
  }

  -- ---- below it

  pub below_none : (a : Address) (n : ℕ) → n ≤ 32 → n ≤ own → numbered 0 ≡ follow (trie_of w) (take n (ipv4_bits a)) (p - 1)
  below_none a n hn l =
      none_numbered ∙ sym (follow_none (trie_of w) (take n (ipv4_bits a)) (p - 1) (omega (arith, length_sought a n hn, reaches)))
    where
      reaches : n ≤ length ((trie_of w).prefix (p - 1))
      reaches = elim (dec_le own 32) [
        | yes h ↦ omega (arith, own_length h)
        | no h ↦ rw (← own_prefix) (rw (take_all own (bits 32 (word w (slot_word p 0))) (omega (arith, length_bits 32 (word w (slot_word p 0))))) (omega (arith, length_bits 32 (word w (slot_word p 0)))))
      ]

  pub below_bit : (a : Address) (n b r : ℕ) → n ≤ 32 → own < n → b ≡ digit (get_or (address_bits a) own false) → r ≡ word w (cell_word (2 * p + b))
      → numbered r ≡ follow (trie_of w) (take n (ipv4_bits a)) (p - 1)
  below_bit a n b r hn l eb er =
      let e : length ((trie_of w).prefix (p - 1)) ≡ own = own_length (omega arith) in
      let x : get_or (take n (ipv4_bits a)) own false ≡ get_or (address_bits a) own false =
      get_or-take n (ipv4_bits a) own false l ∙ get_or-take 32 (address_bits a) own false (omega arith) in
      ap numbered er ∙ child_word w (2 * p + b) (λ z. omega arith) ∙ ap (λ (c : Cell). (trie_of w).child c) (cell_side p b pos (omega (arith, digit_below (get_or (address_bits a) own false))))
      ∙ ap (λ (d : Bool). (trie_of w).child (Kid (p - 1) d)) (ap one? eb ∙ bit_digit _ ∙ sym x)
      ∙ ap (λ (i : ℕ). (trie_of w).child (Kid (p - 1) (get_or (take n (ipv4_bits a)) i false))) (sym e)
      ∙ sym (follow_bit (trie_of w) (take n (ipv4_bits a)) (p - 1) (omega (arith, length_sought a n hn)))

-- ---- whether it is a route

module _ (w : List ℕ) (p mark : ℕ) (pos : 0 < p) (is-mark : mark ≡ word w (slot_word p 2)) where
  pub mark_hop : (trie_of w).hop (p - 1) ≡ numbered mark
  mark_hop = sym (ap numbered is-mark ∙ hop_word w p pos)

  module _ (best : ℕ) where
    pub better_route : ¬ (mark ≡ 0) → Chosen w p best p
    unfolding better
    better_route n = record { among = λ m x y. x; route = rw (mark_hop, numbered_node mark (omega arith)) (numbered_node p pos) }

    pub better_branch : mark ≡ 0 → Chosen w p best best
    unfolding better
    better_branch z = record { among = λ m x y. y; route = rw (mark_hop, z, none_numbered) }
