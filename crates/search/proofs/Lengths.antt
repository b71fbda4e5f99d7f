-- What the nodes where a descent stopped tell of the length that a miss stores. Assumes nothing.
use mathlib.Core.Path.{◌≡◌, refl, sym, ap, ◌∙◌}
use mathlib.Core.Bool.{Bool, true, false, cond, ◌||◌}
use mathlib.Core.List.{List}
use mathlib.Core.Option.{Option, none, some}
use Prim.Native.Nat.{ℕ, suc, ◌+◌, ◌-◌, ◌≤◌, ◌<◌}
use native.Mathlib.Omega.{arith}
use lib.ListN.{length, take}
use lib.Seq.{length-take-le}
use mir.Syntax.{w32}
use mir.Val.{Fits}
use Rattle.prefix.specs.Bits.{Bits, bits}
use Rattle.prefix.specs.Prefix.{common}
use Rattle.prefix.specs.Addresses.{address_bits, ipv4_bits}
use Rattle.prefix.specs.declared.Address.{Address}
use Rattle.prefix.proofs.Common.{common_sym, common_le}
use Rattle.prefix.proofs.AddressLaws.{length_address, common_32}
use Rattle.trie.specs.Trie.{Kid, Trie}
use Rattle.trie.specs.Walk.{length_at, length_from, taken, inside_at}
use Rattle.sizes.specs.BothStores.{slot_word, word}
use Rattle.nodes.specs.Layout.{nodes_of, trie_of, numbered}
use Rattle.nodes.proofs.Coding.{numbered_node, none_numbered}
use Rattle.table.proofs.Reading.{own_length, node_bits}
use Rattle.search.specs.Looks.{length_below, Length}

-- the bits in which an address agrees with the first of another
module _ (x q : Address) (own r : ℕ) (short : own ≤ 32) (is : r ≡ common (address_bits x) (take own (address_bits q))) where
  few : r ≤ own
  few = omega (
    arith,
    is,
    common_sym (address_bits x) (take own (address_bits q)),
    common_le (take own (address_bits q)) (address_bits x),
    length-take-le own (address_bits q) (omega (arith, length_address q)),
  )

  pub past_fits : Fits w32 (1 + r)
  past_fits = omega (arith, few)

-- the node's own length, and one more if it has a child
length_below_is : (v : Trie) (i : ℕ) → length_below v i ≡ cond (inside_at v i) (suc (length (v.prefix i))) (length (v.prefix i))
unfolding length_at inside_at taken
length_below_is v i = go (v.child (Kid i false)) (v.child (Kid i true))
  where
    go : (x y : Option ℕ) → length_at v i x y ≡ cond (taken x || taken y) (suc (length (v.prefix i))) (length (v.prefix i))
    go (some l) y = refl
    go none (some r) = refl
    go none none = refl

module _ (w : List ℕ) (p : ℕ) (pos : 0 < p) (nodes : ℕ) (are-nodes : nodes ≡ nodes_of w) (in_use : p ≤ nodes) (own : ℕ) (is_own : own ≡ word w (slot_word p 1)) where
  -- no node of a sound table is longer than an address
  pub too_long : (n : ℕ) → 32 < own → Length w n 0
  too_long n l = record { small = omega arith; right = λ S. absurd (omega (arith, S.plain.short p pos (omega arith))) }

  module _ (short : own ≤ 32) where
    -- ---- the node after the last

    pub past_is : (x q : Address) (r : ℕ) → take 32 (address_bits q) ≡ bits 32 (word w (slot_word p 0)) → r ≡ common (address_bits x) (take own (address_bits q))
        → Length w (suc (common (ipv4_bits x) ((trie_of w).prefix (p - 1)))) (1 + r)
    past_is x q r e is = record { small = omega (arith, few x q own r short is); right = λ S. rw common_is (omega arith) }
      where
        common_is : common (ipv4_bits x) ((trie_of w).prefix (p - 1)) ≡ r
        common_is =
            ap (common (ipv4_bits x)) (sym (node_bits w p pos own is_own q e short)) ∙ common_sym _ _ ∙ common_32 own q x short ∙ common_sym _ _ ∙ sym is

    -- ---- the last node

    module _ (b : Bool) (is-child : b ≡ inside_at (trie_of w) (p - 1)) where
      pub end_node : b ≡ true → Length w (length_below (trie_of w) (p - 1)) (own + 1)
      end_node t = record { small = omega arith; right = λ S. rw (length_below_is (trie_of w) (p - 1), ← is-child, t) (omega (arith, own_length w p pos own is_own short)) }

      pub end_leaf : b ≡ false → Length w (length_below (trie_of w) (p - 1)) own
      end_leaf f = record { small = omega arith; right = λ S. rw (length_below_is (trie_of w) (p - 1), ← is-child, f) (sym (own_length w p pos own is_own short)) }

-- ---- which of the two it is

module _ (w : List ℕ) (X : Bits) (last beyond r : ℕ) where
  pub least_past : ¬ (beyond ≡ 0) → Length w (suc (common X ((trie_of w).prefix (beyond - 1)))) r → Length w (length_from (trie_of w) X (numbered last) (numbered beyond)) r
  unfolding length_from
  least_past n h = rw (numbered_node beyond (omega arith)) h

  pub least_end : beyond ≡ 0 → ¬ (last ≡ 0) → Length w (length_below (trie_of w) (last - 1)) r → Length w (length_from (trie_of w) X (numbered last) (numbered beyond)) r
  unfolding length_from
  least_end z n h = rw (z, none_numbered, numbered_node last (omega arith)) h

pub least_none : (w : List ℕ) (X : Bits) (last beyond : ℕ) → beyond ≡ 0 → last ≡ 0 → Length w (length_from (trie_of w) X (numbered last) (numbered beyond)) 0
unfolding length_from
least_none w X last beyond z y = rw (z, y, none_numbered) (record { small = omega arith; right = λ S. refl })
