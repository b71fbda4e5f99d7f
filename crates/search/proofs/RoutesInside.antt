-- What the nodes where a descent stopped tell of the routes strictly inside the prefix that was looked for. Assumes nothing.
use mathlib.Core.Path.{◌≡◌, refl, sym, ap, ◌∙◌}
use mathlib.Core.Bool.{Bool, true, false, not}
use mathlib.Core.List.{List}
use Prim.Native.Nat.{ℕ, zero, suc, ◌+◌, ◌-◌, ◌*◌, ◌≤◌, ◌<◌}
use native.Mathlib.Omega.{arith}
use lib.ListN.{length, take}
use lib.Seq.{length-take-le, take-take}
use lib.Dec.{eqb, eqb-suc-zero}
use borrow.Author.Tests.{eq-eqb, ne_eqb}
use Rattle.prefix.specs.Bits.{Bits, bits}
use Rattle.prefix.specs.Prefix.{contains}
use Rattle.prefix.specs.Addresses.{address_bits, ipv4_bits}
use Rattle.prefix.specs.declared.Address.{Address}
use Rattle.prefix.proofs.Overlaps.{contains_ipv4}
use Rattle.prefix.proofs.Order.{⊑_length}
use Rattle.prefix.proofs.Tests.{⊑_not, contains_of_take}
use Rattle.prefix.proofs.AddressLaws.{length_address}
use Rattle.trie.specs.Trie.{Kid}
use Rattle.trie.specs.Walk.{taken, inside_at, inside_beyond, inside_last, inside_from}
use Rattle.sizes.specs.BothStores.{slot_word, word}
use Rattle.nodes.specs.Layout.{cell_word, nodes_of, trie_of, numbered}
use Rattle.nodes.proofs.Coding.{numbered_node, none_numbered, cell_side}
use Rattle.nodes.proofs.Spelling.{child_word}
use Rattle.table.specs.Tables.{SoundTable}
use Rattle.table.specs.Stops.{stop_of}
use Rattle.table.specs.declared.Stop.{Stop}
use Rattle.table.proofs.Reading.{length_sought, own_length, node_bits}
use Rattle.search.specs.Standings.{Tells}

-- ---- the nodes below a node

taken_numbered : (p : ℕ) → taken (numbered p) ≡ not (eqb p 0)
unfolding taken numbered
taken_numbered zero = refl
taken_numbered (suc k) = rw (eqb-suc-zero k)

module _ (w : List ℕ) (p : ℕ) (pos : 0 < p) (l : ℕ) (is-left : l ≡ word w (cell_word (2 * p))) where
  left : numbered l ≡ (trie_of w).child (Kid (p - 1) false)
  left = let e : 2 * p ≡ 2 * p + 0 = omega arith in
      ap numbered is-left ∙ child_word w (2 * p) (λ z. omega arith) ∙ rw e (ap (trie_of w).child (cell_side p 0 pos (omega arith)))

  pub child_left : ¬ (l ≡ 0) → true ≡ inside_at (trie_of w) (p - 1)
  unfolding inside_at taken
  child_left n = rw (← left, numbered_node l (omega arith))

  pub child_right : l ≡ 0 → (r : ℕ) → r ≡ word w (cell_word (2 * p + 1)) → not (eqb r 0) ≡ inside_at (trie_of w) (p - 1)
  unfolding inside_at taken
  child_right z r e = rw (← left, z, none_numbered) (sym (taken_numbered r) ∙ ap taken right)
    where
      right : numbered r ≡ (trie_of w).child (Kid (p - 1) true)
      right = ap numbered e ∙ child_word w (2 * p + 1) (λ z. omega arith) ∙ ap (trie_of w).child (cell_side p 1 pos (omega arith))

-- ---- a node inside the first n bits of an address

module _ (w : List ℕ) (a : Address) (n : ℕ) (short : n ≤ 32) where
  abbrev P : Bits
  P = take n (ipv4_bits a)

  pub lies_none : (p : ℕ) → p ≡ 0 → Tells w (inside_beyond (trie_of w) P (numbered p)) false
  unfolding inside_beyond
  lies_none p z = record { right = λ S. rw (z, none_numbered) }

  module _ (p : ℕ) (some-p : ¬ (p ≡ 0)) (nodes : ℕ) (are-nodes : nodes ≡ nodes_of w) (in_use : p ≤ nodes) (own : ℕ) (is_own : own ≡ word w (slot_word p 1)) where
    own_short : SoundTable w → own ≤ 32
    own_short S = omega (arith, S.plain.short p (omega arith) (omega arith))

    pub lies_shorter : own < n → Tells w (inside_beyond (trie_of w) P (numbered p)) false
    unfolding inside_beyond
    lies_shorter l = record {
      right = λ S. rw (numbered_node p (omega arith))
          (sym (⊑_not (λ h. omega (arith, ⊑_length h, length_sought a n short, own_length w p (omega arith) own is_own (own_short S)))));
    }

    pub lies_covered : n ≤ own → (q : Address) → take 32 (address_bits q) ≡ bits 32 (word w (slot_word p 0)) → (r : Bool) → r ≡ contains (take n (ipv4_bits a)) (ipv4_bits q)
        → Tells w (inside_beyond (trie_of w) P (numbered p)) r
    unfolding inside_beyond
    lies_covered l q e r is = record {
      right = λ S. rw (numbered_node p (omega arith), ← node_bits w p (omega arith) own is_own q e (own_short S), take-take n 32 (address_bits a) short)
          (is ∙ sym (contains_ipv4 n a q short) ∙ sym (contains_of_take own (take n (address_bits a)) (address_bits q) (omega (arith, length-take-le n (address_bits a) (omega (arith, length_address a))))));
    }

-- ---- which of the two it is

module _ (w : List ℕ) (a : Address) (n : ℕ) (short : n ≤ 32) (s : Stop) (r : Bool) where
  pub inside_none : s.last ≡ 0 → Tells w (inside_beyond (trie_of w) (take n (ipv4_bits a)) (numbered s.beyond)) r
      → Tells w (inside_from (trie_of w) (take n (ipv4_bits a)) (stop_of s)) r
  unfolding inside_from inside_last
  inside_none z t = rw (z, none_numbered) t

  module _ (some_last : ¬ (s.last ≡ 0)) (in_use : s.last ≤ nodes_of w) (own : ℕ) (is_own : own ≡ word w (slot_word s.last 1)) where
    lengths : SoundTable w → length ((trie_of w).prefix (s.last - 1)) ≡ own
    lengths S = own_length w s.last (omega arith) own is_own (omega (arith, S.plain.short s.last (omega arith) in_use))

    pub inside_shorter : ¬ (own ≡ n) → Tells w (inside_beyond (trie_of w) (take n (ipv4_bits a)) (numbered s.beyond)) r
        → Tells w (inside_from (trie_of w) (take n (ipv4_bits a)) (stop_of s)) r
    unfolding inside_from inside_last
    inside_shorter d t = record { right = λ S. rw (numbered_node s.last (omega arith), lengths S, length_sought a n short, ne_eqb own n d) (t.right S) }

    pub inside_own : own ≡ n → r ≡ inside_at (trie_of w) (s.last - 1) → Tells w (inside_from (trie_of w) (take n (ipv4_bits a)) (stop_of s)) r
    unfolding inside_from inside_last
    inside_own d e = record { right = λ S. rw (numbered_node s.last (omega arith), lengths S, length_sought a n short, eq-eqb own n d) e }
