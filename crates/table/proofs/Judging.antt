-- What each test of the check tells of a cell, and why a store that fails it is not sound. Assumes nothing.
use mathlib.Core.Path.{◌≡◌, refl, sym, ap, ap₂, ◌∙◌}
use mathlib.Core.Bool.{Bool, true, false}
use mathlib.Core.List.{List}
use Prim.Native.Nat.{ℕ, ◌+◌, ◌-◌, ◌*◌, ◌/◌, ◌%◌, ◌≤◌, ◌<◌}
use native.Mathlib.Decide.{ℕ_discrete}
use native.Mathlib.Omega.{arith}
use lib.ListN.{length, take, get_or}
use lib.Seq.{length-take-le, get_or-take}
use lib.Dec.{eqb}
use borrow.Author.Tests.{eqb-true, eqb-false}
use Rattle.prefix.specs.Bits.{Bits, bits, one?, digit}
use Rattle.prefix.specs.Prefix.{contains, Below}
use Rattle.prefix.specs.Addresses.{address_bits}
use Rattle.prefix.specs.declared.Address.{Address}
use Rattle.prefix.proofs.Booleans.{clash}
use Rattle.prefix.proofs.BitLaws.{digit_one, bit_digit, bit_small}
use Rattle.prefix.proofs.Order.{below_⊑, below_<}
use Rattle.prefix.proofs.Tests.{contains_⊑, not_⊑, contains_of_take}
use Rattle.prefix.proofs.AddressLaws.{length_address}
use Rattle.trie.specs.Trie.{Kid, Inside, Fits, Points, Owned, Dense}
use Rattle.trie.proofs.Next.{below_next, next_below}
use Rattle.sizes.specs.BothStores.{slot_word, word}
use Rattle.nodes.specs.Layout.{cell_word, nodes_of, trie_of, numbered, cell_of}
use Rattle.nodes.proofs.Coding.{numbered_some, numbered_node, none_numbered, cell_root, cell_side, cell_injective}
use Rattle.nodes.proofs.Spelling.{up_word, child_word}
use Rattle.table.specs.Tables.{SoundTable}
use Rattle.table.specs.Checks.{Verdict, GoesOn, CellFine, HasCell}
use Rattle.table.proofs.Reading.{own_length, node_bits}

-- ---- an answer that does not depend on what was asked

pub refuse : {w : List ℕ} {good : Type 0} → ¬ (SoundTable w) → Verdict w good false
refuse n = record { yes = λ e. absurd (clash e refl); no = λ _. n }

pub accept : {w : List ℕ} {good : Type 0} → good → Verdict w good true
accept g = record { yes = λ _. g; no = λ e. absurd (clash refl e) }

-- ---- cells

kid_cell : (q : ℕ) → 2 ≤ q → cell_of q ≡ Kid (q / 2 - 1) (one? (q % 2))
kid_cell q h = let e : q ≡ 2 * (q / 2) + q % 2 = omega arith in ap cell_of e ∙ cell_side (q / 2) (q % 2) (omega arith) (omega arith)

-- a cell of a node in use
inside_cell : (m q : ℕ) → ¬ (q ≡ 1) → q / 2 ≤ m → Inside (Dense m) (cell_of q)
inside_cell m q n h = go (ℕ_discrete q 0)
  where
    go : Dec (q ≡ 0) → Inside (Dense m) (cell_of q)
    go (yes z) = rw (z, cell_root) tt
    go (no z) = rw (kid_cell q (omega arith)) (omega arith)

cell_inside : (m q : ℕ) → ¬ (q ≡ 1) → Inside (Dense m) (cell_of q) → q / 2 ≤ m
cell_inside m q n h = go (ℕ_discrete q 0)
  where
    go : Dec (q ≡ 0) → q / 2 ≤ m
    go (yes z) = omega arith
    go (no z) = let l : q / 2 - 1 < m = rw (kid_cell q (omega arith)) at h in omega arith

-- ---- what a cell points at

module _ (w : List ℕ) (cell p nodes : ℕ) (are-nodes : nodes ≡ nodes_of w) (a_cell : ¬ (cell ≡ 1)) (in_cell : cell / 2 ≤ nodes) (is : p ≡ word w (cell_word cell)) where
  points_at : numbered p ≡ (trie_of w).child (cell_of cell)
  points_at = ap numbered is ∙ child_word w cell a_cell

  -- in a sound table
  module _ (S : SoundTable w) (some-p : ¬ (p ≡ 0)) where
    pointed : Points (Dense (nodes_of w)) (trie_of w) (cell_of cell) (p - 1)
    pointed = S.trie.points (cell_of cell) (p - 1) (inside_cell (nodes_of w) cell a_cell (omega arith)) (sym points_at ∙ numbered_node p (omega arith))

    pointed_in : p ≤ nodes_of w
    pointed_in = omega (arith, pointed.is_live)

  pub cell_empty : p ≡ 0 → Verdict w (CellFine w cell) true
  cell_empty z = accept (record { ok = rw (← points_at, z, none_numbered) tt })

  module _ (some-p : ¬ (p ≡ 0)) where
    pub cell_out : nodes < p → Verdict w (CellFine w cell) false
    cell_out l = refuse (λ S. omega (arith, pointed_in S some-p))

    module _ (in_use : p ≤ nodes) (up : ℕ) (is_up : up ≡ word w (slot_word p 5)) where
      up_is : cell_of up ≡ (trie_of w).up (p - 1)
      up_is = ap cell_of is_up ∙ up_word w p (omega arith)

      pub cell_back : ¬ (up ≡ cell) → Verdict w (CellFine w cell) false
      cell_back n = refuse (λ S. n (cell_injective up cell (λ z. S.plain.celled p (omega arith) (omega arith) (sym is_up ∙ z)) a_cell (up_is ∙ (pointed S some-p).back)))

      module _ (back : up ≡ cell) where
        fine : Fits (trie_of w) (cell_of cell) ((trie_of w).prefix (p - 1)) → CellFine w cell
        fine f = record { ok = rw (← points_at, numbered_node p (omega arith)) (record { is_live = omega arith; back = sym up_is ∙ ap cell_of back; fits = f }) }

        pub cell_goes_on : (r : Bool) → Verdict w (GoesOn w cell p) r → Verdict w (CellFine w cell) r
        cell_goes_on r h = record { yes = λ e. fine (h.yes e).fits; no = h.no }

-- ---- whether the node goes on from the cell's

pub goes_root : (w : List ℕ) (cell p : ℕ) → cell ≡ 0 → Verdict w (GoesOn w cell p) true
goes_root w cell p z = accept (record { fits = rw (z, cell_root) tt })

module _ (w : List ℕ) (cell p : ℕ) (a_cell : ¬ (cell ≡ 1)) (some-cell : ¬ (cell ≡ 0)) (in_cell : cell / 2 ≤ nodes_of w) (pos : 0 < p) (in_use : p ≤ nodes_of w) (is : p ≡ word w (cell_word cell))
    (n own : ℕ) (is-n : n ≡ word w (slot_word (cell / 2) 1)) (is_own : own ≡ word w (slot_word p 1)) where
  abbrev Onward : Type 0
  Onward = Below ((trie_of w).prefix (cell / 2 - 1)) (one? (cell % 2)) ((trie_of w).prefix (p - 1))

  onward : SoundTable w → Onward
  onward S = rw (kid_cell cell (omega arith)) at (pointed w cell p (nodes_of w) refl a_cell in_cell is S (λ z. omega arith)).fits

  pub goes_short : own ≤ n → Verdict w (GoesOn w cell p) false
  goes_short l = refuse (λ S. omega (
    arith,
    below_< (onward S),
    own_length w (cell / 2) (omega arith) n is-n (rw is-n (S.plain.short (cell / 2) (omega arith) in_cell)),
    own_length w p pos own is_own (rw is_own (S.plain.short p pos in_use)),
  ))

  pub goes_long : 32 < own → Verdict w (GoesOn w cell p) false
  goes_long l = refuse (λ S. omega (arith, S.plain.short p pos in_use))

  module _ (longer : n < own) (short : own ≤ 32) (a : Address) (is-a : take 32 (address_bits a) ≡ bits 32 (word w (slot_word p 0))) where
    length_n : length ((trie_of w).prefix (cell / 2 - 1)) ≡ n
    length_n = own_length w (cell / 2) (omega arith) n is-n (omega arith)

    -- the bit of p's prefix after the other's length
    module _ (b : ℕ) (is_b : b ≡ digit (get_or (address_bits a) n false)) where
      side : one? b ≡ get_or ((trie_of w).prefix (p - 1)) (length ((trie_of w).prefix (cell / 2 - 1))) false
      side =
          ap one? is_b ∙ bit_digit _ ∙ sym (get_or-take own (address_bits a) n false longer) ∙ ap (λ (l : Bits). get_or l n false) (node_bits w p pos own is_own a is-a short)
          ∙ ap (λ (i : ℕ). get_or ((trie_of w).prefix (p - 1)) i false) (sym length_n)

      pub goes_aside : ¬ (b ≡ cell % 2) → Verdict w (GoesOn w cell p) false
      goes_aside d = refuse (λ S. d (sym (digit_one b (bit_small (address_bits a) n b is_b)) ∙ ap digit (side ∙ below_next (onward S)) ∙ digit_one (cell % 2) (omega arith)))

      module _ (same-side : b ≡ cell % 2) (q : Address) (is-q : take 32 (address_bits q) ≡ bits 32 (word w (slot_word (cell / 2) 0)))
          (r : Bool) (is-r : r ≡ contains (take n (address_bits q)) (address_bits a)) where
        inside_is : r ≡ contains ((trie_of w).prefix (cell / 2 - 1)) ((trie_of w).prefix (p - 1))
        inside_is =
            is-r ∙ sym (contains_of_take own (take n (address_bits q)) (address_bits a) (omega (arith, length-take-le n (address_bits q) (omega (arith, length_address q)))))
            ∙ ap₂ contains (node_bits w (cell / 2) (omega arith) n is-n q is-q (omega arith)) (node_bits w p pos own is_own a is-a short)

        pub goes_on : Verdict w (GoesOn w cell p) r
        goes_on = record {
          yes = λ e.
              let h = next_below (contains_⊑ _ _ (sym inside_is ∙ e)) (omega (arith, length_n, own_length w p pos own is_own short)) in
              record { fits = rw (kid_cell cell (omega arith)) (rw (← side, same-side) at h) };
          no = λ e S. not_⊑ _ _ (sym inside_is ∙ e) (below_⊑ (onward S));
        }

-- ---- whether the node's own cell points at it

module _ (w : List ℕ) (p cell nodes : ℕ) (are-nodes : nodes ≡ nodes_of w) (pos : 0 < p) (in_use : p ≤ nodes) (is : cell ≡ word w (slot_word p 5)) where
  own_cell : cell_of cell ≡ (trie_of w).up (p - 1)
  own_cell = ap cell_of is ∙ up_word w p pos

  held : SoundTable w → Owned (Dense (nodes_of w)) (trie_of w) (p - 1)
  held S = S.trie.owned (p - 1) (omega arith)

  pub cell_one : cell ≡ 1 → Verdict w (HasCell w p) false
  cell_one z = refuse (λ S. S.plain.celled p pos (omega arith) (sym is ∙ z))

  module _ (a_cell : ¬ (cell ≡ 1)) where
    pub cell_far : nodes < cell / 2 → Verdict w (HasCell w p) false
    cell_far l = refuse (λ S. omega (arith, cell_inside (nodes_of w) cell a_cell (rw own_cell (held S).inside)))

    pub cell_points : cell / 2 ≤ nodes → (q : ℕ) → q ≡ word w (cell_word cell) → Verdict w (HasCell w p) (eqb q p)
    cell_points l q is-q =
        let at : numbered q ≡ (trie_of w).child ((trie_of w).up (p - 1)) = points_at w cell q nodes are-nodes a_cell l is-q ∙ ap (trie_of w).child own_cell in
        record {
          yes = λ e. record {
            celled = λ z. a_cell (is ∙ z);
            owned = record {
              inside = rw (← own_cell) (inside_cell (nodes_of w) cell a_cell (omega arith));
              child = sym at ∙ ap numbered (eqb-true q p e) ∙ numbered_node p pos;
            };
          };
          no = λ e S. eqb-false q p e (let z = numbered_some q (p - 1) (at ∙ (held S).child) in omega arith);
        }
