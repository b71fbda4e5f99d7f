-- What the check of a node tells, and the loop over all of them. Assumes nothing.
use mathlib.Core.Path.{◌≡◌, refl, sym, ap, ◌∙◌}
use mathlib.Core.Bool.{Bool, true, false, not}
use mathlib.Core.List.{List}
use mathlib.Core.Option.{none, some}
use Prim.Native.Nat.{ℕ, suc, ◌+◌, ◌-◌, ◌*◌, ◌≤◌, ◌<◌}
use native.Mathlib.Decide.{ℕ_discrete}
use native.Mathlib.Omega.{arith}
use lib.ListN.{length}
use lib.Dec.{eqb}
use borrow.Author.Tests.{eqb-true, eq-eqb}
use Rattle.prefix.specs.Bits.{one?}
use Rattle.prefix.proofs.Booleans.{clash, not_false, is_true}
use Rattle.model.specs.Demands.{Hop}
use Rattle.trie.specs.Trie.{Kid, Sound, Branchy, Dense}
use Rattle.trie.specs.Routes.{and_route, routes_of}
use Rattle.trie.specs.Check.{CellOk, SlotOk}
use Rattle.trie.proofs.Checking.{checked_sound}
use Rattle.sizes.specs.BothStores.{slot_word, word}
use Rattle.nodes.specs.Layout.{nodes_of, route_count, trie_of, numbered, Shaped}
use Rattle.nodes.specs.Stores.{node_in}
use Rattle.nodes.specs.declared.Node.{Node}
use Rattle.nodes.proofs.Coding.{numbered_some, numbered_node, none_numbered, cell_root, cell_side, numbered_none}
use Rattle.nodes.proofs.Spelling.{NodeIs, node_is}
use Rattle.table.specs.Tables.{routes, SoundTable, TableChecked}
use Rattle.table.specs.Checks.{Verdict, Decides, CellFine, HasCell, Marked, NodeFine, Passed}
use Rattle.table.proofs.Reading.{mark_hop}
use Rattle.table.proofs.Judging.{refuse}

-- ---- one node

pub passed_on : {w : List ℕ} {good bad : Type 0} {r : Bool} → Verdict w good r → not r ≡ true → Verdict w bad false
passed_on {r = r} v e = refuse (v.no (not_false r e))

on_yes : (r : Bool) → not r ≡ false → r ≡ true
on_yes r e = is_true (λ f. clash (ap not f) e)

module _ (w : List ℕ) (p nodes : ℕ) (are-nodes : nodes ≡ nodes_of w) (pos : 0 < p) (in_use : p ≤ nodes) (node : Node) (is : node ≡ node_in w p) where
  here : NodeIs (trie_of w) (p - 1) node
  here = rw is (node_is w p pos)

  length_is : node.length ≡ word w (slot_word p 1)
  unfolding node_in
  length_is = ap (λ (n : Node). n.length) is

  pub node_up : node.up ≡ word w (slot_word p 5)
  unfolding node_in
  node_up = ap (λ (n : Node). n.up) is

  pub node_long : 32 < node.length → Verdict w (NodeFine w p) false
  node_long l = refuse (λ S. omega (arith, length_is, S.plain.short p pos (omega arith)))

  marked : SoundTable w → Marked node
  marked S = record { branch = branch; route = route }
    where
      above : (o : ℕ) (b : Bool) → (trie_of w).hop (p - 1) ≡ none → numbered o ≡ (trie_of w).child (Kid (p - 1) b) → 0 < o
      above o b z e =
          let k = S.branches (p - 1) (omega arith) z b in
          omega (arith, numbered_some o k.0 (e ∙ k.1))

      branch : node.mark ≡ 0 → (0 < node.left) × (0 < node.right)
      branch z =
          let n : (trie_of w).hop (p - 1) ≡ none = sym here.hop ∙ ap numbered z ∙ none_numbered in
          (above node.left false n here.left, above node.right true n here.right)

      route : 0 < node.mark → (2 ≤ node.mark) × (node.mark ≤ 65536)
      route h =
          let k : Hop (node.mark - 1) = S.hops (p - 1) (node.mark - 1) (omega arith) (sym here.hop ∙ numbered_node node.mark h) in
          (omega arith, omega arith)

  pub node_mark : (r : Bool) → Decides (Marked node) r → not r ≡ true → Verdict w (NodeFine w p) false
  node_mark r d e = refuse (λ S. d.no (not_false r e) (marked S))

  module _ (short : node.length ≤ 32) (r s t u : Bool) (d : Decides (Marked node) r) (is-r : not r ≡ false) (own : Verdict w (HasCell w p) s) (is-s : not s ≡ false)
      (left : Verdict w (CellFine w (2 * p)) t) (is-t : not t ≡ false) (right : Verdict w (CellFine w (2 * p + 1)) u) where
    pub node_fine : Verdict w (NodeFine w p) u
    node_fine = record { yes = λ e. record { short = omega (arith, length_is); celled = cell.celled; slot = slot (right.yes e); hop = hop }; no = right.no }
      where
        m : Marked node
        m = d.yes (on_yes r is-r)

        cell : HasCell w p
        cell = own.yes (on_yes s is-s)

        fine : (b : ℕ) → b < 2 → CellFine w (2 * p + b) → CellOk (nodes_of w) (trie_of w) (Kid (p - 1) (one? b)) ((trie_of w).child (Kid (p - 1) (one? b)))
        fine b l f = rw (cell_side p b pos l) at f.ok

        below : node.mark ≡ 0 → (b : Bool) → (j : ℕ) × ((trie_of w).child (Kid (p - 1) b) ≡ some j)
        below z false = (node.left - 1, sym here.left ∙ numbered_node node.left (m.branch z).0)
        below z true = (node.right - 1, sym here.right ∙ numbered_node node.right (m.branch z).1)

        slot : CellFine w (2 * p + 1) → SlotOk (nodes_of w) (trie_of w) (p - 1)
        slot f = let z : 2 * p + 0 ≡ 2 * p = omega arith in record {
          left = fine 0 (omega arith) (rw z (left.yes (on_yes t is-t)));
          right = fine 1 (omega arith) f;
          owned = cell.owned;
          branch = λ e. below (numbered_none node.mark (here.hop ∙ e));
        }

        hop : (h : ℕ) → (trie_of w).hop (p - 1) ≡ some h → Hop h
        hop h e =
            let z = numbered_some node.mark h (here.hop ∙ e) in
            let k = m.route (omega arith) in
            (omega arith, omega arith)

-- ---- the routes among the nodes that were passed

module _ (w : List ℕ) (nodes p count : ℕ) (are-nodes : nodes ≡ nodes_of w) (before : Passed w p count) (in_use : p ≤ nodes) (now : NodeFine w p) (mark : ℕ) (is-mark : mark ≡ word w (slot_word p 2)) where
  fine : (k : ℕ) → 0 < k → k < p + 1 → NodeFine w k
  fine k a b = elim (ℕ_discrete k p) [ yes e ↦ rw e now | no n ↦ before.fine k a (omega arith) ]

  hop_is : (trie_of w).hop (p - 1) ≡ numbered mark
  hop_is = mark_hop w p mark before.from is-mark

  one_more : (n : ℕ) → n ≡ length (routes_of (trie_of w) (suc (p - 1))) → n ≤ p → Passed w (p + 1) n
  one_more n e l =
      let z : p + 1 - 1 ≡ suc (p - 1) = omega (arith, before.from) in
      record { from = omega arith; upto = omega arith; fine = fine; count = rw z e; few = omega arith }

  pub count_route : ¬ (mark ≡ 0) → Passed w (p + 1) (count + 1)
  unfolding routes_of and_route
  count_route n = one_more (count + 1) (rw (hop_is, numbered_node mark (omega arith)) (omega (arith, before.count))) (omega (arith, before.few))

  pub count_branch : mark ≡ 0 → Passed w (p + 1) count
  unfolding routes_of and_route
  count_branch z = one_more count (rw (hop_is, z, none_numbered) before.count) (omega (arith, before.few))

-- ---- the whole

-- no node is passed yet
pub check_start : (w : List ℕ) → Passed w 1 0
unfolding routes_of
check_start w = record { from = omega arith; upto = omega arith; fine = λ k a b. absurd (omega arith); count = refl; few = omega arith }

module _ (w : List ℕ) (fits : Shaped w) (nodes : ℕ) (are-nodes : nodes ≡ nodes_of w) (held : ℕ) (are-held : held ≡ route_count w) where
  module _ (r : Bool) (root : Verdict w (CellFine w 0) r) (is-r : not r ≡ false) (p count : ℕ) (all : Passed w p count) (past : nodes < p) where
    passed : p - 1 ≡ nodes_of w
    passed = omega (arith, all.upto)

    count_is : count ≡ length (routes w)
    unfolding routes
    count_is = rw passed at all.count

    sound : count ≡ held → SoundTable w
    sound e = record {
      shaped = fits;
      plain = record { short = λ k a b. (node k a b).short; celled = λ k a b. (node k a b).celled };
      trie = checked.0;
      branches = checked.1;
      hops = λ k x l. (rw (under k) at (slot_of k l).hop) x;
      counted = sym are-held ∙ sym e ∙ count_is;
    }
      where
        node : (k : ℕ) → 0 < k → k ≤ nodes_of w → NodeFine w k
        node k a b = all.fine k a (omega (arith, passed))

        under : (k : ℕ) → suc k - 1 ≡ k
        under k = omega arith

        slot_of : (k : ℕ) → k < nodes_of w → NodeFine w (suc k)
        slot_of k l = node (suc k) (omega arith) (omega arith)

        checked : Sound (Dense (nodes_of w)) (trie_of w) × Branchy (Dense (nodes_of w)) (trie_of w)
        checked = checked_sound (nodes_of w) (trie_of w) (record { root = rw cell_root at (root.yes (on_yes r is-r)).ok; slots = λ k l. rw (under k) at (slot_of k l).slot })

    pub check_all : TableChecked w (eqb count held)
    check_all = (λ e. sound (eqb-true count held e), λ S. eq-eqb count held (count_is ∙ sym S.counted ∙ sym are-held))
