-- What a node in use tells of its prefix. Assumes nothing.
use mathlib.Core.Path.{◌≡◌, refl, sym, ◌∙◌}
use mathlib.Core.Bool.{true, false}
use mathlib.Core.List.{List}
use Prim.Native.Nat.{ℕ, ◌-◌, ◌≤◌, ◌<◌}
use native.Mathlib.Omega.{arith}
use Rattle.model.specs.Routes.{held}
use Rattle.trie.specs.Trie.{Dense, Held}
use Rattle.trie.proofs.Holding.{is_held, branch_not_held}
use Rattle.sizes.specs.BothStores.{slot_word, word}
use Rattle.nodes.specs.Layout.{nodes_of, trie_of}
use Rattle.nodes.specs.declared.Header.{Header}
use Rattle.nodes.proofs.Coding.{numbered_node, none_numbered}
use Rattle.nodes.proofs.Spelling.{hop_word}
use Rattle.table.specs.Tables.{routes, SoundTable}
use Rattle.verdicts.specs.Verdicts.{NodeAt}

module _ (w : List ℕ) (h : Header) (p : ℕ) (at : NodeAt w h p) where
  pub at_within : p ≤ nodes_of w
  at_within = omega (arith, at.in_use, at.header.2)

  pub at_live : p - 1 < nodes_of w
  at_live = omega (arith, at_within, at.some_node)

  module _ (mark : ℕ) (is-mark : mark ≡ word w (slot_word p 2)) where
    pub branch_new : SoundTable w → mark ≡ 0 → held (routes w) ((trie_of w).prefix (p - 1)) ≡ false
    unfolding routes
    branch_new s z = branch_not_held s.trie _ (p - 1) at_live refl (sym (hop_word w p at.some_node) ∙ rw (← is-mark, z) none_numbered)

    module _ (route : ¬ (mark ≡ 0)) where
      pub route_there : Held (Dense (nodes_of w)) (trie_of w) ((trie_of w).prefix (p - 1)) (mark - 1)
      route_there = record { slot = p - 1; is_live = at_live; is_prefix = refl; is_hop = sym (hop_word w p at.some_node) ∙ rw (← is-mark) (numbered_node mark (omega arith)) }

      pub route_held : held (routes w) ((trie_of w).prefix (p - 1)) ≡ true
      unfolding routes
      route_held = is_held (trie_of w) (nodes_of w) route_there
