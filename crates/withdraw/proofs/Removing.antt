-- The route at a node is gone, for each shape in which the node can stand. Assumes nothing.
use mathlib.Core.Path.{◌≡◌, refl, sym, ap, ◌∙◌}
use mathlib.Core.Bool.{false, true, not}
use mathlib.Core.List.{List}
use mathlib.Core.Option.{none, some}
use Prim.Native.Nat.{ℕ, ◌+◌, ◌-◌, ◌*◌, ◌/◌, ◌%◌, ◌≤◌, ◌<◌}
use native.Mathlib.Nat.{add-zero}
use native.Mathlib.Omega.{arith}
use Rattle.std.specs.Prelude.{Ok, Err}
use Rattle.prefix.specs.Bits.{one?}
use Rattle.prefix.proofs.Order.{below_<}
use Rattle.trie.specs.Trie.{Kid, Dense, Held, Removed}
use Rattle.trie.specs.Updates.{unhop_at, cut_at, fill_at}
use Rattle.trie.proofs.Withdrawing.{withdraw_hop, withdraw_one, withdraw_root, withdraw_leaf, withdraw_pair}
use Rattle.sizes.specs.BothStores.{slot_word, word}
use Rattle.nodes.specs.Layout.{cell_word, nodes_of, route_count, numbered, cell_of, trie_of}
use Rattle.nodes.specs.Stores.{put_mark, put_counts}
use Rattle.nodes.specs.declared.Header.{Header}
use Rattle.nodes.proofs.Coding.{numbered_node, none_numbered, cell_root, cell_side}
use Rattle.nodes.proofs.Spelling.{hop_word, up_word, child_word, trie_mark}
use Rattle.table.specs.Tables.{SoundTable}
use Rattle.verdicts.specs.Verdicts.{TableAfter}
use Rattle.withdraw.specs.Writes.{without, without_both}
use Rattle.withdraw.specs.Steps.{withdrawal_at, RouteAt, Gone}
use Rattle.verdicts.specs.declared.UpdateError.TheVariants.{Unsound}
use Rattle.verdicts.proofs.Linking.{CellIn, other_side}
use Rattle.verdicts.proofs.Kept.{kept_all, room, mark_kept}
use Rattle.withdraw.proofs.Leaving.{cut_kept, cut_trie, closed_kept, closed_trie, both_kept, both_trie}
use Rattle.verdicts.proofs.After.{gone_after}
use Rattle.verdicts.proofs.Verdicts.{late_done, late_unsound}

module _ (w w' : List ℕ) (h : Header) (p : ℕ) (at : RouteAt w h p) where
  pos : 0 < p
  pos = at.node.some_node

  within : p ≤ nodes_of w
  within = omega (arith, at.node.in_use, at.node.header.2)

  hop : ℕ
  hop = word w (slot_word p 2) - 1

  is_hop : (trie_of w).hop (p - 1) ≡ some hop
  unfolding hop
  is_hop = sym (hop_word w p pos) ∙ numbered_node _ (omega (arith, at.is_route))

  left_child : (trie_of w).child (Kid (p - 1) false) ≡ numbered (word w (cell_word (2 * p)))
  left_child =
      sym (child_word w (2 * p) (λ z. omega arith)
      ∙ ap (trie_of w).child (rw add-zero at (cell_side p 0 pos (omega arith))))

  right_child : (trie_of w).child (Kid (p - 1) true) ≡ numbered (word w (cell_word (2 * p + 1)))
  right_child = sym (child_word w (2 * p + 1) (λ z. omega arith) ∙ ap (trie_of w).child (cell_side p 1 pos (omega arith)))

  module _ (s : SoundTable w) where
    held : Held (Dense (nodes_of w)) (trie_of w) ((trie_of w).prefix (p - 1)) hop
    held = record { slot = p - 1; is_live = omega (arith, within, pos); is_prefix = refl; is_hop = is_hop }

    one_less : (kid : ℕ) → kid ≤ nodes_of w → Removed (Dense (nodes_of w)) (Dense (nodes_of w - 1)) (trie_of w) (fill_at (cut_at (trie_of w) (p - 1) (numbered kid)) (nodes_of w - 1) (p - 1)) ((trie_of w).prefix (p - 1))
        → TableAfter w (without w (nodes_of w) (route_count w) p kid) (withdrawal_at w p)
    unfolding without
    one_less kid l g =
        let m = nodes_of w in
        let e = s.shaped.enough in
        let f = s.shaped.nodes_fit in
        let k = cut_kept w m e f (kept_all w s) p kid pos within l in
        gone_after w s (closed_kept w m e f k m p (omega (arith, within, pos)) (omega arith) pos within) (m - 1) (route_count w - 1) (omega arith)
        hop _ (closed_trie w m e f k m p (omega (arith, within, pos)) (omega arith) pos within ∙ rw (cut_trie w m e f (kept_all w s) p kid pos within l)) held g refl

    -- what hangs in a cell of a node in use is a node in use
    hanging : (q : ℕ) → CellIn (nodes_of w) q → word w (cell_word q) ≤ nodes_of w
    hanging = (kept_all w s).linked.child_in

  gone : ((s : SoundTable w) → TableAfter w w' (withdrawal_at w p)) → Gone w w' p (Ok tt)
  gone f = record { late = late_done; done = λ s. refl; after = f }

  -- it can only be so on a store that is not sound
  unsound : ¬ SoundTable w → Gone w w' p (Err Unsound)
  unsound n = record { late = late_unsound; done = λ s. absurd (n s); after = λ s. absurd (n s) }

  dropped : (kid : ℕ) → w' ≡ without w h.nodes h.routes p kid → w' ≡ without w (nodes_of w) (route_count w) p kid
  dropped kid e = rw (at.node.header.2, at.node.header.3) at e

  -- ---- it has children

  module _ (left right : ℕ) (is-left : left ≡ word w (cell_word (2 * p))) (is_right : right ≡ word w (cell_word (2 * p + 1))) where
    pub gone_right : left ≡ 0 → ¬ (right ≡ 0) → (kid : ℕ) → kid ≡ right → w' ≡ without w h.nodes h.routes p kid → Gone w w' p (Ok tt)
    gone_right z n kid k e = gone (λ s. rw (dropped right (rw k at e)) (one_less s right (rw is_right (hanging s (2 * p + 1) (λ z. omega arith, omega (arith, within)))) (
        rw (numbered_node right (omega arith)) (withdraw_one (nodes_of w) s.trie s.branches (p - 1) (omega (arith, within, pos)) _ refl true (right - 1)
        (right_child ∙ rw (← is_right) (numbered_node right (omega arith))) (left_child ∙ rw (← is-left, z) none_numbered)))))

    pub gone_left : ¬ (left ≡ 0) → right ≡ 0 → (kid : ℕ) → kid ≡ left → w' ≡ without w h.nodes h.routes p kid → Gone w w' p (Ok tt)
    gone_left n z kid k e = gone (λ s. rw (dropped left (rw k at e)) (one_less s left (rw is-left (hanging s (2 * p) (λ z. omega arith, omega (arith, within)))) (
        rw (numbered_node left (omega arith)) (withdraw_one (nodes_of w) s.trie s.branches (p - 1) (omega (arith, within, pos)) _ refl false (left - 1)
        (left_child ∙ rw (← is-left) (numbered_node left (omega arith))) (right_child ∙ rw (← is_right, z) none_numbered)))))

    pub gone_hop : ¬ (left ≡ 0) → ¬ (right ≡ 0) → (u : List ℕ) → u ≡ put_mark w p 0 → w' ≡ put_counts u h.nodes (h.routes - 1) → Gone w w' p (Ok tt)
    unfolding unhop_at
    gone_hop n k u e f = gone (λ s.
        let m = nodes_of w in
        let a : w' ≡ put_counts (put_mark w p 0) m (route_count w - 1) = rw (e, at.node.header.2, at.node.header.3) at f in
        rw a (gone_after w s (mark_kept w m s.shaped.enough s.shaped.nodes_fit (kept_all w s) p 0 within) m (route_count w - 1) (omega arith) hop _
        (trie_mark w p pos (room w m s.shaped.enough s.shaped.nodes_fit (kept_all w s) p within) 0 ∙ rw none_numbered) (held s)
        (withdraw_hop m s.trie s.branches (p - 1) (omega (arith, within, pos)) _ refl (left - 1) (right - 1)
        (left_child ∙ rw (← is-left) (numbered_node left (omega arith))) (right_child ∙ rw (← is_right) (numbered_node right (omega arith)))) refl))

  -- ---- it is a leaf

  module _ (is-left : word w (cell_word (2 * p)) ≡ 0) (is_right : word w (cell_word (2 * p + 1)) ≡ 0) (cell : ℕ) (is_up : cell ≡ word w (slot_word p 5)) where
    no_left : (trie_of w).child (Kid (p - 1) false) ≡ none
    no_left = left_child ∙ rw is-left none_numbered

    no_right : (trie_of w).child (Kid (p - 1) true) ≡ none
    no_right = right_child ∙ rw is_right none_numbered

    up : cell_of cell ≡ (trie_of w).up (p - 1)
    up = rw is_up (up_word w p pos)

    cell_in : SoundTable w → CellIn (nodes_of w) cell
    cell_in s = rw is_up ((kept_all w s).linked.up_in p pos within)

    pub gone_root : cell / 2 ≡ 0 → w' ≡ without w h.nodes h.routes p 0 → Gone w w' p (Ok tt)
    gone_root z e = gone (λ s.
        let c : cell ≡ 0 = omega (arith, cell_in s) in
        rw (dropped 0 e) (one_less s 0 (omega arith) (rw none_numbered
        (withdraw_root (nodes_of w) s.trie s.branches (p - 1) (omega (arith, within, pos)) _ refl no_left no_right (sym up ∙ rw c cell_root)))))

    module _ (parent : ℕ) (is-parent : parent ≡ cell / 2) where
      pub gone_far : h.nodes < parent → Gone w w' p (Err Unsound)
      gone_far l = unsound (λ s. omega (arith, (cell_in s).1, at.node.header.2))

      module _ (some-parent : ¬ (parent ≡ 0)) where
        up_kid : (trie_of w).up (p - 1) ≡ Kid (parent - 1) (one? (cell % 2))
        up_kid = let e : 2 * parent + cell % 2 ≡ cell = omega arith in sym up ∙ rw e at (cell_side parent (cell % 2) (omega arith) (omega arith))

        pub gone_self : parent ≡ p → Gone w w' p (Err Unsound)
        gone_self z = unsound (λ s.
            let l : p - 1 < nodes_of w = omega (arith, within, pos) in
            let o = s.trie.owned (p - 1) l in
            let e : (trie_of w).up (p - 1) ≡ Kid (p - 1) (one? (cell % 2)) = rw z at up_kid in
            omega (arith, below_< (s.trie.points (Kid (p - 1) (one? (cell % 2))) (p - 1) l (rw (← e) o.child)).fits))

        parent_in : SoundTable w → parent ≤ nodes_of w
        parent_in s = omega (arith, (cell_in s).1)

        pub gone_leaf : (mark : ℕ) → mark ≡ word w (slot_word parent 2) → ¬ (mark ≡ 0) → w' ≡ without w h.nodes h.routes p 0 → Gone w w' p (Ok tt)
        gone_leaf mark is-mark n e = gone (λ s.
            rw (dropped 0 e) (one_less s 0 (omega arith) (rw none_numbered
            (withdraw_leaf (nodes_of w) s.trie s.branches (p - 1) (omega (arith, within, pos)) _ refl no_left no_right (parent - 1) (one? (cell % 2)) (mark - 1) up_kid
            (sym (hop_word w parent (omega arith)) ∙ rw (← is-mark) (numbered_node mark (omega arith)))))))

        module _ (mark other : ℕ) (is-mark : mark ≡ word w (slot_word parent 2)) (branch : mark ≡ 0) (apart : ¬ (parent ≡ p))
            (is-other : other ≡ word w (cell_word (2 * parent + (1 - cell % 2)))) where
          parent_hop : (trie_of w).hop (parent - 1) ≡ none
          parent_hop = sym (hop_word w parent (omega arith)) ∙ rw (← is-mark, branch) none_numbered

          other_child : (trie_of w).child (Kid (parent - 1) (not (one? (cell % 2)))) ≡ numbered other
          other_child =
              let c : cell_of (2 * parent + (1 - cell % 2)) ≡ Kid (parent - 1) (not (one? (cell % 2))) = rw (← other_side (cell % 2) (omega arith)) (cell_side parent (1 - cell % 2) (omega arith) (omega arith)) in
              sym (ap numbered is-other ∙ child_word w _ (λ z. omega arith) ∙ ap (trie_of w).child c)

          pub gone_both : w' ≡ without_both w h.nodes h.routes p parent other → Gone w w' p (Ok tt)
          unfolding without_both
          gone_both e = gone (λ s.
              let m = nodes_of w in
              let f = s.shaped.enough in
              let g = s.shaped.nodes_fit in
              let b = s.branches (parent - 1) (omega (arith, parent_in s)) parent_hop (not (one? (cell % 2))) in
              let o : numbered other ≡ some b.0 = sym other_child ∙ b.1 in
              let ol : other ≤ m = rw is-other (hanging s (2 * parent + (1 - cell % 2)) (λ z. omega arith, omega (arith, parent_in s))) in
              let k₁ = cut_kept w m f g (kept_all w s) p 0 pos within (omega arith) in
              let k₂ = cut_kept w m f g k₁ parent other (omega arith) (parent_in s) ol in
              let ap' : ¬ (p ≡ parent) = λ z. apart (sym z) in
              let t₁ = cut_trie w m f g (kept_all w s) p 0 pos within (omega arith) in
              let t₂ = cut_trie w m f g k₁ parent other (omega arith) (parent_in s) ol in
              let r = withdraw_pair m s.trie s.branches (p - 1) (omega (arith, within, pos)) _ refl no_left no_right hop is_hop (parent - 1) (one? (cell % 2)) up_kid parent_hop b.0 (other_child ∙ o) in
              rw (e, at.node.header.2, at.node.header.3)
              (gone_after w s (both_kept w m f g k₂ p parent pos within (omega arith) (parent_in s) ap') (m - 2) (route_count w - 1) (omega arith) hop _
              (both_trie w m f g k₂ p parent pos within (omega arith) (parent_in s) ap' ∙ rw (t₂, t₁, o, none_numbered)) (held s) r refl))
