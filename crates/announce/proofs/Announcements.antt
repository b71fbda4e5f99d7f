-- What an announcement answers, by where its prefix belongs. Assumes nothing.
use mathlib.Core.Path.{◌≡◌, refl, sym, ◌∙◌}
use mathlib.Core.Bool.{Bool, true, false, not, cond}
use mathlib.Core.List.{List}
use mathlib.Core.Option.{some}
use Prim.Native.Nat.{ℕ, suc, ◌+◌, ◌-◌, ◌*◌, ◌≤◌, ◌<◌}
use native.Mathlib.Numerals.{add-one}
use native.Mathlib.Omega.{arith}
use lib.ListN.{length, take, get_or}
use lib.Dec.{eqb}
use lib.Seq.{set-get_or}
use Rattle.std.specs.Prelude.{Ok, Err}
use Rattle.prefix.specs.Bits.{Bits, bits, one?, digit}
use Rattle.prefix.specs.Prefix.{contains, common, shared}
use Rattle.prefix.specs.Addresses.{address_bits, ipv4_bits}
use Rattle.prefix.specs.declared.Address.{Address}
use Rattle.prefix.proofs.BitLaws.{bit_small}
use Rattle.model.specs.Demands.{Hop}
use Rattle.trie.specs.Trie.{Kid, Trie, Dense, Put}
use Rattle.trie.specs.Updates.{hop_at, leaf_at, splice_at, fork_at}
use Rattle.trie.proofs.Announcing.{dense_joined, put_hop, put_leaf, put_above, put_fork}
use Rattle.trie.proofs.Counting.{slots_spare}
use Rattle.sizes.specs.BothStores.{slot_word, word, limit_of}
use Rattle.nodes.specs.Layout.{nodes_of, route_count, cell_of, trie_of}
use Rattle.nodes.specs.Headers.{HeaderRead}
use Rattle.nodes.specs.Stores.{put_mark, put_counts}
use Rattle.nodes.specs.declared.Header.{Header}
use Rattle.nodes.specs.declared.Node.{Node}
use Rattle.nodes.proofs.Coding.{numbered_node, none_numbered, cell_side}
use Rattle.nodes.proofs.Spelling.{trie_mark}
use Rattle.table.specs.Tables.{routes, SoundTable}
use Rattle.table.proofs.Reading.{length_sought, node_bits}
use Rattle.announce.specs.Writes.{Roomy, NodeOf, only_child, inserted, with_leaf, above, with_above, with_fork}
use Rattle.announce.specs.Steps.{announcement, announcement_at, Belongs, Adds, Meets}
use Rattle.verdicts.specs.Verdicts.{Answered, NodeAt}
use Rattle.verdicts.specs.declared.UpdateError.TheVariants.{Full, Unsound}
use Rattle.verdicts.proofs.Linking.{CellIn, inside_cell, other_side, GoodNode}
use Rattle.verdicts.proofs.Kept.{Kept, kept_all, room, mark_kept}
use Rattle.verdicts.proofs.After.{hop_after, new_after}
use Rattle.announce.proofs.Entering.{marked, good_node, inserted_kept, leaf_trie, above_kept, above_trie}
use Rattle.announce.proofs.Parting.{covers_node, node_side, node_longer, not_covers_node, common_agreed, shared_agreed, agreed_shorter}
use Rattle.verdicts.proofs.Standing.{at_within, at_live, branch_new, route_there, route_held}
use Rattle.verdicts.proofs.Verdicts.{announce_held, announce_room, announce_full, unsound, done, full}

-- ---- at the prefix's own node

same_counts : (w : List ℕ) → put_counts w (nodes_of w) (route_count w) ≡ w
unfolding put_counts
same_counts w = rw (set-get_or, set-get_or)

module _ (w : List ℕ) (h : Header) (p : ℕ) (at : NodeAt w h p) (hop : ℕ) (ok : Hop hop) (mark : ℕ) (is-mark : mark ≡ word w (slot_word p 2)) where
  module _ (s : SoundTable w) where
    hop_kept : Kept w (nodes_of w) (put_mark w p (hop + 1))
    hop_kept = mark_kept w (nodes_of w) s.shaped.enough s.shaped.nodes_fit (kept_all w s) p (hop + 1) (at_within w h p at)

    hop_trie : trie_of (put_mark w p (hop + 1)) ≡ hop_at (trie_of w) (p - 1) hop
    unfolding hop_at
    hop_trie = trie_mark w p at.some_node (room w (nodes_of w) s.shaped.enough s.shaped.nodes_fit (kept_all w s) p (at_within w h p at)) (hop + 1) ∙ rw (marked hop)

    hop_put : Put (Dense (nodes_of w)) (Dense (nodes_of w)) (trie_of w) (hop_at (trie_of w) (p - 1) hop) ((trie_of w).prefix (p - 1)) hop
    hop_put = put_hop s.trie s.branches (p - 1) _ hop (at_live w h p at) refl

  pub at_route : ¬ (mark ≡ 0) → (w' : List ℕ) → w' ≡ put_mark w p (hop + 1) → Answered w w' 0 (announcement_at w p hop) (Ok tt)
  at_route route w' e = done w w' 0 _ (λ s. announce_held _ _ 0 _ (omega arith) hop ok (route_held w h p at mark is-mark route)) (λ s.
      let k = hop_kept s in
      let f : w' ≡ put_counts (put_mark w p (hop + 1)) (nodes_of w) (route_count w) = e ∙ rw (← k.header.nodes_are, ← k.header.routes_are, same_counts (put_mark w p (hop + 1))) in
      rw f (hop_after w s k (nodes_of w) (route_count w) (omega arith) (mark - 1) hop _ ok (hop_trie s) (route_there w h p at mark is-mark route) (hop_put s) refl))

  module _ (branch : mark ≡ 0) where
    pub at_branch_full : h.limit ≤ h.routes → Answered w w 0 (announcement_at w p hop) (Err Full)
    at_branch_full l = full w 0 _ (λ s. announce_full _ _ 0 _ (omega arith) hop ok (branch_new w h p at mark is-mark s branch) (omega (arith, s.counted, at.header.1, at.header.3)))

    pub at_branch : h.routes < h.limit → (u w' : List ℕ) → u ≡ put_mark w p (hop + 1) → w' ≡ put_counts u h.nodes (h.routes + 1) → Answered w w' 0 (announcement_at w p hop) (Ok tt)
    at_branch l u w' e f =
        let g : w' ≡ put_counts (put_mark w p (hop + 1)) (nodes_of w) (route_count w + 1) = rw (e, at.header.2, at.header.3) at f in
        done w w' 0 _ (λ s. announce_room _ _ 0 _ (omega arith) hop ok (branch_new w h p at mark is-mark s branch) (omega (arith, s.counted, at.header.1, at.header.3))) (λ s.
        rw g (new_after w s (hop_kept s) (nodes_of w) (route_count w + 1) (omega arith) hop _ ok (hop_trie s) (branch_new w h p at mark is-mark s branch) (hop_put s) refl (omega (arith, at.header.1, at.header.3))))

-- ---- where no node has the prefix

-- the other side of a side is one
pub bit_most : (l : Bits) (i x : ℕ) → x ≡ digit (get_or l i false) → x ≤ 1
bit_most l i x e = omega (arith, bit_small l i x e)

pub is_roomy : (w : List ℕ) (h : Header) (cell p : ℕ) (a : Address) (n hop : ℕ) → Adds w h cell p a n hop → h.routes < h.limit → h.nodes + 2 ≤ 2 * h.limit → Roomy w h
is_roomy w h cell p a n hop adds l k = record {
  route = l;
  two_nodes = k;
  words = omega (arith, adds.header.0.enough, adds.header.1);
  legal = omega (arith, adds.header.0.legal, adds.header.1);
}

pub is_meeting : (w : List ℕ) (p : ℕ) (a there : Address) (own agreed : ℕ) → own ≡ word w (slot_word p 1) → own ≤ 32 → take 32 (address_bits there) ≡ bits 32 (word w (slot_word p 0))
    → agreed ≡ common (address_bits a) (take own (address_bits there)) → Meets w p a there agreed
is_meeting w p a there own agreed e l t c = record { own_short = rw (← e) l; is_there = t; is_agreed = rw (← e) c }

module _ (w : List ℕ) (h : Header) (cell p : ℕ) (a : Address) (n hop : ℕ) (adds : Adds w h cell p a n hop) where
  header : HeaderRead w (Ok h)
  header = adds.header

  short : n ≤ 32
  short = adds.short

  ok : Hop hop
  ok = adds.its_hop

  belongs : SoundTable w → Belongs w (take n (ipv4_bits a)) cell p
  belongs = adds.belongs

  cell_in : SoundTable w → CellIn (nodes_of w) cell
  cell_in s = ((belongs s).is_cell, inside_cell _ cell (belongs s).inside)

  pub new_full : h.limit ≤ h.routes → Answered w w n (announcement a n hop) (Err Full)
  new_full l = full w n _ (λ s. announce_full _ _ n _ short hop ok (belongs s).new (omega (arith, s.counted, header.1, header.3)))

  module _ (space : h.routes < h.limit) where
    pub no_spare : 2 * h.limit < h.nodes + 2 → Answered w w n (announcement a n hop) (Err Unsound)
    unfolding routes
    no_spare l = unsound w w n _ (λ s. omega (arith, slots_spare s.trie s.branches (limit_of w) (omega (arith, s.counted, header.1, header.3)), header.1, header.2))

    -- a store that spells the trie with the new prefix
    accepted : (w' u : List ℕ) (m : ℕ) → w' ≡ put_counts u m (h.routes + 1)
        → ((s : SoundTable w) → Kept w m u × ((v : Trie) × (trie_of u ≡ v) × Put (Dense (nodes_of w)) (Dense m) (trie_of w) v (take n (ipv4_bits a)) hop))
        → Answered w w' n (announcement a n hop) (Ok tt)
    accepted w' u m e f = done w w' n _ (λ s. announce_room _ _ n _ short hop ok (belongs s).new (omega (arith, s.counted, header.1, header.3))) (λ s.
        let g = f s in
        rw (e, header.3) (new_after w s g.0 m (route_count w + 1) (omega arith) hop g.1.0 ok g.1.1 (belongs s).new g.1.2 refl (omega (arith, header.1, header.3))))

    module _ (spare : h.nodes + 2 ≤ 2 * h.limit) (w' : List ℕ) where
      pub leaf_added : p ≡ 0 → (leaf : Node) → NodeOf (take n (ipv4_bits a)) n (hop + 1) 0 0 cell leaf → w' ≡ with_leaf w h.nodes h.routes leaf → Answered w w' n (announcement a n hop) (Ok tt)
      unfolding with_leaf
      leaf_added z leaf is e = accepted w' (inserted w (h.nodes + 1) leaf) (h.nodes + 1) e (λ s.
          let m = nodes_of w in
          let fit : m + 1 ≤ 2 * limit_of w = omega (arith, header.1, header.2) in
          let b = belongs s in
          let c = cell_in s in
          let g = good_node (m + 1) is short (omega arith) (omega arith) (c.0, omega (arith, c.1)) in
          rw header.2 (
            inserted_kept w m s.shaped.enough fit (kept_all w s) g,
            (
              leaf_at (trie_of w) (cell_of cell) m (take n (ipv4_bits a)) hop,
              leaf_trie w m s.shaped.enough fit (kept_all w s) g hop is,
              rw add-one (put_leaf (dense_joined m) s.trie s.branches (cell_of cell) b.inside (take n (ipv4_bits a)) hop b.fits (b.child ∙ rw z none_numbered)),
            ),
          ))

      -- node p hangs there
      module _ (pos : 0 < p) where
        pub long_node : (own : ℕ) → own ≡ word w (slot_word p 1) → 32 < own → Answered w w n (announcement a n hop) (Err Unsound)
        long_node own is_own l = unsound w w n _ (λ s. omega (arith, s.plain.short p pos (omega (arith, header.2, adds.node_in_use))))

        module _ (there : Address) (agreed : ℕ) (meets : Meets w p a there agreed) where
          own : ℕ
          own = word w (slot_word p 1)

          is_own : own ≡ word w (slot_word p 1)
          unfolding own
          is_own = refl

          own_short : own ≤ 32
          unfolding own
          own_short = meets.own_short

          is_agreed : agreed ≡ common (address_bits a) (take own (address_bits there))
          unfolding own
          is_agreed = meets.is_agreed

          its_prefix : take own (address_bits there) ≡ (trie_of w).prefix (p - 1)
          its_prefix = node_bits w p pos own is_own there meets.is_there own_short

          full_cell : SoundTable w → (trie_of w).child (cell_of cell) ≡ some (p - 1)
          full_cell s = (belongs s).child ∙ numbered_node p pos

          out : SoundTable w → contains (take own (address_bits there)) (take n (ipv4_bits a)) ≡ false
          out s = rw its_prefix ((belongs s).parts (p - 1) (numbered_node p pos))

          within : p ≤ nodes_of w
          within = omega (arith, header.2, adds.node_in_use)

          fit : nodes_of w + 2 ≤ 2 * limit_of w
          fit = omega (arith, header.1, header.2)

          above_good : SoundTable w → (side : ℕ) → side < 2 → {P : Bits} {len mark : ℕ} {node : Node} → NodeOf P len mark (only_child side p 0) (only_child side p 1) cell node → len ≤ 32 → GoodNode (nodes_of w + 1) node
          above_good s side l is len =
              let c = cell_in s in
              good_node (nodes_of w + 1) is len (only_in side 0) (only_in side 1) (c.0, omega (arith, c.1))
            where
              only_in : (x y : ℕ) → only_child x p y ≤ nodes_of w + 1
              only_in x y = go (eqb x y)
                where
                  go : (t : Bool) → cond t p 0 ≤ nodes_of w + 1
                  go true = omega (arith, within)
                  go false = omega arith

          module _ (side : ℕ) where
            pub above_added : n ≤ agreed → side ≡ digit (get_or (address_bits there) n false) → (node : Node)
                → NodeOf (take n (ipv4_bits a)) n (hop + 1) (only_child side p 0) (only_child side p 1) cell node → w' ≡ with_above w h.nodes h.routes p side node → Answered w w' n (announcement a n hop) (Ok tt)
            unfolding with_above
            above_added l is-side node is e = accepted w' (above w h.nodes p side node) (h.nodes + 1) e (λ s.
                let m = nodes_of w in
                let b = belongs s in
                let g = above_good s side (bit_small (address_bits there) n side is-side) is short in
                let d : one? side ≡ get_or ((trie_of w).prefix (p - 1)) (length (take n (ipv4_bits a))) false =
                rw (← its_prefix, length_sought a n short) (node_side a there n own agreed short own_short is_agreed n side (node_longer a there n own agreed short own_short is_agreed (out s) l) is-side) in
                rw header.2 (
                  above_kept w m s.shaped.enough (omega (arith, fit)) (kept_all w s) p side pos within (bit_small (address_bits there) n side is-side) g,
                  (
                    splice_at (trie_of w) (cell_of cell) m (take n (ipv4_bits a)) (some hop) (one? side) (p - 1),
                    above_trie w m s.shaped.enough (omega (arith, fit)) (kept_all w s) p side pos within (bit_small (address_bits there) n side is-side) g is ∙ rw (marked hop),
                    rw (add-one, d) (put_above (dense_joined m) s.trie s.branches (cell_of cell) b.inside (take n (ipv4_bits a)) hop b.fits (p - 1) (full_cell s)
                        (rw (← its_prefix) (out s)) (rw (← its_prefix) (covers_node a there n own agreed short own_short is_agreed l))),
                  ),
                ))

            pub fork_added : agreed < n → side ≡ digit (get_or (address_bits there) agreed false) → (branch leaf : Node)
                → NodeOf (take agreed (ipv4_bits a)) agreed 0 (only_child side p 0) (only_child side p 1) cell branch → NodeOf (take n (ipv4_bits a)) n (hop + 1) 0 0 (2 * (h.nodes + 1) + (1 - side)) leaf
                → w' ≡ with_fork w h.nodes h.routes p side branch leaf → Answered w w' n (announcement a n hop) (Ok tt)
            unfolding with_fork fork_at
            fork_added l is-side branch leaf is_branch is_IsLeaf e = accepted w' (inserted (above w h.nodes p side branch) (h.nodes + 2) leaf) (h.nodes + 2) e (λ s.
                let m = nodes_of w in
                let b = belongs s in
                let small = bit_small (address_bits there) agreed side is-side in
                let one : m + 1 ≤ 2 * limit_of w = omega (arith, fit) in
                let two : m + 1 + 1 ≤ 2 * limit_of w = omega (arith, fit) in
                let more : m + 2 ≡ m + 1 + 1 = omega arith in
                let g = above_good s side small is_branch (omega arith) in
                let k = above_kept w m s.shaped.enough one (kept_all w s) p side pos within small g in
                let its_leaf : NodeOf (take n (ipv4_bits a)) n (hop + 1) 0 0 (2 * (m + 1) + (1 - side)) leaf = rw header.2 at is_IsLeaf in
                let f = good_node (m + 1 + 1) its_leaf short (omega arith) (omega arith) (λ z. omega arith, omega arith) in
                let c : cell_of (2 * (m + 1) + (1 - side)) ≡ Kid m (not (one? side)) =
                let z : m + 1 - 1 ≡ m = omega arith in rw (← other_side side small) (rw z at (cell_side (m + 1) (1 - side) (omega arith) (omega arith))) in
                let d : one? side ≡ get_or ((trie_of w).prefix (p - 1)) (common (take n (ipv4_bits a)) ((trie_of w).prefix (p - 1))) false =
                rw (← its_prefix, common_agreed a there n own agreed short own_short is_agreed (out s) l)
                (node_side a there n own agreed short own_short is_agreed agreed side (agreed_shorter a there n own agreed short own_short is_agreed (out s) l) is-side) in
                let q : take agreed (ipv4_bits a) ≡ shared (take n (ipv4_bits a)) ((trie_of w).prefix (p - 1)) = rw (← its_prefix) (sym (shared_agreed a there n own agreed short own_short is_agreed (out s) l)) in
                rw (header.2, more) (
                  inserted_kept w (m + 1) s.shaped.enough two k f,
                  (
                    fork_at (trie_of w) (cell_of cell) m (m + 1) (take agreed (ipv4_bits a)) (one? side) (p - 1) (take n (ipv4_bits a)) hop,
                    leaf_trie w (m + 1) s.shaped.enough two k f hop its_leaf
                        ∙ rw (above_trie w m s.shaped.enough one (kept_all w s) p side pos within small g is_branch, none_numbered, c),
                    rw (add-one (m + 1), add-one m, d, q) (put_fork (dense_joined m) (dense_joined (suc m)) s.trie s.branches (cell_of cell) b.inside (take n (ipv4_bits a)) hop b.fits (p - 1) (full_cell s)
                        (rw (← its_prefix) (out s)) (rw (← its_prefix) (not_covers_node a there n own agreed short own_short is_agreed (out s) l))),
                  ),
                ))
