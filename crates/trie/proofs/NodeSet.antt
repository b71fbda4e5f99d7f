-- The live prefixes are the nodes of the routes that the trie holds: the routes, and the longest common prefixes of two routes of which
-- neither lies inside the other. Assumes nothing.
use mathlib.Core.Path.{◌≡◌, refl, sym, ◌∙◌}
use mathlib.Core.Bool.{Bool, true, false, false≢true}
use mathlib.Core.Option.{Option, none, some, none-ne-some}
use Prim.Native.Nat.{ℕ, zero, suc, ◌+◌, ◌≤◌, ◌<◌, max}
use native.Mathlib.Decide.{ℕ_discrete}
use native.Mathlib.Nat.{not-suc-le-zero}
use native.Mathlib.Omega.{arith}
use lib.ListN.{length}
use Rattle.prefix.specs.Bits.{Bits}
use Rattle.prefix.specs.Prefix.{contains, shared, ◌⊑◌, Below}
use Rattle.prefix.proofs.Order.{⊑_refl, ⊑_trans, below_⊑, below_<, below_trans, below_bit}
use Rattle.prefix.proofs.Common.{shared_left, shared_right, shared_great, shared_parted}
use Rattle.prefix.proofs.Tests.{not_⊑, apart_⊑, ⊑_apart}
use Rattle.model.specs.Lists.{◌∈◌}
use Rattle.model.specs.Nodes.{nodes}
use Rattle.model.specs.Demands.{NoLonger}
use Rattle.model.proofs.NodeLaws.{Node, of_one, of_two, node_in, in_node, node_short}
use Rattle.trie.specs.Trie.{Cell, Kid, Trie, Inside, Fits, Sound, Branchy, Dense, Held}
use Rattle.trie.specs.Routes.{routes_of}
use Rattle.trie.proofs.Descent.{through}
use Rattle.trie.proofs.Walking.{Place, found, empty, above, fork, place}
use Rattle.trie.proofs.Cutting.{fits_trans}
use Rattle.trie.proofs.Holding.{held_in, in_held}

-- slot holds a route at or below q
pub record RouteBelow (live : ℕ → Type 0) (v : Trie) (q : Bits) : Type 0 where
  pub slot : ℕ
  pub is_live : live slot
  pub value : ℕ
  pub is_route : v.hop slot ≡ some value
  pub below : q ⊑ v.prefix slot

module _ {live : ℕ → Type 0} {v : Trie} (S : Sound live v) where
  -- the longest common prefix of two nodes neither of which is above the other is a node
  pub shared_is_node : (a b : ℕ) → live a → live b → ¬ (v.prefix a ⊑ v.prefix b) → ¬ (v.prefix b ⊑ v.prefix a) → (i : ℕ) × live i × (v.prefix i ≡ shared (v.prefix a) (v.prefix b))
  shared_is_node a b la lb n₁ n₂ = go (place S P)
    where
      P : Bits
      P = shared (v.prefix a) (v.prefix b)

      -- what stands below P is reached through a cell that fits P
      cell : (c : Cell) (k : ℕ) → Inside live c → Fits v c P → live k → P ⊑ v.prefix k → (j : ℕ) × (v.child c ≡ some j) × (v.prefix j ⊑ v.prefix k)
      cell c k i f l h = through S c k i l (fits_trans v c P (v.prefix k) f h)

      at_a : (c : Cell) → Inside live c → Fits v c P → (j : ℕ) × (v.child c ≡ some j) × (v.prefix j ⊑ v.prefix a)
      at_a c i f = cell c a i f la (shared_left (v.prefix a) (v.prefix b))

      -- so the node of that cell contains P
      apart : (c : Cell) (j : ℕ) → Inside live c → Fits v c P → v.child c ≡ some j → contains (v.prefix j) P ≡ false → ⊥
      apart c j i f e out =
          let s = at_a c i f in
          let t = cell c b i f lb (shared_right (v.prefix a) (v.prefix b)) in
          let x : s.0 ≡ j = cc s.1 in
          let y : t.0 ≡ j = cc t.1 in
          not_⊑ (v.prefix j) P out (shared_great (rw x at s.2) (rw y at t.2))

      go : Place live v P → (i : ℕ) × live i × (v.prefix i ≡ P)
      go (found i l e) = (i, l, e)
      go (empty c i f e) = let t = at_a c i f in absurd (none-ne-some t.0 (sym e ∙ t.1))
      go (above c j i f e n h) = absurd (apart c j i f e n)
      go (fork c j i f e n m) = absurd (apart c j i f e n)

  module _ (B : Branchy live v) (L : ℕ) (bound : (i : ℕ) → live i → length (v.prefix i) ≤ L) where
    -- below every node there is a route
    below_fuel : (d i : ℕ) → live i → L < d + length (v.prefix i) → RouteBelow live v (v.prefix i)
    below_fuel zero i l h = absurd (omega (arith, bound i l))
    below_fuel (suc d) i l h = go (v.hop i) refl (λ j. below_fuel d j)
      where
        go : (o : Option ℕ) → v.hop i ≡ o → ((j : ℕ) → live j → L < d + length (v.prefix j) → RouteBelow live v (v.prefix j)) → RouteBelow live v (v.prefix i)
        go (some x) e rec = record { slot = i; is_live = l; value = x; is_route = e; below = ⊑_refl _ }
        go none e rec =
            let k = B i l e false in
            let p = S.points (Kid i false) k.0 l k.1 in
            let r = rec k.0 p.is_live (omega (arith, below_< p.fits)) in
            record { slot = r.slot; is_live = r.is_live; value = r.value; is_route = r.is_route; below = ⊑_trans (below_⊑ p.fits) r.below }

    pub route_below : (i : ℕ) → live i → RouteBelow live v (v.prefix i)
    route_below i l = below_fuel (suc L) i l (omega arith)

    -- a branch has a route on each side, and is their longest common prefix
    pub branch_side : (i : ℕ) → live i → v.hop i ≡ none → (b : Bool) → (r : RouteBelow live v (v.prefix i)) × Below (v.prefix i) b (v.prefix r.slot)
    branch_side i l e b =
        let k = B i l e b in
        let p = S.points (Kid i b) k.0 l k.1 in
        let r = route_below k.0 p.is_live in
        (record { slot = r.slot; is_live = r.is_live; value = r.value; is_route = r.is_route; below = ⊑_trans (below_⊑ p.fits) r.below }, below_trans p.fits r.below)

-- the lengths below m are bounded
pub longest : Trie → ℕ → ℕ
longest v zero = 0
longest v (suc m) = max (length (v.prefix m)) (longest v m)

pub longest_most : (v : Trie) (m i : ℕ) → i < m → length (v.prefix i) ≤ longest v m
unfolding longest
longest_most v zero i l = absurd (not-suc-le-zero l)
longest_most v (suc m) i l = go (ℕ_discrete i m) (longest_most v m i)
  where
    go : Dec (i ≡ m) → (i < m → length (v.prefix i) ≤ longest v m) → length (v.prefix i) ≤ max (length (v.prefix m)) (longest v m)
    go (yes z) rec = rw z (omega arith)
    go (no n) rec = omega (arith, rec (omega arith))

module _ {m : ℕ} {v : Trie} (S : Sound (Dense m) v) where
  route_in : {q : Bits} (r : RouteBelow (Dense m) v q) → record { prefix = v.prefix r.slot; hop = r.value } ∈ routes_of v m
  route_in r = held_in v m (record { slot = r.slot; is_live = r.is_live; is_prefix = refl; is_hop = r.is_route })

  pub node_slot : (p : Bits) → p ∈ nodes (routes_of v m) → (i : ℕ) × (i < m) × (v.prefix i ≡ p)
  node_slot p k = go (node_in (routes_of v m) p k)
    where
      two : {x y : Bits} {h g : ℕ} → Held (Dense m) v x h → Held (Dense m) v y g → ¬ (x ⊑ y) → ¬ (y ⊑ x) → p ≡ shared x y → (i : ℕ) × (i < m) × (v.prefix i ≡ p)
      two a b n₁ n₂ e =
          let x = a.is_prefix in
          let y = b.is_prefix in
          let s = shared_is_node S a.slot b.slot a.is_live b.is_live (rw (x, y) n₁) (rw (x, y) n₂) in
          (s.0, s.1, s.2 ∙ rw (x, y) (sym e))

      go : Node (routes_of v m) p → (i : ℕ) × (i < m) × (v.prefix i ≡ p)
      go (of_one r i e) = let h = in_held v m r i in (h.slot, h.is_live, h.is_prefix ∙ sym e)
      go (of_two r s i j o e) = let n = apart_⊑ r.prefix s.prefix o in two (in_held v m r i) (in_held v m s j) n.0 n.1 e

  module _ (B : Branchy (Dense m) v) where
    pub slot_node : (i : ℕ) → i < m → v.prefix i ∈ nodes (routes_of v m)
    slot_node i l = in_node (routes_of v m) (v.prefix i) (go (v.hop i) refl)
      where
        two : (x y : RouteBelow (Dense m) v (v.prefix i)) → Below (v.prefix i) false (v.prefix x.slot) → Below (v.prefix i) true (v.prefix y.slot) → Node (routes_of v m) (v.prefix i)
        two x y p q = of_two _ _ (route_in x) (route_in y)
            (⊑_apart (λ h. false≢true (below_bit (below_trans p h) q)) (λ h. false≢true (below_bit p (below_trans q h)))) (sym (shared_parted p q false≢true))

        go : (o : Option ℕ) → v.hop i ≡ o → Node (routes_of v m) (v.prefix i)
        go none e =
            let x = branch_side S B (longest v m) (longest_most v m) i l e false in
            let y = branch_side S B (longest v m) (longest_most v m) i l e true in
            two x.0 y.0 x.1 y.1
        go (some h) e = of_one _ (held_in v m (record { slot = i; is_live = l; is_prefix = refl; is_hop = e })) refl

    -- no node is longer than the longest route
    pub slots_short : (n : ℕ) → NoLonger n (routes_of v m) → (i : ℕ) → i < m → length (v.prefix i) ≤ n
    slots_short n s i l = node_short n (routes_of v m) s (v.prefix i) (slot_node i l)
