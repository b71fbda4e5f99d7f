-- Whether a route lies strictly inside a prefix P, by where the descent by P stops: a route lies strictly inside P exactly if a node
-- does, and such a node stands below P's own node, or at the cell where P belongs. Assumes nothing.
use mathlib.Core.Path.{◌≡◌, refl, sym, ◌∙◌}
use mathlib.Core.Bool.{Bool, true, false, cond, ◌||◌}
use mathlib.Core.Logic.{◌⊎◌, inl, inr}
use mathlib.Core.Option.{Option, none, some, none-ne-some}
use Prim.Native.Nat.{ℕ, ◌<◌}
use native.Mathlib.Omega.{arith}
use lib.ListN.{length}
use lib.Dec.{eqb}
use borrow.Author.Tests.{eqb-true, eqb-false}
use Rattle.prefix.specs.Bits.{Bits}
use Rattle.prefix.specs.Prefix.{contains, strictly_inside, ◌⊑◌, Below}
use Rattle.prefix.proofs.Booleans.{is_false}
use Rattle.prefix.proofs.Order.{⊑_of_eq, ⊑_trans, ⊑_total, ⊑_cases, ⊑_length, below_⊑, below_<}
use Rattle.prefix.proofs.Tests.{contains_⊑, not_⊑, strict_⊑, ⊑_strict}
use Rattle.model.specs.Lists.{any}
use Rattle.model.specs.Routes.{Route}
use Rattle.model.proofs.ListLaws.{in_any, any_in}
use Rattle.trie.specs.Trie.{Kid, Trie, Sound, Branchy, Dense}
use Rattle.trie.specs.Walk.{descent, cell_after, taken, inside_at, inside_beyond, inside_last, inside_from}
use Rattle.trie.specs.Routes.{routes_of}
use Rattle.trie.proofs.Next.{next_below}
use Rattle.trie.proofs.Descent.{under, through}
use Rattle.trie.proofs.Walking.{at_last, Landed, landed_root, landed_below}
use Rattle.trie.proofs.Cutting.{fits_trans}
use Rattle.trie.proofs.Holding.{held_in, in_held}
use Rattle.trie.proofs.NodeSet.{route_below, longest, longest_most}

-- a node that lies strictly inside P
record NodeInside (m : ℕ) (v : Trie) (P : Bits) : Type 0 where
  slot : ℕ
  is_live : slot < m
  inside : P ⊑ v.prefix slot
  longer : length P < length (v.prefix slot)

module _ {m : ℕ} {v : Trie} (S : Sound (Dense m) v) (B : Branchy (Dense m) v) (P : Bits) where
  inside : Bool
  inside = any (λ R. strictly_inside R.prefix P) (routes_of v m)

  inside_node : inside ≡ true → NodeInside m v P
  unfolding inside
  inside_node e =
      let r = any_in (λ (R : Route). strictly_inside R.prefix P) (routes_of v m) e in
      let h = in_held v m r.0 r.1 in
      let k = strict_⊑ r.0.prefix P r.2 in
      record { slot = h.slot; is_live = h.is_live; inside = rw h.is_prefix k.0; longer = rw h.is_prefix k.1 }

  -- below the node there is a route
  node_inside : NodeInside m v P → inside ≡ true
  unfolding inside
  node_inside n =
      let r = route_below S B (longest v m) (longest_most v m) n.slot n.is_live in
      in_any (λ (R : Route). strictly_inside R.prefix P) (held_in v m (record { slot = r.slot; is_live = r.is_live; is_prefix = refl; is_hop = r.is_route }))
      (⊑_strict (⊑_trans n.inside r.below) (omega (arith, n.longer, ⊑_length r.below)))

  node_below : (j : ℕ) {b : Bool} → j < m → Below P b (v.prefix j) → inside ≡ true
  node_below j l h = node_inside (record { slot = j; is_live = l; inside = below_⊑ h; longer = below_< h })

  -- ---- P's own node

  module _ (i : ℕ) (li : i < m) (own : v.prefix i ≡ P) where
    child_inside : (b : Bool) (j : ℕ) → v.child (Kid i b) ≡ some j → inside ≡ true
    child_inside b j e = let p = S.points (Kid i b) j li e in node_below j p.is_live (rw own at p.fits)

    leaf_outside : ((b : Bool) → v.child (Kid i b) ≡ none) → NodeInside m v P → ⊥
    leaf_outside leaf n = let u = under S i n.slot _ li n.is_live (rw (← own) at (next_below n.inside n.longer)) in none-ne-some u.0 (sym (leaf _) ∙ u.1)

    inside_own : inside ≡ inside_at v i
    unfolding inside_at taken
    inside_own = go (v.child (Kid i false)) (v.child (Kid i true)) refl refl
      where
        go : (x y : Option ℕ) → v.child (Kid i false) ≡ x → v.child (Kid i true) ≡ y → inside ≡ (taken x || taken y)
        go (some j) y e f = child_inside false j e
        go none (some j) e f = child_inside true j f
        go none none e f = is_false (λ h. leaf_outside leaf (inside_node h))
          where
            leaf : (b : Bool) → v.child (Kid i b) ≡ none
            leaf false = e
            leaf true = f

  -- ---- no node has the prefix P

  module _ (d : Landed (Dense m) v P (descent v P)) where
    -- what lies inside P is reached through the node beyond, which lies inside P too
    inside_beyond_is : NodeInside m v P → (j : ℕ) × ((descent v P).beyond ≡ some j) × (P ⊑ v.prefix j)
    inside_beyond_is n =
        let t = through S _ n.slot d.inside n.is_live (fits_trans v (cell_after v P (descent v P).last) P (v.prefix n.slot) d.fits n.inside) in
        let e = sym d.child ∙ t.1 in
        (t.0, e, go t.0 e (⊑_total n.inside t.2))
      where
        go : (j : ℕ) → (descent v P).beyond ≡ some j → (P ⊑ v.prefix j) ⊎ (v.prefix j ⊑ P) → P ⊑ v.prefix j
        go j e (inl k) = k
        go j e (inr k) = absurd (not_⊑ (v.prefix j) P (d.out j e) k)

    beyond_inside : (j : ℕ) → (descent v P).beyond ≡ some j → P ⊑ v.prefix j → inside ≡ true
    beyond_inside j e h = go (⊑_cases h)
      where
        go : (P ≡ v.prefix j) ⊎ ((b : Bool) × Below P b (v.prefix j)) → inside ≡ true
        go (inl z) = absurd (not_⊑ (v.prefix j) P (d.out j e) (⊑_of_eq (sym z)))
        go (inr (b, k)) = node_below j (S.points _ j d.inside (d.child ∙ e)).is_live k

    inside_landed : inside ≡ inside_beyond v P (descent v P).beyond
    unfolding inside_beyond
    inside_landed = go (descent v P).beyond refl
      where
        go : (o : Option ℕ) → (descent v P).beyond ≡ o → inside ≡ inside_beyond v P o
        go none e = is_false (λ h. let n = inside_beyond_is (inside_node h) in none-ne-some n.0 (sym e ∙ n.1))
        go (some j) e = sub (contains P (v.prefix j)) refl
          where
            sub : (b : Bool) → contains P (v.prefix j) ≡ b → inside ≡ b
            sub true c = beyond_inside j e (contains_⊑ P (v.prefix j) c)
            sub false c = is_false (λ h. let n = inside_beyond_is (inside_node h) in let z : n.0 ≡ j = cc n.1 in not_⊑ P (v.prefix j) c (rw z at n.2))

  pub descent_inside : any (λ R. strictly_inside R.prefix P) (routes_of v m) ≡ inside_from v P (descent v P)
  unfolding inside inside_from inside_last
  descent_inside = go (descent v P).last refl
    where
      own : (i : ℕ) → (descent v P).last ≡ some i → (b : Bool) → eqb (length (v.prefix i)) (length P) ≡ b → inside ≡ cond b (inside_at v i) (inside_beyond v P (descent v P).beyond)
      own i e true h = let f = at_last S P i e (eqb-true (length (v.prefix i)) (length P) h) in inside_own i f.0 f.1
      own i e false h = inside_landed (landed_below S P i e (eqb-false (length (v.prefix i)) (length P) h))

      go : (o : Option ℕ) → (descent v P).last ≡ o → inside ≡ inside_last v P o (descent v P).beyond
      go none e = inside_landed (landed_root S P e)
      go (some i) e = own i e (eqb (length (v.prefix i)) (length P)) refl
