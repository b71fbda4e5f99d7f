-- What a descent tells of the routes that the trie holds: the match, the nodes examined, and the routes' part of the length that a
-- miss stores. Assumes nothing.
use mathlib.Core.Path.{◌≡◌, refl, sym, ap, ◌∙◌}
use mathlib.Core.Bool.{Bool, true, false}
use mathlib.Core.List.Memᴰ
use mathlib.Core.List.{List, [], ◌∷◌, map, Memᴰ}
use mathlib.Core.Logic.{◌⊎◌, inl, inr}
use mathlib.Core.Option.{Option, none, some, none-ne-some}
use Prim.Native.Nat.{ℕ, suc, ◌≤◌, ◌<◌}
use native.Mathlib.Nat.{le_refl}
use native.Mathlib.Decide.{dec_le}
use native.Mathlib.Omega.{arith}
use lib.ListN.{length, take, length-map}
use Rattle.prefix.specs.Bits.{Bits}
use Rattle.prefix.specs.Prefix.{contains, common, ◌⊑◌, ⊑nil, ⊑cons, Below, here, there}
use Rattle.prefix.proofs.Booleans.{is_false}
use Rattle.prefix.proofs.Order.{⊑_length, ⊑_trans, below_⊑, below_<, below_trans, below_by_length}
use Rattle.prefix.proofs.Common.{common_le, shared_length, shared_left, shared_right, below_shared}
use Rattle.prefix.proofs.Tests.{contains_⊑, ⊑_contains, not_⊑, strict_⊑, ⊑_strict}
use Rattle.model.specs.Lists.{◌∈◌}
use Rattle.model.specs.Routes.{Route, Table, match}
use Rattle.model.specs.Nodes.{nodes, examined}
use Rattle.model.specs.Model.{new_length}
use Rattle.model.specs.Demands.{NoLonger, Longest}
use Rattle.model.proofs.Match.{one_each, match_longest, longest_match}
use Rattle.model.proofs.NodeLaws.{Above, examined_none}
use Rattle.model.proofs.Visit.{Child, Visited, Ahead, visited_count}
use Rattle.model.proofs.Visit as visit
use Rattle.model.proofs.Descent.{new_next, new_turn, new_leaf}
use Rattle.trie.specs.Trie.{Root, Kid, Trie, Sound, Branchy, Dense, Held}
use Rattle.trie.specs.Walk.{Stop, follow, descent, length_at, length_from, new_from}
use Rattle.trie.specs.Routes.{routes_of}
use Rattle.trie.proofs.Next.{next_below}
use Rattle.trie.proofs.Descent.{follow_to, follow_inv, root_least, under}
use Rattle.trie.proofs.Walking.{Trail, at_root, past, Ending, off, parted, ending, trail_cursor}
use Rattle.trie.proofs.Meeting.{trail_longer, all_met, best_route, best_longest}
use Rattle.trie.proofs.Holding.{held_in, in_held, routes_distinct}
use Rattle.trie.proofs.NodeSet.{route_below, longest, longest_most, node_slot, slot_node}

-- two lists that go on from p with one bit agree that far
turn : {p q x : Bits} {b : Bool} → Below p b q → Below p b x → take (suc (length p)) q ⊑ x
turn (here e) (here f) = ⊑cons (sym e ∙ f) ⊑nil
turn (there e h) (there f g) = ⊑cons (sym e ∙ f) (turn h g)

turned : {p q x : Bits} {b : Bool} → Below p b q → take (suc (length p)) q ⊑ x → Below p b x
turned (here e) (⊑cons f k) = here (e ∙ f)
turned (there e h) (⊑cons f k) = there (e ∙ f) (turned h k)

-- no route where nothing is in a list
nothing_in : (t : Table) → ((R : Route) → R ∈ t → ⊥) → t ≡ []
nothing_in [] n = refl
nothing_in (R ∷ t) n = absurd (n R (Memᴰ.head refl))

module _ {m : ℕ} {v : Trie} (S : Sound (Dense m) v) (X : Bits) where
  -- how a descent ends, in one form
  record Ended : Type 0 where
    last : Option ℕ
    best : Option ℕ
    met : List ℕ
    trail : Trail v X (descent v X).beyond last best met
    is_last : (descent v X).last ≡ last
    is_best : (descent v X).best ≡ best
    out : (j : ℕ) → (descent v X).beyond ≡ some j → ¬ (v.prefix j ⊑ X)

  ended : Ended
  ended = go (ending S X)
    where
      go : Ending v X (descent v X) → Ended
      go (off {last = last} {best = best} {l = l} t s) =
          let b : (descent v X).beyond ≡ none = ap (λ (r : Stop). r.beyond) s in
          record {
            last = last;
            best = best;
            met = l;
            trail = rw b t;
            is_last = ap (λ (r : Stop). r.last) s;
            is_best = ap (λ (r : Stop). r.best) s;
            out = λ j e. absurd (none-ne-some j (sym b ∙ e));
          }
      go (parted {last = last} {best = best} {l = l} i t c s) =
          let b : (descent v X).beyond ≡ some i = ap (λ (r : Stop). r.beyond) s in
          record {
            last = last;
            best = best;
            met = l;
            trail = rw b t;
            is_last = ap (λ (r : Stop). r.last) s;
            is_best = ap (λ (r : Stop). r.best) s;
            out = λ j e. let z : i ≡ j = cc (b, e) in not_⊑ (v.prefix j) X (rw z at c);
          }

  -- a route that contains X is met
  route_met : (R : Route) → R ∈ routes_of v m → contains R.prefix X ≡ true → (r : Held (Dense m) v R.prefix R.hop) × Memᴰ r.slot ended.met
  route_met R i c =
      let r = in_held v m R i in
      (r, all_met S X ended.trail ended.out r.slot r.is_live (rw r.is_prefix (contains_⊑ R.prefix X c)))

  -- ---- the match

  pub descent_best : (i : ℕ) → (descent v X).best ≡ some i → (i < m) × (v.prefix i ⊑ X) × ((h : ℕ) × (v.hop i ≡ some h))
  descent_best i e = best_route S X ended.trail i (sym ended.is_best ∙ e)

  pub descent_match : (i h : ℕ) → (descent v X).best ≡ some i → v.hop i ≡ some h → match (routes_of v m) X ≡ some (record { prefix = v.prefix i; hop = h })
  descent_match i h e f = longest_match (routes_of v m) X (one_each (routes_distinct S)) (record {
    is_route = held_in v m (record { slot = i; is_live = b.0; is_prefix = refl; is_hop = f });
    covers = ⊑_contains b.1;
    longest = λ R k c. go R (route_met R k c);
  })
    where
      b : (i < m) × (v.prefix i ⊑ X) × ((h : ℕ) × (v.hop i ≡ some h))
      b = descent_best i e

      go : (R : Route) → (r : Held (Dense m) v R.prefix R.hop) × Memᴰ r.slot ended.met → length R.prefix ≤ length (v.prefix i)
      go R (r, k) =
          let l = best_longest S X ended.trail r.slot R.hop k r.is_hop in
          let z : l.0 ≡ i = cc (l.1, ended.is_best, e) in
          omega (arith, l.2, ap length r.is_prefix, ap (λ (x : ℕ). length (v.prefix x)) z)

  pub descent_drop : (descent v X).best ≡ none → match (routes_of v m) X ≡ none
  descent_drop e = go (match (routes_of v m) X) refl
    where
      go : (o : Option Route) → match (routes_of v m) X ≡ o → o ≡ none
      go none f = refl
      go (some M) f =
          let L = match_longest (routes_of v m) X f in
          let r = route_met M L.is_route L.covers in
          let l = best_longest S X ended.trail r.0.slot M.hop r.1 r.0.is_hop in
          absurd (none-ne-some l.0 (sym e ∙ ended.is_best ∙ l.1))

  -- ---- the nodes examined

  module _ (B : Branchy (Dense m) v) where
    -- a node that goes on from i as X does is reached by following X
    followed : (i : ℕ) (b : Bool) (u : Bits) → i < m → Below (v.prefix i) b X → u ∈ nodes (routes_of v m) → Below (v.prefix i) b u → (j : ℕ) × (follow v X i ≡ some j) × (v.prefix j ⊑ u)
    followed i b u l p k h =
        let s = node_slot S u k in
        let t = under S i s.0 b l s.1 (rw s.2 h) in
        (t.0, follow_to v X i p ∙ t.1, rw s.2 at t.2)

    visited : {cursor last best : Option ℕ} {l : List ℕ} → Trail v X cursor last best l → (j : ℕ) → cursor ≡ some j → Visited (routes_of v m) X (v.prefix j ∷ map v.prefix l)
    visited (at_root e) j h = visit.at_root (slot_node S B j (S.points Root j tt (e ∙ h)).is_live) (λ u a. first u a)
      where
        first : (u : Bits) → Above (routes_of v m) (v.prefix j) u → ⊥
        first u (k, p, l) =
            let s = node_slot S u k in
            let r = root_least S s.0 s.1 in
            let z : r.0 ≡ j = cc r.1 in
            omega (arith, ⊑_length r.2, ap length s.2, ap (λ (x : ℕ). length (v.prefix x)) z)
    visited (past i t c e) j h = visit.at_child (visited t i refl) (child (follow_inv v X i j (contains_⊑ (v.prefix i) X c) (e ∙ h)))
      where
        li : i < m
        li = trail_cursor S X t i refl

        child : (b : Bool) × Below (v.prefix i) b X × (v.child (Kid i b) ≡ some j) → Child (routes_of v m) X (v.prefix i) (v.prefix j)
        child (b, p, k) =
            let q = S.points (Kid i b) j li k in
            record {
              inside = contains_⊑ (v.prefix i) X c;
              is_node = slot_node S B j q.is_live;
              below = below_⊑ q.fits;
              longer = below_< q.fits;
              turns = turn q.fits p;
              between = λ u a. between u a q.fits (dec_le (length u) (length (v.prefix i)));
            }
          where
            between : (u : Bits) → Above (routes_of v m) (v.prefix j) u → Below (v.prefix i) b (v.prefix j) → Dec (length u ≤ length (v.prefix i)) → length u ≤ length (v.prefix i)
            between u a q (yes l) = l
            between u (n, s, l) q (no g) =
                let f = followed i b u li p n (below_by_length q s (omega arith)) in
                let z : f.0 ≡ j = cc f.1 in
                absurd (omega (arith, ⊑_length f.2, ap (λ (x : ℕ). length (v.prefix x)) z))

    pub descent_examined : NoLonger (length X) (routes_of v m) → examined (routes_of v m) X ≡ (descent v X).examined
    descent_examined s = go (ending S X)
      where
        count : {x : Bits} (l : List ℕ) → Visited (routes_of v m) X (x ∷ map v.prefix l) → ((y : Bits) → y ∈ nodes (routes_of v m) → Ahead X x y → ⊥) → examined (routes_of v m) X ≡ suc (length l)
        count l D end = visited_count (routes_of v m) X s D end ∙ ap suc (length-map l v.prefix)

        last : {last best : Option ℕ} {l : List ℕ} → Trail v X none last best l → examined (routes_of v m) X ≡ length l
        last (at_root e) =
            let t : routes_of v m ≡ [] = nothing_in (routes_of v m) (λ R i. let r = root_least S (in_held v m R i).slot (in_held v m R i).is_live in none-ne-some r.0 (sym e ∙ r.1)) in
            ap (λ (x : Table). examined x X) t ∙ examined_none X
        last (past {l = l} i t c e) = count l (visited t i refl) (λ y k a. end y k a)
          where
            end : (y : Bits) → y ∈ nodes (routes_of v m) → Ahead X (v.prefix i) y → ⊥
            end y k a =
                let b = next_below a.below a.longer in
                let f = followed i _ y (trail_cursor S X t i refl) (turned b a.turns) k b in
                none-ne-some f.0 (sym e ∙ f.1)

        go : Ending v X (descent v X) → examined (routes_of v m) X ≡ (descent v X).examined
        go (off t s) = last t ∙ sym (ap (λ (r : Stop). r.examined) s)
        go (parted {l = l} i t c s) =
            count l (visited t i refl) (λ y k a. not_⊑ (v.prefix i) X c (below_⊑ (turned (next_below a.below a.longer) a.turns))) ∙ sym (ap (λ (r : Stop). r.examined) s)

    -- ---- the length

    module _ (M : Route) (e : match (routes_of v m) X ≡ some M) where
      L : Longest (routes_of v m) X M
      L = match_longest (routes_of v m) X e

      -- i is the last node that contains X
      module _ {cursor last best : Option ℕ} {l : List ℕ} (i : ℕ) (t : Trail v X (some i) last best l) (c : contains (v.prefix i) X ≡ true) (f : follow v X i ≡ cursor) (out : (j : ℕ) → cursor ≡ some j → ¬ (v.prefix j ⊑ X)) where
        li : i < m
        li = trail_cursor S X t i refl

        iX : v.prefix i ⊑ X
        iX = contains_⊑ (v.prefix i) X c

        deep : (u : Bits) → u ∈ nodes (routes_of v m) → u ⊑ X → length u ≤ length (v.prefix i)
        deep u k h = let s = node_slot S u k in go s.2 (Memᴰ.cases_cons (all_met S X (past i t c f) out s.0 s.1 (rw s.2 h)))
          where
            go : {k : ℕ} → v.prefix k ≡ u → (k ≡ i) ⊎ Memᴰ k l → length u ≤ length (v.prefix i)
            go z (inl y) = rw (← z, y) (le_refl _)
            go {k} z (inr n) = omega (arith, trail_longer S X t k i n refl, ap length z)

        node_of : (R : Route) → R ∈ routes_of v m → R.prefix ∈ nodes (routes_of v m)
        node_of R k = let r = in_held v m R k in rw r.is_prefix at (slot_node S B r.slot r.is_live)

        -- the descent parts from X below i
        next : (j : ℕ) → cursor ≡ some j → new_length (routes_of v m) [] X M ≡ suc (common X (v.prefix j))
        next j h =
            let g = follow_inv v X i j iX (f ∙ h) in
            let p = S.points (Kid i g.0) j li g.2 in
            new_next (routes_of v m) X M L (v.prefix i) iX deep (v.prefix j) (slot_node S B j p.is_live) (out j h) (omega (arith, below_< (below_shared g.1 p.fits), shared_length X (v.prefix j)))

        module _ (stop : cursor ≡ none) where
          -- no node goes on from i as X does
          none_follows : (b : Bool) (u : Bits) → u ∈ nodes (routes_of v m) → Below (v.prefix i) b X → Below (v.prefix i) b u → ⊥
          none_follows b u k p h = let g = followed i b u li p k h in none-ne-some g.0 (sym stop ∙ sym f ∙ g.1)

          near : (R : Route) → R ∈ routes_of v m → contains R.prefix X ≡ false → common X R.prefix ≤ length (v.prefix i)
          near R k o = go (dec_le (common X R.prefix) (length (v.prefix i)))
            where
              go : Dec (common X R.prefix ≤ length (v.prefix i)) → common X R.prefix ≤ length (v.prefix i)
              go (yes h) = h
              go (no h) =
                  let b = next_below iX (omega (arith, common_le X R.prefix)) in
                  let y = below_by_length b (shared_left X R.prefix) (omega (arith, shared_length X R.prefix)) in
                  absurd (none_follows _ R.prefix (node_of R k) b (below_trans y (shared_right X R.prefix)))

          turns : (b : Bool) (j : ℕ) → v.child (Kid i b) ≡ some j → new_length (routes_of v m) [] X M ≡ suc (length (v.prefix i))
          turns b j h =
              let p = S.points (Kid i b) j li h in
              let r = route_below S B (longest v m) (longest_most v m) j p.is_live in
              new_turn (routes_of v m) X M L (v.prefix i) iX deep near (record { prefix = v.prefix r.slot; hop = r.value })
              (held_in v m (record { slot = r.slot; is_live = r.is_live; is_prefix = refl; is_hop = r.is_route })) (⊑_strict (⊑_trans (below_⊑ p.fits) r.below) (omega (arith, below_< p.fits, ⊑_length r.below)))

          ends : v.child (Kid i false) ≡ none → v.child (Kid i true) ≡ none → new_length (routes_of v m) [] X M ≡ length (v.prefix i)
          ends left right = (new_leaf (routes_of v m) X M L (v.prefix i) iX deep (slot_node S B i li) (λ R k. is_false (λ h. inside R k (strict_⊑ R.prefix (v.prefix i) h)))).1
            where
              leaf : (b : Bool) → v.child (Kid i b) ≡ none
              leaf false = left
              leaf true = right

              below : (R : Route) → Held (Dense m) v R.prefix R.hop → {b : Bool} → Below (v.prefix i) b R.prefix → ⊥
              below R r {b} h = let u = under S i r.slot b li r.is_live (rw r.is_prefix h) in none-ne-some u.0 (sym (leaf b) ∙ u.1)

              inside : (R : Route) → R ∈ routes_of v m → (v.prefix i ⊑ R.prefix) × (length (v.prefix i) < length R.prefix) → ⊥
              inside R k (p, n) = below R (in_held v m R k) (next_below p n)

          stored : new_length (routes_of v m) [] X M ≡ length_at v i (v.child (Kid i false)) (v.child (Kid i true))
          unfolding length_at
          stored = go (v.child (Kid i false)) (v.child (Kid i true)) refl refl
            where
              go : (x y : Option ℕ) → v.child (Kid i false) ≡ x → v.child (Kid i true) ≡ y → new_length (routes_of v m) [] X M ≡ length_at v i x y
              go none none a b = ends a b
              go none (some r) a b = turns true r b
              go (some j) y a b = turns false j a

      pub descent_new : new_length (routes_of v m) [] X M ≡ new_from v X (descent v X)
      unfolding new_from length_from
      descent_new = rw ended.is_last (go ended.trail ended.out (route_met M L.is_route L.covers).1)
        where
          go : {cursor last best : Option ℕ} {l : List ℕ} {k : ℕ} → Trail v X cursor last best l → ((j : ℕ) → cursor ≡ some j → ¬ (v.prefix j ⊑ X)) → Memᴰ k l → new_length (routes_of v m) [] X M ≡ length_from v X last cursor
          go (at_root f) out k = absurd (Memᴰ.not-nil k)
          go (past {cursor = cursor} i t c f) out k = sub cursor refl
            where
              sub : (o : Option ℕ) → cursor ≡ o → new_length (routes_of v m) [] X M ≡ length_from v X (some i) o
              sub none h = stored i t c f out h
              sub (some j) h = next i t c f out j h
