-- A trie that is not empty has fewer branches than routes. Assumes nothing.
use mathlib.Core.Path.{◌≡◌, refl, sym, ◌∙◌}
use mathlib.Core.Bool.{Bool, true, false, false≢true}
use mathlib.Core.List.Memᴰ
use mathlib.Core.List.{List, [], ◌∷◌, Memᴰ}
use mathlib.Core.Option.{Option, none, some}
use mathlib.Core.Logic.{◌⊎◌, inl, inr}
use Prim.Native.Nat.{ℕ, zero, suc, ◌+◌, ◌*◌, ◌≤◌, ◌<◌}
use native.Mathlib.Nat.{le_refl}
use native.Mathlib.Decide.{dec_lt}
use native.Mathlib.Omega.{arith}
use lib.ListN.{length}
use Rattle.trie.specs.Trie.{Root, Kid, Trie, Sound, Branchy, Dense}
use Rattle.trie.specs.Routes.{and_route, routes_of}
use Rattle.trie.proofs.Descent.{root_least}
use Rattle.trie.proofs.Stores.{kid_slot, kid_side, not_root}
use Rattle.trie.proofs.Pigeonhole.{Distinct, pigeonhole}

-- how many of the slots below n are branches
unfoldable and_branch : Option ℕ → ℕ → ℕ
and_branch none n = suc n
and_branch (some h) n = n

unfoldable branches : (ℕ → Option ℕ) → ℕ → ℕ
branches hop zero = zero
branches hop (suc n) = and_branch (hop n) (branches hop n)

branches_none : (hop : ℕ → Option ℕ) (n : ℕ) → hop n ≡ none → branches hop (suc n) ≡ suc (branches hop n)
unfolding branches and_branch
branches_none hop n e = rw e

branches_some : (hop : ℕ → Option ℕ) (n h : ℕ) → hop n ≡ some h → branches hop (suc n) ≡ branches hop n
unfolding branches and_branch
branches_some hop n h e = rw e

branches_routes : (v : Trie) (n : ℕ) → branches v.hop n + length (routes_of v n) ≡ n
unfolding branches routes_of and_branch and_route
branches_routes v zero = refl
branches_routes v (suc n) = go (v.hop n) (branches_routes v n)
  where
    go : (o : Option ℕ) → branches v.hop n + length (routes_of v n) ≡ n → and_branch o (branches v.hop n) + length (and_route (v.prefix n) o (routes_of v n)) ≡ suc n
    go none e = omega arith
    go (some h) e = omega arith

module _ {m : ℕ} {v : Trie} (S : Sound (Dense m) v) (B : Branchy (Dense m) v) where
  -- j is a child of a slot below n
  record ChildBelow (n j : ℕ) : Type 0 where
    of : ℕ
    side : Bool
    lt : of < n
    child : v.child (Kid of side) ≡ some j

  -- the children of the branch nodes below n: two for each
  record Kids (n : ℕ) : Type 0 where
    all : List ℕ
    distinct : Distinct all
    from : (j : ℕ) → Memᴰ j all → ChildBelow n j
    two : length all ≡ branches v.hop n + branches v.hop n

  up_of : (i j : ℕ) (b : Bool) → i < m → v.child (Kid i b) ≡ some j → v.up j ≡ Kid i b
  up_of i j b l h = (S.points (Kid i b) j l h).back

  -- two cells that point at one slot are one cell
  same_slot : (i a j : ℕ) (b c : Bool) → i < m → a < m → v.child (Kid i b) ≡ some j → v.child (Kid a c) ≡ some j → Kid i b ≡ Kid a c
  same_slot i a j b c li la p q = sym (up_of i j b li p) ∙ up_of a j c la q

  kids : (n : ℕ) → n ≤ m → Kids n
  unfolding branches
  kids zero l = record { all = []; distinct = tt; from = λ j h. absurd (Memᴰ.not-nil h); two = refl }
  kids (suc n) l = go (v.hop n) refl (kids n (omega arith))
    where
      wider : {j : ℕ} → ChildBelow n j → ChildBelow (suc n) j
      wider k = record { of = k.of; side = k.side; lt = omega (arith, k.lt); child = k.child }

      -- a child of n is no child of a slot below n
      apart : (j : ℕ) (b : Bool) → v.child (Kid n b) ≡ some j → ChildBelow n j → ⊥
      apart j b h k = omega (arith, k.lt, kid_slot (same_slot n k.of j b k.side l (omega (arith, k.lt)) h k.child))

      add : v.hop n ≡ none → Kids n → (x y : ℕ) → v.child (Kid n false) ≡ some x → v.child (Kid n true) ≡ some y → Kids (suc n)
      add e k x y p q = record {
        all = x ∷ (y ∷ k.all);
        distinct = (λ h. fresh (Memᴰ.cases_cons h), (λ h. apart y true q (k.from y h), k.distinct));
        from = λ j h. first j (Memᴰ.cases_cons h);
        two = rw (branches_none v.hop n e) (omega (arith, k.two));
      }
        where
          fresh : (x ≡ y) ⊎ Memᴰ x k.all → ⊥
          fresh (inl e) = false≢true (kid_side (same_slot n n x false true l l p (rw e q)))
          fresh (inr h) = apart x false p (k.from x h)

          second : (j : ℕ) → (j ≡ y) ⊎ Memᴰ j k.all → ChildBelow (suc n) j
          second j (inl e) = record { of = n; side = true; lt = omega arith; child = rw e q }
          second j (inr h) = wider (k.from j h)

          first : (j : ℕ) → (j ≡ x) ⊎ Memᴰ j (y ∷ k.all) → ChildBelow (suc n) j
          first j (inl e) = record { of = n; side = false; lt = omega arith; child = rw e p }
          first j (inr h) = second j (Memᴰ.cases_cons h)

      go : (o : Option ℕ) → v.hop n ≡ o → Kids n → Kids (suc n)
      go none e k = let x = B n l e false in let y = B n l e true in add e k x.0 y.0 x.1 y.1
      go (some h) e k = record { all = k.all; distinct = k.distinct; from = λ j h. wider (k.from j h); two = rw (branches_some v.hop n h e) k.two }

  fewer : 0 < m → branches v.hop m < length (routes_of v m)
  fewer pos =
      let r = root_least S 0 pos in
      let k = kids m (le_refl m) in
      let p = pigeonhole m (r.0 ∷ k.all) (λ h. apart r.0 r.1 (k.from r.0 h), k.distinct) (λ a h. below r.0 r.1 k a (Memᴰ.cases_cons h)) in
      omega (arith, branches_routes v m, k.two, p)
    where
      apart : (r : ℕ) → v.child Root ≡ some r → ChildBelow m r → ⊥
      apart r h k = not_root (sym (sym (S.points Root r tt h).back ∙ up_of k.of r k.side k.lt k.child))

      below : (r : ℕ) → v.child Root ≡ some r → (k : Kids m) (a : ℕ) → (a ≡ r) ⊎ Memᴰ a k.all → a < m
      below r h k a (inl e) = rw e (S.points Root r tt h).is_live
      below r h k a (inr i) = let c = k.from a i in (S.points (Kid c.of c.side) a c.lt c.child).is_live

  pub fewer_branches : 0 < m → m < 2 * length (routes_of v m)
  fewer_branches pos = omega (arith, fewer pos, branches_routes v m)

  -- twice as many slots as routes suffice, with two to spare while there is room for one more route
  pub slots_fit : (limit : ℕ) → length (routes_of v m) ≤ limit → m ≤ 2 * limit
  slots_fit limit l = go (dec_lt 0 m)
    where
      go : Dec (0 < m) → m ≤ 2 * limit
      go (yes pos) = omega (arith, fewer_branches pos)
      go (no z) = omega arith

  pub slots_spare : (limit : ℕ) → length (routes_of v m) < limit → m + 2 ≤ 2 * limit
  slots_spare limit l = go (dec_lt 0 m)
    where
      go : Dec (0 < m) → m + 2 ≤ 2 * limit
      go (yes pos) = omega (arith, fewer_branches pos)
      go (no z) = omega arith
