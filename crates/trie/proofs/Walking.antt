-- The descent: what a step of it does in any trie, that it ends by itself in a sound one, and where it ends. Assumes nothing.
use mathlib.Core.Path.{◌≡◌, refl, sym, ap, ◌∙◌}
use mathlib.Core.Bool.{Bool, true, false}
use mathlib.Core.List.{List, [], ◌∷◌}
use mathlib.Core.Option.{Option, none, some, none-ne-some}
use Prim.Native.Nat.{ℕ, zero, suc, ◌+◌, ◌≤◌, ◌<◌}
use native.Mathlib.Decide.{ℕ_discrete}
use native.Mathlib.Omega.{arith}
use lib.ListN.{length, get_or}
use borrow.Author.Tests.{lt-ltb, le-ltb}
use Rattle.prefix.specs.Bits.{Bits}
use Rattle.prefix.specs.Prefix.{contains, Below}
use Rattle.prefix.proofs.Order.{⊑_length, ⊑_eq, below_<}
use Rattle.prefix.proofs.Tests.{contains_⊑, ⊑_not}
use Rattle.trie.specs.Trie.{Cell, Root, Kid, Trie, Inside, Fits, Sound}
use Rattle.trie.specs.Walk.{Stop, Walking, better, follow, walk, descent, cell_after}
use Rattle.trie.proofs.Next.{next_below}
use Rattle.trie.proofs.Descent.{follow_inv}

-- ---- one step

module _ (v : Trie) (X : Bits) (i : ℕ) where
  pub follow_bit : length (v.prefix i) < length X → follow v X i ≡ v.child (Kid i (get_or X (length (v.prefix i)) false))
  unfolding follow
  follow_bit l = rw (lt-ltb (length (v.prefix i)) (length X) l)

  pub follow_none : length X ≤ length (v.prefix i) → follow v X i ≡ none
  unfolding follow
  follow_none l = rw (le-ltb (length (v.prefix i)) (length X) l)

  -- a node that is longer than X does not contain it
  pub long_out : length X < length (v.prefix i) → contains (v.prefix i) X ≡ false
  long_out l = ⊑_not (λ h. omega (arith, ⊑_length h))

module _ (v : Trie) (X : Bits) (fuel : ℕ) (last best : Option ℕ) (n : ℕ) where
  pub walk_off : walk v X fuel none last best n ≡ record { last = last; beyond = none; best = best; examined = n }
  unfolding walk
  walk_off = go fuel
    where
      go : (f : ℕ) → walk v X f none last best n ≡ record { last = last; beyond = none; best = best; examined = n }
      go zero = refl
      go (suc f) = refl

  pub walk_on : (i : ℕ) → contains (v.prefix i) X ≡ true → walk v X (suc fuel) (some i) last best n ≡ walk v X fuel (follow v X i) (some i) (better (v.hop i) i best) (suc n)
  unfolding walk
  walk_on i e = rw (e, walk)

  pub walk_parted : (i : ℕ) → contains (v.prefix i) X ≡ false → walk v X (suc fuel) (some i) last best n ≡ record { last = last; beyond = some i; best = best; examined = suc n }
  unfolding walk
  walk_parted i e = rw (e, walk)

-- ---- the loop: what is left of the descent gives what all of it gives

module _ (live : ℕ → Type 0) (v : Trie) (X : Bits) where
  pub walking_start : Walking live v X (v.child Root) none none 0
  unfolding descent
  walking_start = record { fuel = suc (length X); counted = omega arith; same = refl; reached = λ S i e. ((S.points Root i tt e).is_live, omega arith, omega arith) }

module _ {live : ℕ → Type 0} {v : Trie} {X : Bits} {last best : Option ℕ} {n : ℕ} where
  pub walking_off : Walking live v X none last best n → descent v X ≡ record { last = last; beyond = none; best = best; examined = n }
  walking_off w = sym w.same ∙ walk_off v X w.fuel last best n

  -- a step is left
  pub more : {cursor : Option ℕ} (w : Walking live v X cursor last best n) → n ≤ length X → (f : ℕ) × (w.fuel ≡ suc f)
  more w l = go w.fuel w.counted
    where
      go : (f : ℕ) → f + n ≡ suc (length X) → (g : ℕ) × (f ≡ suc g)
      go zero e = absurd (omega arith)
      go (suc g) e = (g, refl)

  pub walking_parted : (i : ℕ) → Walking live v X (some i) last best n → n ≤ length X → contains (v.prefix i) X ≡ false
      → descent v X ≡ record { last = last; beyond = some i; best = best; examined = suc n }
  walking_parted i w l e =
      let m = more w l in
      sym w.same ∙ ap (λ (f : ℕ). walk v X f (some i) last best n) m.1 ∙ walk_parted v X m.0 last best n i e

  pub walking_on : (i : ℕ) → Walking live v X (some i) last best n → n ≤ length X → contains (v.prefix i) X ≡ true
      → Walking live v X (follow v X i) (some i) (better (v.hop i) i best) (suc n)
  walking_on i w l e =
      let m = more w l in
      record {
        fuel = m.0;
        counted = omega (arith, m.1, w.counted);
        same = sym (walk_on v X m.0 last best n i e) ∙ ap (λ (f : ℕ). walk v X f (some i) last best n) (sym m.1) ∙ w.same;
        reached = λ S j f. deeper S j (follow_inv v X i j (contains_⊑ (v.prefix i) X e) f);
      }
    where
      deeper : Sound live v → (j : ℕ) → (b : Bool) × Below (v.prefix i) b X × (v.child (Kid i b) ≡ some j) → live j × (suc n ≤ length (v.prefix j)) × (suc n ≤ length X)
      deeper S j (b, h, k) =
          let r = w.reached S i refl in
          let p = S.points (Kid i b) j r.0 k in
          (p.is_live, omega (arith, r.1, below_< p.fits), omega (arith, r.1, below_< h))

-- ---- the nodes that contain X, the last one first

pub data Trail (v : Trie) (X : Bits) : Option ℕ → Option ℕ → Option ℕ → List ℕ → Type 0 where
  at_root : {cursor : Option ℕ} → v.child Root ≡ cursor → Trail v X cursor none none []
  past : {cursor last best : Option ℕ} {l : List ℕ} (i : ℕ) → Trail v X (some i) last best l → contains (v.prefix i) X ≡ true → follow v X i ≡ cursor
      → Trail v X cursor (some i) (better (v.hop i) i best) (i ∷ l)

-- how a descent ends: off the trie, or at a node that does not contain X
pub data Ending (v : Trie) (X : Bits) (s : Stop) : Type 0 where
  off : {last best : Option ℕ} {l : List ℕ} → Trail v X none last best l → s ≡ record { last = last; beyond = none; best = best; examined = length l } → Ending v X s
  parted : {last best : Option ℕ} {l : List ℕ} (i : ℕ) → Trail v X (some i) last best l → contains (v.prefix i) X ≡ false
      → s ≡ record { last = last; beyond = some i; best = best; examined = suc (length l) } → Ending v X s

module _ {live : ℕ → Type 0} {v : Trie} (S : Sound live v) (X : Bits) where
  -- from any point of the way
  ends : (fuel : ℕ) (cursor last best : Option ℕ) (l : List ℕ) → Walking live v X cursor last best (length l) → Trail v X cursor last best l → length l + fuel ≡ suc (length X) → Ending v X (descent v X)
  ends zero none last best l w t e = off t (walking_off w)
  ends zero (some i) last best l w t e = absurd (omega (arith, (w.reached S i refl).2))
  ends (suc fuel) none last best l w t e = off t (walking_off w)
  ends (suc fuel) (some i) last best l w t e = go (contains (v.prefix i) X) refl (λ c. ends fuel c (some i) (better (v.hop i) i best) (i ∷ l))
    where
      room : length l ≤ length X
      room = (w.reached S i refl).2

      go : (b : Bool) → contains (v.prefix i) X ≡ b
          → ((c : Option ℕ) → Walking live v X c (some i) (better (v.hop i) i best) (suc (length l)) → Trail v X c (some i) (better (v.hop i) i best) (i ∷ l) → suc (length l) + fuel ≡ suc (length X) → Ending v X (descent v X))
          → Ending v X (descent v X)
      go true h rec = rec (follow v X i) (walking_on i w room h) (past i t h refl) (omega arith)
      go false h rec = parted i t h (walking_parted i w room h)

  pub ending : Ending v X (descent v X)
  ending = ends (suc (length X)) (v.child Root) none none [] (walking_start live v X) (at_root refl) (omega arith)

  pub trail_cursor : {cursor last best : Option ℕ} {l : List ℕ} → Trail v X cursor last best l → (j : ℕ) → cursor ≡ some j → live j
  trail_cursor (at_root e) j h = (S.points Root j tt (e ∙ h)).is_live
  trail_cursor (past i t c e) j h =
      let f = follow_inv v X i j (contains_⊑ (v.prefix i) X c) (e ∙ h) in
      (S.points (Kid i f.0) j (trail_cursor t i refl) f.2).is_live

  pub trail_last : {cursor last best : Option ℕ} {l : List ℕ} → Trail v X cursor last best l → (i : ℕ) → last ≡ some i → live i × (contains (v.prefix i) X ≡ true)
  trail_last (at_root e) i h = absurd (none-ne-some i h)
  trail_last (past a t c e) i h = let z : a ≡ i = cc in rw (← z) (trail_cursor t a refl, c)

  -- ---- the place where it stops

  -- the last node is X's own
  pub at_last : (i : ℕ) → (descent v X).last ≡ some i → length (v.prefix i) ≡ length X → live i × (v.prefix i ≡ X)
  at_last i h e = go ending
    where
      own : live i × (contains (v.prefix i) X ≡ true) → live i × (v.prefix i ≡ X)
      own (l, c) = (l, ⊑_eq (contains_⊑ (v.prefix i) X c) (omega arith))

      go : Ending v X (descent v X) → live i × (v.prefix i ≡ X)
      go (off t s) = own (trail_last t i (sym (ap (λ (r : Stop). r.last) s) ∙ h))
      go (parted j t c s) = own (trail_last t i (sym (ap (λ (r : Stop). r.last) s) ∙ h))

-- the cell where a descent stopped, and what it points at
pub record Landed (live : ℕ → Type 0) (v : Trie) (X : Bits) (s : Stop) : Type 0 where
  pub inside : Inside live (cell_after v X s.last)
  pub fits : Fits v (cell_after v X s.last) X
  pub child : v.child (cell_after v X s.last) ≡ s.beyond
  pub out : (j : ℕ) → s.beyond ≡ some j → contains (v.prefix j) X ≡ false

module _ {live : ℕ → Type 0} {v : Trie} (S : Sound live v) (X : Bits) where
  stands : {cursor last best : Option ℕ} {l : List ℕ} → Trail v X cursor last best l → ((i : ℕ) → last ≡ some i → ¬ (length (v.prefix i) ≡ length X))
      → Inside live (cell_after v X last) × Fits v (cell_after v X last) X × (v.child (cell_after v X last) ≡ cursor)
  unfolding cell_after
  stands (at_root e) n = (tt, tt, e)
  stands (past i t c e) n =
      let h = contains_⊑ (v.prefix i) X c in
      let l : length (v.prefix i) < length X = omega (arith, ⊑_length h, n i refl) in
      (trail_cursor S X t i refl, next_below h l, sym (follow_bit v X i l) ∙ e)

  -- no node is X's own
  shorter : ((i : ℕ) → (descent v X).last ≡ some i → ¬ (length (v.prefix i) ≡ length X)) → Landed live v X (descent v X)
  shorter n = go (descent v X) (ending S X) n
    where
      go : (s : Stop) → Ending v X s → ((i : ℕ) → s.last ≡ some i → ¬ (length (v.prefix i) ≡ length X)) → Landed live v X s
      go s (off t e) n = rw e (let p = stands t (λ i h. n i (ap (λ (r : Stop). r.last) e ∙ h)) in
          record { inside = p.0; fits = p.1; child = p.2; out = λ j h. absurd (none-ne-some j h) })
      go s (parted i t c e) n = rw e (let p = stands t (λ i h. n i (ap (λ (r : Stop). r.last) e ∙ h)) in
          record { inside = p.0; fits = p.1; child = p.2; out = λ j h. let z : i ≡ j = cc in rw z at c })

  pub landed_root : (descent v X).last ≡ none → Landed live v X (descent v X)
  landed_root e = shorter (λ i h. absurd (none-ne-some i (sym e ∙ h)))

  pub landed_below : (i : ℕ) → (descent v X).last ≡ some i → ¬ (length (v.prefix i) ≡ length X) → Landed live v X (descent v X)
  landed_below i e n = shorter (λ j h. let z : i ≡ j = cc in rw z at n)

-- ---- where a prefix belongs

pub data Place (live : ℕ → Type 0) (v : Trie) (P : Bits) : Type 0 where
  found : (i : ℕ) → live i → v.prefix i ≡ P → Place live v P
  empty : (c : Cell) → Inside live c → Fits v c P → v.child c ≡ none → Place live v P
  above : (c : Cell) (j : ℕ) → Inside live c → Fits v c P → v.child c ≡ some j → contains (v.prefix j) P ≡ false → contains P (v.prefix j) ≡ true → Place live v P
  fork : (c : Cell) (j : ℕ) → Inside live c → Fits v c P → v.child c ≡ some j → contains (v.prefix j) P ≡ false → contains P (v.prefix j) ≡ false → Place live v P

pub place : {live : ℕ → Type 0} {v : Trie} → Sound live v → (P : Bits) → Place live v P
place {live} {v} S P = last (descent v P).last refl
  where
    cell : Landed live v P (descent v P) → Place live v P
    cell d = go (descent v P).beyond refl
      where
        go : (o : Option ℕ) → (descent v P).beyond ≡ o → Place live v P
        go none e = empty _ d.inside d.fits (d.child ∙ e)
        go (some j) e = sub (contains P (v.prefix j)) refl
          where
            sub : (b : Bool) → contains P (v.prefix j) ≡ b → Place live v P
            sub true h = above _ j d.inside d.fits (d.child ∙ e) (d.out j e) h
            sub false h = fork _ j d.inside d.fits (d.child ∙ e) (d.out j e) h

    own : (i : ℕ) → (descent v P).last ≡ some i → Dec (length (v.prefix i) ≡ length P) → Place live v P
    own i e (yes z) = let f = at_last S P i e z in found i f.0 f.1
    own i e (no n) = cell (landed_below S P i e n)

    last : (o : Option ℕ) → (descent v P).last ≡ o → Place live v P
    last none e = cell (landed_root S P e)
    last (some i) e = own i e (ℕ_discrete (length (v.prefix i)) (length P))
