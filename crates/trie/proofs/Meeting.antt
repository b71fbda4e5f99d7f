-- The descent meets every node that contains X, so its best is the deepest route that does. Assumes nothing.
use mathlib.Core.Path.{◌≡◌, refl, sym, ap, ◌∙◌}
use mathlib.Core.Bool.{Bool}
use mathlib.Core.List.Memᴰ
use mathlib.Core.List.{List, ◌∷◌, Memᴰ}
use mathlib.Core.Logic.{◌⊎◌, inl, inr}
use mathlib.Core.Option.{Option, none, some, none-ne-some}
use Prim.Native.Nat.{ℕ, ◌≤◌, ◌<◌}
use native.Mathlib.Nat.{le_refl}
use native.Mathlib.Omega.{arith}
use lib.ListN.{length}
use Rattle.prefix.specs.Bits.{Bits}
use Rattle.prefix.specs.Prefix.{◌⊑◌, Below}
use Rattle.prefix.proofs.Order.{⊑_trans, ⊑_cases, below_<, below_trans}
use Rattle.prefix.proofs.Tests.{contains_⊑}
use Rattle.trie.specs.Trie.{Kid, Trie, Sound}
use Rattle.trie.specs.Walk.{better}
use Rattle.trie.proofs.Descent.{follow_to, follow_inv, inject, root_least, under}
use Rattle.trie.proofs.Walking.{Trail, at_root, past, trail_cursor}

module _ {live : ℕ → Type 0} {v : Trie} (S : Sound live v) (X : Bits) where
  -- the nodes of a trail grow longer
  pub trail_longer : {cursor last best : Option ℕ} {l : List ℕ} → Trail v X cursor last best l → (k j : ℕ) → Memᴰ k l → cursor ≡ some j → length (v.prefix k) < length (v.prefix j)
  trail_longer (at_root e) k j i h = absurd (Memᴰ.not-nil i)
  trail_longer (past {l = l} a t c e) k j i h =
      let f = follow_inv v X a j (contains_⊑ (v.prefix a) X c) (e ∙ h) in
      go (below_< (S.points (Kid a f.0) j (trail_cursor S X t a refl) f.2).fits) (Memᴰ.cases_cons i) (λ m. trail_longer t k a m refl)
    where
      go : length (v.prefix a) < length (v.prefix j) → (k ≡ a) ⊎ Memᴰ k l → (Memᴰ k l → length (v.prefix k) < length (v.prefix a)) → length (v.prefix k) < length (v.prefix j)
      go d (inl z) rec = rw z d
      go d (inr m) rec = omega (arith, rec m)

  -- k is met, or stands at or below the cursor
  Met : Option ℕ → List ℕ → ℕ → Type 0
  Met cursor l k = Memᴰ k l ⊎ ((j : ℕ) × (cursor ≡ some j) × (v.prefix j ⊑ v.prefix k))

  met : {cursor last best : Option ℕ} {l : List ℕ} → Trail v X cursor last best l → (k : ℕ) → live k → v.prefix k ⊑ X → Met cursor l k
  unfolding Met
  met (at_root e) k lk p = let r = root_least S k lk in inr (r.0, sym e ∙ r.1, r.2)
  met (past {cursor = cursor} {l = l} a t c e) k lk p = go (met t k lk p)
    where
      la : live a
      la = trail_cursor S X t a refl

      here : (v.prefix a ≡ v.prefix k) ⊎ ((b : Bool) × Below (v.prefix a) b (v.prefix k)) → Met cursor (a ∷ l) k
      here (inl z) = inl (Memᴰ.head (inject S k a lk la (sym z)))
      here (inr (b, h)) = let u = under S a k b la lk h in inr (u.0, sym e ∙ follow_to v X a (below_trans h p) ∙ u.1, u.2)

      go : Met (some a) l k → Met cursor (a ∷ l) k
      go (inl i) = inl (Memᴰ.tail i)
      go (inr (j, h, q)) = let z : a ≡ j = cc in here (⊑_cases (rw (← z) at q))

  -- at the end all are met: the cursor is none, or its node does not contain X
  pub all_met : {cursor last best : Option ℕ} {l : List ℕ} → Trail v X cursor last best l → ((j : ℕ) → cursor ≡ some j → ¬ (v.prefix j ⊑ X))
      → (k : ℕ) → live k → v.prefix k ⊑ X → Memᴰ k l
  unfolding Met
  all_met {cursor} {l} t end k lk p = go (met t k lk p)
    where
      go : Met cursor l k → Memᴰ k l
      go (inl i) = i
      go (inr (j, e, q)) = absurd (end j e (⊑_trans q p))

  -- the best is a route that contains X
  pub best_route : {cursor last best : Option ℕ} {l : List ℕ} → Trail v X cursor last best l → (r : ℕ) → best ≡ some r → live r × (v.prefix r ⊑ X) × ((h : ℕ) × (v.hop r ≡ some h))
  unfolding better
  best_route (at_root e) r h = absurd (none-ne-some r h)
  best_route (past {best = best} a t c e) r h = go (v.hop a) refl h (λ f. best_route t r f)
    where
      go : (o : Option ℕ) → v.hop a ≡ o → better o a best ≡ some r → (best ≡ some r → live r × (v.prefix r ⊑ X) × ((h : ℕ) × (v.hop r ≡ some h))) → live r × (v.prefix r ⊑ X) × ((h : ℕ) × (v.hop r ≡ some h))
      go none f z rec = rec z
      go (some x) f z rec = let y : a ≡ r = cc in rw (← y) (trail_cursor S X t a refl, contains_⊑ (v.prefix a) X c, (x, f))

  -- and no route that is met is longer
  pub best_longest : {cursor last best : Option ℕ} {l : List ℕ} → Trail v X cursor last best l → (k h : ℕ) → Memᴰ k l → v.hop k ≡ some h → (r : ℕ) × (best ≡ some r) × (length (v.prefix k) ≤ length (v.prefix r))
  unfolding better
  best_longest (at_root e) k h i f = absurd (Memᴰ.not-nil i)
  best_longest (past {best = best} {l = l} a t c e) k h i f = go (v.hop a) refl (Memᴰ.cases_cons i) (λ m. best_longest t k h m f)
    where
      go : (o : Option ℕ) → v.hop a ≡ o → (k ≡ a) ⊎ Memᴰ k l → (Memᴰ k l → (r : ℕ) × (best ≡ some r) × (length (v.prefix k) ≤ length (v.prefix r)))
          → (r : ℕ) × (better o a best ≡ some r) × (length (v.prefix k) ≤ length (v.prefix r))
      go none g (inl z) rec = absurd (none-ne-some h (sym g ∙ ap v.hop (sym z) ∙ f))
      go none g (inr m) rec = rec m
      go (some x) g (inl z) rec = (a, refl, rw z (le_refl _))
      go (some x) g (inr m) rec = (a, refl, omega (arith, trail_longer t k a m refl))
