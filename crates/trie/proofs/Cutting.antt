-- One node less: a node with at most one child is taken out, and its child (if any) takes its cell. Assumes nothing.
use mathlib.Core.Path.{◌≡◌, refl, sym, ap, ◌∙◌}
use mathlib.Core.Bool.{Bool}
use mathlib.Core.Option.{Option, none, some, none-ne-some, some-ne-none}
use Prim.Native.Nat.{ℕ}
use native.Mathlib.Decide.{ℕ_discrete}
use native.Mathlib.Omega.{arith}
use lib.ListN.{length}
use Rattle.prefix.specs.Bits.{Bits}
use Rattle.prefix.specs.Prefix.{◌⊑◌}
use Rattle.prefix.proofs.Order.{below_⊑, below_<, below_trans}
use Rattle.trie.specs.Trie.{Cell, Root, Kid, Trie, Inside, Fits, Points, Owned, Sound, Held}
use Rattle.trie.specs.Updates.{cell_dec}
use Rattle.trie.proofs.Descent.{inject}

pub option_dec : (x y : Option ℕ) → Dec (x ≡ y)
option_dec none none = yes refl
option_dec none (some y) = no (none-ne-some y)
option_dec (some x) none = no (some-ne-none x)
option_dec (some x) (some y) = go (ℕ_discrete x y)
  where
    go : Dec (x ≡ y) → Dec (◌≡◌ {A = Option ℕ} (some x) (some y))
    go (yes e) = yes (cc)
    go (no n) = no (λ e. n (cc))

-- w is v less the node n, whose one child (if any) is kid
pub record Cut (live live' : ℕ → Type 0) (v w : Trie) (n : ℕ) (kid : Option ℕ) : Type 0 where
  pub live_old : (a : ℕ) → live a → ¬ (a ≡ n) → live' a
  pub live_inv : (a : ℕ) → live' a → live a
  pub live_gone : ¬ live' n
  pub prefix_old : (a : ℕ) → live' a → w.prefix a ≡ v.prefix a
  pub hop_old : (a : ℕ) → live' a → w.hop a ≡ v.hop a
  pub only : (b : Bool) (j : ℕ) → v.child (Kid n b) ≡ some j → kid ≡ some j
  pub kid_side : (j : ℕ) → kid ≡ some j → (b : Bool) × (v.child (Kid n b) ≡ some j)
  pub kid_up : (j : ℕ) → kid ≡ some j → w.up j ≡ v.up n
  pub up_old : (a : ℕ) → live' a → ¬ (kid ≡ some a) → w.up a ≡ v.up a
  pub child_cell : w.child (v.up n) ≡ kid
  pub child_old : (e : Cell) → Inside live' e → ¬ (e ≡ v.up n) → w.child e ≡ v.child e

pub fits_trans : (v : Trie) (c : Cell) (p q : Bits) → Fits v c p → p ⊑ q → Fits v c q
fits_trans v Root p q f h = tt
fits_trans v (Kid i b) p q f h = below_trans f h

module _ {live live' : ℕ → Type 0} {v w : Trie} {n : ℕ} {kid : Option ℕ} (S : Sound live v) (ln : live n) (k : Cut live live' v w n kid) where
  inside_inv : (e : Cell) → Inside live' e → Inside live e
  inside_inv Root i = tt
  inside_inv (Kid a b) i = k.live_inv a i

  fits_old : (e : Cell) (p : Bits) → Inside live' e → Fits v e p → Fits w e p
  fits_old Root p i f = tt
  fits_old (Kid a b) p i f = rw (k.prefix_old a i) f

  -- n's cell
  on : Owned live v n
  on = S.owned n ln

  pn : Points live v (v.up n) n
  pn = S.points (v.up n) n on.inside on.child

  -- a cell in use that is none of n's is in use still
  inside_old : (e : Cell) → Inside live e → ((b : Bool) → ¬ (e ≡ Kid n b)) → Inside live' e
  inside_old Root i ne = tt
  inside_old (Kid a b) i ne = k.live_old a i (λ z. ne b (cc))

  -- n's cell is none of its own
  up_not_own : (b : Bool) → ¬ (v.up n ≡ Kid n b)
  up_not_own b z = let f : Fits v (Kid n b) (v.prefix n) = rw z at pn.fits in omega (arith, below_< f)

  child : (j : ℕ) → kid ≡ some j → (b : Bool) × (v.child (Kid n b) ≡ some j) × Points live v (Kid n b) j × live' j
  child j e =
      let s = k.kid_side j e in
      let p = S.points (Kid n s.0) j ln s.1 in
      (s.0, s.1, p, k.live_old j p.is_live (λ z. omega (arith, below_< p.fits, ap (λ (x : ℕ). length (v.prefix x)) z)))

  points : (e : Cell) (j : ℕ) → Inside live' e → w.child e ≡ some j → Dec (e ≡ v.up n) → Points live' w e j
  points e j i h (yes z) =
      let q : kid ≡ some j = sym k.child_cell ∙ ap w.child (sym z) ∙ h in
      let c = child j q in
      record {
        is_live = c.3;
        back = k.kid_up j q ∙ sym z;
        fits = rw (k.prefix_old j c.3) (fits_old e (v.prefix j) i (fits_trans v e (v.prefix n) (v.prefix j) (rw z pn.fits) (below_⊑ c.2.fits)));
      }
  points e j i h (no ne) =
      let p = S.points e j (inside_inv e i) (sym (k.child_old e i ne) ∙ h) in
      let l = k.live_old j p.is_live (λ z. ne (sym p.back ∙ ap v.up z)) in
      record {
        is_live = l;
        back = k.up_old j l (λ q. own p q) ∙ p.back;
        fits = rw (k.prefix_old j l) (fits_old e (v.prefix j) i p.fits);
      }
    where
      own : Points live v e j → kid ≡ some j → ⊥
      own p q = let c = child j q in let z : e ≡ Kid n c.0 = sym p.back ∙ c.2.back in k.live_gone (rw z at i)

  owned : (a : ℕ) → live' a → Dec (kid ≡ some a) → Owned live' w a
  owned a l (yes q) =
      let u = k.kid_up a q in
      record { inside = rw u (inside_old (v.up n) on.inside up_not_own); child = rw u (k.child_cell ∙ q) }
  owned a l (no ne) =
      let o = S.owned a (k.live_inv a l) in
      let u = k.up_old a l ne in
      let i = inside_old (v.up a) o.inside (λ b z. ne (k.only b a (rw z at o.child))) in
      record { inside = rw u i; child = rw u (k.child_old (v.up a) i (other o) ∙ o.child) }
    where
      other : Owned live v a → ¬ (v.up a ≡ v.up n)
      other o z = let y : a ≡ n = cc (o.child, on.child) in k.live_gone (rw y at l)

  pub cut_sound : Sound live' w
  cut_sound = record { points = λ e j i h. points e j i h (cell_dec e (v.up n)); owned = λ a l. owned a l (option_dec kid (some a)) }

  -- what is held: all but what n held
  pub cut_held : {p : Bits} {h : ℕ} → (r : Held live v p h) → ¬ (r.slot ≡ n) → Held live' w p h
  cut_held r ne =
      let l = k.live_old r.slot r.is_live ne in
      record { slot = r.slot; is_live = l; is_prefix = k.prefix_old r.slot l ∙ r.is_prefix; is_hop = k.hop_old r.slot l ∙ r.is_hop }

  pub cut_held_inv : {p : Bits} {h : ℕ} → Held live' w p h → Held live v p h × (¬ (p ≡ v.prefix n))
  cut_held_inv {p} {h} r =
      let l = k.live_inv r.slot r.is_live in
      let e = sym (k.prefix_old r.slot r.is_live) ∙ r.is_prefix in (
        record { slot = r.slot; is_live = l; is_prefix = e; is_hop = sym (k.hop_old r.slot r.is_live) ∙ r.is_hop },
        λ y. let z : r.slot ≡ n = inject S r.slot n l ln (e ∙ y) in k.live_gone (rw z at r.is_live),
      )

  -- a cell that is not empty is not emptied, if n had a child or the cell was not n's
  pub cut_full : (e : Cell) (j : ℕ) → Inside live' e → v.child e ≡ some j → (e ≡ v.up n → (c : ℕ) × (kid ≡ some c)) → (x : ℕ) × (w.child e ≡ some x)
  cut_full e j i h f = go (cell_dec e (v.up n))
    where
      go : Dec (e ≡ v.up n) → (x : ℕ) × (w.child e ≡ some x)
      go (yes z) = let c = f z in (c.0, ap w.child z ∙ k.child_cell ∙ c.1)
      go (no ne) = (j, k.child_old e i ne ∙ h)
