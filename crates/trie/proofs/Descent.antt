-- The descent by the bits of an address, on a sound trie: it meets every live node whose prefix contains the address. Assumes nothing.
use mathlib.Core.Path.{◌≡◌, refl, ap, ◌∙◌}
use mathlib.Core.Bool.{Bool, true, false, cond}
use mathlib.Core.Option.{Option, none, some, none-ne-some}
use Prim.Native.Nat.{ℕ, zero, suc, ◌+◌, ◌-◌, ◌≤◌, ◌<◌}
use native.Mathlib.Nat.{not-suc-le-zero, le_refl, zero-add, suc-add, add-zero}
use native.Mathlib.Decide.{dec_le}
use native.Mathlib.Omega.{arith}
use lib.ListN.{length, get_or}
use lib.Dec.{ltb}
use borrow.Author.Tests.{ltb-true, lt-ltb}
use Rattle.prefix.specs.Bits.{Bits}
use Rattle.prefix.specs.Prefix.{contains, ◌⊑◌, Below}
use Rattle.prefix.proofs.Order.{⊑_refl, ⊑_of_eq, ⊑_trans, below_⊑, below_<, below_trans, below_bit}
use Rattle.prefix.proofs.Tests.{contains_⊑, ⊑_contains}
use Rattle.trie.specs.Trie.{Cell, Root, Kid, Trie, Inside, Fits, Sound}
use Rattle.trie.specs.Walk.{follow}
use Rattle.trie.proofs.Next.{next_below, below_next}

pub follow_to : (v : Trie) (X : Bits) (i : ℕ) {b : Bool} → Below (v.prefix i) b X → follow v X i ≡ v.child (Kid i b)
unfolding follow
follow_to v X i h = rw (lt-ltb (length (v.prefix i)) (length X) (below_< h), below_next h)

pub follow_inv : (v : Trie) (X : Bits) (i j : ℕ) → v.prefix i ⊑ X → follow v X i ≡ some j → (b : Bool) × Below (v.prefix i) b X × (v.child (Kid i b) ≡ some j)
unfolding follow
follow_inv v X i j p h = go (ltb (length (v.prefix i)) (length X)) refl h
  where
    next : Bool
    next = get_or X (length (v.prefix i)) false

    go : (t : Bool) → ltb (length (v.prefix i)) (length X) ≡ t → cond t (v.child (Kid i next)) none ≡ some j → (b : Bool) × Below (v.prefix i) b X × (v.child (Kid i b) ≡ some j)
    go true e h = (next, next_below p (ltb-true (length (v.prefix i)) (length X) e), h)
    go false e h = absurd (none-ne-some j h)

-- the node that the descent by X's bits reaches at depth d
onward : Trie → Bits → Option ℕ → Option ℕ
onward v X none = none
onward v X (some i) = cond (contains (v.prefix i) X) (follow v X i) none

unfoldable path : Trie → Bits → ℕ → Option ℕ
unfolding onward
path v X zero = v.child Root
path v X (suc d) = onward v X (path v X d)

-- the node at depth d + 1 is a child of the node at depth d
record Step (v : Trie) (X : Bits) (d k : ℕ) : Type 0 where
  from : ℕ
  bit : Bool
  is : path v X d ≡ some from
  goes : Below (v.prefix from) bit X
  to : v.child (Kid from bit) ≡ some k

path_step : (v : Trie) (X : Bits) (d k : ℕ) → path v X (suc d) ≡ some k → Step v X d k
unfolding path onward
path_step v X d k h = go (path v X d) refl h
  where
    on : (i : ℕ) → path v X d ≡ some i → (t : Bool) → contains (v.prefix i) X ≡ t → cond t (follow v X i) none ≡ some k → Step v X d k
    on i e true c h = let f = follow_inv v X i k (contains_⊑ (v.prefix i) X c) h in record { from = i; bit = f.0; is = e; goes = f.1; to = f.2 }
    on i e false c h = absurd (none-ne-some k h)

    go : (o : Option ℕ) → path v X d ≡ o → onward v X o ≡ some k → Step v X d k
    go none e h = absurd (none-ne-some k h)
    go (some i) e h = on i e (contains (v.prefix i) X) refl h

module _ {live : ℕ → Type 0} {v : Trie} (S : Sound live v) where
  -- a node's parent is live
  pub up_live : (i p : ℕ) (b : Bool) → live i → v.up i ≡ Kid p b → live p
  up_live i p b l u = rw u at (S.owned i l).inside

  -- every live node whose prefix X has is on the path
  reached : (X : Bits) (n i : ℕ) → live i → v.prefix i ⊑ X → length (v.prefix i) < n → (d : ℕ) × (path v X d ≡ some i)
  unfolding path onward
  reached X zero i l p h = absurd (not-suc-le-zero h)
  reached X (suc n) i l p h =
      let o = S.owned i l in
      go (v.up i) o.inside o.child (S.points (v.up i) i o.inside o.child).fits (λ q. reached X n q)
    where
      go : (c : Cell) → Inside live c → v.child c ≡ some i → Fits v c (v.prefix i)
          → ((q : ℕ) → live q → v.prefix q ⊑ X → length (v.prefix q) < n → (d : ℕ) × (path v X d ≡ some q)) → (d : ℕ) × (path v X d ≡ some i)
      go Root u e f rec = (zero, e)
      go (Kid q b) u e f rec =
          let r = rec q u (⊑_trans (below_⊑ f) p) (omega (arith, below_< f)) in
          (suc r.0, rw (r.1, ⊑_contains (⊑_trans (below_⊑ f) p)) (follow_to v X q (below_trans f p) ∙ e))

  on_path : (X : Bits) (i : ℕ) → live i → v.prefix i ⊑ X → (d : ℕ) × (path v X d ≡ some i)
  on_path X i l p = reached X (suc (length (v.prefix i))) i l p (le_refl _)

  path_live : (X : Bits) (d i : ℕ) → path v X d ≡ some i → live i
  unfolding path
  path_live X zero i h = (S.points Root i tt h).is_live
  path_live X (suc d) i h = let s = path_step v X d i h in (S.points (Kid s.from s.bit) i (path_live X d s.from s.is) s.to).is_live

  -- the nodes on the path stand each above the next
  chain : (X : Bits) (d e k : ℕ) → path v X (e + d) ≡ some k → (i : ℕ) × (path v X d ≡ some i) × (v.prefix i ⊑ v.prefix k) × (length (v.prefix i) + e ≤ length (v.prefix k))
  chain X d zero k h = (k, rw zero-add at h, ⊑_refl _, omega arith)
  chain X d (suc e) k h =
      let s = path_step v X (e + d) k (rw suc-add at h) in
      let f = (S.points (Kid s.from s.bit) k (path_live X (e + d) s.from s.is) s.to).fits in
      let r = chain X d e s.from s.is in
      (r.0, r.1, ⊑_trans r.2 (below_⊑ f), omega (arith, r.3, below_< f))

  chain_of : (X : Bits) (d e i k : ℕ) → path v X d ≡ some i → path v X (e + d) ≡ some k → (v.prefix i ⊑ v.prefix k) × (length (v.prefix i) + e ≤ length (v.prefix k))
  chain_of X d e i k p q =
      let c = chain X d e k q in
      let z : c.0 ≡ i = cc c.1 in
      (rw z at c.2, rw z at c.3)

  -- of two live nodes on X's path the one with the longer prefix is the deeper
  ordered : (X : Bits) (i k : ℕ) → live i → live k → v.prefix i ⊑ X → v.prefix k ⊑ X → length (v.prefix i) ≤ length (v.prefix k)
      → (d : ℕ) × (e : ℕ) × (path v X d ≡ some i) × (path v X (e + d) ≡ some k)
  ordered X i k li lk pi pk h = pick (dec_le d e)
    where
      d : ℕ
      d = (on_path X i li pi).0

      e : ℕ
      e = (on_path X k lk pk).0

      p : path v X d ≡ some i
      p = (on_path X i li pi).1

      q : path v X e ≡ some k
      q = (on_path X k lk pk).1

      pick : Dec (d ≤ e) → (d : ℕ) × (e : ℕ) × (path v X d ≡ some i) × (path v X (e + d) ≡ some k)
      pick (yes l) = let s : e - d + d ≡ e = omega arith in (d, e - d, p, rw s q)
      pick (no n) = let s : d - e + e ≡ d = omega arith in let c = chain_of X e (d - e) k i q (rw s p) in absurd (omega arith)

  -- no two live slots hold one prefix
  pub inject : (i k : ℕ) → live i → live k → v.prefix i ≡ v.prefix k → i ≡ k
  inject i k li lk e =
      let l = ap length e in
      let o = ordered (v.prefix k) i k li lk (⊑_of_eq e) (⊑_refl _) (omega arith) in
      let c = chain_of (v.prefix k) o.0 o.1 i k o.2 o.3 in
      let z : o.1 + o.0 ≡ o.0 = omega arith in
      let q : path v (v.prefix k) o.0 ≡ some k = rw z at o.3 in
      cc o.2

  -- the root's prefix is a prefix of all
  pub root_least : (i : ℕ) → live i → (r : ℕ) × (v.child Root ≡ some r) × (v.prefix r ⊑ v.prefix i)
  unfolding path
  root_least i li =
      let o = on_path (v.prefix i) i li (⊑_refl _) in
      let c = chain (v.prefix i) zero o.0 i (rw add-zero o.1) in
      (c.0, c.1, c.2)

  -- what stands below a cell of p is reached through that cell
  pub under : (p i : ℕ) (b : Bool) → live p → live i → Below (v.prefix p) b (v.prefix i) → (j : ℕ) × (v.child (Kid p b) ≡ some j) × (v.prefix j ⊑ v.prefix i)
  under p i b lp li h =
      let l = below_< h in
      let o = ordered (v.prefix i) p i lp li (below_⊑ h) (⊑_refl _) (omega arith) in
      go o.0 o.1 o.2 o.3
    where
      go : (d e : ℕ) → path v (v.prefix i) d ≡ some p → path v (v.prefix i) (e + d) ≡ some i → (j : ℕ) × (v.child (Kid p b) ≡ some j) × (v.prefix j ⊑ v.prefix i)
      go d zero q r = let r' : path v (v.prefix i) d ≡ some i = rw zero-add at r in let z : p ≡ i = cc in absurd (omega (arith, below_< h, ap (λ (x : ℕ). length (v.prefix x)) z))
      go d (suc e) q r =
          let z : suc e + d ≡ e + suc d = omega arith in
          let c = chain (v.prefix i) (suc d) e i (rw z at r) in
          let s = path_step v (v.prefix i) d c.0 c.1 in
          let y : s.from ≡ p = cc s.is in
          let x : s.bit ≡ b = below_bit (rw y at s.goes) h in
          (c.0, rw (y, x) at s.to, c.2)

  -- what belongs below a cell is reached through it
  pub through : (c : Cell) (k : ℕ) → Inside live c → live k → Fits v c (v.prefix k) → (j : ℕ) × (v.child c ≡ some j) × (v.prefix j ⊑ v.prefix k)
  through Root k i l f = root_least k l
  through (Kid p b) k i l f = under p k b i l f

  -- a cell that fits P, and whose node (if any) does not contain P: no slot holds P
  pub absent : (P : Bits) (c : Cell) → Inside live c → Fits v c P → ((j : ℕ) → v.child c ≡ some j → ¬ (v.prefix j ⊑ P)) → (k : ℕ) → live k → ¬ (v.prefix k ≡ P)
  absent P c i f n k l e = let t = through c k i l (rw e f) in n t.0 t.1 (rw e at t.2)
