-- Slots are renumbered, and the node in slot s is moved to the free slot t. Assumes nothing.
use mathlib.Core.Path.{◌≡◌, refl, sym, ap, ◌∙◌}
use mathlib.Core.Bool.{Bool}
use mathlib.Core.Logic.{◌⊎◌, inl, inr}
use mathlib.Core.Option.{Option, none, some, map, none-ne-some}
use Prim.Native.Nat.{ℕ}
use native.Mathlib.Decide.{ℕ_discrete}
use native.Mathlib.Omega.{arith}
use Rattle.prefix.specs.Bits.{Bits}
use Rattle.prefix.proofs.Order.{below_<}
use Rattle.trie.specs.Trie.{Cell, Root, Kid, Trie, Inside, Fits, Points, Owned, Sound, Branchy, Held}
use Rattle.trie.specs.Updates.{cell_dec, renumbered}
use Rattle.trie.proofs.Stores.{upd_same, upd_other, not_root}

-- ---- renumbering

abbrev pub cell_map : (ℕ → ℕ) → Cell → Cell
cell_map f Root = Root
cell_map f (Kid i b) = Kid (f i) b

-- w is v with the slot f a for each live slot a
pub record Renamed (live live' : ℕ → Type 0) (v w : Trie) (f : ℕ → ℕ) : Type 0 where
  pub to : (a : ℕ) → live a → live' (f a)
  pub from : (a : ℕ) → live' a → (b : ℕ) × live b × (f b ≡ a)
  pub prefix : (a : ℕ) → live a → w.prefix (f a) ≡ v.prefix a
  pub hop : (a : ℕ) → live a → w.hop (f a) ≡ v.hop a
  pub up : (a : ℕ) → live a → w.up (f a) ≡ cell_map f (v.up a)
  pub child : (c : Cell) → Inside live c → w.child (cell_map f c) ≡ map f (v.child c)

map_some : (f : ℕ → ℕ) (o : Option ℕ) (j : ℕ) → map f o ≡ some j → (i : ℕ) × (o ≡ some i) × (f i ≡ j)
map_some f none j e = absurd (none-ne-some j e)
map_some f (some i) j e = (i, refl, cc)

module _ {live live' : ℕ → Type 0} {v w : Trie} {f : ℕ → ℕ} (S : Sound live v) (r : Renamed live live' v w f) where
  inside_to : (c : Cell) → Inside live c → Inside live' (cell_map f c)
  inside_to Root i = tt
  inside_to (Kid a b) i = r.to a i

  inside_from : (c : Cell) → Inside live' c → (e : Cell) × Inside live e × (cell_map f e ≡ c)
  inside_from Root i = (Root, tt, refl)
  inside_from (Kid a b) i = let t = r.from a i in (Kid t.0 b, t.1, ap (λ (x : ℕ). Kid x b) t.2)

  fits_to : (c : Cell) (p : Bits) → Inside live c → Fits v c p → Fits w (cell_map f c) p
  fits_to Root p i h = tt
  fits_to (Kid a b) p i h = rw (r.prefix a i) h

  pub renamed_sound : Sound live' w
  renamed_sound = record { points = λ c j i h. points (inside_from c i) h; owned = λ a l. owned (r.from a l) }
    where
      points : {c : Cell} {j : ℕ} → (e : Cell) × Inside live e × (cell_map f e ≡ c) → w.child c ≡ some j → Points live' w c j
      points {c} {j} (e, i, z) h =
          let t = map_some f (v.child e) j (sym (r.child e i) ∙ ap w.child z ∙ h) in
          let p = S.points e t.0 i t.1 in
          rw (← z, ← t.2) (record { is_live = r.to t.0 p.is_live; back = r.up t.0 p.is_live ∙ ap (cell_map f) p.back; fits = rw (r.prefix t.0 p.is_live) (fits_to e (v.prefix t.0) i p.fits) })

      owned : {a : ℕ} → (b : ℕ) × live b × (f b ≡ a) → Owned live' w a
      owned {a} (b, l, z) =
          let o = S.owned b l in
          let u = r.up b l in
          rw (← z) (record { inside = rw u (inside_to (v.up b) o.inside); child = rw u (r.child (v.up b) o.inside ∙ ap (map f) o.child) })

  pub renamed_held : {p : Bits} {h : ℕ} → Held live v p h → Held live' w p h
  renamed_held x = record { slot = f x.slot; is_live = r.to x.slot x.is_live; is_prefix = r.prefix x.slot x.is_live ∙ x.is_prefix; is_hop = r.hop x.slot x.is_live ∙ x.is_hop }

  pub renamed_held_inv : {p : Bits} {h : ℕ} → Held live' w p h → Held live v p h
  renamed_held_inv {p} {h} x =
      let t = r.from x.slot x.is_live in
      record { slot = t.0; is_live = t.1; is_prefix = sym (r.prefix t.0 t.1) ∙ ap w.prefix t.2 ∙ x.is_prefix; is_hop = sym (r.hop t.0 t.1) ∙ ap w.hop t.2 ∙ x.is_hop }

  pub renamed_branchy : Branchy live v → Branchy live' w
  renamed_branchy B a l h b = go (r.from a l)
    where
      go : (x : ℕ) × live x × (f x ≡ a) → (j : ℕ) × (w.child (Kid a b) ≡ some j)
      go (x, lx, z) =
          let k = B x lx (sym (r.hop x lx) ∙ ap w.hop z ∙ h) b in
          (f k.0, ap (λ (y : ℕ). w.child (Kid y b)) (sym z) ∙ r.child (Kid x b) lx ∙ ap (map f) k.1)

-- ---- the same slots

-- w is v in the live slots
pub record Agrees (live : ℕ → Type 0) (v w : Trie) : Type 0 where
  pub prefix : (i : ℕ) → live i → w.prefix i ≡ v.prefix i
  pub hop : (i : ℕ) → live i → w.hop i ≡ v.hop i
  pub up : (i : ℕ) → live i → w.up i ≡ v.up i
  pub child : (c : Cell) → Inside live c → w.child c ≡ v.child c

pub agrees_self : {live : ℕ → Type 0} (v : Trie) → Agrees live v v
agrees_self v = record { prefix = λ i l. refl; hop = λ i l. refl; up = λ i l. refl; child = λ c i. refl }

pub agrees_renamed : {live live' : ℕ → Type 0} {v w : Trie} → Agrees live v w → ((a : ℕ) → live a → live' a) → ((a : ℕ) → live' a → live a) → Renamed live live' v w (λ a. a)
agrees_renamed {live} {live'} {v} {w} k f g = record {
  to = f;
  from = λ a l. (a, g a l, refl);
  prefix = k.prefix;
  hop = k.hop;
  up = λ a l. k.up a l ∙ up (v.up a);
  child = λ c i. child c i;
}
  where
    up : (c : Cell) → c ≡ cell_map (λ a. a) c
    up Root = refl
    up (Kid i b) = refl

    same : (o : Option ℕ) → o ≡ map (λ (a : ℕ). a) o
    same none = refl
    same (some a) = refl

    child : (c : Cell) → Inside live c → w.child (cell_map (λ a. a) c) ≡ map (λ (a : ℕ). a) (v.child c)
    child Root i = k.child Root i ∙ same (v.child Root)
    child (Kid a b) i = k.child (Kid a b) i ∙ same (v.child (Kid a b))

pub agrees_sound : {live : ℕ → Type 0} {v w : Trie} → Agrees live v w → Sound live v → Sound live w
agrees_sound k S = renamed_sound S (agrees_renamed k (λ a l. l) (λ a l. l))

pub agrees_branchy : {live : ℕ → Type 0} {v w : Trie} → Agrees live v w → Sound live v → Branchy live v → Branchy live w
agrees_branchy k S B = renamed_branchy S (agrees_renamed k (λ a l. l) (λ a l. l)) B

-- ---- one move

-- w is v with the node of slot s in slot t
pub record Moved (live : ℕ → Type 0) (v w : Trie) (s t : ℕ) : Type 0 where
  pub prefix_new : w.prefix t ≡ v.prefix s
  pub prefix_old : (a : ℕ) → live a → ¬ (a ≡ s) → w.prefix a ≡ v.prefix a
  pub hop_new : w.hop t ≡ v.hop s
  pub hop_old : (a : ℕ) → live a → ¬ (a ≡ s) → w.hop a ≡ v.hop a
  pub up_new : w.up t ≡ v.up s
  pub up_kid : (b : Bool) (j : ℕ) → v.child (Kid s b) ≡ some j → w.up j ≡ Kid t b
  pub up_old : (a : ℕ) → live a → ¬ (a ≡ s) → ((b : Bool) → ¬ (v.up a ≡ Kid s b)) → w.up a ≡ v.up a
  pub child_new : (b : Bool) → w.child (Kid t b) ≡ v.child (Kid s b)
  pub child_cell : w.child (v.up s) ≡ some t
  pub child_old : (e : Cell) → Inside live e → ((b : Bool) → ¬ (e ≡ Kid s b)) → ¬ (e ≡ v.up s) → w.child e ≡ v.child e

pub renumbered_s : (s t : ℕ) → renumbered s t s ≡ t
unfolding renumbered
renumbered_s s t = upd_same _ _ _ _ s refl

pub renumbered_other : (s t a : ℕ) → ¬ (a ≡ s) → renumbered s t a ≡ a
unfolding renumbered
renumbered_other s t a n = upd_other _ _ _ _ a n

module _ {live live' : ℕ → Type 0} {v w : Trie} {s t : ℕ} (S : Sound live v) (ls : live s) (k : Moved live v w s t)
    (to-old : (a : ℕ) → live a → ¬ (a ≡ s) → live' a) (to-new : live' t) (from : (a : ℕ) → live' a → (live a × (¬ (a ≡ s))) ⊎ (a ≡ t)) where
  f : ℕ → ℕ
  f = renumbered s t

  -- a node is no child of itself
  self : (b : Bool) → ¬ (v.child (Kid s b) ≡ some s)
  self b h = omega (arith, below_< (S.points (Kid s b) s ls h).fits)

  up_self : (b : Bool) → ¬ (v.up s ≡ Kid s b)
  up_self b z = self b (rw z at (S.owned s ls).child)

  cell_other : (c : Cell) → ((b : Bool) → ¬ (c ≡ Kid s b)) → cell_map (renumbered s t) c ≡ c
  cell_other Root n = refl
  cell_other (Kid a b) n = ap (λ (x : ℕ). Kid x b) (renumbered_other s t a (λ z. n b (cc)))

  map_other : (o : Option ℕ) → ¬ (o ≡ some s) → map (renumbered s t) o ≡ o
  map_other none n = refl
  map_other (some a) n = ap {B = Option ℕ} some (renumbered_other s t a (λ z. n (cc)))

  -- a cell is one of s's or is not
  split : (c : Cell) → ((b : Bool) × (c ≡ Kid s b)) ⊎ ((b : Bool) → ¬ (c ≡ Kid s b))
  split Root = inr (λ b z. not_root (sym z))
  split (Kid a b) = go (ℕ_discrete a s)
    where
      go : Dec (a ≡ s) → ((x : Bool) × (Kid a b ≡ Kid s x)) ⊎ ((x : Bool) → ¬ (Kid a b ≡ Kid s x))
      go (yes z) = inl (b, ap (λ (x : ℕ). Kid x b) z)
      go (no n) = inr (λ x z. n (cc))

  -- a fact of a slot and its new number
  at : (A : Type 0) (x y : ℕ → A) → y t ≡ x s → ((a : ℕ) → live a → ¬ (a ≡ s) → y a ≡ x a) → (a : ℕ) → live a → y (renumbered s t a) ≡ x a
  at A x y p q a l = go (ℕ_discrete a s)
    where
      go : Dec (a ≡ s) → y (renumbered s t a) ≡ x a
      go (yes z) = rw (z, renumbered_s s t) p
      go (no n) = rw (renumbered_other s t a n) (q a l n)

  up : (a : ℕ) → live a → w.up (renumbered s t a) ≡ cell_map (renumbered s t) (v.up a)
  up a l = go (ℕ_discrete a s)
    where
      sub : ¬ (a ≡ s) → ((b : Bool) × (v.up a ≡ Kid s b)) ⊎ ((b : Bool) → ¬ (v.up a ≡ Kid s b)) → w.up a ≡ cell_map (renumbered s t) (v.up a)
      sub n (inl z) = k.up_kid z.0 a (rw z.1 at (S.owned a l).child) ∙ rw (z.1, renumbered_s s t)
      sub n (inr m) = k.up_old a l n m ∙ sym (cell_other (v.up a) m)

      go : Dec (a ≡ s) → w.up (renumbered s t a) ≡ cell_map (renumbered s t) (v.up a)
      go (yes z) = rw (z, renumbered_s s t) (k.up_new ∙ sym (cell_other (v.up s) up_self))
      go (no n) = rw (renumbered_other s t a n) (sub n (split (v.up a)))

  child : (c : Cell) → Inside live c → w.child (cell_map (renumbered s t) c) ≡ map (renumbered s t) (v.child c)
  child c i = go (split c)
    where
      sub : ((b : Bool) → ¬ (c ≡ Kid s b)) → Dec (c ≡ v.up s) → w.child c ≡ map (renumbered s t) (v.child c)
      sub n (yes z) = rw z (k.child_cell ∙ rw ((S.owned s ls).child, renumbered_s s t))
      sub n (no m) = k.child_old c i n m ∙ sym (map_other (v.child c) (λ h. m (sym (S.points c s i h).back)))

      go : ((b : Bool) × (c ≡ Kid s b)) ⊎ ((b : Bool) → ¬ (c ≡ Kid s b)) → w.child (cell_map (renumbered s t) c) ≡ map (renumbered s t) (v.child c)
      go (inl z) = rw (z.1, renumbered_s s t) (k.child_new z.0 ∙ sym (map_other (v.child (Kid s z.0)) (self z.0)))
      go (inr n) = rw (cell_other c n) (sub n (cell_dec c (v.up s)))

  pub moved_renamed : Renamed live live' v w (renumbered s t)
  moved_renamed = record {
    to = λ a l. to a l (ℕ_discrete a s);
    from = λ a l. back a (from a l);
    prefix = at Bits v.prefix w.prefix k.prefix_new k.prefix_old;
    hop = at (Option ℕ) v.hop w.hop k.hop_new k.hop_old;
    up = up;
    child = child;
  }
    where
      to : (a : ℕ) → live a → Dec (a ≡ s) → live' (renumbered s t a)
      to a l (yes z) = rw (z, renumbered_s s t) to-new
      to a l (no n) = rw (renumbered_other s t a n) (to-old a l n)

      back : (a : ℕ) → (live a × (¬ (a ≡ s))) ⊎ (a ≡ t) → (b : ℕ) × live b × (renumbered s t b ≡ a)
      back a (inl h) = (a, h.0, renumbered_other s t a h.1)
      back a (inr z) = (s, ls, renumbered_s s t ∙ sym z)
