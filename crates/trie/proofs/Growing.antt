-- One new node: a leaf in an empty cell, or a node between a cell and the node that it pointed at. Assumes nothing.
use mathlib.Core.Path.{◌≡◌, refl, sym, ap, ◌∙◌}
use mathlib.Core.Bool.{Bool}
use mathlib.Core.Logic.{◌⊎◌, inl, inr}
use mathlib.Core.Option.{Option, none, some}
use Prim.Native.Nat.{ℕ}
use Rattle.prefix.specs.Bits.{Bits}
use Rattle.prefix.specs.Prefix.{◌⊑◌, Below}
use Rattle.trie.specs.Trie.{Cell, Root, Kid, Trie, Inside, Fits, Points, Owned, Sound, Branchy, Held, Put}
use Rattle.trie.specs.Updates.{cell_dec}
use Rattle.trie.proofs.Descent.{absent}

-- the slot n becomes live
pub record Joined (live live' : ℕ → Type 0) (n : ℕ) : Type 0 where
  pub fresh : ¬ live n
  pub old : (a : ℕ) → live a → live' a
  pub new : live' n
  pub inv : (a : ℕ) → live' a → live a ⊎ (a ≡ n)

-- w is v with the new node n in the cell c. What c pointed at in v is a child of n in w
pub record Grown (live live' : ℕ → Type 0) (v w : Trie) (c : Cell) (n : ℕ) (Q : Bits) (hop : Option ℕ) : Type 0 where
  pub joined : Joined live live' n
  pub prefix_old : (a : ℕ) → live a → w.prefix a ≡ v.prefix a
  pub prefix_new : w.prefix n ≡ Q
  pub hop_old : (a : ℕ) → live a → w.hop a ≡ v.hop a
  pub hop_new : w.hop n ≡ hop
  pub up_old : (a : ℕ) → live a → ¬ (v.up a ≡ c) → w.up a ≡ v.up a
  pub up_new : w.up n ≡ c
  pub child_old : (e : Cell) → Inside live e → ¬ (e ≡ c) → w.child e ≡ v.child e
  pub child_cell : w.child c ≡ some n
  pub child_new : (b : Bool) (j : ℕ) → w.child (Kid n b) ≡ some j → (v.child c ≡ some j) × (w.up j ≡ Kid n b) × Below Q b (v.prefix j)
  pub child_kept : (j : ℕ) → v.child c ≡ some j → (b : Bool) × (w.child (Kid n b) ≡ some j)

module _ {live live' : ℕ → Type 0} {v w : Trie} {c : Cell} {n : ℕ} {Q : Bits} {hop : Option ℕ}
    (S : Sound live v) (ci : Inside live c) (cf : Fits v c Q) (g : Grown live live' v w c n Q hop) where
  inside_old : (e : Cell) → Inside live e → Inside live' e
  inside_old Root i = tt
  inside_old (Kid a b) i = g.joined.old a i

  fits_old : (e : Cell) (p : Bits) → Inside live e → Fits v e p → Fits w e p
  fits_old Root p i f = tt
  fits_old (Kid a b) p i f = rw (g.prefix_old a i) f

  -- the cells of w: c, the other old ones, and those of n
  data Which (e : Cell) : Type 0 where
    that : e ≡ c → Which e
    old : Inside live e → ¬ (e ≡ c) → Which e
    new : (b : Bool) → e ≡ Kid n b → Which e

  which : (e : Cell) → Inside live' e → Which e
  which e i = go (cell_dec e c)
    where
      sub : (e : Cell) → Inside live' e → ¬ (e ≡ c) → Which e
      sub Root i n = old tt n
      sub (Kid a b) i ne = go (g.joined.inv a i)
        where
          go : live a ⊎ (a ≡ n) → Which (Kid a b)
          go (inl l) = old l ne
          go (inr z) = new b (cc)

      go : Dec (e ≡ c) → Which e
      go (yes z) = that z
      go (no ne) = sub e i ne

  points : (e : Cell) (j : ℕ) → Which e → w.child e ≡ some j → Points live' w e j
  points e j (that z) h =
      let y : j ≡ n = cc g.child_cell in
      rw (z, y) (record { is_live = g.joined.new; back = g.up_new; fits = rw g.prefix_new (fits_old c Q ci cf) })
  points e j (old i ne) h =
      let p = S.points e j i (sym (g.child_old e i ne) ∙ h) in
      record {
        is_live = g.joined.old j p.is_live;
        back = g.up_old j p.is_live (λ z. ne (sym p.back ∙ z)) ∙ p.back;
        fits = rw (g.prefix_old j p.is_live) (fits_old e (v.prefix j) i p.fits);
      }
  points e j (new b z) h =
      let t = g.child_new b j (ap w.child (sym z) ∙ h) in
      let p = S.points c j ci t.0 in
      rw z (record { is_live = g.joined.old j p.is_live; back = t.1; fits = rw (g.prefix_new, g.prefix_old j p.is_live) t.2 })

  owned : (a : ℕ) → live' a → Owned live' w a
  owned a l = go (g.joined.inv a l)
    where
      sub : live a → Dec (v.up a ≡ c) → Owned live' w a
      sub la (yes z) =
          let o = S.owned a la in
          let k = g.child_kept a (rw z at o.child) in
          let t = g.child_new k.0 a k.1 in
          record { inside = rw t.1 g.joined.new; child = rw t.1 k.1 }
      sub la (no ne) =
          let o = S.owned a la in
          let u = g.up_old a la ne in
          record { inside = rw u (inside_old (v.up a) o.inside); child = rw u (g.child_old (v.up a) o.inside ne ∙ o.child) }

      go : live a ⊎ (a ≡ n) → Owned live' w a
      go (inl la) = sub la (cell_dec (v.up a) c)
      go (inr z) = rw z (record { inside = rw g.up_new (inside_old c ci); child = rw g.up_new g.child_cell })

  pub grown_sound : Sound live' w
  grown_sound = record { points = λ e j i h. points e j (which e i) h; owned = owned }

  -- the held routes are the old ones and the new one
  pub held_old : {p : Bits} {h : ℕ} → Held live v p h → Held live' w p h
  held_old r = record {
    slot = r.slot;
    is_live = g.joined.old r.slot r.is_live;
    is_prefix = g.prefix_old r.slot r.is_live ∙ r.is_prefix;
    is_hop = g.hop_old r.slot r.is_live ∙ r.is_hop;
  }

  pub held_new : {h : ℕ} → hop ≡ some h → Held live' w Q h
  held_new e = record { slot = n; is_live = g.joined.new; is_prefix = g.prefix_new; is_hop = g.hop_new ∙ e }

  pub held_inv : {p : Bits} {h : ℕ} → Held live' w p h → Held live v p h ⊎ ((p ≡ Q) × (hop ≡ some h))
  held_inv {p} {h} r = go (g.joined.inv r.slot r.is_live)
    where
      go : live r.slot ⊎ (r.slot ≡ n) → Held live v p h ⊎ ((p ≡ Q) × (hop ≡ some h))
      go (inl l) = inl (record { slot = r.slot; is_live = l; is_prefix = sym (g.prefix_old r.slot l) ∙ r.is_prefix; is_hop = sym (g.hop_old r.slot l) ∙ r.is_hop })
      go (inr z) = inr (sym r.is_prefix ∙ ap w.prefix z ∙ g.prefix_new, sym g.hop_new ∙ ap w.hop (sym z) ∙ r.is_hop)

  -- a cell that is not empty is not emptied
  pub full_old : (e : Cell) (j : ℕ) → Inside live e → v.child e ≡ some j → (k : ℕ) × (w.child e ≡ some k)
  full_old e j i h = go (cell_dec e c)
    where
      go : Dec (e ≡ c) → (k : ℕ) × (w.child e ≡ some k)
      go (yes z) = (n, ap w.child z ∙ g.child_cell)
      go (no ne) = (j, g.child_old e i ne ∙ h)

  pub branchy_old : (a : ℕ) → live a → (v.hop a ≡ none → (b : Bool) → (j : ℕ) × (v.child (Kid a b) ≡ some j)) → w.hop a ≡ none → (b : Bool) → (j : ℕ) × (w.child (Kid a b) ≡ some j)
  branchy_old a l B h b = let k = B (sym (g.hop_old a l) ∙ h) b in full_old (Kid a b) k.0 l k.1

  pub grown_branchy : Branchy live v → (hop ≡ none → (b : Bool) → (j : ℕ) × (w.child (Kid n b) ≡ some j)) → Branchy live' w
  grown_branchy B N a l h b = go (g.joined.inv a l)
    where
      go : live a ⊎ (a ≡ n) → (j : ℕ) × (w.child (Kid a b) ≡ some j)
      go (inl la) = branchy_old a la (B a la) h b
      go (inr z) = rw z (N (sym g.hop_new ∙ ap w.hop (sym z) ∙ h) b)

-- the new node is the route P → H, and no node held P
pub grown_put : {live live' : ℕ → Type 0} {v w : Trie} {c : Cell} {n : ℕ} {P : Bits} {H : ℕ} → Sound live v → Inside live c → Fits v c P
    → Grown live live' v w c n P (some H) → ((j : ℕ) → v.child c ≡ some j → ¬ (v.prefix j ⊑ P)) → Branchy live' w → Put live live' v w P H
grown_put {live} {live'} {v} {w} {c} {n} {P} {H} S ci cf g off B = record {
  sound = grown_sound S ci cf g;
  branchy = B;
  new = held_new S ci cf g refl;
  keep = λ r ne. held_old S ci cf g r;
  inv = λ r. go (held_inv S ci cf g r);
}
  where
    go : {p : Bits} {h : ℕ} → Held live v p h ⊎ ((p ≡ P) × (some H ≡ some h)) → ((p ≡ P) × (h ≡ H)) ⊎ (Held live v p h × (¬ (p ≡ P)))
    go (inl r) = inr (r, λ e. absent S P c ci cf off r.slot r.is_live (r.is_prefix ∙ e))
    go {h} (inr e) = inl (e.0, cc)
