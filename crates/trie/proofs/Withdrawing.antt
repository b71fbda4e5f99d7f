-- What a withdrawal leaves of a trie, for each shape in which its node can stand. A node that goes leaves a free slot, which the node
-- of the last slot fills. Assumes nothing.
use mathlib.Core.Path.{◌≡◌, refl, sym, ap, ◌∙◌}
use mathlib.Core.Bool.{Bool, true, false, not, Bool-discrete, false≢true}
use mathlib.Core.Logic.{◌⊎◌, inl, inr}
use mathlib.Core.Option.{Option, none, some, none-ne-some}
use Prim.Native.Nat.{ℕ, ◌-◌, ◌≤◌, ◌<◌}
use native.Mathlib.Decide.{ℕ_discrete, dec_lt}
use native.Mathlib.Omega.{arith}
use borrow.Author.Tests.{eq-eqb, ne_eqb, lt-ltb, le-ltb}
use Rattle.prefix.specs.Bits.{Bits}
use Rattle.prefix.proofs.Booleans.{bool_other, not_ne}
use Rattle.trie.specs.Trie.{Root, Kid, Trie, Points, Sound, Branchy, Dense, Held, Removed}
use Rattle.trie.proofs.Descent.{up_live}
use Rattle.trie.proofs.Stores.{upd_same, upd_other, set_hop_other, upd_of_same, upd_of_other, kid_slot, kid_side, not_root, fresh_cell, slot_cell, slot_new, slot_old}
use Rattle.trie.proofs.Hops.{hop_sound, hop_kept, hop_inv}
use Rattle.trie.proofs.Cutting.{Cut, cut_sound, cut_held, cut_held_inv, cut_full}
use Rattle.trie.specs.Updates.{cut_at, fill_at, fill_both, move_at, renumbered, set_child, set_hop, set_node, set_slot, set_up, set_up_of, unhop_at, upd}
use Rattle.trie.proofs.Moving.{Renamed, renamed_sound, renamed_held, renamed_held_inv, renamed_branchy, agrees_renamed, agrees_self, Moved, moved_renamed}

-- ---- what the two steps change

-- the slot n is no longer live
abbrev pub Without : (ℕ → Type 0) → ℕ → ℕ → Type 0
Without live n a = live a × (¬ (a ≡ n))

pub cut_at_cuts : (live : ℕ → Type 0) (v : Trie) (n : ℕ) (kid : Option ℕ) → ((b : Bool) (j : ℕ) → v.child (Kid n b) ≡ some j → kid ≡ some j)
    → ((j : ℕ) → kid ≡ some j → (b : Bool) × (v.child (Kid n b) ≡ some j)) → Cut live (Without live n) v (cut_at v n kid) n kid
unfolding cut_at set_up_of set_child
cut_at_cuts live v n kid only side = record {
  live_old = λ a l ne. (l, ne);
  live_inv = λ a l. l.0;
  live_gone = λ l. l.1 refl;
  prefix_old = λ a l. refl;
  hop_old = λ a l. refl;
  only = only;
  kid_side = side;
  kid_up = λ j e. upd_of_same _ kid _ j e;
  up_old = λ a l ne. upd_of_other _ kid _ a ne;
  child_cell = upd_same _ _ _ _ (v.up n) refl;
  child_old = λ e i ne. upd_other _ _ _ _ e ne;
}

pub move_at_moves : (live : ℕ → Type 0) (v : Trie) (s t : ℕ) → Sound live v → live s → ¬ live t → Moved live v (move_at v s t) s t
unfolding move_at set_up_of set_child set_slot set_up set_node
move_at_moves live v s t S ls nt = record {
  prefix_new = upd_same _ _ _ _ t refl;
  prefix_old = λ a l n. upd_other _ _ _ _ a (ne a l);
  hop_new = upd_same _ _ _ _ t refl;
  hop_old = λ a l n. upd_other _ _ _ _ a (ne a l);
  up_new = others t (λ b h. nt (kid b t h).is_live) ∙ upd_same _ _ _ _ t refl;
  up_kid = up_kid;
  up_old = λ a l n m. others a (λ b h. m b (kid b a h).back) ∙ upd_other _ _ _ _ a (ne a l);
  child_new = λ b. slot_new v t (v.prefix s) (v.hop s) (v.up s) (v.up s) kids nc b;
  child_cell = slot_cell v t (v.prefix s) (v.hop s) (v.up s) (v.up s) kids;
  child_old = λ e i n m. slot_old v t (v.prefix s) (v.hop s) (v.up s) (v.up s) kids e (fresh_cell live t nt e i) m;
}
  where
    kids : Bool → Option ℕ
    kids b = v.child (Kid s b)

    kid : (b : Bool) (j : ℕ) → v.child (Kid s b) ≡ some j → Points live v (Kid s b) j
    kid b j h = S.points (Kid s b) j ls h

    ne : (a : ℕ) → live a → ¬ (a ≡ t)
    ne a l z = nt (rw z at l)

    nc : (b : Bool) → ¬ (v.up s ≡ Kid t b)
    nc = fresh_cell live t nt (v.up s) (S.owned s ls).inside

    -- the up of a slot that is no child of s
    others : (a : ℕ) → ((b : Bool) → ¬ (v.child (Kid s b) ≡ some a)) → (move_at v s t).up a ≡ upd ℕ_discrete v.up t (v.up s) a
    others a n = upd_of_other _ (v.child (Kid s true)) (Kid t true) a (n true) ∙ upd_of_other _ (v.child (Kid s false)) (Kid t false) a (n false)

    up_kid : (b : Bool) (j : ℕ) → v.child (Kid s b) ≡ some j → (move_at v s t).up j ≡ Kid t b
    up_kid true j h = upd_of_same _ (v.child (Kid s true)) (Kid t true) j h
    up_kid false j h =
        upd_of_other _ (v.child (Kid s true)) (Kid t true) j (λ k. false≢true (kid_side (sym (kid false j h).back ∙ (kid true j k).back)))
        ∙ upd_of_same _ (v.child (Kid s false)) (Kid t false) j h

-- ---- a free slot is filled

pub fill_last : (v : Trie) (last x : ℕ) → x ≡ last → fill_at v last x ≡ v
unfolding fill_at
fill_last v last x e = rw (eq-eqb x last e)

pub fill_move : (v : Trie) (last x : ℕ) → ¬ (x ≡ last) → fill_at v last x ≡ move_at v last x
unfolding fill_at
fill_move v last x n = rw (ne_eqb x last n)

pub fill_both_is : (v : Trie) (n x y : ℕ) → y < x → fill_both v n x y ≡ fill_at (fill_at v (n - 1) x) (n - 2) y
unfolding fill_both
fill_both_is v n x y l = rw (le-ltb x y (omega arith))

pub fill_both_flip : (v : Trie) (n x y : ℕ) → x < y → fill_both v n x y ≡ fill_at (fill_at v (n - 1) y) (n - 2) x
unfolding fill_both
fill_both_flip v n x y l = rw (lt-ltb x y l)

-- live is all up to m but the free slot x (and others), and live' is the same below m, with x
record Hole (live live' : ℕ → Type 0) (m x : ℕ) : Type 0 where
  within : x ≤ m
  bound : (a : ℕ) → live a → (a ≤ m) × (¬ (a ≡ x))
  keep : (a : ℕ) → live a → a < m → live' a
  new : x < m → live' x × live m
  inv : (a : ℕ) → live' a → (a < m) × (live a ⊎ (a ≡ x))

filled : {live live' : ℕ → Type 0} {v : Trie} {m x : ℕ} → Sound live v → Hole live live' m x → (f : ℕ → ℕ) × Renamed live live' v (fill_at v m x) f
filled {live} {live'} {v} {m} {x} S o = go (ℕ_discrete x m)
  where
    back : x ≡ m → (a : ℕ) → a < m → live a ⊎ (a ≡ x) → live a
    back z a h (inl l) = l
    back z a h (inr e) = absurd (omega arith)

    from : (a : ℕ) → a < m → live a ⊎ (a ≡ x) → (live a × (¬ (a ≡ m))) ⊎ (a ≡ x)
    from a h (inl l) = inl (l, λ z. omega arith)
    from a h (inr e) = inr e

    go : Dec (x ≡ m) → (f : ℕ → ℕ) × Renamed live live' v (fill_at v m x) f
    go (yes z) = rw (fill_last v m x z) ((λ a. a), agrees_renamed (agrees_self v) (λ a l. o.keep a l (omega (arith, o.bound a l))) (λ a l. back z a (o.inv a l).0 (o.inv a l).1))
    go (no n) =
        let h : x < m = omega (arith, o.within) in
        let t = o.new h in
        rw (fill_move v m x n) (
          renumbered m x,
          moved_renamed S t.1 (move_at_moves live v m x S t.1 (λ l. (o.bound x l).1 refl))
              (λ a l ne. o.keep a l (omega (arith, o.bound a l))) t.0 (λ a l. from a (o.inv a l).0 (o.inv a l).1),
        )

then_filled : {live live' live'' : ℕ → Type 0} {v w : Trie} {P : Bits} {m x : ℕ} → Removed live live' v w P → Hole live' live'' m x → Removed live live'' v (fill_at w m x) P
then_filled {w} r o =
    let g = (filled {v = w} r.sound o).1 in
    record {
      sound = renamed_sound r.sound g;
      branchy = renamed_branchy r.sound g r.branchy;
      keep = λ h n. renamed_held r.sound g (r.keep h n);
      inv = λ h. r.inv (renamed_held_inv r.sound g h);
    }

-- of n slots the free slot x is filled, and n - 1 are left
pub fill_one : {v w : Trie} {P : Bits} (n x : ℕ) → x < n → Removed (Dense n) (Without (Dense n) x) v w P → Removed (Dense n) (Dense (n - 1)) v (fill_at w (n - 1) x) P
fill_one n x h r = then_filled r (record {
  within = omega arith;
  bound = λ a l. (omega (arith, l.0), l.1);
  keep = λ a l lt. lt;
  new = λ lt. (lt, (omega arith, λ z. omega arith));
  inv = λ a l. (l, back a l (ℕ_discrete a x));
})
  where
    back : (a : ℕ) → a < n - 1 → Dec (a ≡ x) → Without (Dense n) x a ⊎ (a ≡ x)
    back a l (yes z) = inr z
    back a l (no ne) = inl (omega arith, ne)

-- of n slots the free slots x and y are filled, and n - 2 are left
pub fill_two : {v w : Trie} {P : Bits} (n x y : ℕ) → x < n → y < n → ¬ (x ≡ y) → Removed (Dense n) (Without (Without (Dense n) x) y) v w P
    → Removed (Dense n) (Dense (n - 2)) v (fill_both w n x y) P
fill_two {v} {w} {P} n x y hx hy ne r = go (dec_lt x y)
  where
    Free : ℕ → Type 0
    Free = Without (Without (Dense n) x) y

    -- the higher one, then the lower
    both : (high low : ℕ) → low < high → high < n → ((a : ℕ) → Free a → (¬ (a ≡ high)) × (¬ (a ≡ low))) → ((a : ℕ) → a < n → ¬ (a ≡ high) → ¬ (a ≡ low) → Free a)
        → Removed (Dense n) (Dense (n - 2)) v (fill_at (fill_at w (n - 1) high) (n - 2) low) P
    both high low lt hn f g = then_filled {live' = Mid} first (record {
      within = omega arith;
      bound = λ a l. (omega (arith, l.0), l.1);
      keep = λ a l h. h;
      new = λ h. (h, (omega arith, λ z. omega arith));
      inv = λ a l. (l, back₂ a l (ℕ_discrete a low));
    })
      where
        Mid : ℕ → Type 0
        Mid a = (a < n - 1) × (¬ (a ≡ low))

        back₁ : (a : ℕ) → Mid a → Dec (a ≡ high) → Free a ⊎ (a ≡ high)
        back₁ a l (yes z) = inr z
        back₁ a l (no ne) = inl (g a (omega (arith, l.0)) ne l.1)

        back₂ : (a : ℕ) → a < n - 2 → Dec (a ≡ low) → Mid a ⊎ (a ≡ low)
        back₂ a l (yes z) = inr z
        back₂ a l (no ne) = inl (omega arith, ne)

        first : Removed (Dense n) Mid v (fill_at w (n - 1) high) P
        first = then_filled r (record {
          within = omega arith;
          bound = λ a l. (omega (arith, l.0.0), (f a l).0);
          keep = λ a l h. (h, (f a l).1);
          new = λ h. ((h, λ z. omega arith), g (n - 1) (omega arith) (λ z. omega arith) (λ z. omega arith));
          inv = λ a l. (l.0, back₁ a l (ℕ_discrete a high));
        })

    go : Dec (x < y) → Removed (Dense n) (Dense (n - 2)) v (fill_both w n x y) P
    go (yes l) = rw (fill_both_flip w n x y l) (both y x l hy (λ a l. (l.1, l.0.1)) (λ a l p q. ((l, q), p)))
    go (no m) = let l : y < x = omega arith in rw (fill_both_is w n x y l) (both x y l hx (λ a l. (l.0.1, l.1)) (λ a l p q. ((l, p), q)))

-- ---- the node is taken out

module _ {live : ℕ → Type 0} {v : Trie} (S : Sound live v) (B : Branchy live v) (i : ℕ) (li : live i) where
  -- the node has two children, and stays as a branch
  pub hop_removed : ((b : Bool) → (j : ℕ) × (v.child (Kid i b) ≡ some j)) → Removed live live v (unhop_at v i) (v.prefix i)
  unfolding unhop_at set_hop
  hop_removed two = record {
    sound = hop_sound S i none;
    branchy = λ a la h b. branchy a la h b (ℕ_discrete a i);
    keep = λ r n. hop_kept S i none r n;
    inv = λ r. inv (hop_inv S i none li r);
  }
    where
      branchy : (a : ℕ) → live a → (unhop_at v i).hop a ≡ none → (b : Bool) → Dec (a ≡ i) → (j : ℕ) × (v.child (Kid a b) ≡ some j)
      branchy a la h b (yes z) = rw z (two b)
      branchy a la h b (no n) = B a la (sym (set_hop_other v i none a n) ∙ h) b

      inv : {p : Bits} {h : ℕ} → ((p ≡ v.prefix i) × (none ≡ some h)) ⊎ (Held live v p h × (¬ (p ≡ v.prefix i))) → Held live v p h × (¬ (p ≡ v.prefix i))
      inv {h} (inl e) = absurd (none-ne-some h e.1)
      inv (inr r) = r

  module _ (kid : Option ℕ) (k : Cut live (Without live i) v (cut_at v i kid) i kid) where
    cut_removed : Branchy (Without live i) (cut_at v i kid) → Removed live (Without live i) v (cut_at v i kid) (v.prefix i)
    cut_removed B₁ = record {
      sound = cut_sound S li k;
      branchy = B₁;
      keep = λ r n. cut_held S li k r (λ z. n (sym r.is_prefix ∙ ap v.prefix z));
      inv = λ r. cut_held_inv S li k r;
    }

    -- a branch has its children still, if i's cell is none of its or is not emptied
    still : (a : ℕ) → (l : Without live i a) → (cut_at v i kid).hop a ≡ none → (b : Bool) → (Kid a b ≡ v.up i → (c : ℕ) × (kid ≡ some c)) → (j : ℕ) × ((cut_at v i kid).child (Kid a b) ≡ some j)
    still a l h b f = let t = B a l.0 (sym (k.hop_old a l) ∙ h) b in cut_full S li k (Kid a b) t.0 l t.1 f

  -- the node has one child
  pub one_removed : (b : Bool) (j : ℕ) → v.child (Kid i b) ≡ some j → v.child (Kid i (not b)) ≡ none → Removed live (Without live i) v (cut_at v i (some j)) (v.prefix i)
  one_removed b j h e = cut_removed (some j) k (λ a l f x. still (some j) k a l f x (λ z. (j, refl)))
    where
      only : (x : Bool) (a : ℕ) → v.child (Kid i x) ≡ some a → Dec (x ≡ b) → some j ≡ some a
      only x a f (yes z) = sym h ∙ ap (λ (y : Bool). v.child (Kid i y)) (sym z) ∙ f
      only x a f (no n) = absurd (none-ne-some a (sym e ∙ ap (λ (y : Bool). v.child (Kid i y)) (sym (bool_other x b n)) ∙ f))

      k : Cut live (Without live i) v (cut_at v i (some j)) i (some j)
      k = cut_at_cuts live v i (some j) (λ x a f. only x a f (Bool-discrete x b)) (λ a f. (b, h ∙ f))

  -- the node is a leaf
  module _ (leaf : (b : Bool) → v.child (Kid i b) ≡ none) where
    c₁ : Cut live (Without live i) v (cut_at v i none) i none
    c₁ = cut_at_cuts live v i none (λ b j h. sym (leaf b) ∙ h) (λ j e. absurd (none-ne-some j e))

    -- its cell is the root cell, or a route's
    pub leaf_removed : ((p : ℕ) (b : Bool) → v.up i ≡ Kid p b → ¬ (v.hop p ≡ none)) → Removed live (Without live i) v (cut_at v i none) (v.prefix i)
    leaf_removed f = cut_removed none c₁ (λ a l e x. still none c₁ a l e x (λ z. absurd (f a x (sym z) (sym (c₁.hop_old a l) ∙ e))))

    -- its parent p is a branch, which goes too: p's other child q takes p's cell
    module _ (H : ℕ) (ih : v.hop i ≡ some H) (p : ℕ) (b : Bool) (u : v.up i ≡ Kid p b) (ph : v.hop p ≡ none) (q : ℕ) (pq : v.child (Kid p (not b)) ≡ some q) where
      parent_other : ¬ (i ≡ p)
      parent_other z = none-ne-some H (sym ph ∙ ap v.hop (sym z) ∙ ih)

      S₁ : Sound (Without live i) (cut_at v i none)
      S₁ = cut_sound S li c₁

      lp : Without live i p
      lp = (up_live S i p b li u, λ z. parent_other (sym z))

      p_none : (cut_at v i none).child (Kid p b) ≡ none
      p_none = rw u at c₁.child_cell

      p_some : (cut_at v i none).child (Kid p (not b)) ≡ some q
      p_some = c₁.child_old (Kid p (not b)) lp (λ z. not_ne b (kid_side (z ∙ u))) ∙ pq

      only : (x : Bool) (j : ℕ) → (cut_at v i none).child (Kid p x) ≡ some j → Dec (x ≡ b) → some q ≡ some j
      only x j h (yes z) = absurd (none-ne-some j (sym p_none ∙ ap (λ (y : Bool). (cut_at v i none).child (Kid p y)) (sym z) ∙ h))
      only x j h (no n) = sym p_some ∙ ap (λ (y : Bool). (cut_at v i none).child (Kid p y)) (sym (bool_other x b n)) ∙ h

      c₂ : Cut (Without live i) (Without (Without live i) p) (cut_at v i none) (cut_at (cut_at v i none) p (some q)) p (some q)
      c₂ = cut_at_cuts (Without live i) (cut_at v i none) p (some q) (λ x j h. only x j h (Bool-discrete x b)) (λ j e. (not b, p_some ∙ e))

      pub pair_removed : Removed live (Without (Without live i) p) v (cut_at (cut_at v i none) p (some q)) (v.prefix i)
      pair_removed = record {
        sound = cut_sound S₁ lp c₂;
        branchy = branchy;
        keep = λ r n. keep r n;
        inv = λ r. cut_held_inv S li c₁ (cut_held_inv S₁ lp c₂ r).0;
      }
        where
          branchy : Branchy (Without (Without live i) p) (cut_at (cut_at v i none) p (some q))
          branchy a l h x =
              let t = still none c₁ a l.0 (sym (c₂.hop_old a l) ∙ h) x (λ z. absurd (l.1 (kid_slot (z ∙ u)))) in
              cut_full S₁ lp c₂ (Kid a x) t.0 l t.1 (λ z. (q, refl))

          keep : {y : Bits} {h : ℕ} → Held live v y h → ¬ (y ≡ v.prefix i) → Held (Without (Without live i) p) (cut_at (cut_at v i none) p (some q)) y h
          keep {y} {h} r n =
              let s = cut_held S li c₁ r (λ z. n (sym r.is_prefix ∙ ap v.prefix z)) in
              cut_held S₁ lp c₂ s (λ z. none-ne-some h (sym ph ∙ sym (c₁.hop_old p lp) ∙ ap (cut_at v i none).hop (sym z) ∙ s.is_hop))

-- ---- the whole of a withdrawal, from a table of n slots: the node i is the route of P

module _ (n : ℕ) {v : Trie} (S : Sound (Dense n) v) (B : Branchy (Dense n) v) (i : ℕ) (li : i < n) (P : Bits) (ip : v.prefix i ≡ P) where
  -- it has two children
  pub withdraw_hop : (l r : ℕ) → v.child (Kid i false) ≡ some l → v.child (Kid i true) ≡ some r → Removed (Dense n) (Dense n) v (unhop_at v i) P
  withdraw_hop l r e f = rw ip at (hop_removed S B i li two)
    where
      two : (b : Bool) → (j : ℕ) × (v.child (Kid i b) ≡ some j)
      two false = (l, e)
      two true = (r, f)

  -- it has one child, j on the side b
  pub withdraw_one : (b : Bool) (j : ℕ) → v.child (Kid i b) ≡ some j → v.child (Kid i (not b)) ≡ none
      → Removed (Dense n) (Dense (n - 1)) v (fill_at (cut_at v i (some j)) (n - 1) i) P
  withdraw_one b j h e = rw ip at (fill_one n i li (one_removed S B i li b j h e))

  -- it is a leaf: in the root cell, in a cell of a route p, or in the cell b of a branch p, whose other child is q
  module _ (left : v.child (Kid i false) ≡ none) (right : v.child (Kid i true) ≡ none) where
    leaf : (b : Bool) → v.child (Kid i b) ≡ none
    leaf false = left
    leaf true = right

    pub withdraw_root : v.up i ≡ Root → Removed (Dense n) (Dense (n - 1)) v (fill_at (cut_at v i none) (n - 1) i) P
    withdraw_root u = rw ip at (fill_one n i li (leaf_removed S B i li leaf (λ p b z. absurd (not_root (sym z ∙ u)))))

    pub withdraw_leaf : (p : ℕ) (b : Bool) (h : ℕ) → v.up i ≡ Kid p b → v.hop p ≡ some h → Removed (Dense n) (Dense (n - 1)) v (fill_at (cut_at v i none) (n - 1) i) P
    withdraw_leaf p b h u e = rw ip at (fill_one n i li (leaf_removed S B i li leaf (λ q x z f. none-ne-some h (sym f ∙ ap v.hop (kid_slot (sym z ∙ u)) ∙ e))))

    pub withdraw_pair : (H : ℕ) → v.hop i ≡ some H → (p : ℕ) (b : Bool) → v.up i ≡ Kid p b → v.hop p ≡ none → (q : ℕ) → v.child (Kid p (not b)) ≡ some q
        → Removed (Dense n) (Dense (n - 2)) v (fill_both (cut_at (cut_at v i none) p (some q)) n i p) P
    withdraw_pair H ih p b u ph q pq =
        rw ip at (fill_two n i p li (up_live S i p b li u) (parent_other S B i li leaf H ih p b u ph q pq) (pair_removed S B i li leaf H ih p b u ph q pq))
