-- What an announcement puts into a trie, for each place where its prefix can belong. Assumes nothing.
use mathlib.Core.Path.{◌≡◌, refl, sym, ap, ◌∙◌}
use mathlib.Core.Bool.{Bool, true, false, not, Bool-discrete}
use mathlib.Core.Logic.{◌⊎◌, inl, inr}
use mathlib.Core.Option.{Option, none, some, none-ne-some, some-ne-none}
use Prim.Native.Nat.{ℕ, suc, ◌≤◌, ◌<◌}
use native.Mathlib.Decide.{dec_le, dec_lt, ℕ_discrete}
use native.Mathlib.Omega.{arith}
use lib.ListN.{length, get_or}
use Rattle.prefix.specs.Bits.{Bits}
use Rattle.prefix.specs.Prefix.{contains, common, shared, ◌⊑◌, Below}
use Rattle.prefix.proofs.Booleans.{beq_refl, bool_other}
use Rattle.prefix.proofs.Order.{⊑_of_eq, ⊑_eq}
use Rattle.prefix.proofs.Common.{shared_length, shared_fork, below_shared}
use Rattle.prefix.proofs.Tests.{contains_⊑, not_⊑}
use Rattle.trie.specs.Trie.{Cell, Root, Kid, Trie, Inside, Fits, Points, Sound, Branchy, Dense, Held, Put}
use Rattle.trie.specs.Walk.{descent, cell_after}
use Rattle.trie.specs.Updates.{set_hop, set_child, set_up, set_node, set_slot, hop_at, leaf_at, on_side, splice_at, fork_at}
use Rattle.trie.proofs.Next.{next_below, below_next}
use Rattle.trie.proofs.Stores.{upd_same, upd_other, set_hop_same, set_hop_other, slot_cell, slot_new, slot_old, fresh_cell}
use Rattle.trie.proofs.Walking.{Landed}
use Rattle.trie.proofs.Hops.{hop_sound, hop_kept, hop_inv}
use Rattle.trie.proofs.Growing.{Joined, Grown, grown_sound, grown_branchy, branchy_old, full_old, held_old, held_inv, grown_put}

-- one more slot of a table
pub dense_joined : (m : ℕ) → Joined (Dense m) (Dense (suc m)) m
dense_joined m = record { fresh = λ h. omega arith; old = λ a l. omega arith; new = omega arith; inv = λ a l. go a l (dec_lt a m) }
  where
    go : (a : ℕ) → a < suc m → Dec (a < m) → (a < m) ⊎ (a ≡ m)
    go a l (yes h) = inl h
    go a l (no n) = inr (omega arith)

-- ---- the node is there

pub put_hop : {live : ℕ → Type 0} {v : Trie} → Sound live v → Branchy live v → (i : ℕ) (P : Bits) (H : ℕ) → live i → v.prefix i ≡ P → Put live live v (hop_at v i H) P H
unfolding hop_at set_hop
put_hop {live} {v} S B i P H l e = record {
  sound = hop_sound S i (some H);
  branchy = λ a la h b. B a la (hop a h (ℕ_discrete a i)) b;
  new = record { slot = i; is_live = l; is_prefix = e; is_hop = set_hop_same v i (some H) };
  keep = λ r n. hop_kept S i (some H) r (λ z. n (z ∙ e));
  inv = λ r. inv (hop_inv S i (some H) l r);
}
  where
    hop : (a : ℕ) → (hop_at v i H).hop a ≡ none → Dec (a ≡ i) → v.hop a ≡ none
    hop a h (yes z) = absurd (some-ne-none H (sym (set_hop_same v i (some H)) ∙ ap (hop_at v i H).hop (sym z) ∙ h))
    hop a h (no n) = sym (set_hop_other v i (some H) a n) ∙ h

    inv : {p : Bits} {h : ℕ} → ((p ≡ v.prefix i) × (some H ≡ some h)) ⊎ (Held live v p h × (¬ (p ≡ v.prefix i))) → ((p ≡ P) × (h ≡ H)) ⊎ (Held live v p h × (¬ (p ≡ P)))
    inv {p} {h} (inl (x, y)) = inl (x ∙ e, cc)
    inv (inr (r, n)) = inr (r, λ z. n (z ∙ sym e))

-- ---- one new node

pub on_side_same : (d : Bool) (j : ℕ) → on_side d j d ≡ some j
unfolding on_side
on_side_same d j = rw (beq_refl d)

pub on_side_some : (d : Bool) (j : ℕ) (b : Bool) (a : ℕ) → on_side d j b ≡ some a → (b ≡ d) × (a ≡ j)
unfolding on_side
on_side_some true j true a e = (refl, cc)
on_side_some true j false a e = absurd (none-ne-some a e)
on_side_some false j true a e = absurd (none-ne-some a e)
on_side_some false j false a e = (refl, cc)

pub on_side_other : (d : Bool) (j : ℕ) → on_side d j (not d) ≡ none
unfolding on_side
on_side_other true j = refl
on_side_other false j = refl

module _ {live live' : ℕ → Type 0} {n : ℕ} (J : Joined live live' n) (v : Trie) (c : Cell) (ci : Inside live c) where
  -- a cell in use is none of n's
  other : (e : Cell) → Inside live e → (b : Bool) → ¬ (e ≡ Kid n b)
  other = fresh_cell live n J.fresh

  ne : (a : ℕ) → live a → ¬ (a ≡ n)
  ne a l z = J.fresh (rw z at l)

  pub leaf_grown : (Q : Bits) (h : ℕ) → v.child c ≡ none → Grown live live' v (leaf_at v c n Q h) c n Q (some h)
  unfolding leaf_at set_child set_slot set_up set_node
  leaf_grown Q h empty = record {
    joined = J;
    prefix_old = λ a l. upd_other _ _ _ _ a (ne a l);
    prefix_new = upd_same _ _ _ _ n refl;
    hop_old = λ a l. upd_other _ _ _ _ a (ne a l);
    hop_new = upd_same _ _ _ _ n refl;
    up_old = λ a l z. upd_other _ _ _ _ a (ne a l);
    up_new = upd_same _ _ _ _ n refl;
    child_old = λ e i z. slot_old v n Q (some h) c c (λ b. none) e (other e i) z;
    child_cell = slot_cell v n Q (some h) c c (λ b. none);
    child_new = λ b j e. absurd (none-ne-some j (sym (slot_new v n Q (some h) c c (λ b. none) (other c ci) b) ∙ e));
    child_kept = λ j e. absurd (none-ne-some j (sym empty ∙ e));
  }

  pub splice_grown : Sound live v → (Q : Bits) (h : Option ℕ) (d : Bool) (j : ℕ) → v.child c ≡ some j → Below Q d (v.prefix j) → Grown live live' v (splice_at v c n Q h d j) c n Q h
  unfolding splice_at set_child set_slot set_up set_node
  splice_grown S Q h d j full below = record {
    joined = J;
    prefix_old = λ a l. upd_other _ _ _ _ a (ne a l);
    prefix_new = upd_same _ _ _ _ n refl;
    hop_old = λ a l. upd_other _ _ _ _ a (ne a l);
    hop_new = upd_same _ _ _ _ n refl;
    up_old = λ a l z. upd_other _ _ _ _ a (λ y. z (ap v.up y ∙ p.back)) ∙ upd_other _ _ _ _ a (ne a l);
    up_new = upd_other _ _ _ _ n (λ z. ne j p.is_live (sym z)) ∙ upd_same _ _ _ _ n refl;
    child_old = λ e i z. slot_old v n Q h c c (on_side d j) e (other e i) z;
    child_cell = slot_cell v n Q h c c (on_side d j);
    child_new = λ b a e. new b a (on_side_some d j b a (sym (slot_new v n Q h c c (on_side d j) (other c ci) b) ∙ e));
    child_kept = λ a e. (d, slot_new v n Q h c c (on_side d j) (other c ci) d ∙ on_side_same d j ∙ sym full ∙ e);
  }
    where
      p : Points live v c j
      p = S.points c j ci full

      new : (b : Bool) (a : ℕ) → (b ≡ d) × (a ≡ j) → (v.child c ≡ some a) × ((splice_at v c n Q h d j).up a ≡ Kid n b) × Below Q b (v.prefix a)
      new b a (x, y) = rw (x, y) (full, upd_same _ _ _ _ j refl, below)

module _ {live live' : ℕ → Type 0} {n : ℕ} (J : Joined live live' n) {v : Trie} (S : Sound live v) (B : Branchy live v)
    (c : Cell) (ci : Inside live c) (P : Bits) (H : ℕ) (cf : Fits v c P) where
  by_route : (w : Trie) → Grown live live' v w c n P (some H) → ((j : ℕ) → v.child c ≡ some j → ¬ (v.prefix j ⊑ P)) → Put live live' v w P H
  by_route w g off = grown_put S ci cf g off (grown_branchy S ci cf g B (λ e. absurd (some-ne-none H e)))

  -- the cell is empty
  pub put_leaf : v.child c ≡ none → Put live live' v (leaf_at v c n P H) P H
  put_leaf empty = by_route _ (leaf_grown J v c ci P H empty) (λ j e. absurd (none-ne-some j (sym empty ∙ e)))

  -- the cell's node stands below P, on the side of its next bit
  pub put_above : (j : ℕ) → v.child c ≡ some j → contains (v.prefix j) P ≡ false → contains P (v.prefix j) ≡ true
      → Put live live' v (splice_at v c n P (some H) (get_or (v.prefix j) (length P) false) j) P H
  put_above j full out in' =
      let h = contains_⊑ P (v.prefix j) in' in
      by_route _ (splice_grown J v c ci S P (some H) (get_or (v.prefix j) (length P) false) j full (next_below h (longer h (dec_le (length (v.prefix j)) (length P))))) off
    where
      longer : P ⊑ v.prefix j → Dec (length (v.prefix j) ≤ length P) → length P < length (v.prefix j)
      longer h (yes l) = absurd (not_⊑ (v.prefix j) P out (⊑_of_eq (sym (⊑_eq h l))))
      longer h (no l) = omega arith

      off : (k : ℕ) → v.child c ≡ some k → ¬ (v.prefix k ⊑ P)
      off k e h = let z : j ≡ k = cc in not_⊑ (v.prefix j) P out (rw (← z) at h)

-- ---- two new nodes

fits_shared : (v : Trie) (c : Cell) (x y : Bits) → Fits v c x → Fits v c y → Fits v c (shared x y)
fits_shared v Root x y f g = tt
fits_shared v (Kid i b) x y f g = below_shared f g

module _ {live live₁ live₂ : ℕ → Type 0} {n k : ℕ} (J : Joined live live₁ n) (K : Joined live₁ live₂ k) {v : Trie} (S : Sound live v) (B : Branchy live v)
    (c : Cell) (ci : Inside live c) (P : Bits) (H : ℕ) (cf : Fits v c P) (j : ℕ) (full : v.child c ≡ some j) where
  module _ (L : Bits) (d : Bool) (lf : Fits v c L) (lp : Below L (not d) P) (lj : Below L d (v.prefix j)) where
    mid : Trie
    mid = splice_at v c n L none d j

    g₁ : Grown live live₁ v mid c n L none
    unfolding mid
    g₁ = splice_grown J v c ci S L none d j full lj

    S₁ : Sound live₁ mid
    S₁ = grown_sound S ci lf g₁

    mid_kid : (b : Bool) → mid.child (Kid n b) ≡ on_side d j b
    unfolding mid splice_at set_up set_child
    mid_kid b = slot_new v n L none c c (on_side d j) (fresh_cell live n J.fresh c ci) b

    f₂ : Fits mid (Kid n (not d)) P
    f₂ = rw g₁.prefix_new lp

    free : mid.child (Kid n (not d)) ≡ none
    free = mid_kid (not d) ∙ on_side_other d j

    g₂ : Grown live₁ live₂ mid (fork_at v c n k L d j P H) (Kid n (not d)) k P (some H)
    unfolding fork_at mid
    g₂ = leaf_grown K mid (Kid n (not d)) J.new P H free

    two : (b : Bool) → Dec (b ≡ d) → (x : ℕ) × ((fork_at v c n k L d j P H).child (Kid n b) ≡ some x)
    two b (yes z) = full_old S₁ J.new f₂ g₂ (Kid n b) j J.new (mid_kid b ∙ ap (on_side d j) z ∙ on_side_same d j)
    two b (no ne) = (k, rw (bool_other b d ne) g₂.child_cell)

    branchy : Branchy live₂ (fork_at v c n k L d j P H)
    branchy a l h b = new (K.inv a l)
      where
        old : live₁ a → live a ⊎ (a ≡ n) → (x : ℕ) × ((fork_at v c n k L d j P H).child (Kid a b) ≡ some x)
        old l₁ (inl l₀) = branchy_old S₁ J.new f₂ g₂ a l₁ (branchy_old S ci lf g₁ a l₀ (B a l₀)) h b
        old l₁ (inr z) = rw z (two b (Bool-discrete b d))

        new : live₁ a ⊎ (a ≡ k) → (x : ℕ) × ((fork_at v c n k L d j P H).child (Kid a b) ≡ some x)
        new (inl l₁) = old l₁ (J.inv a l₁)
        new (inr z) = absurd (some-ne-none H (sym g₂.hop_new ∙ ap (fork_at v c n k L d j P H).hop (sym z) ∙ h))

    -- L is the longest common prefix, as far as the sides tell
    split : Put live live₂ v (fork_at v c n k L d j P H) P H
    split = record {
      sound = p.sound;
      branchy = branchy;
      new = p.new;
      keep = λ r ne. p.keep (held_old S ci lf g₁ r) ne;
      inv = λ r. inv (p.inv r);
    }
      where
        p : Put live₁ live₂ mid (fork_at v c n k L d j P H) P H
        p = grown_put S₁ J.new f₂ g₂ (λ x e. absurd (none-ne-some x (sym free ∙ e))) branchy

        back : {q : Bits} {h : ℕ} → Held live v q h ⊎ ((q ≡ L) × (none ≡ some h)) → Held live v q h
        back (inl r) = r
        back {h} (inr e) = absurd (none-ne-some h e.1)

        inv : {q : Bits} {h : ℕ} → ((q ≡ P) × (h ≡ H)) ⊎ (Held live₁ mid q h × (¬ (q ≡ P))) → ((q ≡ P) × (h ≡ H)) ⊎ (Held live v q h × (¬ (q ≡ P)))
        inv (inl e) = inl e
        inv (inr r) = inr (back (held_inv S ci lf g₁ r.0), r.1)

  -- the cell's node and P part: the branch holds what they share, and the node stands on the side of its next bit
  pub put_fork : contains (v.prefix j) P ≡ false → contains P (v.prefix j) ≡ false
      → Put live live₂ v (fork_at v c n k (shared P (v.prefix j)) (get_or (v.prefix j) (common P (v.prefix j)) false) j P H) P H
  put_fork n₁ n₂ = go (shared_fork P (v.prefix j) (not_⊑ P (v.prefix j) n₂) (not_⊑ (v.prefix j) P n₁))
    where
      L : Bits
      L = shared P (v.prefix j)

      go : (b : Bool) × Below L b P × Below L (not b) (v.prefix j) → Put live live₂ v (fork_at v c n k L (get_or (v.prefix j) (common P (v.prefix j)) false) j P H) P H
      go (b, p, q) =
          let s : get_or (v.prefix j) (common P (v.prefix j)) false ≡ not b = ap (λ (x : ℕ). get_or (v.prefix j) x false) (sym (shared_length P (v.prefix j))) ∙ below_next q in
          rw s (split L (not b) (fits_shared v c P (v.prefix j) cf (S.points c j ci full).fits) (rw (not_not b) p) q)
        where
          not_not : (b : Bool) → not (not b) ≡ b
          not_not true = refl
          not_not false = refl

-- ---- the whole of an announcement, in a table of m slots, by where the descent for P stopped

module _ (m : ℕ) {v : Trie} (S : Sound (Dense m) v) (B : Branchy (Dense m) v) (P : Bits) (H : ℕ) where
  module _ (d : Landed (Dense m) v P (descent v P)) where
    pub announce_leaf : (descent v P).beyond ≡ none → Put (Dense m) (Dense (suc m)) v (leaf_at v (cell_after v P (descent v P).last) m P H) P H
    announce_leaf e = put_leaf (dense_joined m) S B _ d.inside P H d.fits (d.child ∙ e)

    pub announce_above : (j : ℕ) → (descent v P).beyond ≡ some j → contains P (v.prefix j) ≡ true
        → Put (Dense m) (Dense (suc m)) v (splice_at v (cell_after v P (descent v P).last) m P (some H) (get_or (v.prefix j) (length P) false) j) P H
    announce_above j e h = put_above (dense_joined m) S B _ d.inside P H d.fits j (d.child ∙ e) (d.out j e) h

    pub announce_fork : (j : ℕ) → (descent v P).beyond ≡ some j → contains P (v.prefix j) ≡ false
        → Put (Dense m) (Dense (suc (suc m))) v (fork_at v (cell_after v P (descent v P).last) m (suc m) (shared P (v.prefix j)) (get_or (v.prefix j) (common P (v.prefix j)) false) j P H) P H
    announce_fork j e h = put_fork (dense_joined m) (dense_joined (suc m)) S B _ d.inside P H d.fits j (d.child ∙ e) (d.out j e) h
