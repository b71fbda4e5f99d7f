-- The ring of use as a list of slots: what taking a slot out, putting one in front and renumbering one make of it. Assumes nothing.
use mathlib.Core.Path.{◌≡◌, refl, sym, ap, ◌∙◌, subst}
use mathlib.Core.List.Memᴰ
use mathlib.Core.List.{List, [], ◌∷◌, ◌++◌, map, Memᴰ}
use mathlib.Core.Logic.{◌⊎◌, inl, inr}
use Prim.Native.Nat.{ℕ, suc}
use native.Mathlib.Decide.{ℕ_discrete}
use lib.ListN.{length}
use Rattle.trie.proofs.Stores.{upd_same, upd_other}
use Rattle.trie.specs.Updates.{renumbered, upd}
use Rattle.trie.proofs.Moving.{renumbered_s, renumbered_other}
use Rattle.trie.proofs.Pigeonhole.{Distinct}
use Rattle.lru_cache.specs.Slots.{Cache, set_prev, set_next}
use Rattle.lru_cache.specs.Changes.{unlink, push_front, move_links}
use Rattle.lru_cache.specs.Results.{without}

-- from slot a `next` leads through l to z, and `prev` back
abbrev pub Chain : Cache → ℕ → List ℕ → ℕ → Type 0
Chain c a [] z = (c.next a ≡ z) × (c.prev z ≡ a)
Chain c a (b ∷ l) z = (c.next a ≡ b) × (c.prev b ≡ a) × Chain c b l z

-- the ring from slot 0 goes through l
pub record Loop (c : Cache) (l : List ℕ) : Type 0 where
  pub chain : Chain c 0 l 0
  pub outside : ¬ Memᴰ 0 l

pub mem_ne : {x y : ℕ} {l : List ℕ} → Memᴰ x l → ¬ Memᴰ y l → ¬ (x ≡ y)
mem_ne {x} {y} {l} m n e = n (subst (λ (i : ℕ). Memᴰ i l) e m)

-- ---- what a chain says of its links

module _ (c : Cache) where
  pub pred_in : (a : ℕ) (l : List ℕ) (z k : ℕ) → Chain c a l z → Memᴰ k l → Memᴰ (c.prev k) (a ∷ l)
  pred_in a [] z k h m = absurd (Memᴰ.not-nil m)
  pred_in a (b ∷ l) z k h m = go (Memᴰ.cases_cons m) (λ q. pred_in b l z k h.2 q)
    where
      go : (k ≡ b) ⊎ Memᴰ k l → (Memᴰ k l → Memᴰ (c.prev k) (b ∷ l)) → Memᴰ (c.prev k) (a ∷ b ∷ l)
      go (inl e) rec = Memᴰ.head (ap c.prev e ∙ h.1)
      go (inr q) rec = Memᴰ.tail (rec q)

  pub succ_in : (a : ℕ) (l : List ℕ) (z k : ℕ) → Chain c a l z → Memᴰ k (a ∷ l) → Memᴰ (c.next k) l ⊎ (c.next k ≡ z)
  succ_in a [] z k h m = go (Memᴰ.cases_cons m)
    where
      go : (k ≡ a) ⊎ Memᴰ k [] → Memᴰ (c.next k) [] ⊎ (c.next k ≡ z)
      go (inl e) = inr (ap c.next e ∙ h.0)
      go (inr q) = absurd (Memᴰ.not-nil q)
  succ_in a (b ∷ l) z k h m = go (Memᴰ.cases_cons m) (λ q. succ_in b l z k h.2 q)
    where
      tail : Memᴰ (c.next k) l ⊎ (c.next k ≡ z) → Memᴰ (c.next k) (b ∷ l) ⊎ (c.next k ≡ z)
      tail (inl q) = inl (Memᴰ.tail q)
      tail (inr e) = inr e

      go : (k ≡ a) ⊎ Memᴰ k (b ∷ l) → (Memᴰ k (b ∷ l) → Memᴰ (c.next k) l ⊎ (c.next k ≡ z)) → Memᴰ (c.next k) (b ∷ l) ⊎ (c.next k ≡ z)
      go (inl e) rec = inl (Memᴰ.head (ap c.next e ∙ h.0))
      go (inr q) rec = tail (rec q)

  -- back and forth
  pub back_forth : (a : ℕ) (l : List ℕ) (z k : ℕ) → Chain c a l z → Memᴰ k (a ∷ l) → c.prev (c.next k) ≡ k
  back_forth a [] z k h m = go (Memᴰ.cases_cons m)
    where
      go : (k ≡ a) ⊎ Memᴰ k [] → c.prev (c.next k) ≡ k
      go (inl e) = rw (e, h.0) h.1
      go (inr q) = absurd (Memᴰ.not-nil q)
  back_forth a (b ∷ l) z k h m = go (Memᴰ.cases_cons m) (λ q. back_forth b l z k h.2 q)
    where
      go : (k ≡ a) ⊎ Memᴰ k (b ∷ l) → (Memᴰ k (b ∷ l) → c.prev (c.next k) ≡ k) → c.prev (c.next k) ≡ k
      go (inl e) rec = rw (e, h.0) h.1
      go (inr q) rec = rec q

  pub forth_back : (a : ℕ) (l : List ℕ) (z k : ℕ) → Chain c a l z → Memᴰ k l ⊎ (k ≡ z) → c.next (c.prev k) ≡ k
  forth_back a [] z k h (inl q) = absurd (Memᴰ.not-nil q)
  forth_back a [] z k h (inr e) = rw (e, h.1) h.0
  forth_back a (b ∷ l) z k h (inr e) = forth_back b l z k h.2 (inr e)
  forth_back a (b ∷ l) z k h (inl m) = go (Memᴰ.cases_cons m) (λ q. forth_back b l z k h.2 (inl q))
    where
      go : (k ≡ b) ⊎ Memᴰ k l → (Memᴰ k l → c.next (c.prev k) ≡ k) → c.next (c.prev k) ≡ k
      go (inl e) rec = rw (e, h.1) h.0
      go (inr q) rec = rec q

  -- nothing is met twice
  pub chain_distinct : (a : ℕ) (l : List ℕ) (z : ℕ) → Chain c a l z → ¬ Memᴰ a l → Distinct l
  chain_distinct a [] z h n = tt
  chain_distinct a (b ∷ l) z h n = (once, chain_distinct b l z h.2 once)
    where
      once : ¬ Memᴰ b l
      once m = n (subst (λ (x : ℕ). Memᴰ x (b ∷ l)) h.1 (pred_in b l z b h.2 m))

  pred_other : (a : ℕ) (l : List ℕ) (z k : ℕ) → Chain c a l z → ¬ Memᴰ a l → Memᴰ k l → ¬ (c.prev k ≡ k)
  pred_other a [] z k h n m = absurd (Memᴰ.not-nil m)
  pred_other a (b ∷ l) z k h n m = go (Memᴰ.cases_cons m) (λ q. pred_other b l z k h.2 (chain_distinct a (b ∷ l) z h n).0 q)
    where
      go : (k ≡ b) ⊎ Memᴰ k l → (Memᴰ k l → ¬ (c.prev k ≡ k)) → ¬ (c.prev k ≡ k)
      go (inl e) rec q = n (Memᴰ.head (sym h.1 ∙ ap c.prev (sym e) ∙ q ∙ e))
      go (inr m) rec q = rec m q

later : {b x z : ℕ} {l : List ℕ} → Memᴰ x l ⊎ (x ≡ z) → Memᴰ x (b ∷ l) ⊎ (x ≡ z)
later (inl m) = inl (Memᴰ.tail m)
later (inr e) = inr e

-- links that agree on the chain, but for the slots' numbers
chain_map : (c w : Cache) (f : ℕ → ℕ) (a : ℕ) (l : List ℕ) (z : ℕ) → Chain c a l z → ((x : ℕ) → Memᴰ x (a ∷ l) → w.next (f x) ≡ f (c.next x))
    → ((x : ℕ) → Memᴰ x l ⊎ (x ≡ z) → w.prev (f x) ≡ f (c.prev x)) → Chain w (f a) (map f l) (f z)
chain_map c w f a [] z h n p = (n a (Memᴰ.head refl) ∙ ap f h.0, p z (inr refl) ∙ ap f h.1)
chain_map c w f a (b ∷ l) z h n p =
    (n a (Memᴰ.head refl) ∙ ap f h.0, p b (inl (Memᴰ.head refl)) ∙ ap f h.1, chain_map c w f b l z h.2 (λ x m. n x (Memᴰ.tail m)) (λ x m. p x (later m)))

pub chain_ext : (c w : Cache) (a : ℕ) (l : List ℕ) (z : ℕ) → Chain c a l z → ((x : ℕ) → Memᴰ x (a ∷ l) → w.next x ≡ c.next x)
    → ((x : ℕ) → Memᴰ x l ⊎ (x ≡ z) → w.prev x ≡ c.prev x) → Chain w a l z
chain_ext c w a [] z h n p = (n a (Memᴰ.head refl) ∙ h.0, p z (inr refl) ∙ h.1)
chain_ext c w a (b ∷ l) z h n p =
    (n a (Memᴰ.head refl) ∙ h.0, p b (inl (Memᴰ.head refl)) ∙ h.1, chain_ext c w b l z h.2 (λ x m. n x (Memᴰ.tail m)) (λ x m. p x (later m)))

pub loop_same : (c w : Cache) (l : List ℕ) → w.next ≡ c.next → w.prev ≡ c.prev → Loop c l → Loop w l
loop_same c w l n p L = record { chain = chain_ext c w 0 l 0 L.chain (λ x m. ap (λ (f : ℕ → ℕ). f x) n) (λ x m. ap (λ (f : ℕ → ℕ). f x) p); outside = L.outside }

-- ---- a list less one of its slots

pub without_sub : (k : ℕ) (l : List ℕ) (a : ℕ) → Memᴰ a (without k l) → Memᴰ a l
unfolding without
without_sub k [] a m = m
without_sub k (x ∷ l) a m = go (ℕ_discrete x k) m (λ h. without_sub k l a h)
  where
    sub : (a ≡ x) ⊎ Memᴰ a (without k l) → (Memᴰ a (without k l) → Memᴰ a l) → Memᴰ a (x ∷ l)
    sub (inl e) rec = Memᴰ.head e
    sub (inr h) rec = Memᴰ.tail (rec h)

    go : (d : Dec (x ≡ k)) → Memᴰ a (elim d [ yes e ↦ l | no n ↦ x ∷ without k l ]) → (Memᴰ a (without k l) → Memᴰ a l) → Memᴰ a (x ∷ l)
    go (yes e) m rec = Memᴰ.tail m
    go (no n) m rec = sub (Memᴰ.cases_cons m) rec

pub without_gone : (k : ℕ) (l : List ℕ) → Distinct l → ¬ Memᴰ k (without k l)
unfolding without
without_gone k [] d m = Memᴰ.not-nil m
without_gone k (x ∷ l) d m = go (ℕ_discrete x k) m (without_gone k l d.1)
  where
    sub : ¬ (x ≡ k) → (k ≡ x) ⊎ Memᴰ k (without k l) → ¬ Memᴰ k (without k l) → ⊥
    sub n (inl e) rec = n (sym e)
    sub n (inr h) rec = rec h

    go : (e : Dec (x ≡ k)) → Memᴰ k (elim e [ yes e ↦ l | no n ↦ x ∷ without k l ]) → ¬ Memᴰ k (without k l) → ⊥
    go (yes e) m rec = d.0 (subst (λ (i : ℕ). Memᴰ i l) (sym e) m)
    go (no n) m rec = sub n (Memᴰ.cases_cons m) rec

pub without_keep : (k : ℕ) (l : List ℕ) (a : ℕ) → ¬ (a ≡ k) → Memᴰ a l → Memᴰ a (without k l)
unfolding without
without_keep k [] a n m = m
without_keep k (x ∷ l) a n m = go (ℕ_discrete x k) (Memᴰ.cases_cons m) (λ h. without_keep k l a n h)
  where
    go : (d : Dec (x ≡ k)) → (a ≡ x) ⊎ Memᴰ a l → (Memᴰ a l → Memᴰ a (without k l)) → Memᴰ a (elim d [ yes e ↦ l | no n ↦ x ∷ without k l ])
    go (yes e) (inl z) rec = absurd (n (z ∙ e))
    go (yes e) (inr h) rec = h
    go (no q) (inl z) rec = Memᴰ.head z
    go (no q) (inr h) rec = Memᴰ.tail (rec h)

pub without_length : (k : ℕ) (l : List ℕ) → Memᴰ k l → suc (length (without k l)) ≡ length l
unfolding without
without_length k [] m = absurd (Memᴰ.not-nil m)
without_length k (x ∷ l) m = go (ℕ_discrete x k) (Memᴰ.cases_cons m) (λ h. without_length k l h)
  where
    go : (d : Dec (x ≡ k)) → (k ≡ x) ⊎ Memᴰ k l → (Memᴰ k l → suc (length (without k l)) ≡ length l) → suc (length {A = ℕ} (elim d [ yes e ↦ l | no n ↦ x ∷ without k l ])) ≡ suc (length l)
    go (yes e) h rec = refl
    go (no n) (inl e) rec = absurd (n (sym e))
    go (no n) (inr h) rec = ap suc (rec h)

-- a list less its last slot
pub mem_last : (k : ℕ) (l : List ℕ) → Memᴰ k (l ++ (k ∷ []))
mem_last k [] = Memᴰ.head refl
mem_last k (x ∷ l) = Memᴰ.tail (mem_last k l)

pub without_last : (k : ℕ) (l : List ℕ) → Distinct (l ++ (k ∷ [])) → without k (l ++ (k ∷ [])) ≡ l
unfolding without
without_last k [] d = go (ℕ_discrete k k)
  where
    go : (t : Dec (k ≡ k)) → ◌≡◌ {A = List ℕ} (elim t [ yes e ↦ [] | no n ↦ k ∷ [] ]) []
    go (yes e) = refl
    go (no n) = absurd (n refl)
without_last k (x ∷ l) d = go (ℕ_discrete x k) (without_last k l d.1)
  where
    go : (t : Dec (x ≡ k)) → without k (l ++ (k ∷ [])) ≡ l → ◌≡◌ {A = List ℕ} (elim t [ yes e ↦ l ++ (k ∷ []) | no n ↦ x ∷ without k (l ++ (k ∷ [])) ]) (x ∷ l)
    go (yes e) h = absurd (d.0 (subst (λ (y : ℕ). Memᴰ y (l ++ (k ∷ []))) (sym e) (mem_last k l)))
    go (no n) h = ap (λ (q : List ℕ). x ∷ q) h

-- ---- slot k is taken out

module _ (c : Cache) (k : ℕ) where
  next_other : (x : ℕ) → ¬ (x ≡ c.prev k) → (unlink c k).next x ≡ c.next x
  unfolding unlink set_prev set_next
  next_other x n = upd_other _ _ _ _ x n

  prev_other : (x : ℕ) → ¬ (x ≡ c.next k) → (unlink c k).prev x ≡ c.prev x
  unfolding unlink set_prev set_next
  prev_other x n = upd_other _ _ _ _ x n

  next_over : (x : ℕ) → x ≡ c.prev k → (unlink c k).next x ≡ c.next k
  unfolding unlink set_prev set_next
  next_over x e = upd_same _ _ _ _ x e

  prev_over : (x : ℕ) → x ≡ c.next k → (unlink c k).prev x ≡ c.prev k
  unfolding unlink set_prev set_next
  prev_over x e = upd_same _ _ _ _ x e

  -- k comes first
  unlink_head : (a b : ℕ) (l : List ℕ) (z : ℕ) → b ≡ k → Chain c a (b ∷ l) z → ¬ Memᴰ a (b ∷ l) → ¬ Memᴰ z (b ∷ l) → Chain (unlink c k) a l z
  unlink_head a b [] z e h n o =
      let q : a ≡ c.prev k = sym h.1 ∙ ap c.prev e in
      let w : c.next k ≡ z = ap c.next (sym e) ∙ h.2.0 in
      (next_over a q ∙ w, prev_over z (sym w) ∙ sym q)
  unlink_head a b (x ∷ l) z e h n o =
      let q : a ≡ c.prev k = sym h.1 ∙ ap c.prev e in
      let w : c.next k ≡ x = ap c.next (sym e) ∙ h.2.0 in
      let d = chain_distinct c a (b ∷ x ∷ l) z h n in (
        next_over a q ∙ w,
        prev_over x (sym w) ∙ sym q,
        chain_ext c (unlink c k) x l z h.2.2 (λ y m. next_other y (λ s. mem_ne (Memᴰ.tail m) n (s ∙ sym q))) (λ y m. prev_other y (λ s. other d (s ∙ w) m)),
      )
    where
      other : {y : ℕ} → Distinct (b ∷ x ∷ l) → y ≡ x → Memᴰ y l ⊎ (y ≡ z) → ⊥
      other d s (inl m) = d.1.0 (subst (λ (i : ℕ). Memᴰ i l) s m)
      other d s (inr t) = o (Memᴰ.tail (Memᴰ.head (sym t ∙ s)))

  unlink_chain : (a : ℕ) (l : List ℕ) (z : ℕ) → Chain c a l z → ¬ Memᴰ a l → ¬ Memᴰ z l → Memᴰ k l → Chain (unlink c k) a (without k l) z
  unfolding without
  unlink_chain a [] z h n o m = absurd (Memᴰ.not-nil m)
  unlink_chain a (b ∷ l) z h n o m = go (ℕ_discrete b k) (Memᴰ.cases_cons m) (λ nb q. unlink_chain b l z h.2 nb (λ r. o (Memᴰ.tail r)) q)
    where
      once : ¬ Memᴰ b l
      once = (chain_distinct c a (b ∷ l) z h n).0

      not_next : Memᴰ (c.next k) l ⊎ (c.next k ≡ z) → ¬ (b ≡ c.next k)
      not_next (inl q) e = once (subst (λ (i : ℕ). Memᴰ i l) (sym e) q)
      not_next (inr q) e = o (Memᴰ.head (sym (e ∙ q)))

      go : (d : Dec (b ≡ k)) → (k ≡ b) ⊎ Memᴰ k l → (¬ Memᴰ b l → Memᴰ k l → Chain (unlink c k) b (without k l) z) → Chain (unlink c k) a (elim d [ yes e ↦ l | no n ↦ b ∷ without k l ]) z
      go (yes e) q rec = unlink_head a b l z e h n o
      go (no q) (inl e) rec = absurd (q (sym e))
      go (no q) (inr r) rec = (
        next_other a (λ s. n (subst (λ (i : ℕ). Memᴰ i (b ∷ l)) (sym s) (pred_in c b l z k h.2 r))) ∙ h.0,
        prev_other b (not_next (succ_in c b l z k h.2 (Memᴰ.tail r))) ∙ h.1,
        rec once r,
      )

pub loop_distinct : {c : Cache} {l : List ℕ} → Loop c l → Distinct l
loop_distinct {c} {l} L = chain_distinct c 0 l 0 L.chain L.outside

pub unlink_loop : (c : Cache) (l : List ℕ) (k : ℕ) → Loop c l → Memᴰ k l → Loop (unlink c k) (without k l)
unlink_loop c l k L m = record { chain = unlink_chain c k 0 l 0 L.chain L.outside L.outside m; outside = λ h. L.outside (without_sub k l 0 h) }

-- ---- slot k is put in front

pub push_loop : (c : Cache) (l : List ℕ) (k : ℕ) → Loop c l → ¬ (k ≡ 0) → ¬ Memᴰ k l → Loop (push_front c k) (k ∷ l)
unfolding push_front set_prev set_next
push_loop c l k L nz nl = record { chain = (upd_same _ _ _ _ 0 refl, upd_other _ _ _ _ k not_first ∙ upd_same _ _ _ _ k refl, go l refl L.chain); outside = λ h. out (Memᴰ.cases_cons h) }
  where
    out : (0 ≡ k) ⊎ Memᴰ 0 l → ⊥
    out (inl e) = nz (sym e)
    out (inr h) = L.outside h

    first : Memᴰ (c.next 0) l ⊎ (c.next 0 ≡ 0) → ¬ (k ≡ c.next 0)
    first (inl m) e = nl (subst (λ (i : ℕ). Memᴰ i l) (sym e) m)
    first (inr q) e = nz (e ∙ q)

    not_first : ¬ (k ≡ c.next 0)
    not_first = first (succ_in c 0 l 0 0 L.chain (Memᴰ.head refl))

    go : (q : List ℕ) → q ≡ l → Chain c 0 q 0 → Chain (push_front c k) k q 0
    go [] e h = (upd_other _ _ _ _ k nz ∙ upd_same _ _ _ _ k refl ∙ h.0, upd_same _ _ _ _ 0 (sym h.0))
    go (b ∷ q) e h = (
      upd_other _ _ _ _ k nz ∙ upd_same _ _ _ _ k refl ∙ h.0,
      upd_same _ _ _ _ b (sym h.0),
      chain_ext c (push_front c k) b q 0 h.2 (λ x m. upd_other _ _ _ _ x (mem_ne m o) ∙ upd_other _ _ _ _ x (mem_ne m n)) (λ x m. upd_other _ _ _ _ x (λ s. later' m (s ∙ h.0)) ∙ upd_other _ _ _ _ x (λ s. kept m s)),
    )
      where
        o : ¬ Memᴰ 0 (b ∷ q)
        o = subst (λ (x : List ℕ). ¬ Memᴰ 0 x) (sym e) L.outside

        n : ¬ Memᴰ k (b ∷ q)
        n = subst (λ (x : List ℕ). ¬ Memᴰ k x) (sym e) nl

        later' : {x : ℕ} → Memᴰ x q ⊎ (x ≡ 0) → ¬ (x ≡ b)
        later' (inl m) s = (chain_distinct c 0 (b ∷ q) 0 h o).0 (subst (λ (i : ℕ). Memᴰ i q) s m)
        later' (inr t) s = o (Memᴰ.head (sym t ∙ s))

        kept : {x : ℕ} → Memᴰ x q ⊎ (x ≡ 0) → ¬ (x ≡ k)
        kept (inl m) s = n (Memᴰ.tail (subst (λ (i : ℕ). Memᴰ i q) s m))
        kept (inr t) s = nz (sym s ∙ t)

-- ---- slot s gets the number t

-- one link function, by its inverse
renumbered_link : (f g h : ℕ → ℕ) (s t x : ℕ) → h ≡ upd ℕ_discrete (upd ℕ_discrete f t (f s)) (g s) t → ¬ (t ≡ g s) → ¬ (f s ≡ s) → ¬ (x ≡ t) → f (g s) ≡ s → g (f x) ≡ x → h (renumbered s t x) ≡ renumbered s t (f x)
renumbered_link f g h s t x d tg fs xt gs fx = subst (λ (h : ℕ → ℕ). h (renumbered s t x) ≡ renumbered s t (f x)) (sym d) (go (ℕ_discrete x s))
  where
    H : ℕ → ℕ
    H = upd ℕ_discrete (upd ℕ_discrete f t (f s)) (g s) t

    sub : ¬ (x ≡ s) → Dec (x ≡ g s) → H x ≡ renumbered s t (f x)
    sub n (yes e) = upd_same _ _ _ _ x e ∙ sym (ap (renumbered s t) (ap f e ∙ gs) ∙ renumbered_s s t)
    sub n (no m) = upd_other _ _ _ _ x m ∙ upd_other _ _ _ _ x xt ∙ sym (renumbered_other s t (f x) (λ q. m (sym fx ∙ ap g q)))

    go : Dec (x ≡ s) → H (renumbered s t x) ≡ renumbered s t (f x)
    go (yes e) = rw (e, renumbered_s s t) (upd_other _ _ _ _ t tg ∙ upd_same _ _ _ _ t refl ∙ sym (renumbered_other s t (f s) fs))
    go (no n) = rw (renumbered_other s t x n) (sub n (ℕ_discrete x (g s)))

pub move_loop : (c : Cache) (l : List ℕ) (s t : ℕ) → Loop c l → Memᴰ s l → ¬ (t ≡ 0) → ¬ Memᴰ t l → Loop (move_links c s t) (map (renumbered s t) l)
unfolding move_links set_prev set_next
move_loop c l s t L m nz nl = record { chain = subst (λ (y : ℕ). Chain (move_links c s t) y (map (renumbered s t) l) y) zz (chain_map c (move_links c s t) (renumbered s t) 0 l 0 L.chain nx pv); outside = λ h. out (Memᴰ.of_map (renumbered s t) l h) }
  where
    zz : renumbered s t 0 ≡ 0
    zz = renumbered_other s t 0 (λ e. mem_ne m L.outside (sym e))

    none : ¬ Memᴰ t (0 ∷ l)
    none h = go (Memᴰ.cases_cons h)
      where
        go : (t ≡ 0) ⊎ Memᴰ t l → ⊥
        go (inl e) = nz e
        go (inr q) = nl q

    ps : ¬ (c.prev s ≡ s)
    ps = pred_other c 0 l 0 s L.chain L.outside m

    bf : c.prev (c.next s) ≡ s
    bf = back_forth c 0 l 0 s L.chain (Memᴰ.tail m)

    fb : c.next (c.prev s) ≡ s
    fb = forth_back c 0 l 0 s L.chain (inl m)

    ns : ¬ (c.next s ≡ s)
    ns e = ps (ap c.prev (sym e) ∙ bf)

    in_ring : {x : ℕ} → Memᴰ x l ⊎ (x ≡ 0) → Memᴰ x (0 ∷ l)
    in_ring (inl h) = Memᴰ.tail h
    in_ring (inr e) = Memᴰ.head e

    nx : (x : ℕ) → Memᴰ x (0 ∷ l) → (move_links c s t).next (renumbered s t x) ≡ renumbered s t (c.next x)
    nx x h = renumbered_link c.next c.prev (move_links c s t).next s t x refl (λ e. none (subst (λ (i : ℕ). Memᴰ i (0 ∷ l)) (sym e) (pred_in c 0 l 0 s L.chain m))) ns (mem_ne h none) fb (back_forth c 0 l 0 x L.chain h)

    pv : (x : ℕ) → Memᴰ x l ⊎ (x ≡ 0) → (move_links c s t).prev (renumbered s t x) ≡ renumbered s t (c.prev x)
    pv x h = renumbered_link c.prev c.next (move_links c s t).prev s t x refl (λ e. none (subst (λ (i : ℕ). Memᴰ i (0 ∷ l)) (sym e) (in_ring (succ_in c 0 l 0 s L.chain (Memᴰ.tail m))))) ps (mem_ne (in_ring h) none) bf (forth_back c 0 l 0 x L.chain h)

    out : (x : ℕ) × Memᴰ x l × (renumbered s t x ≡ 0) → ⊥
    out (x, h, e) = go (ℕ_discrete x s)
      where
        go : Dec (x ≡ s) → ⊥
        go (yes q) = nz (sym (renumbered_s s t) ∙ ap (renumbered s t) (sym q) ∙ e)
        go (no n) = mem_ne h L.outside (sym (renumbered_other s t x n) ∙ e)
