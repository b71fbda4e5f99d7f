-- The ring of use is a list of all slots, each once: what it becomes when an entry is used, comes, leaves or is moved. Assumes nothing.
use mathlib.Core.Path.{◌≡◌, refl, sym, ap, ◌∙◌, subst}
use mathlib.Core.List.Memᴰ
use mathlib.Core.List.{List, [], ◌∷◌, ◌++◌, map, Memᴰ}
use mathlib.Core.Logic.{◌⊎◌, inl, inr}
use Prim.Native.Nat.{ℕ, zero, suc, ◌≤◌, ◌<◌}
use native.Mathlib.Decide.{ℕ_discrete}
use native.Mathlib.Omega.{arith}
use lib.ListN.{length, length-map}
use Rattle.trie.specs.Updates.{renumbered}
use Rattle.trie.proofs.Moving.{renumbered_s, renumbered_other}
use Rattle.trie.proofs.Pigeonhole.{Distinct, all_there}
use Rattle.lru_cache.specs.Slots.{Cache}
use Rattle.lru_cache.specs.Sound.{Slot, along, Ring, stretch, order}
use Rattle.lru_cache.specs.Changes.{unlink, push_front, to_front, move_links}
use Rattle.lru_cache.specs.Results.{without}
use Rattle.lru_cache.proofs.Rings.{Chain, Loop, mem_ne, pred_in, succ_in, back_forth, forth_back, loop_same, loop_distinct, without_sub, without_gone, without_length, unlink_loop, push_loop, move_loop}

-- l is the order of use of n entries
pub record Order (n : ℕ) (c : Cache) (l : List ℕ) : Type 0 where
  pub loop : Loop c l
  pub below : (a : ℕ) → Memᴰ a l → a ≤ n
  pub size : length l ≡ n

-- ---- the ring is such a list, and no other is

module _ (c : Cache) where
  along_start : along c 0 0 ≡ 0
  unfolding along
  along_start = refl

  along_next : (a k : ℕ) → along c (c.next a) k ≡ along c a (suc k)
  unfolding along
  along_next a zero = refl
  along_next a (suc k) = ap c.next (along_next a k)

  stretch_length : (a n : ℕ) → length (stretch c a n) ≡ n
  unfolding stretch
  stretch_length a zero = refl
  stretch_length a (suc n) = ap suc (stretch_length (c.next a) n)

  stretch_chain : (a n : ℕ) → ((k : ℕ) → k ≤ n → c.prev (along c a (suc k)) ≡ along c a k) → Chain c a (stretch c a n) (along c a (suc n))
  unfolding stretch along
  stretch_chain a zero h = (refl, h 0 (omega arith))
  stretch_chain a (suc n) h = (
    refl,
    h 0 (omega arith),
    subst (λ (z : ℕ). Chain c (c.next a) (stretch c (c.next a) n) z) (along_next a (suc n))
        (stretch_chain (c.next a) n (λ k l. ap c.prev (along_next a (suc k)) ∙ h (suc k) (omega arith) ∙ sym (along_next a k))),
  )

  stretch_mem : (a n x : ℕ) → Memᴰ x (stretch c a n) → (k : ℕ) × Slot n k × (along c a k ≡ x)
  unfolding stretch along
  stretch_mem a zero x m = absurd (Memᴰ.not-nil m)
  stretch_mem a (suc n) x m = go (Memᴰ.cases_cons m) (λ h. stretch_mem (c.next a) n x h)
    where
      go : (x ≡ c.next a) ⊎ Memᴰ x (stretch c (c.next a) n) → (Memᴰ x (stretch c (c.next a) n) → (k : ℕ) × Slot n k × (along c (c.next a) k ≡ x)) → (k : ℕ) × Slot (suc n) k × (along c a k ≡ x)
      go (inl e) rec = (1, omega arith, sym e)
      go (inr h) rec = let r = rec h in let s = r.1 in (suc r.0, omega arith, sym (along_next a r.0) ∙ r.2)

  chain_stretch : (a : ℕ) (l : List ℕ) (z : ℕ) → Chain c a l z → stretch c a (length l) ≡ l
  unfolding stretch
  chain_stretch a [] z h = refl
  chain_stretch a (b ∷ l) z h = rw h.0 (ap (λ (q : List ℕ). b ∷ q) (chain_stretch b l z h.2))

  -- the slot that is k + 1 places along is in the list, or at its end
  chain_along : (a : ℕ) (l : List ℕ) (z k : ℕ) → Chain c a l z → k ≤ length l
      → (c.prev (along c a (suc k)) ≡ along c a k) × ((Memᴰ (along c a (suc k)) l × (k < length l)) ⊎ ((k ≡ length l) × (along c a (suc k) ≡ z)))
  unfolding along
  chain_along a [] z zero h l = (rw h.0 h.1, inr (refl, h.0))
  chain_along a [] z (suc k) h l = absurd (omega arith)
  chain_along a (b ∷ q) z zero h l = (rw h.0 h.1, inl (Memᴰ.head h.0, omega arith))
  chain_along a (b ∷ q) z (suc k) h l = go (chain_along b q z k h.2 (omega arith))
    where
      shift : (j : ℕ) → along c b j ≡ along c a (suc j)
      shift j = ap (λ (x : ℕ). along c x j) (sym h.0) ∙ along_next a j

      later : (Memᴰ (along c b (suc k)) q × (k < length q)) ⊎ ((k ≡ length q) × (along c b (suc k) ≡ z))
          → (Memᴰ (along c a (suc (suc k))) (b ∷ q) × (suc k < suc (length q))) ⊎ ((suc k ≡ suc (length q)) × (along c a (suc (suc k)) ≡ z))
      later (inl t) = inl (Memᴰ.tail (subst (λ (x : ℕ). Memᴰ x q) (shift (suc k)) t.0), omega (arith, t.1))
      later (inr t) = inr (ap suc t.0, sym (shift (suc k)) ∙ t.1)

      go : (c.prev (along c b (suc k)) ≡ along c b k) × ((Memᴰ (along c b (suc k)) q × (k < length q)) ⊎ ((k ≡ length q) × (along c b (suc k) ≡ z)))
          → (c.prev (along c a (suc (suc k))) ≡ along c a (suc k)) × ((Memᴰ (along c a (suc (suc k))) (b ∷ q) × (suc k < suc (length q))) ⊎ ((suc k ≡ suc (length q)) × (along c a (suc (suc k)) ≡ z)))
      go t = (ap c.prev (sym (shift (suc k))) ∙ t.0 ∙ shift k, later t.1)

module _ {n : ℕ} {c : Cache} where
  pub ring_order : Ring n c → Order n c (order n c)
  unfolding order
  ring_order R = record {
    loop = record {
      chain = subst (λ (z : ℕ). Chain c 0 (stretch c 0 n) z) R.back (stretch_chain c 0 n R.undone);
      outside = λ m. let t = stretch_mem c 0 n 0 m in R.others t.0 t.1 t.2;
    };
    below = λ a m. low a (stretch_mem c 0 n a m);
    size = stretch_length c 0 n;
  }
    where
      low : (a : ℕ) → (k : ℕ) × Slot n k × (along c 0 k ≡ a) → a ≤ n
      low a (zero, s, e) = absurd (omega arith)
      low a (suc k, s, e) = rw (← e) (R.within k (omega arith))

  pub order_ring : {l : List ℕ} → Order n c l → Ring n c
  order_ring {l} o = record { within = within; undone = λ k h. (at k h).0; others = others; back = back (at n (omega arith)).1 }
    where
      at : (k : ℕ) → k ≤ n → (c.prev (along c 0 (suc k)) ≡ along c 0 k) × ((Memᴰ (along c 0 (suc k)) l × (k < length l)) ⊎ ((k ≡ length l) × (along c 0 (suc k) ≡ 0)))
      at k h = chain_along c 0 l 0 k o.loop.chain (omega (arith, o.size))

      within : (k : ℕ) → k ≤ n → along c 0 (suc k) ≤ n
      within k h = go (at k h).1
        where
          go : (Memᴰ (along c 0 (suc k)) l × (k < length l)) ⊎ ((k ≡ length l) × (along c 0 (suc k) ≡ 0)) → along c 0 (suc k) ≤ n
          go (inl t) = o.below (along c 0 (suc k)) t.0
          go (inr t) = omega (arith, t.1)

      others : (k : ℕ) → Slot n k → ¬ (along c 0 k ≡ 0)
      others zero s = absurd (omega arith)
      others (suc k) s = go (at k (omega arith)).1
        where
          go : (Memᴰ (along c 0 (suc k)) l × (k < length l)) ⊎ ((k ≡ length l) × (along c 0 (suc k) ≡ 0)) → ¬ (along c 0 (suc k) ≡ 0)
          go (inl t) = mem_ne t.0 o.loop.outside
          go (inr t) = absurd (omega (arith, t.0, o.size))

      back : (Memᴰ (along c 0 (suc n)) l × (n < length l)) ⊎ ((n ≡ length l) × (along c 0 (suc n) ≡ 0)) → along c 0 (suc n) ≡ 0
      back (inl t) = absurd (omega (arith, t.1, o.size))
      back (inr t) = t.1

  pub order_is : {l : List ℕ} → Order n c l → order n c ≡ l
  unfolding order
  order_is {l} o = subst (λ (k : ℕ). stretch c 0 k ≡ l) o.size (chain_stretch c 0 l 0 o.loop.chain)

  pub in_slot : {l : List ℕ} → Order n c l → (a : ℕ) → Memᴰ a l → Slot n a
  in_slot o zero m = absurd (o.loop.outside m)
  in_slot o (suc a) m = (omega arith, o.below (suc a) m)

-- n distinct numbers of 1 to n are all of them
all_slots : (n : ℕ) (l : List ℕ) → Distinct l → ¬ Memᴰ 0 l → ((a : ℕ) → Memᴰ a l → a ≤ n) → length l ≡ n → (k : ℕ) → Slot n k → Memᴰ k l
all_slots n l d o b s k h = pick (Memᴰ.cases_cons (all_there (suc n) (0 ∷ l) (o, d) (λ a m. low a (Memᴰ.cases_cons m)) (omega arith) k (omega arith)))
  where
    low : (a : ℕ) → (a ≡ 0) ⊎ Memᴰ a l → a < suc n
    low a (inl e) = omega arith
    low a (inr m) = omega (arith, b a m)

    pick : (k ≡ 0) ⊎ Memᴰ k l → Memᴰ k l
    pick (inl e) = absurd (omega arith)
    pick (inr m) = m

-- the order of use has every slot, once
pub order_distinct : {n : ℕ} {c : Cache} {l : List ℕ} → Order n c l → Distinct l
order_distinct o = loop_distinct o.loop

pub order_all : {n : ℕ} {c : Cache} {l : List ℕ} → Order n c l → (k : ℕ) → Slot n k → Memᴰ k l
order_all {n} {c} {l} o k h = all_slots n l (order_distinct o) o.loop.outside o.below o.size k h

-- the neighbours of a slot, and of slot 0
pub record Linked (n : ℕ) (c : Cache) (s : ℕ) : Type 0 where
  pub next_low : c.next s ≤ n
  pub prev_low : c.prev s ≤ n
  pub there_back : c.prev (c.next s) ≡ s
  pub back_there : c.next (c.prev s) ≡ s

pub ring_linked : {n : ℕ} {c : Cache} → Ring n c → (s : ℕ) → s ≤ n → Linked n c s
ring_linked {n} {c} R s h = record {
  next_low = next_low (succ_in c 0 (order n c) 0 s o.loop.chain (in_ring (ℕ_discrete s 0)));
  prev_low = prev_low (ℕ_discrete s 0);
  there_back = back_forth c 0 (order n c) 0 s o.loop.chain (in_ring (ℕ_discrete s 0));
  back_there = forth_back c 0 (order n c) 0 s o.loop.chain (at (ℕ_discrete s 0));
}
  where
    o : Order n c (order n c)
    o = ring_order R

    in_ring : Dec (s ≡ 0) → Memᴰ s (0 ∷ order n c)
    in_ring (yes e) = Memᴰ.head e
    in_ring (no ne) = Memᴰ.tail (order_all o s (omega arith))

    at : Dec (s ≡ 0) → Memᴰ s (order n c) ⊎ (s ≡ 0)
    at (yes e) = inr e
    at (no ne) = inl (order_all o s (omega arith))

    next_low : Memᴰ (c.next s) (order n c) ⊎ (c.next s ≡ 0) → c.next s ≤ n
    next_low (inl m) = o.below (c.next s) m
    next_low (inr e) = omega arith

    before : (a : ℕ) → (a ≡ 0) ⊎ Memᴰ a (order n c) → a ≤ n
    before a (inl e) = omega arith
    before a (inr m) = o.below a m

    last : (k : ℕ) → k ≤ n → along c 0 k ≤ n
    last zero l = omega (arith, along_start c)
    last (suc k) l = R.within k (omega arith)

    prev_low : Dec (s ≡ 0) → c.prev s ≤ n
    prev_low (yes e) = omega (arith, last n (omega arith), ap c.prev e, ap c.prev R.back, R.undone n (omega arith))
    prev_low (no ne) = before (c.prev s) (Memᴰ.cases_cons (pred_in c 0 (order n c) 0 s o.loop.chain (order_all o s (omega arith))))

pub order_same : {n : ℕ} {c : Cache} {l : List ℕ} (w : Cache) → w.next ≡ c.next → w.prev ≡ c.prev → Order n c l → Order n w l
order_same {n} {c} {l} w e f o = record { loop = loop_same c w l e f o.loop; below = o.below; size = o.size }

-- ---- the changes

-- the entry of slot k is used
pub order_front : {n : ℕ} {c : Cache} {l : List ℕ} → Order n c l → (k : ℕ) → Slot n k → Order n (to_front c k) (k ∷ without k l)
unfolding to_front
order_front {n} {c} {l} o k h = record {
  loop = push_loop (unlink c k) (without k l) k (unlink_loop c l k o.loop m) (λ e. omega arith) (without_gone k l (order_distinct o));
  below = λ a q. below a (Memᴰ.cases_cons q);
  size = without_length k l m ∙ o.size;
}
  where
    m : Memᴰ k l
    m = order_all o k h

    below : (a : ℕ) → (a ≡ k) ⊎ Memᴰ a (without k l) → a ≤ n
    below a (inl e) = omega (arith, h.1)
    below a (inr q) = o.below a (without_sub k l a q)

-- an entry comes, in slot n + 1
pub order_insert : {n : ℕ} {c : Cache} {l : List ℕ} → Order n c l → Order (suc n) (push_front c (suc n)) (suc n ∷ l)
order_insert {n} {c} {l} o = record {
  loop = push_loop c l (suc n) o.loop (λ e. omega arith) (λ m. omega (arith, o.below (suc n) m));
  below = λ a q. below a (Memᴰ.cases_cons q);
  size = ap suc o.size;
}
  where
    below : (a : ℕ) → (a ≡ suc n) ⊎ Memᴰ a l → a ≤ suc n
    below a (inl e) = omega arith
    below a (inr q) = omega (arith, o.below a q)

-- l is the order of use of n entries in the slots 1 to n + 1 without h
pub record Hole (n : ℕ) (c : Cache) (h : ℕ) (l : List ℕ) : Type 0 where
  pub loop : Loop c l
  pub below : (a : ℕ) → Memᴰ a l → a ≤ suc n
  pub size : length l ≡ n
  pub gone : ¬ Memᴰ h l
  pub slot : Slot (suc n) h

-- the entry of slot k leaves
pub hole_make : {n : ℕ} {c : Cache} {l : List ℕ} → Order (suc n) c l → (k : ℕ) → Slot (suc n) k → Hole n (unlink c k) k (without k l)
hole_make {n} {c} {l} o k h = record {
  loop = unlink_loop c l k o.loop (order_all o k h);
  below = λ a q. o.below a (without_sub k l a q);
  size = omega (arith, without_length k l (order_all o k h), o.size);
  gone = without_gone k l (order_distinct o);
  slot = h;
}

pub hole_same : {n : ℕ} {c : Cache} {h : ℕ} {l : List ℕ} (w : Cache) → w.next ≡ c.next → w.prev ≡ c.prev → Hole n c h l → Hole n w h l
hole_same {n} {c} {h} {l} w e f o = record { loop = loop_same c w l e f o.loop; below = o.below; size = o.size; gone = o.gone; slot = o.slot }

-- slot s goes to the hole h
pub hole_move : {n : ℕ} {c : Cache} {h : ℕ} {l : List ℕ} → Hole n c h l → (s : ℕ) → Slot (suc n) s → ¬ (s ≡ h) → Hole n (move_links c s h) s (map (renumbered s h) l)
hole_move {n} {c} {h} {l} o s ls ne = record {
  loop = move_loop c l s h o.loop there (λ e. omega (arith, o.slot.0)) o.gone;
  below = λ a q. below a (Memᴰ.of_map (renumbered s h) l q);
  size = length-map l (renumbered s h) ∙ o.size;
  gone = λ q. gone (Memᴰ.of_map (renumbered s h) l q);
  slot = ls;
}
  where
    low : (a : ℕ) → (a ≡ h) ⊎ Memᴰ a l → a ≤ suc n
    low a (inl e) = omega (arith, o.slot.1)
    low a (inr q) = o.below a q

    out : (0 ≡ h) ⊎ Memᴰ 0 l → ⊥
    out (inl e) = omega (arith, o.slot.0)
    out (inr q) = o.loop.outside q

    pick : (s ≡ h) ⊎ Memᴰ s l → Memᴰ s l
    pick (inl e) = absurd (ne e)
    pick (inr q) = q

    there : Memᴰ s l
    there = pick (Memᴰ.cases_cons (all_slots (suc n) (h ∷ l) (o.gone, loop_distinct o.loop) (λ q. out (Memᴰ.cases_cons q)) (λ a q. low a (Memᴰ.cases_cons q)) (ap suc o.size) s ls))

    below : (a : ℕ) → (x : ℕ) × Memᴰ x l × (renumbered s h x ≡ a) → a ≤ suc n
    below a (x, q, e) = go (ℕ_discrete x s)
      where
        go : Dec (x ≡ s) → a ≤ suc n
        go (yes y) = let w : a ≡ h = sym e ∙ ap (renumbered s h) y ∙ renumbered_s s h in omega (arith, o.slot.1)
        go (no y) = let w : a ≡ x = sym e ∙ renumbered_other s h x y in rw w (o.below x q)

    gone : (x : ℕ) × Memᴰ x l × (renumbered s h x ≡ s) → ⊥
    gone (x, q, e) = go (ℕ_discrete x s)
      where
        go : Dec (x ≡ s) → ⊥
        go (yes y) = ne (sym e ∙ ap (renumbered s h) y ∙ renumbered_s s h)
        go (no y) = y (sym (renumbered_other s h x y) ∙ e)

-- the hole is the last slot
pub hole_end : {n : ℕ} {c : Cache} {l : List ℕ} → Hole n c (suc n) l → Order n c l
hole_end {n} {c} {l} o = record { loop = o.loop; below = λ a q. below a q (ℕ_discrete a (suc n)); size = o.size }
  where
    below : (a : ℕ) → Memᴰ a l → Dec (a ≡ suc n) → a ≤ n
    below a q (yes e) = absurd (o.gone (subst (λ (x : ℕ). Memᴰ x l) e q))
    below a q (no ne) = omega (arith, o.below a q)

-- ---- the least recently used comes last

chain_last : (c : Cache) (a b : ℕ) (l : List ℕ) (z : ℕ) → Chain c a (b ∷ l) z → (i : List ℕ) × (b ∷ l ≡ i ++ (c.prev z ∷ []))
chain_last c a b [] z h = ([], ap (λ (x : ℕ). x ∷ []) (sym h.2.1))
chain_last c a b (x ∷ l) z h = let t = chain_last c b x l z h.2 in (b ∷ t.0, ap (λ (q : List ℕ). b ∷ q) t.1)

pub order_last : {n : ℕ} {c : Cache} {l : List ℕ} → Order (suc n) c l → (i : List ℕ) × (l ≡ i ++ (c.prev 0 ∷ []))
order_last {n} {c} {l} o = go l o.size o.loop.chain
  where
    go : (l : List ℕ) → length l ≡ suc n → Chain c 0 l 0 → (i : List ℕ) × (l ≡ i ++ (c.prev 0 ∷ []))
    go [] e h = absurd (omega arith)
    go (x ∷ l) e h = chain_last c 0 x l 0 h
