-- The entries of a sound cache as the model's list: what the model finds in it, leaves out of it and cuts off it. Assumes nothing.
use mathlib.Core.Path.{◌≡◌, refl, sym, ap, ◌∙◌, subst}
use mathlib.Core.Bool.{Bool, true, false, cond}
use mathlib.Core.List.Memᴰ
use mathlib.Core.List.{List, [], ◌∷◌, map}
use mathlib.Core.Logic.{◌⊎◌, inl, inr}
use mathlib.Core.Option.{Option, none, some}
use Prim.Native.Nat.{ℕ, suc, ◌≤◌}
use native.Mathlib.Decide.{ℕ_discrete}
use native.Mathlib.Omega.{arith}
use lib.ListN.{length, length-map}
use Rattle.prefix.specs.Bits.{Bits}
use Rattle.prefix.specs.Prefix.{contains, overlap, common}
use Rattle.prefix.proofs.Booleans.{is_false, clash}
use Rattle.prefix.proofs.Tests.{contains_⊑}
use Rattle.model.specs.Lists.{◌∈◌, keep, first, omit, largest, Pairwise, p_nil, p_cons}
use Rattle.model.specs.Model.{Entry}
use Rattle.model.specs.Demands.{NoOverlap}
use Rattle.model.proofs.ListLaws.{le_largest, largest_in, Pairwise_map}
use Rattle.trie.proofs.Pigeonhole.{Distinct}
use Rattle.lru_cache.specs.Slots.{Cache}
use Rattle.lru_cache.specs.Sound.{Slot, SoundCache, entry_of, order, entries}
use Rattle.lru_cache.specs.Results.{Nearest, Free, without, others}
use Rattle.lru_cache.proofs.Shape.{no_overlap}
use Rattle.lru_cache.proofs.Orders.{ring_order, in_slot, order_all, order_distinct}

-- ---- lists of slots

module _ {A : Type 0} (g : ℕ → A) (test : A → Bool) (k : ℕ) where
  -- the one that passes is found, and left out
  first_one : (l : List ℕ) → k ∈ l → test (g k) ≡ true → ((i : ℕ) → i ∈ l → test (g i) ≡ true → i ≡ k) → first test (map g l) ≡ some (g k)
  unfolding first
  first_one [] m e only = absurd (Memᴰ.not-nil m)
  first_one (x ∷ l) m e only = go (test (g x)) refl (Memᴰ.cases_cons m) (λ h. first_one l h e (λ i q. only i (Memᴰ.tail q)))
    where
      go : (b : Bool) → test (g x) ≡ b → (k ≡ x) ⊎ (k ∈ l) → (k ∈ l → first test (map g l) ≡ some (g k)) → cond b (some (g x)) (first test (map g l)) ≡ some (g k)
      go true f h rec = ap {B = Option A} some (ap g (only x (Memᴰ.head refl) f))
      go false f (inl z) rec = absurd (clash (ap (λ (i : ℕ). test (g i)) (sym z) ∙ e) f)
      go false f (inr h) rec = rec h

  omit_one : (l : List ℕ) → test (g k) ≡ true → ((i : ℕ) → i ∈ l → test (g i) ≡ true → i ≡ k) → omit test (map g l) ≡ map g (without k l)
  unfolding omit without
  omit_one [] e only = refl
  omit_one (x ∷ l) e only = go (ℕ_discrete x k) (test (g x)) refl (omit_one l e (λ i q. only i (Memᴰ.tail q)))
    where
      go : (d : Dec (x ≡ k)) (b : Bool) → test (g x) ≡ b → omit test (map g l) ≡ map g (without k l) → cond b (map g l) (g x ∷ omit test (map g l)) ≡ map g (elim d [ yes e ↦ l | no n ↦ x ∷ without k l ])
      go (yes z) true f rec = refl
      go (yes z) false f rec = absurd (clash (ap (λ (i : ℕ). test (g i)) z ∙ e) f)
      go (no n) true f rec = absurd (n (only x (Memᴰ.head refl) f))
      go (no n) false f rec = ap (λ (q : List A). g x ∷ q) rec

  -- leaving out one that does not pass changes nothing
  keep_one : (l : List ℕ) → test (g k) ≡ false → keep test (map g (without k l)) ≡ keep test (map g l)
  unfolding keep without
  keep_one [] e = refl
  keep_one (x ∷ l) e = go (ℕ_discrete x k) (keep_one l e)
    where
      go : (d : Dec (x ≡ k)) → keep test (map g (without k l)) ≡ keep test (map g l)
          → keep test (map g (elim d [ yes e ↦ l | no n ↦ x ∷ without k l ])) ≡ cond (test (g x)) (g x ∷ keep test (map g l)) (keep test (map g l))
      go (yes z) rec = rw (ap (λ (i : ℕ). test (g i)) z ∙ e)
      go (no n) rec = rw rec

none_first : {A : Type 0} (test : A → Bool) (l : List A) → ((x : A) → x ∈ l → test x ≡ false) → first test l ≡ none
unfolding first
none_first test [] h = refl
none_first test (x ∷ l) h = rw (h x (Memᴰ.head refl)) (none_first test l (λ y m. h y (Memᴰ.tail m)))

largest_is : (l : List ℕ) (m : ℕ) → m ∈ l → ((x : ℕ) → x ∈ l → x ≤ m) → largest l ≡ m
largest_is [] m i h = absurd (Memᴰ.not-nil i)
largest_is (x ∷ l) m i h = omega (arith, le_largest i, h (largest (x ∷ l)) (largest_in x l))

-- ---- the entries

module _ {n : ℕ} {c : Cache} (S : SoundCache n c) where
  pub entries_length : length (entries n c) ≡ n
  unfolding entries
  entries_length = length-map (order n c) (entry_of c) ∙ (ring_order S.ring).size

  pub slot_entry : (k : ℕ) → Slot n k → entry_of c k ∈ entries n c
  unfolding entries
  slot_entry k h = Memᴰ.map (entry_of c) (order_all (ring_order S.ring) k h)

  pub entry_slot : (E : Entry) → E ∈ entries n c → (k : ℕ) × Slot n k × (entry_of c k ≡ E)
  unfolding entries
  entry_slot E m = let t = Memᴰ.of_map (entry_of c) (order n c) m in (t.0, in_slot (ring_order S.ring) t.0 t.1, t.2)

  -- "No two cached prefixes ever overlap."
  pub entries_apart : NoOverlap (entries n c)
  unfolding entries
  entries_apart = Pairwise_map (entry_of c) (go (order n c) (order_distinct (ring_order S.ring)) (in_slot (ring_order S.ring)))
    where
      go : (l : List ℕ) → Distinct l → ((a : ℕ) → a ∈ l → Slot n a) → Pairwise (λ (i j : ℕ). overlap (c.entry i) (c.entry j) ≡ false) l
      go [] d h = p_nil
      go (x ∷ l) d h = p_cons (λ y m. no_overlap S x y (h x (Memᴰ.head refl)) (h y (Memᴰ.tail m)) (λ z. d.0 (subst (λ (i : ℕ). i ∈ l) (sym z) m))) (go l d.1 (λ a m. h a (Memᴰ.tail m)))

  -- what the model says of all entries holds of all slots
  pub entries_free : (P : Bits) → ((E : Entry) → E ∈ entries n c → overlap P E.prefix ≡ false) → Free n c P
  entries_free P h k l = h (entry_of c k) (slot_entry k l)

  -- a test that the entry of slot k passes and no other
  module _ (test : Entry → Bool) (k : ℕ) (h : Slot n k) (yes_k : test (entry_of c k) ≡ true) (only : (i : ℕ) → Slot n i → test (entry_of c i) ≡ true → i ≡ k) where
    pub first_entry : first test (entries n c) ≡ some (entry_of c k)
    unfolding entries
    first_entry = first_one (entry_of c) test k (order n c) (order_all (ring_order S.ring) k h) yes_k (λ i m. only i (in_slot (ring_order S.ring) i m))

    pub omit_entry : omit test (entries n c) ≡ others n c k
    unfolding entries
    omit_entry = omit_one (entry_of c) test k (order n c) yes_k (λ i m. only i (in_slot (ring_order S.ring) i m))

  -- of what passes a test nothing is lost with an entry that does not
  pub keep_others : (test : Entry → Bool) (k : ℕ) → test (entry_of c k) ≡ false → keep test (others n c k) ≡ keep test (entries n c)
  unfolding entries
  keep_others test k e = keep_one (entry_of c) test k (order n c) e

  -- ---- the nearest entry to X

  module _ (X : Bits) (i : ℕ) (N : Nearest n c X i) where
    -- it contains X: a hit
    pub hit_first : contains (c.entry i) X ≡ true → first (λ E. contains E.prefix X) (entries n c) ≡ some (entry_of c i)
    hit_first e = first_entry (λ E. contains E.prefix X) i N.slot e (λ k l t. N.only k l (contains_⊑ (c.entry k) X t))

    pub hit_others : contains (c.entry i) X ≡ true → omit (λ E. contains E.prefix X) (entries n c) ≡ others n c i
    hit_others e = omit_entry (λ E. contains E.prefix X) i N.slot e (λ k l t. N.only k l (contains_⊑ (c.entry k) X t))

    -- it does not: no entry does
    pub miss_first : contains (c.entry i) X ≡ false → first (λ E. contains E.prefix X) (entries n c) ≡ none
    miss_first e = none_first (λ E. contains E.prefix X) (entries n c) (λ E m. go E (entry_slot E m))
      where
        go : (E : Entry) → (k : ℕ) × Slot n k × (entry_of c k ≡ E) → contains E.prefix X ≡ false
        go E (k, l, z) = rw (← z) (is_false (λ t. clash (subst (λ (j : ℕ). contains (c.entry j) X ≡ true) (N.only k l (contains_⊑ (c.entry k) X t)) t) e))

    -- "1 + Common(X, E) for each cached E": the largest
    pub nearest_largest : largest (map (λ E. suc (common X E.prefix)) (entries n c)) ≡ suc (common X (c.entry i))
    nearest_largest = largest_is (map near (entries n c)) (suc (common X (c.entry i))) (Memᴰ.map near (slot_entry i N.slot)) (λ x m. go x (Memᴰ.of_map near (entries n c) m))
      where
        near : Entry → ℕ
        near E = suc (common X E.prefix)

        sub : (x : ℕ) (E : Entry) → near E ≡ x → (k : ℕ) × Slot n k × (entry_of c k ≡ E) → x ≤ suc (common X (c.entry i))
        sub x E e (k, l, z) = omega (arith, N.most k l, e, ap near z)

        go : (x : ℕ) → (E : Entry) × (E ∈ entries n c) × (near E ≡ x) → x ≤ suc (common X (c.entry i))
        go x (E, m, e) = sub x E e (entry_slot E m)
