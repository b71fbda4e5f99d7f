-- What an update does to a list of entries, one entry at a time. Assumes nothing.
use mathlib.Core.Path.{◌≡◌, refl, sym, ap, ap₂, ◌∙◌, subst}
use mathlib.Core.Bool.{Bool, true, false, not, cond}
use mathlib.Core.List.Memᴰ
use mathlib.Core.List.{List, [], ◌∷◌, map}
use mathlib.Core.Logic.{◌⊎◌, inl, inr}
use Prim.Native.Nat.{ℕ, suc}
use native.Mathlib.Omega.{arith}
use lib.ListN.{length}
use lib.Dec.{eqb}
use borrow.Author.Tests.{eq-eqb, ne_eqb}
use Rattle.model.specs.Lists.{◌∈◌, keep}
use Rattle.model.specs.Routes.{Table, Update}
use Rattle.model.specs.Model.{Entry, Cache, leaves, fresh, refreshed, removed, changed}
use Rattle.model.proofs.ListLaws.{keep_both}
use Rattle.trie.proofs.Pigeonhole.{Distinct}
use Rattle.lru_cache.proofs.Using.{map_same}
use Rattle.lru_cache.proofs.Rings.{mem_ne}
use Rattle.renewal.specs.Passes.{Right}

module _ (T : Table) (u : Update) where
  -- ---- one more entry

  abbrev counts : Entry → ℕ → ℕ
  counts E n = cond (leaves T u E) n (cond (eqb E.hop (fresh T E).hop) n (suc n))

  changed_cons : (E : Entry) (c : Cache) → changed T u (E ∷ c) ≡ counts E (changed T u c)
  unfolding changed keep
  changed_cons E c = go (leaves T u E) (eqb E.hop (fresh T E).hop) refl
    where
      rest : Cache
      rest = keep (λ (D : Entry). not (leaves T u D)) c

      new : Entry → Bool
      new D = not (eqb D.hop (fresh T D).hop)

      go : (a b : Bool) → eqb E.hop (fresh T E).hop ≡ b
          → length (keep new (cond (not a) (E ∷ rest) rest)) ≡ cond a (length (keep new rest)) (cond b (length (keep new rest)) (suc (length (keep new rest))))
      go true b e = refl
      go false true e = rw e
      go false false e = rw e

  -- ---- all are right

  right_fresh : {E : Entry} → Right T u E → fresh T E ≡ E
  unfolding fresh
  right_fresh {E} r = rw (← r.its_hop)

  pub right_cache : (c : Cache) → ((E : Entry) → E ∈ c → Right T u E) → refreshed T u c ≡ c
  unfolding refreshed keep
  right_cache [] h = refl
  right_cache (E ∷ c) h =
      let r = h E (Memᴰ.head refl) in
      rw r.stays (ap₂ ◌∷◌ (right_fresh r) (right_cache c (λ D m. h D (Memᴰ.tail m))))

  pub right_removed : (c : Cache) → ((E : Entry) → E ∈ c → Right T u E) → removed T u c ≡ 0
  unfolding removed keep
  right_removed [] h = refl
  right_removed (E ∷ c) h = rw (h E (Memᴰ.head refl)).stays (right_removed c (λ D m. h D (Memᴰ.tail m)))

  pub right_changed : (c : Cache) → ((E : Entry) → E ∈ c → Right T u E) → changed T u c ≡ 0
  unfolding changed keep
  right_changed [] h = refl
  right_changed (E ∷ c) h =
      let r = h E (Memᴰ.head refl) in
      changed_cons E c ∙ rw (r.stays, eq-eqb E.hop (fresh T E).hop r.its_hop) (right_changed c (λ D m. h D (Memᴰ.tail m)))

  -- ---- another hop

  pub leaves_prefix : (D E : Entry) → D.prefix ≡ E.prefix → leaves T u D ≡ leaves T u E
  unfolding leaves
  leaves_prefix D E h = rw h

  pub fresh_prefix : (D E : Entry) → D.prefix ≡ E.prefix → fresh T D ≡ fresh T E
  unfolding fresh
  fresh_prefix D E h = rw h

  module _ (f g : ℕ → Entry) (same : (i : ℕ) → (g i).prefix ≡ (f i).prefix) where
    pub rehop_cache : (l : List ℕ) → refreshed T u (map g l) ≡ refreshed T u (map f l)
    unfolding refreshed keep
    rehop_cache [] = refl
    rehop_cache (x ∷ l) = rw (leaves_prefix (g x) (f x) (same x)) (go (leaves T u (f x)) (rehop_cache l))
      where
        rest : (ℕ → Entry) → Cache
        rest h = keep (λ (D : Entry). not (leaves T u D)) (map h l)

        go : (b : Bool) → map (fresh T) (rest g) ≡ map (fresh T) (rest f)
            → map (fresh T) (cond (not b) (g x ∷ rest g) (rest g)) ≡ map (fresh T) (cond (not b) (f x ∷ rest f) (rest f))
        go true rec = rec
        go false rec = ap₂ ◌∷◌ (fresh_prefix (g x) (f x) (same x)) rec

    pub rehop_removed : (l : List ℕ) → removed T u (map g l) ≡ removed T u (map f l)
    unfolding removed keep
    rehop_removed [] = refl
    rehop_removed (x ∷ l) = rw (leaves_prefix (g x) (f x) (same x)) (go (leaves T u (f x)) (rehop_removed l))
      where
        rest : (ℕ → Entry) → Cache
        rest h = keep (leaves T u) (map h l)

        go : (b : Bool) → length (rest g) ≡ length (rest f) → length (cond b (g x ∷ rest g) (rest g)) ≡ length (cond b (f x ∷ rest f) (rest f))
        go true rec = ap suc rec
        go false rec = rec

    -- the entry of slot k, which stays, takes its match's hop
    pub rehop_changed : (k : ℕ) → ((i : ℕ) → ¬ (i ≡ k) → g i ≡ f i) → leaves T u (f k) ≡ false → ¬ ((f k).hop ≡ (fresh T (f k)).hop) → (g k).hop ≡ (fresh T (f k)).hop
        → (l : List ℕ) → Distinct l → k ∈ l → suc (changed T u (map g l)) ≡ changed T u (map f l)
    rehop_changed k others stays old new [] d m = absurd (Memᴰ.not-nil m)
    rehop_changed k others stays old new (x ∷ l) d m = changed_both (Memᴰ.cases_cons m) (λ j. rehop_changed k others stays old new l d.1 j)
      where
        before : counts (f k) (changed T u (map f l)) ≡ suc (changed T u (map f l))
        before = rw (stays, ne_eqb (f k).hop (fresh T (f k)).hop old)

        after : counts (g k) (changed T u (map g l)) ≡ changed T u (map g l)
        after = rw (leaves_prefix (g k) (f k) (same k), stays, fresh_prefix (g k) (f k) (same k), eq-eqb (g k).hop (fresh T (f k)).hop new)

        more : (E : Entry) (n : ℕ) → suc (counts E n) ≡ counts E (suc n)
        more E n = go (leaves T u E) (eqb E.hop (fresh T E).hop)
          where
            go : (a b : Bool) → suc (cond a n (cond b n (suc n))) ≡ cond a (suc n) (cond b (suc n) (suc (suc n)))
            go true b = refl
            go false true = refl
            go false false = refl

        changed_both : (k ≡ x) ⊎ (k ∈ l) → (k ∈ l → suc (changed T u (map g l)) ≡ changed T u (map f l)) → suc (changed T u (map g (x ∷ l))) ≡ changed T u (map f (x ∷ l))
        changed_both (inl z) rec =
            let e : map g l ≡ map f l = map_same g f l (λ i j. others i (mem_ne j (subst (λ (y : ℕ). ¬ (y ∈ l)) (sym z) d.0))) in
            rw (← z) (ap suc (changed_cons (g k) (map g l) ∙ after ∙ ap (changed T u) e) ∙ sym (changed_cons (f k) (map f l) ∙ before))
        changed_both (inr j) rec =
            let ne : ¬ (x ≡ k) = λ z. d.0 (subst (λ (y : ℕ). y ∈ l) (sym z) j) in
            ap suc (changed_cons (g x) (map g l)) ∙ more (g x) (changed T u (map g l))
            ∙ ap₂ counts (others x ne) (rec j) ∙ sym (changed_cons (f x) (map f l))

  -- ---- an entry leaves

  -- what does not leave is the same in d, which has one entry less
  pub fewer_removed : (c d : Cache) → keep (λ E. not (leaves T u E)) d ≡ keep (λ E. not (leaves T u E)) c → suc (length d) ≡ length c → suc (removed T u d) ≡ removed T u c
  unfolding removed
  fewer_removed c d e n = omega (arith, keep_both (leaves T u) c, keep_both (leaves T u) d, ap length e)
