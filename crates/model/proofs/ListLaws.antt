-- Laws of the functions on lists. Assumes nothing.
use mathlib.Core.Bool.{Bool, cond, false, false≢true, not, true}
use mathlib.Core.List.Memᴰ
use mathlib.Core.List.{List, [], ◌++◌, ◌∷◌, flat_map, map}
use mathlib.Core.Logic.{◌⊎◌, inl, inr}
use mathlib.Core.Option.{Option, none-ne-some, some-ne-none, none, some}
use mathlib.Core.Path.{◌∙◌, ◌≡◌, ap, refl, sym}
use Prim.Native.Nat.{◌+◌, ◌<◌, ◌≤◌, max, suc, zero, ℕ}
use native.Mathlib.Decide.{dec_le}
use native.Mathlib.Nat.{le_refl}
use native.Mathlib.Omega.{arith}
use lib.Dec.{ltb}
use lib.ListN.{length, take}
use borrow.Author.Tests.{ltb-false, ltb-true}
use Rattle.prefix.proofs.Booleans.{clash, either, is_false, or_right, or_true}
use Rattle.model.specs.Demands.{Subset}
use Rattle.model.specs.Lists.{Pairwise, ◌∈◌, any, bigger, biggest, first, keep, largest, omit, p_cons, p_nil}

module _ {A : Type 0} where
  -- ---- keep, any, first, omit

  cond_in : (b : Bool) {x a : A} {l : List A} → x ∈ cond b (a ∷ l) l → ((b ≡ true) × (x ≡ a)) ⊎ (x ∈ l)
  cond_in true m = go (Memᴰ.cases_cons m)
    where
      go : {x a : A} {l : List A} → (x ≡ a) ⊎ (x ∈ l) → ((true ≡ true) × (x ≡ a)) ⊎ (x ∈ l)
      go (inl e) = inl (refl, e)
      go (inr m) = inr m
  cond_in false m = inr m

  in_cond : (b : Bool) (a : A) {x : A} {l : List A} → x ∈ l → x ∈ cond b (a ∷ l) l
  in_cond true a m = Memᴰ.tail m
  in_cond false a m = m

  pub keep_in : (f : A → Bool) (l : List A) {x : A} → x ∈ keep f l → (x ∈ l) × (f x ≡ true)
  unfolding keep
  keep_in f [] m = absurd (Memᴰ.not-nil m)
  keep_in f (a ∷ l) {x} m = go (cond_in (f a) m) (λ k. keep_in f l k)
    where
      go : ((f a ≡ true) × (x ≡ a)) ⊎ (x ∈ keep f l) → (x ∈ keep f l → (x ∈ l) × (f x ≡ true)) → (x ∈ a ∷ l) × (f x ≡ true)
      go (inl h) rec = (Memᴰ.head h.1, ap f h.1 ∙ h.0)
      go (inr k) rec = (Memᴰ.tail (rec k).0, (rec k).1)

  pub in_keep : (f : A → Bool) {x : A} {l : List A} → x ∈ l → f x ≡ true → x ∈ keep f l
  unfolding keep
  in_keep f (Memᴰ.head {x = a} e) h = rw (sym (ap f e) ∙ h) (Memᴰ.head e)
  in_keep f (Memᴰ.tail {x = a} m) h = in_cond (f a) a (in_keep f m h)

  pub in_any : (f : A → Bool) {x : A} {l : List A} → x ∈ l → f x ≡ true → any f l ≡ true
  unfolding any
  in_any f (Memᴰ.head {x = a} e) h = rw (sym (ap f e) ∙ h)
  in_any f (Memᴰ.tail {x = a} m) h = or_right (f a) _ (in_any f m h)

  pub any_in : (f : A → Bool) (l : List A) → any f l ≡ true → (x : A) × (x ∈ l) × (f x ≡ true)
  unfolding any
  any_in f [] e = absurd (false≢true e)
  any_in f (a ∷ l) e = go (or_true (f a) _ e) (λ h. any_in f l h)
    where
      go : (f a ≡ true) ⊎ (any f l ≡ true) → (any f l ≡ true → (x : A) × (x ∈ l) × (f x ≡ true)) → (x : A) × (x ∈ a ∷ l) × (f x ≡ true)
      go (inl h) rec = (a, Memᴰ.head refl, h)
      go (inr h) rec = let r = rec h in (r.0, Memᴰ.tail r.1, r.2)

  pub any_false : (f : A → Bool) {l : List A} {x : A} → any f l ≡ false → x ∈ l → f x ≡ false
  any_false f e m = is_false (λ h. clash (in_any f m h) e)

  pub none_any : (f : A → Bool) (l : List A) → ((x : A) → x ∈ l → f x ≡ false) → any f l ≡ false
  none_any f l h = is_false (λ e. let r = any_in f l e in clash r.2 (h r.0 r.1))

  pub first_in : (f : A → Bool) (l : List A) {x : A} → first f l ≡ some x → (x ∈ l) × (f x ≡ true)
  unfolding first
  first_in f [] {x} e = absurd (none-ne-some x e)
  first_in f (a ∷ l) {x} e = go (f a) refl e (λ h. first_in f l h)
    where
      go : (b : Bool) → f a ≡ b → cond b (some a) (first f l) ≡ some x → (first f l ≡ some x → (x ∈ l) × (f x ≡ true)) → (x ∈ a ∷ l) × (f x ≡ true)
      go true h e rec = let z : x ≡ a = cc in (Memᴰ.head z, ap f z ∙ h)
      go false h e rec = (Memᴰ.tail (rec e).0, (rec e).1)

  pub first_none : (f : A → Bool) {l : List A} {x : A} → first f l ≡ none → x ∈ l → f x ≡ false
  unfolding first
  first_none f {l = a ∷ l} {x} e m = go (f a) refl e (Memᴰ.cases_cons m) (λ h k. first_none f {l = l} h k)
    where
      go : (b : Bool) → f a ≡ b → cond b (some a) (first f l) ≡ none → (x ≡ a) ⊎ (x ∈ l) → (first f l ≡ none → x ∈ l → f x ≡ false) → f x ≡ false
      go true h e m rec = absurd (some-ne-none a e)
      go false h e (inl z) rec = ap f z ∙ h
      go false h e (inr k) rec = rec e k
  first_none f {l = []} e m = absurd (Memᴰ.not-nil m)

  pub omit_in : (f : A → Bool) (l : List A) {x : A} → x ∈ omit f l → x ∈ l
  unfolding omit
  omit_in f [] m = m
  omit_in f (a ∷ l) {x} m = go (f a) m (λ k. omit_in f l k)
    where
      sub : (x ≡ a) ⊎ (x ∈ omit f l) → (x ∈ omit f l → x ∈ l) → x ∈ a ∷ l
      sub (inl e) rec = Memᴰ.head e
      sub (inr k) rec = Memᴰ.tail (rec k)

      go : (b : Bool) → x ∈ cond b l (a ∷ omit f l) → (x ∈ omit f l → x ∈ l) → x ∈ a ∷ l
      go true m rec = Memᴰ.tail m
      go false m rec = sub (Memᴰ.cases_cons m) rec

  pub omit_length : (f : A → Bool) (l : List A) (x : A) → first f l ≡ some x → suc (length (omit f l)) ≡ length l
  unfolding first omit
  omit_length f [] x e = absurd (none-ne-some x e)
  omit_length f (a ∷ l) x e = go (f a) e (λ h. omit_length f l x h)
    where
      go : (b : Bool) → cond b (some a) (first f l) ≡ some x → (first f l ≡ some x → suc (length (omit f l)) ≡ length l) → suc (length (cond b l (a ∷ omit f l))) ≡ suc (length l)
      go true e rec = refl
      go false e rec = ap suc (rec e)

  pub keep_length : (f : A → Bool) (l : List A) → length (keep f l) ≤ length l
  unfolding keep
  keep_length f [] = omega arith
  keep_length f (a ∷ l) = go (f a) (keep_length f l)
    where
      go : (b : Bool) → length (keep f l) ≤ length l → length (cond b (a ∷ keep f l) (keep f l)) ≤ suc (length l)
      go true h = omega arith
      go false h = omega arith

  pub keep_lt : (f : A → Bool) {x : A} {l : List A} → x ∈ l → f x ≡ false → length (keep f l) < length l
  unfolding keep
  keep_lt f (Memᴰ.head {x = a} {xs = l} e) h = rw (sym (ap f e) ∙ h) (omega (arith, keep_length f l))
  keep_lt f (Memᴰ.tail {x = a} {xs = l} m) h = go (f a) (keep_lt f m h)
    where
      go : (b : Bool) → length (keep f l) < length l → length (cond b (a ∷ keep f l) (keep f l)) < suc (length l)
      go true k = omega arith
      go false k = omega arith

  -- those that pass and those that do not are all
  pub keep_both : (f : A → Bool) (l : List A) → length (keep (λ x. not (f x)) l) + length (keep f l) ≡ length l
  unfolding keep
  keep_both f [] = refl
  keep_both f (a ∷ l) = go (f a) (keep_both f l)
    where
      go : (b : Bool) → length (keep (λ x. not (f x)) l) + length (keep f l) ≡ length l → length (cond (not b) (a ∷ keep (λ x. not (f x)) l) (keep (λ x. not (f x)) l)) + length (cond b (a ∷ keep f l) (keep f l)) ≡ suc (length l)
      go true h = omega arith
      go false h = omega arith

  -- ---- the greatest

  pub record Biggest (size : A → ℕ) (l : List A) (m : A) : Type 0 where
    pub is_in : m ∈ l
    pub most : (x : A) → x ∈ l → size x ≤ size m

  pub biggest_none : (size : A → ℕ) (l : List A) {x : A} → biggest size l ≡ none → x ∈ l → ⊥
  unfolding biggest bigger
  biggest_none size [] e m = Memᴰ.not-nil m
  biggest_none size (a ∷ l) e m = go (biggest size l) e
    where
      sub : (b : Bool) (y : A) → ◌≡◌ {A = Option A} (cond b (some y) (some a)) none → ⊥
      sub true y e = some-ne-none y e
      sub false y e = some-ne-none a e

      go : (o : Option A) → bigger size a o ≡ none → ⊥
      go none e = some-ne-none a e
      go (some y) e = sub (ltb (size a) (size y)) y e

  pub biggest_is : (size : A → ℕ) (l : List A) {m : A} → biggest size l ≡ some m → Biggest size l m
  unfolding biggest bigger
  biggest_is size [] {m} e = absurd (none-ne-some m e)
  biggest_is size (a ∷ l) {m} e = go (biggest size l) refl e (λ y h. biggest_is size l {m = y} h)
    where
      cases : (x y : A) → (x ≡ a) ⊎ (x ∈ l) → size a ≤ size y → ((z : A) → z ∈ l → size z ≤ size y) → size x ≤ size y
      cases x y (inl e) h k = rw e h
      cases x y (inr n) h k = k x n

      sub : (b : Bool) (y : A) → ltb (size a) (size y) ≡ b → cond b (some y) (some a) ≡ some m → Biggest size l y → Biggest size (a ∷ l) m
      sub true y t e k =
          let z : m ≡ y = cc in
          record { is_in = Memᴰ.tail (Memᴰ.cast z k.is_in); most = λ x n. rw z (cases x y (Memᴰ.cases_cons n) (omega (arith, ltb-true (size a) (size y) t)) k.most) }
      sub false y t e k =
          let z : m ≡ a = cc in
          record { is_in = Memᴰ.head z; most = λ x n. rw z (cases x a (Memᴰ.cases_cons n) (le_refl _) (λ w o. omega (arith, ltb-false (size a) (size y) t, k.most w o))) }

      go : (o : Option A) → biggest size l ≡ o → bigger size a o ≡ some m → ((y : A) → biggest size l ≡ some y → Biggest size l y) → Biggest size (a ∷ l) m
      go none h e rec =
          let z : m ≡ a = cc in
          record { is_in = Memᴰ.head z; most = λ x n. rw z (cases x a (Memᴰ.cases_cons n) (le_refl _) (λ w o. absurd (biggest_none size l h o))) }
      go (some y) h e rec = sub (ltb (size a) (size y)) y refl e (rec y h)

  -- ---- pairs

  pub Pairwise_keep : {R : A → A → Type 0} (f : A → Bool) {l : List A} → Pairwise R l → Pairwise R (keep f l)
  unfolding keep
  Pairwise_keep f p_nil = p_nil
  Pairwise_keep {R} f (p_cons {x = a} {l = l} h t) = go (f a) (Pairwise_keep f t)
    where
      go : (b : Bool) → Pairwise R (keep f l) → Pairwise R (cond b (a ∷ keep f l) (keep f l))
      go true k = p_cons (λ y m. h y (keep_in f l m).0) k
      go false k = k

  pub Pairwise_omit : {R : A → A → Type 0} (f : A → Bool) {l : List A} → Pairwise R l → Pairwise R (omit f l)
  unfolding omit
  Pairwise_omit f p_nil = p_nil
  Pairwise_omit {R} f (p_cons {x = a} {l = l} h t) = go (f a) (Pairwise_omit f t)
    where
      go : (b : Bool) → Pairwise R (omit f l) → Pairwise R (cond b l (a ∷ omit f l))
      go true k = t
      go false k = p_cons (λ y m. h y (omit_in f l m)) k

  pub take_in : (n : ℕ) (l : List A) {x : A} → x ∈ take n l → x ∈ l
  take_in zero l m = absurd (Memᴰ.not-nil m)
  take_in (suc n) [] m = m
  take_in (suc n) (a ∷ l) {x} m = go (Memᴰ.cases_cons m) (λ k. take_in n l k)
    where
      go : (x ≡ a) ⊎ (x ∈ take n l) → (x ∈ take n l → x ∈ l) → x ∈ a ∷ l
      go (inl e) rec = Memᴰ.head e
      go (inr k) rec = Memᴰ.tail (rec k)

  pub Pairwise_take : {R : A → A → Type 0} (n : ℕ) {l : List A} → Pairwise R l → Pairwise R (take n l)
  Pairwise_take zero h = p_nil
  Pairwise_take (suc n) p_nil = p_nil
  Pairwise_take (suc n) (p_cons {x = a} {l = l} h t) = p_cons (λ y m. h y (take_in n l m)) (Pairwise_take n t)

  -- the first that passes, against the others
  pub first_omit : {R : A → A → Type 0} → ((x y : A) → R x y → R y x) → (f : A → Bool) {l : List A} {x : A} → first f l ≡ some x → Pairwise R l → (y : A) → y ∈ omit f l → R x y
  unfolding first omit
  first_omit s f {x} e p_nil y m = absurd (none-ne-some x e)
  first_omit {R} s f {x} e (p_cons {x = a} {l = l} h t) y m = go (f a) e m (λ k n. first_omit s f k t y n)
    where
      sub : first f l ≡ some x → (y ≡ a) ⊎ (y ∈ omit f l) → (first f l ≡ some x → y ∈ omit f l → R x y) → R x y
      sub e (inl z) rec = rw z (s a x (h x (first_in f l e).0))
      sub e (inr n) rec = rec e n

      go : (b : Bool) → cond b (some a) (first f l) ≡ some x → y ∈ cond b l (a ∷ omit f l) → (first f l ≡ some x → y ∈ omit f l → R x y) → R x y
      go true e m rec = let z : x ≡ a = cc in rw z (h y m)
      go false e m rec = sub e (Memᴰ.cases_cons m) rec

  -- the list around the first that passes
  pub record Around (f : A → Bool) (l : List A) (x : A) : Type 0 where
    pub before : List A
    pub behind : List A
    pub stands : l ≡ before ++ (x ∷ behind)
    pub rest : omit f l ≡ before ++ behind

  pub first_split : (f : A → Bool) (l : List A) {x : A} → first f l ≡ some x → Around f l x
  unfolding first omit
  first_split f [] {x} e = absurd (none-ne-some x e)
  first_split f (a ∷ l) {x} e = go (f a) refl e (λ h. first_split f l h)
    where
      sub : f a ≡ false → Around f l x → Around f (a ∷ l) x
      sub h r = record { before = a ∷ r.before; behind = r.behind; stands = ap (λ (k : List A). a ∷ k) r.stands; rest = rw h (ap (λ (k : List A). a ∷ k) r.rest) }

      go : (b : Bool) → f a ≡ b → cond b (some a) (first f l) ≡ some x → (first f l ≡ some x → Around f l x) → Around f (a ∷ l) x
      go true h e rec = let z : x ≡ a = cc in record { before = []; behind = l; stands = rw z refl; rest = rw h refl }
      go false h e rec = sub h (rec e)

  pub passing_first : (f : A → Bool) (l : List A) (x : A) (k : List A) → f x ≡ true → ((y : A) → y ∈ l → f y ≡ false)
      → (first f (l ++ (x ∷ k)) ≡ some x) × (omit f (l ++ (x ∷ k)) ≡ l ++ k)
  unfolding first omit
  passing_first f [] x k h n = (rw h, rw h)
  passing_first f (a ∷ l) x k h n =
      let r = passing_first f l x k h (λ y m. n y (Memᴰ.tail m)) in
      (rw (n a (Memᴰ.head refl)) r.0, rw (n a (Memᴰ.head refl)) (ap (λ (j : List A). a ∷ j) r.1))

  -- R holds of an element and each before it
  pub before_apart : {R : A → A → Type 0} (l : List A) (x : A) (k : List A) → Pairwise R (l ++ (x ∷ k)) → (y : A) → y ∈ l → R y x
  before_apart l x k P y m = go l P m
    where
      go : {R : A → A → Type 0} (l : List A) → Pairwise R (l ++ (x ∷ k)) → y ∈ l → R y x
      go [] P m = absurd (Memᴰ.not-nil m)
      go {R} (a ∷ l) (p_cons h t) m = sub (Memᴰ.cases_cons m) (λ n. go l t n)
        where
          sub : (y ≡ a) ⊎ (y ∈ l) → (y ∈ l → R y x) → R y x
          sub (inl e) rec = rw e (h x (Memᴰ.append_right l (Memᴰ.head refl)))
          sub (inr n) rec = rec n

  -- two elements are one, or R holds of them
  pub pair_cases : {R : A → A → Type 0} → ((x y : A) → R x y → R y x) → {l : List A} {x y : A} → Pairwise R l → x ∈ l → y ∈ l → (x ≡ y) ⊎ R x y
  pair_cases s {x} p_nil m n = absurd (Memᴰ.not-nil m)
  pair_cases {R} s {x} {y} (p_cons {x = a} {l = l} h t) m n = go (Memᴰ.cases_cons m) (Memᴰ.cases_cons n) (λ i k. pair_cases s t i k)
    where
      go : (x ≡ a) ⊎ (x ∈ l) → (y ≡ a) ⊎ (y ∈ l) → (x ∈ l → y ∈ l → (x ≡ y) ⊎ R x y) → (x ≡ y) ⊎ R x y
      go (inl e) (inl f) rec = inl (e ∙ sym f)
      go (inl e) (inr k) rec = inr (rw e (h y k))
      go (inr i) (inl f) rec = inr (rw f (s a x (h x i)))
      go (inr i) (inr k) rec = rec i k

  -- ---- lists with the same members

  abbrev pub Unique : List A → Type 0
  Unique l = Pairwise (λ (x y : A). ¬ (x ≡ y)) l

  -- a list less one of its members
  pub record Less (k : List A) (x : A) : Type 0 where
    pub rest : List A
    pub one_less : length k ≡ suc (length rest)
    pub others : (y : A) → y ∈ k → ¬ (x ≡ y) → y ∈ rest

  less_one : {x : A} {k : List A} → x ∈ k → Less k x
  less_one {x} (Memᴰ.head {x = a} {xs = l} e) = record { rest = l; one_less = refl; others = λ y m n. go y n (Memᴰ.cases_cons m) }
    where
      go : (y : A) → ¬ (x ≡ y) → (y ≡ a) ⊎ (y ∈ l) → y ∈ l
      go y n (inl f) = absurd (n (e ∙ sym f))
      go y n (inr m) = m
  less_one {x} (Memᴰ.tail {x = a} {xs = l} m) = go (less_one m)
    where
      go : Less l x → Less (a ∷ l) x
      go r = record { rest = a ∷ r.rest; one_less = ap suc r.one_less; others = λ y m n. sub y n (Memᴰ.cases_cons m) }
        where
          sub : (y : A) → ¬ (x ≡ y) → (y ≡ a) ⊎ (y ∈ l) → y ∈ a ∷ r.rest
          sub y n (inl f) = Memᴰ.head f
          sub y n (inr k) = Memᴰ.tail (r.others y k n)

  pub subset_length : {l : List A} → Unique l → (k : List A) → Subset l k → length l ≤ length k
  subset_length p_nil k s = omega arith
  subset_length (p_cons {x = a} {l = l} h t) k s =
      let r = less_one (s a (Memᴰ.head refl)) in
      let i = subset_length t r.rest (λ x m. r.others x (s x (Memᴰ.tail m)) (h x m)) in
      omega (arith, r.one_less)

  pub same_length : {l k : List A} → Unique l → Unique k → Subset l k → Subset k l → length l ≡ length k
  same_length {l} {k} u w s t = omega (arith, subset_length u k s, subset_length w l t)

  any_subset : (f : A → Bool) {l k : List A} → Subset l k → any f l ≡ true → any f k ≡ true
  any_subset f {l} s e = let r = any_in f l e in in_any f (s r.0 r.1) r.2

  pub any_same : (f : A → Bool) (l k : List A) → Subset l k → Subset k l → any f l ≡ any f k
  any_same f l k s t = go (either (any f l))
    where
      go : (any f l ≡ true) ⊎ (any f l ≡ false) → any f l ≡ any f k
      go (inl e) = e ∙ sym (any_subset f s e)
      go (inr e) = e ∙ sym (is_false (λ h. clash (any_subset f t h) e))

  -- the greatest is decided by the members, if no two are of one size
  pub biggest_same : (size : A → ℕ) (l k : List A) → ((x y : A) → x ∈ k → y ∈ k → size x ≡ size y → x ≡ y) → Subset l k → Subset k l → biggest size l ≡ biggest size k
  biggest_same size l k one s t = go (biggest size l) (biggest size k) refl refl
    where
      go : (o w : Option A) → biggest size l ≡ o → biggest size k ≡ w → biggest size l ≡ biggest size k
      go none none e f = e ∙ sym f
      go none (some y) e f = absurd (biggest_none size l e (t y (biggest_is size k f).is_in))
      go (some x) none e f = absurd (biggest_none size k f (s x (biggest_is size l e).is_in))
      go (some x) (some y) e f =
          let a = biggest_is size l e in
          let b = biggest_is size k f in
          let h = a.most y (t y b.is_in) in
          let i = b.most x (s x a.is_in) in
          e ∙ ap some (one x y (s x a.is_in) b.is_in (omega arith)) ∙ sym f

module _ {A B : Type 0} where
  pub map_in : (g : A → B) (l : List A) {y : B} → y ∈ map g l → (x : A) × (x ∈ l) × (y ≡ g x)
  map_in g [] m = absurd (Memᴰ.not-nil m)
  map_in g (a ∷ l) {y} m = go (Memᴰ.cases_cons m) (λ k. map_in g l k)
    where
      go : (y ≡ g a) ⊎ (y ∈ map g l) → (y ∈ map g l → (x : A) × (x ∈ l) × (y ≡ g x)) → (x : A) × (x ∈ a ∷ l) × (y ≡ g x)
      go (inl e) rec = (a, Memᴰ.head refl, e)
      go (inr k) rec = let r = rec k in (r.0, Memᴰ.tail r.1, r.2)

  pub in_map : (g : A → B) {x : A} {l : List A} → x ∈ l → g x ∈ map g l
  in_map g (Memᴰ.head e) = Memᴰ.head (ap g e)
  in_map g (Memᴰ.tail m) = Memᴰ.tail (in_map g m)

  pub Pairwise_map : {R : B → B → Type 0} (g : A → B) {l : List A} → Pairwise (λ x y. R (g x) (g y)) l → Pairwise R (map g l)
  Pairwise_map g p_nil = p_nil
  Pairwise_map g (p_cons {x = a} {l = l} h t) = p_cons {x = g a} (λ y m. let r = map_in g l m in rw r.2 (h r.0 r.1)) (Pairwise_map g t)

  pub flat_in : (g : A → List B) (l : List A) {y : B} → y ∈ flat_map g l → (x : A) × (x ∈ l) × (y ∈ g x)
  unfolding flat_map
  flat_in g [] m = absurd (Memᴰ.not-nil m)
  flat_in g (a ∷ l) {y} m = go (Memᴰ.append_cases (g a) m) (λ k. flat_in g l k)
    where
      go : (y ∈ g a) ⊎ (y ∈ flat_map g l) → (y ∈ flat_map g l → (x : A) × (x ∈ l) × (y ∈ g x)) → (x : A) × (x ∈ a ∷ l) × (y ∈ g x)
      go (inl k) rec = (a, Memᴰ.head refl, k)
      go (inr k) rec = let r = rec k in (r.0, Memᴰ.tail r.1, r.2)

  pub in_flat : (g : A → List B) {x : A} {l : List A} {y : B} → x ∈ l → y ∈ g x → y ∈ flat_map g l
  unfolding flat_map
  in_flat g {y} (Memᴰ.head {x = a} {xs = l} e) k = Memᴰ.append_left (flat_map g l) (rw e at k)
  in_flat g (Memᴰ.tail {x = a} m) k = Memᴰ.append_right (g a) (in_flat g m k)

-- ---- the largest number

pub le_largest : {n : ℕ} {l : List ℕ} → n ∈ l → n ≤ largest l
unfolding largest
le_largest (Memᴰ.head e) = rw e (omega arith)
le_largest (Memᴰ.tail m) = omega (arith, le_largest m)

pub largest_in : (n : ℕ) (l : List ℕ) → largest (n ∷ l) ∈ n ∷ l
unfolding largest
largest_in n [] = let e : max n 0 ≡ n = omega arith in Memᴰ.head e
largest_in n (k ∷ l) = go (dec_le (largest (k ∷ l)) n) (largest_in k l)
  where
    go : Dec (largest (k ∷ l) ≤ n) → largest (k ∷ l) ∈ k ∷ l → max n (largest (k ∷ l)) ∈ n ∷ k ∷ l
    go (yes h) m = let e : max n (largest (k ∷ l)) ≡ n = omega arith in Memᴰ.head e
    go (no h) m = let e : max n (largest (k ∷ l)) ≡ largest (k ∷ l) = omega arith in Memᴰ.tail (Memᴰ.cast e m)
