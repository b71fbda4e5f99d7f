-- The words of the slots as eight columns, a word's place in its slot first: a store to one word is an update of one column, and the
-- cache's slots are read off the columns. Assumes nothing.
use mathlib.Core.Path.{◌≡◌, refl, sym, ap, ◌∙◌, fun_ext}
use mathlib.Core.Bool.{Bool, true, false, cond}
use mathlib.Core.List.{List}
use Prim.Native.Nat.{ℕ, zero, suc, ◌+◌, ◌*◌, ◌/◌, ◌%◌, ◌<◌}
use native.Mathlib.Decide.{ℕ_discrete}
use native.Mathlib.Nat.{add-zero}
use native.Mathlib.Omega.{arith}
use lib.Dec.{eqb}
use lib.ListN.{set}
use lib.Seq.{get_or-set_same, get_or-set_other}
use borrow.Author.Tests.{eqb-true, eqb-false}
use Rattle.prefix.specs.Bits.{one?}
use Rattle.prefix.specs.Prefix.{prefix_of}
use Rattle.trie.specs.Updates.{upd}
use Rattle.trie.proofs.Stores.{upd_same, upd_other}
use Rattle.lru_cache.specs.Slots.{Cache}
use Rattle.sizes.specs.BothStores.{slot_word, word, Room}
use Rattle.slots.specs.Layout.{cell_word, up_in, cache_of}

-- ---- updates

-- a function that differs from f at k alone is f updated there
pub updated : {A : Type 0} (f g : ℕ → A) (k : ℕ) (a : A) → g k ≡ a → ((i : ℕ) → ¬ (i ≡ k) → g i ≡ f i) → g ≡ upd ℕ_discrete f k a
updated f g k a here there = fun_ext (λ i. go i (ℕ_discrete i k))
  where
    go : (i : ℕ) → Dec (i ≡ k) → g i ≡ upd ℕ_discrete f k a i
    go i (yes e) = ap g e ∙ here ∙ sym (upd_same ℕ_discrete f k a i e)
    go i (no n) = there i n ∙ sym (upd_other ℕ_discrete f k a i n)

-- f updated to what it is already
pub updated_same : {A : Type 0} (f : ℕ → A) (k : ℕ) → upd ℕ_discrete f k (f k) ≡ f
updated_same f k = sym (updated f f k (f k) refl (λ i n. refl))

-- what D makes of each number, where one of them is updated
pub updated_by : {A : Type 0} (D : ℕ → A) (f : ℕ → ℕ) (k v : ℕ) (a : A) → D v ≡ a
    → (λ i. D (upd ℕ_discrete f k v i)) ≡ upd ℕ_discrete (λ i. D (f i)) k a
updated_by D f k v a e =
    updated _ _ k a (ap D (upd_same ℕ_discrete f k v k refl) ∙ e) (λ i n. ap D (upd_other ℕ_discrete f k v i n))

-- ---- the columns

unfoldable pub columns : List ℕ → ℕ → ℕ → ℕ
columns w field i = word w (slot_word i (field % 8))

unfoldable pub stored : (ℕ → ℕ → ℕ) → ℕ → ℕ → ℕ → ℕ → ℕ → ℕ
stored m field k v f = cond (eqb (f % 8) field) (upd ℕ_discrete (m f) k v) (m f)

module _ (w : List ℕ) (k field v : ℕ) (small : field < 8) (room : Room w k) where
  column_set : (f : ℕ) (t : Bool) → eqb (f % 8) field ≡ t
      → columns (set w (slot_word k field) v) f ≡ cond t (upd ℕ_discrete (columns w f) k v) (columns w f)
  unfolding columns
  column_set f true e =
      let z : f % 8 ≡ field = eqb-true (f % 8) field e in
      updated _ _ k v (rw z (get_or-set_same w (slot_word k field) v 0 (omega arith)))
      (λ i n. get_or-set_other w (slot_word k field) (slot_word i (f % 8)) v 0 (λ y. n (omega arith)))
  column_set f false e =
      let z = eqb-false (f % 8) field e in
      fun_ext (λ i. get_or-set_other w (slot_word k field) (slot_word i (f % 8)) v 0 (λ y. z (omega arith)))

  pub columns_set : columns (set w (slot_word k field) v) ≡ stored (columns w) field k v
  unfolding stored
  columns_set = fun_ext (λ f. column_set f (eqb (f % 8) field) refl)

-- ---- the cache's slots

-- two columns as one, of nodes or of cells: the even numbers in the first, the odd ones in the second
unfoldable pub both : (ℕ → ℕ) → (ℕ → ℕ) → ℕ → ℕ
both even odd x = cond (one? (x % 2)) (odd (x / 2)) (even (x / 2))

unfoldable pub cache_by : (ℕ → ℕ → ℕ) → Cache
cache_by m = record {
  entry = λ i. prefix_of 32 (m 0 i) (m 1 i % 64);
  hop = λ i. m 1 i / 64;
  branch_length = λ i. m 7 i % 64;
  child = both (m 5) (m 6);
  up = both (m 4) (λ i. m 7 i / 64);
  prev = m 2;
  next = m 3;
}

children : (w : List ℕ) (q : ℕ) → word w (cell_word q) ≡ both (columns w 5) (columns w 6) q
unfolding both columns
children w q = go (q % 2) (omega arith)
  where
    go : (d : ℕ) → d < 2 → word w (1016 + 8 * (q / 2) + 5 + d) ≡ cond (one? d) (word w (slot_word (q / 2) 6)) (word w (slot_word (q / 2) 5))
    go zero h = simp add-zero
    go (suc zero) h = let e : 1016 + 8 * (q / 2) + 5 + 1 ≡ slot_word (q / 2) 6 = omega arith in rw e
    go (suc (suc d)) h = absurd (omega arith)

pub by_columns : (w : List ℕ) → cache_of w ≡ cache_by (columns w)
unfolding cache_of cache_by columns up_in both
by_columns w = let e : (λ q. word w (cell_word q)) ≡ both (columns w 5) (columns w 6) = fun_ext (children w) in rw e

-- an update of one of the two is an update of both as one
module _ (even odd : ℕ → ℕ) (k x v : ℕ) where
  pub both_even : x ≡ 2 * k → both (upd ℕ_discrete even k v) odd ≡ upd ℕ_discrete (both even odd) x v
  unfolding both
  both_even e =
      let p : x % 2 ≡ 0 = omega arith in
      updated _ _ x v (rw p (upd_same ℕ_discrete even k v (x / 2) (omega arith))) (λ y n. go y (y % 2) refl n)
    where
      go : (y d : ℕ) → y % 2 ≡ d → ¬ (y ≡ x)
          → cond (one? d) (odd (y / 2)) (upd ℕ_discrete even k v (y / 2)) ≡ cond (one? d) (odd (y / 2)) (even (y / 2))
      go y zero z n = upd_other ℕ_discrete even k v (y / 2) (λ t. n (omega arith))
      go y (suc d) z n = refl

  pub both_odd : x ≡ 2 * k + 1 → both even (upd ℕ_discrete odd k v) ≡ upd ℕ_discrete (both even odd) x v
  unfolding both
  both_odd e =
      let p : x % 2 ≡ 1 = omega arith in
      updated _ _ x v (rw p (upd_same ℕ_discrete odd k v (x / 2) (omega arith))) (λ y n. go y (y % 2) refl n)
    where
      go : (y d : ℕ) → y % 2 ≡ d → ¬ (y ≡ x)
          → cond (one? d) (upd ℕ_discrete odd k v (y / 2)) (even (y / 2)) ≡ cond (one? d) (odd (y / 2)) (even (y / 2))
      go y zero z n = refl
      go y (suc d) z n = upd_other ℕ_discrete odd k v (y / 2) (λ t. n (omega arith))

-- a store to a word of slot k that changes the slots as F does
pub stores : (w : List ℕ) (k field v : ℕ) (F : Cache → Cache) → field < 8 → Room w k
    → cache_by (stored (columns w) field k v) ≡ F (cache_by (columns w)) → cache_of (set w (slot_word k field) v) ≡ F (cache_of w)
stores w k field v F small room e =
    by_columns (set w (slot_word k field) v) ∙ ap cache_by (columns_set w k field v small room) ∙ e ∙ ap F (sym (by_columns w))
