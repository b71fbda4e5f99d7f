-- The steps of a removal, return by return. Assumes nothing.
use mathlib.Core.Path.{◌≡◌, refl, ap, ◌∙◌}
use mathlib.Core.Bool.{Bool, true, false, not}
use mathlib.Core.Logic.{inr}
use mathlib.Core.List.{List}
use Prim.Native.Nat.{ℕ, ◌+◌, ◌-◌, ◌*◌, ◌/◌, ◌%◌, ◌≤◌, ◌<◌}
use native.Mathlib.Decide.{ℕ_discrete}
use native.Mathlib.Omega.{arith}
use borrow.Author.Tests.{eq-eqb, ne_eqb}
use Rattle.prefix.specs.Bits.{bits, one?, digit}
use Rattle.prefix.proofs.BitLaws.{digit_below}
use Rattle.lru_cache.specs.Slots.{Cache, branch_node, cell_of, set_entry, set_branch_length, set_child, set_up}
use Rattle.lru_cache.specs.Changes.{unlink, move_links, prune, move_entry, move_branch, fill_entry, fill_slot, remove_at}
use Rattle.lru_cache.proofs.Stores.{prune_stores, entry_stores, branch_stores}
use Rattle.sizes.specs.BothStores.{slot_word, word}
use Rattle.slots.specs.Layout.{cell_word, up_in, cache_of, Plain}
use Rattle.slots.specs.Stores.{put_entry, put_child, put_up}
use Rattle.slots.proofs.ReadLaws.{read_entry, read_hop, read_child, read_branch, read_up}
use Rattle.slots.proofs.KeptLaws.{kept_then}
use Rattle.entries.specs.Changed.{InStore, Changed, Linked, Low}
use Rattle.removal.specs.Removal.{Tidy, hung, branched}
use Rattle.entries.proofs.Changing.{none_stored, child_stored, up_stored, branch_stored, entry_stored, changed, skipped}
use Rattle.entries.proofs.Lows.{low_unlink, low_entry}
use Rattle.removal.proofs.LowMoves.{low_hang, low_prune, low_move, low_fill}

-- ---- a node hangs in a cell

module _ {n : ℕ} {w : List ℕ} {c : Cache} (cell x : ℕ) where
  pub far_cell : n < cell / 2 → Changed n w w ((cell / 2 ≤ n) × (x / 2 ≤ n)) c
  far_cell h = skipped (λ f. omega (arith, f))

  pub far_node : n < x / 2 → Changed n w w ((cell / 2 ≤ n) × (x / 2 ≤ n)) c
  far_node h = skipped (λ f. omega (arith, f))

pub hangs : {n : ℕ} {w u w' : List ℕ} (cell x : ℕ) → InStore w n → cell / 2 ≤ n → x / 2 ≤ n → u ≡ put_child w cell x → w' ≡ put_up u x cell
    → Changed n w w' ((cell / 2 ≤ n) × (x / 2 ≤ n)) (hung (cache_of w) cell x)
unfolding hung
hangs {n} {w} {u} {w'} cell x has hc hx eu ew =
    rw (ew, eu) (changed _ (up_stored has.0 (child_stored has.0 (none_stored n w) cell x hc) x cell hx) refl)

-- ---- a branch is cut out

other_side : (b : ℕ) → b < 2 → 1 - b ≡ digit (not (one? b))
other_side b h = go (ℕ_discrete b 0)
  where
    go : Dec (b ≡ 0) → 1 - b ≡ digit (not (one? b))
    go (yes e) = rw e
    go (no ne) = let z : b ≡ 1 = omega arith in rw z

pub prunes : {n : ℕ} {w w' : List ℕ} {x q : ℕ} (cell : ℕ) → 1 < cell / 2 → cell / 2 ≤ n
    → x ≡ word w (cell_word (2 * (cell / 2) + (1 - cell % 2))) → q ≡ up_in w (2 * (cell / 2) + 1)
    → Changed n w w' ((q / 2 ≤ n) × (x / 2 ≤ n)) (hung (cache_of w) q x) → Changed n w w' (Tidy n w) (prune (cache_of w) (cell / 2) (one? (cell % 2)))
unfolding hung
prunes {n} {w} {w'} {x} {q} cell more low ex eq a = record {
  kept = a.kept;
  does = λ t. a.does (rw up (t.low.up_low (branch_node j) (omega arith)), rw down (t.low.child_low (cell_of j (not b)) (inr (omega (arith, digit_below (not b)))))) ∙ prune_stores (cache_of w) j b x q down up;
}
  where
    j : ℕ
    j = cell / 2

    b : Bool
    b = one? (cell % 2)

    up : q ≡ (cache_of w).up (branch_node j)
    up = eq ∙ read_up w (branch_node j)

    down : x ≡ (cache_of w).child (cell_of j (not b))
    down = ex ∙ read_child w (2 * j + (1 - cell % 2)) ∙ ap (λ (d : ℕ). (cache_of w).child (2 * j + d)) (other_side (cell % 2) (omega arith))

-- ---- an entry moves

pub long_entry : {n : ℕ} {w : List ℕ} {c : Cache} {len : ℕ} (s : ℕ) → 0 < s → s ≤ n → len ≡ word w (slot_word s 1) % 64 → 32 < len → Changed n w w (Plain w n) c
long_entry s pos low e h = skipped (λ p. omega (arith, p.short s pos low))

pub copies : {n : ℕ} {w w' : List ℕ} {len hop t : ℕ} (s a : ℕ) {A : List Bool} → InStore w n → t ≤ n → len ≡ word w (slot_word s 1) % 64 → len ≤ 32
    → A ≡ bits 32 (word w (slot_word s 0)) → bits 32 a ≡ A → hop ≡ word w (slot_word s 1) / 64 → w' ≡ put_entry w t a len hop
    → Changed n w w' (Plain w n) (set_entry (cache_of w) t ((cache_of w).entry s) ((cache_of w).hop s))
copies {n} {w} {w'} {len} {hop} {t} s a has low el short eA ea eh ew =
    rw ew
    (changed _ (entry_stored has.0 (none_stored n w) t a len hop short low)
    (rw (ea ∙ eA, el, read_entry w s, eh, read_hop w s)))

pub moves : {n : ℕ} {w u v w' : List ℕ} {q : ℕ} (s t : ℕ) → 0 < s → s ≤ n → t ≤ n → q ≡ up_in w (2 * s)
    → Changed n w u (Plain w n) (set_entry (cache_of w) t ((cache_of w).entry s) ((cache_of w).hop s))
    → Changed n u v ((q / 2 ≤ n) × (2 * t / 2 ≤ n)) (hung (cache_of u) q (2 * t))
    → Changed n v w' (Linked n v s) (move_links (cache_of v) s t) → Changed n w w' (Tidy n w) (move_entry (cache_of w) s t)
unfolding hung
moves {n} {w} {u} {v} {w'} {q} s t pos ls lt eq a b d = record { kept = kept_then a.kept (kept_then b.kept d.kept); does = does }
  where
    up : q ≡ (cache_of w).up (2 * s)
    up = eq ∙ read_up w (2 * s)

    does : Tidy n w → cache_of w' ≡ move_entry (cache_of w) s t
    does y =
        let q_low : q / 2 ≤ n = rw up (y.low.up_low (2 * s) (omega arith)) in
        let e : cache_of v ≡ hung (set_entry (cache_of w) t ((cache_of w).entry s) ((cache_of w).hop s)) q (2 * t)
        = b.does (q_low, omega arith) ∙ ap (λ (c : Cache). hung c q (2 * t)) (a.does y.plain) in
        let l = low_hang (low_entry y.low t ((cache_of w).entry s) ((cache_of w).hop s)) q (2 * t) q_low (omega arith) in
        d.does (rw e (l.prev_low s ls, l.next_low s ls)) ∙ ap (λ (c : Cache). move_links c s t) e ∙ entry_stores (cache_of w) s t q up

-- ---- a branch moves

module _ {n : ℕ} {w : List ℕ} {c : Cache} {x : ℕ} (s : ℕ) (more : 1 < s) (ls : s ≤ n) (h : n < x / 2) where
  pub far_left : x ≡ word w (cell_word (2 * s)) → Changed n w w (Tidy n w) c
  far_left e = skipped (λ t. omega (arith, t.low.child_low (2 * s) (inr (omega arith)), e, read_child w (2 * s)))

  pub far_right : x ≡ word w (cell_word (2 * s + 1)) → Changed n w w (Tidy n w) c
  far_right e = skipped (λ t. omega (arith, t.low.child_low (2 * s + 1) (inr (omega arith)), e, read_child w (2 * s + 1)))

  pub far_up : x ≡ up_in w (2 * s + 1) → Changed n w w (Tidy n w) c
  far_up e = skipped (λ t. omega (arith, t.low.up_low (2 * s + 1) (omega arith), e, read_up w (2 * s + 1)))

branch_path : (c : Cache) (s t x y q m a b : ℕ) → a ≡ cell_of t false → b ≡ cell_of s false → x ≡ c.child b → y ≡ c.child (cell_of s true) → q ≡ c.up (branch_node s)
    → m ≡ c.branch_length s
    → set_up (set_branch_length (set_up (set_up (set_child (set_child (set_child c a x) (cell_of t true) y) q (branch_node t)) x a) y (cell_of t true)) t m) (branch_node t) q ≡ move_branch c s t
branch_path c s t x y q m a b ea eb ex ey eq em = rw (ea, em) (branch_stores c s t x y q (ex ∙ ap c.child eb) ey eq)

pub moves_branch : {n : ℕ} {w w' : List ℕ} {x y q m t : ℕ} (s : ℕ) → InStore w n → t ≤ n → x ≡ word w (cell_word (2 * s)) → x / 2 ≤ n
    → y ≡ word w (cell_word (2 * s + 1)) → y / 2 ≤ n → q ≡ up_in w (2 * s + 1) → q / 2 ≤ n → m ≡ word w (slot_word s 7) % 64
    → w' ≡ branched w t x y q m → Changed n w w' (Tidy n w) (move_branch (cache_of w) s t)
unfolding branched
moves_branch {n} {w} {w'} {x} {y} {q} {m} {t} s has lt ex lx ey ly eq lq em ew =
    let r = has.0 in
    let a = child_stored r (child_stored r (child_stored r (none_stored n w) (2 * t) x (omega arith)) (2 * t + 1) y (omega arith)) q (2 * t + 1) lq in
    let b = branch_stored r (up_stored r (up_stored r a x (2 * t) lx) y (2 * t + 1) ly) t q m (omega arith) lt in
    rw ew
    (changed _ b
    (branch_path (cache_of w) s t x y q m (2 * t) (2 * s) (omega arith) (omega arith) (ex ∙ read_child w (2 * s)) (ey ∙ read_child w (2 * s + 1)) (eq ∙ read_up w (2 * s + 1)) (em ∙ read_branch w s)))

-- ---- the free slots are filled

tidy_after : {n : ℕ} {w u : List ℕ} {c : Cache} → Changed n w u (Tidy n w) c → Tidy n w → Low n c → Tidy n u
tidy_after {n} a t l = record { low = rw (a.does t) l; plain = a.kept.plain n t.plain }

module _ {n : ℕ} {w : List ℕ} (s t : ℕ) where
  pub fill_same : s ≡ t → Changed n w w (Tidy n w) (fill_entry (cache_of w) s t)
  unfolding fill_entry
  fill_same e = rw (eq-eqb s t e) (changed _ (none_stored n w) refl)

  pub fill_other : {w' : List ℕ} → ¬ (s ≡ t) → Changed n w w' (Tidy n w) (move_entry (cache_of w) s t) → Changed n w w' (Tidy n w) (fill_entry (cache_of w) s t)
  unfolding fill_entry
  fill_other ne a = rw (ne_eqb s t ne) a

  pub slot_same : s ≡ t → Changed n w w (Tidy n w) (fill_slot (cache_of w) s t)
  unfolding fill_slot
  slot_same e = rw (eq-eqb s t e) (changed _ (none_stored n w) refl)

  pub slot_other : {u w' : List ℕ} → ¬ (s ≡ t) → 1 < s → s ≤ n → t ≤ n → Changed n w u (Tidy n w) (move_entry (cache_of w) s t) → Changed n u w' (Tidy n u) (move_branch (cache_of u) s t)
      → Changed n w w' (Tidy n w) (fill_slot (cache_of w) s t)
  unfolding fill_slot
  slot_other ne more ls lt a b = rw (ne_eqb s t ne) (record {
    kept = kept_then a.kept b.kept;
    does = λ y. b.does (tidy_after a y (low_move y.low s t (omega arith) ls lt)) ∙ ap (λ (c : Cache). move_branch c s t) (a.does y);
  })

-- ---- the entry of slot k is taken out, with the branch of its cell

pub removes_beside : {n k : ℕ} {w u₁ u₂ u₃ w' : List ℕ} (cell : ℕ) → k ≤ n → 1 < cell / 2 → cell / 2 ≤ n
    → Changed n w u₁ (Tidy n w) (prune (cache_of w) (cell / 2) (one? (cell % 2)))
    → Changed n u₁ u₂ (Linked n u₁ k) (unlink (cache_of u₁) k)
    → Changed n u₂ u₃ (Tidy n u₂) (fill_entry (cache_of u₂) (cell / 2) k)
    → Changed n u₃ w' (Tidy n u₃) (fill_slot (cache_of u₃) n (cell / 2))
    → Changed n w w' (Tidy n w) (remove_at (cache_of w) n k (cell / 2) (one? (cell % 2)))
unfolding remove_at
removes_beside {n} {k} {w} {u₁} {u₂} {u₃} {w'} cell lk more lj a b c d =
    record { kept = kept_then a.kept (kept_then b.kept (kept_then c.kept d.kept)); does = does }
  where
    j : ℕ
    j = cell / 2

    side : Bool
    side = one? (cell % 2)

    does : Tidy n w → cache_of w' ≡ remove_at (cache_of w) n k j side
    does t =
        let t₁ = tidy_after a t (low_prune t.low j side more lj) in
        let e₂ = b.does (t₁.low.prev_low k lk, t₁.low.next_low k lk) in
        let t₂ : Tidy n u₂ = record { low = rw e₂ (low_unlink t₁.low k lk); plain = b.kept.plain n t₁.plain } in
        let t₃ = tidy_after c t₂ (low_fill t₂.low j k (omega arith) lj lk) in
        d.does t₃ ∙ ap (λ (x : Cache). fill_slot x n j) (c.does t₂ ∙ ap (λ (x : Cache). fill_entry x j k) (e₂ ∙ ap (λ (x : Cache). unlink x k) (a.does t)))
