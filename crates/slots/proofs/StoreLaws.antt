-- Each store to the words as a change of the cache's slots. Assumes nothing.
use mathlib.Core.Path.{◌≡◌, refl, sym, ap, ap₂, ◌∙◌, fun_ext}
use mathlib.Core.List.{List}
use Prim.Native.Nat.{ℕ, ◌/◌, ◌%◌, ◌<◌}
use native.Mathlib.Decide.{ℕ_discrete}
use native.Mathlib.Omega.{arith}
use lib.ListN.{set, length-set}
use lib.Seq.{get_or-set_other}
use Rattle.prefix.specs.Prefix.{prefix_of}
use Rattle.trie.specs.Updates.{upd}
use Rattle.trie.proofs.Stores.{upd_same, upd_other}
use Rattle.lru_cache.specs.Slots.{Cache, branch_node, set_entry, set_hop, set_branch_length, set_child, set_up, set_prev, set_next}
use Rattle.sizes.specs.BothStores.{slot_word, Room}
use Rattle.slots.specs.Layout.{cell_word, packed, cache_of}
use Rattle.slots.specs.Stores.{put_entry, put_hop, put_prev, put_next, put_child, put_branch, put_up, put_count}
use Rattle.slots.proofs.Columns.{updated, updated_same, updated_by, columns, columns_set, stored, both, both_even, both_odd, cache_by, by_columns, stores}
use Rattle.slots.proofs.Ups.{put_up_entry, put_up_branch}

-- equal by each value
cache_path : {c d : Cache} → c.entry ≡ d.entry → c.hop ≡ d.hop → c.branch_length ≡ d.branch_length → c.child ≡ d.child → c.up ≡ d.up
    → c.prev ≡ d.prev → c.next ≡ d.next → c ≡ d
cache_path e h b k u p n = λ t. record { entry = e t; hop = h t; branch_length = b t; child = k t; up = u t; prev = p t; next = n t }

-- ---- the order of use

pub cache_prev : (w : List ℕ) (i s : ℕ) → Room w i → cache_of (put_prev w i s) ≡ set_prev (cache_of w) i s
unfolding put_prev set_prev cache_by stored
cache_prev w i s room = stores w i 2 s (λ c. set_prev c i s) (omega arith) room refl

pub cache_next : (w : List ℕ) (i s : ℕ) → Room w i → cache_of (put_next w i s) ≡ set_next (cache_of w) i s
unfolding put_next set_next cache_by stored
cache_next w i s room = stores w i 3 s (λ c. set_next c i s) (omega arith) room refl

-- ---- the words that pack a length with another number

-- a column of such words, where one of them is stored
module _ (f : ℕ → ℕ) (k n m : ℕ) (short : m < 64) where
  numbers : (λ i. upd ℕ_discrete f k (packed n m) i / 64) ≡ upd ℕ_discrete (λ i. f i / 64) k n
  numbers = updated_by (λ x. x / 64) f k (packed n m) n (omega arith)

  lengths : (λ i. upd ℕ_discrete f k (packed n m) i % 64) ≡ upd ℕ_discrete (λ i. f i % 64) k m
  lengths = updated_by (λ x. x % 64) f k (packed n m) m (omega arith)

pub cache_entry : (w : List ℕ) (i address length hop : ℕ) → length < 64 → Room w i
    → cache_of (put_entry w i address length hop) ≡ set_entry (cache_of w) i (prefix_of 32 address length) hop
unfolding put_entry set_entry cache_by stored
cache_entry w i address length hop short room =
    let m = columns w in
    let v = packed hop length in
    let w' = set w (slot_word i 0) address in
    let both_set : columns (set w' (slot_word i 1) v) ≡ stored (stored m 0 i address) 1 i v
    = columns_set w' i 1 v (omega arith) (simp length-set room) ∙ rw (columns_set w i 0 address (omega arith) room) in
    let e : v % 64 ≡ length = omega arith in
    by_columns (set w' (slot_word i 1) v) ∙ ap cache_by both_set
    ∙ cache_path
    (updated _ _ i (prefix_of 32 address length)
    (rw (upd_same ℕ_discrete (m 0) i address i refl, upd_same ℕ_discrete (m 1) i v i refl, e))
    (λ j n. rw (upd_other ℕ_discrete (m 0) i address j n, upd_other ℕ_discrete (m 1) i v j n)))
    (numbers (m 1) i hop length short) refl refl refl refl refl
    ∙ ap (λ (c : Cache). set_entry c i (prefix_of 32 address length) hop) (sym (by_columns w))

pub cache_hop : (w : List ℕ) (i hop : ℕ) → Room w i → cache_of (put_hop w i hop) ≡ set_hop (cache_of w) i hop
unfolding put_hop set_hop cache_by stored columns
cache_hop w i hop room =
    let m = columns w in
    let length = m 1 i % 64 in
    let kept = lengths (m 1) i hop length (omega arith) ∙ updated_same (λ j. m 1 j % 64) i in
    stores w i 1 (packed hop length) (λ c. set_hop c i hop) (omega arith) room
    (cache_path (λ t j. prefix_of 32 (m 0 j) (kept t j)) (numbers (m 1) i hop length (omega arith)) refl refl refl refl refl)

pub cache_branch : (w : List ℕ) (i cell m : ℕ) → m < 64 → Room w i
    → cache_of (put_branch w i cell m) ≡ set_up (set_branch_length (cache_of w) i m) (branch_node i) cell
unfolding put_branch set_up set_branch_length cache_by stored columns
cache_branch w i cell m short room =
    let above = numbers (columns w 7) i cell m short in
    stores w i 7 (packed cell m) (λ c. set_up (set_branch_length c i m) (branch_node i) cell) (omega arith) room
    (cache_path refl refl (lengths (columns w 7) i cell m short) refl
    (ap (both (columns w 4)) above ∙ both_odd (columns w 4) (λ j. columns w 7 j / 64) i (branch_node i) cell refl) refl refl)

-- ---- a cell

cell_even : (q : ℕ) → q % 2 ≡ 0 → cell_word q ≡ slot_word (q / 2) 5
cell_even q e = omega arith

cell_odd : (q : ℕ) → q % 2 ≡ 1 → cell_word q ≡ slot_word (q / 2) 6
cell_odd q e = omega arith

pub cache_child : (w : List ℕ) (cell x : ℕ) → Room w (cell / 2) → cache_of (put_child w cell x) ≡ set_child (cache_of w) cell x
unfolding put_child set_child cache_by stored
cache_child w cell x room = go (ℕ_discrete (cell % 2) 0)
  where
    go : Dec (cell % 2 ≡ 0) → cache_of (put_child w cell x) ≡ set_child (cache_of w) cell x
    go (yes e) =
        rw (cell_even cell e)
        (stores w (cell / 2) 5 x (λ c. set_child c cell x) (omega arith) room
        (cache_path refl refl refl (both_even (columns w 5) (columns w 6) (cell / 2) cell x (omega arith)) refl refl refl))
    go (no n) =
        rw (cell_odd cell (omega arith))
        (stores w (cell / 2) 6 x (λ c. set_child c cell x) (omega arith) room
        (cache_path refl refl refl (both_odd (columns w 5) (columns w 6) (cell / 2) cell x (omega arith)) refl refl refl))

-- ---- the cell above a node

set_branch_same : (c : Cache) (i : ℕ) → set_branch_length c i (c.branch_length i) ≡ c
unfolding set_branch_length
set_branch_same c i = rw (updated_same c.branch_length i)

pub cache_up : (w : List ℕ) (x cell : ℕ) → Room w (x / 2) → cache_of (put_up w x cell) ≡ set_up (cache_of w) x cell
unfolding set_up cache_by stored cache_of
cache_up w x cell room = go (ℕ_discrete (x % 2) 0)
  where
    go : Dec (x % 2 ≡ 0) → cache_of (put_up w x cell) ≡ set_up (cache_of w) x cell
    go (yes e) =
        rw (sym (put_up_entry w x cell e))
        (stores w (x / 2) 4 cell (λ c. set_up c x cell) (omega arith) room
        (cache_path refl refl refl refl (both_even (columns w 4) (λ j. columns w 7 j / 64) (x / 2) x cell (omega arith)) refl refl))
    go (no n) =
        let i = x / 2 in
        let m = (cache_of w).branch_length i in
        ap cache_of (sym (put_up_branch w x cell m (put_branch w i cell m) n refl refl))
        ∙ cache_branch w i cell m (omega arith) room
        ∙ ap₂ (λ (c : Cache) (y : ℕ). set_up c y cell) (set_branch_same (cache_of w) i) (omega arith)

-- ---- the header

pub cache_header : (w : List ℕ) (a v : ℕ) → a < 1016 → cache_of (set w a v) ≡ cache_of w
unfolding columns
cache_header w a v h =
    by_columns (set w a v)
    ∙ ap cache_by (fun_ext (λ f. fun_ext (λ i. get_or-set_other w a (slot_word i (f % 8)) v 0 (λ e. omega arith))))
    ∙ sym (by_columns w)

pub cache_count : (w : List ℕ) (n : ℕ) → cache_of (put_count w n) ≡ cache_of w
unfolding put_count
cache_count w n = cache_header w 1 n (omega arith)
