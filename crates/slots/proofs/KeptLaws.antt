-- What each store leaves as it was. Assumes nothing.
use mathlib.Core.Path.{◌≡◌, refl, sym, ◌∙◌}
use mathlib.Core.List.{List}
use Prim.Native.Nat.{ℕ, ◌+◌, ◌/◌, ◌%◌, ◌≤◌, ◌<◌}
use native.Mathlib.Decide.{ℕ_discrete}
use native.Mathlib.Omega.{arith}
use lib.ListN.{length, set, drop, length-set}
use lib.Seq.{get_or-set_same, get_or-set_other, drop-set-lt}
use Rattle.sizes.specs.Sizes.{cache_need}
use Rattle.sizes.specs.BothStores.{slot_word, word, limit_of, Room}
use Rattle.slots.specs.Layout.{cell_word, entries_held, packed, Plain}
use Rattle.slots.specs.Stores.{put_entry, put_hop, put_prev, put_next, put_child, put_branch, put_up, put_count, Kept}
use Rattle.slots.proofs.Ups.{put_up_entry, put_up_branch}

-- ---- lengths

pub plain_fewer : {w : List ℕ} {n : ℕ} (m : ℕ) → m ≤ n → Plain w n → Plain w m
plain_fewer m h p = record { short = λ i pos le. p.short i pos (omega arith) }

pub plain_none : (w : List ℕ) → Plain w 0
plain_none w = record { short = λ i pos le. absurd (omega arith) }

-- a word stored at any index: to the second word of a slot, a short length, or the one that stood there
plain_set : (w : List ℕ) (a v m : ℕ) → a < length w
    → ((i : ℕ) → a ≡ slot_word i 1 → word w a % 64 ≤ 32 → v % 64 ≤ 32) → Plain w m → Plain (set w a v) m
plain_set w a v m inside keeps p = record { short = λ i pos le. go i (p.short i pos le) (ℕ_discrete (slot_word i 1) a) }
  where
    go : (i : ℕ) → word w (slot_word i 1) % 64 ≤ 32 → Dec (slot_word i 1 ≡ a) → word (set w a v) (slot_word i 1) % 64 ≤ 32
    go i h (yes e) = rw (e, get_or-set_same w a v 0 inside) (keeps i (sym e) (rw e at h))
    go i h (no n) = rw (get_or-set_other w a (slot_word i 1) v 0 n) h

-- ---- a store to a word of slot k

pub kept_then : {n : ℕ} {w w' w'' : List ℕ} → Kept n w w' → Kept n w' w'' → Kept n w w''
kept_then a b = record {
  size = b.size ∙ a.size;
  limit = b.limit ∙ a.limit;
  entries = b.entries ∙ a.entries;
  past = b.past ∙ a.past;
  plain = λ m p. b.plain m (a.plain m p);
}

pub kept_same : (n : ℕ) (w : List ℕ) → Kept n w w
kept_same n w = record { size = refl; limit = refl; entries = refl; past = refl; plain = λ m p. p }

module _ (n : ℕ) (w : List ℕ) (k : ℕ) (within : k ≤ n) (room : Room w k) where
  kept_set : (field v : ℕ) → field < 8
      → (field ≡ 1 → word w (slot_word k field) % 64 ≤ 32 → v % 64 ≤ 32) → Kept n w (set w (slot_word k field) v)
  kept_set field v small keeps = record {
    size = length-set w (slot_word k field) v;
    limit = get_or-set_other w (slot_word k field) 0 v 0 (λ e. omega arith);
    entries = get_or-set_other w (slot_word k field) 1 v 0 (λ e. omega arith);
    past = drop-set-lt (cache_need n) w (slot_word k field) v (omega arith);
    plain = λ m. plain_set w (slot_word k field) v m (omega arith) (λ i e. keeps (omega arith));
  }

  pub kept_hop : (hop : ℕ) → Kept n w (put_hop w k hop)
  unfolding put_hop
  kept_hop hop = kept_set 1 (packed hop (word w (slot_word k 1) % 64)) (omega arith) (λ e h. omega arith)

  pub kept_prev : (s : ℕ) → Kept n w (put_prev w k s)
  unfolding put_prev
  kept_prev s = kept_set 2 s (omega arith) (λ e. absurd (omega arith))

  pub kept_next : (s : ℕ) → Kept n w (put_next w k s)
  unfolding put_next
  kept_next s = kept_set 3 s (omega arith) (λ e. absurd (omega arith))

  pub kept_branch : (cell m : ℕ) → Kept n w (put_branch w k cell m)
  unfolding put_branch
  kept_branch cell m = kept_set 7 (packed cell m) (omega arith) (λ e. absurd (omega arith))

pub kept_entry : (n : ℕ) (w : List ℕ) (i : ℕ) → i ≤ n → Room w i → (address length hop : ℕ) → length ≤ 32
    → Kept n w (put_entry w i address length hop)
unfolding put_entry
kept_entry n w i within room address length hop h =
    kept_then (kept_set n w i within room 0 address (omega arith) (λ e. absurd (omega arith)))
    (kept_set n (set w (slot_word i 0) address) i within (simp length-set room) 1 (packed hop length) (omega arith) (λ e _. omega arith))

pub kept_child : (n : ℕ) (w : List ℕ) (cell : ℕ) → cell / 2 ≤ n → Room w (cell / 2) → (x : ℕ) → Kept n w (put_child w cell x)
unfolding put_child
kept_child n w cell within room x =
    let e : cell_word cell ≡ slot_word (cell / 2) (5 + cell % 2) = omega arith in
    rw e (kept_set n w (cell / 2) within room (5 + cell % 2) x (omega arith) (λ z. absurd (omega arith)))

pub kept_up : (n : ℕ) (w : List ℕ) (x : ℕ) → x / 2 ≤ n → Room w (x / 2) → (cell : ℕ) → Kept n w (put_up w x cell)
kept_up n w x within room cell = go (ℕ_discrete (x % 2) 0)
  where
    go : Dec (x % 2 ≡ 0) → Kept n w (put_up w x cell)
    go (yes e) = rw (sym (put_up_entry w x cell e)) (kept_set n w (x / 2) within room 4 cell (omega arith) (λ z. absurd (omega arith)))
    go (no odd) = rw (sym (put_up_branch w x cell _ _ odd refl refl)) (kept_branch n w (x / 2) within room cell _)

-- the entry of a further slot
pub plain_entry : {w : List ℕ} {n : ℕ} (i address length hop : ℕ) → i ≤ n + 1 → length ≤ 32 → Room w i → Plain w n
    → Plain (put_entry w i address length hop) i
unfolding put_entry
plain_entry {w} {n} i address length hop next short room p = record { short = λ j pos le. go j pos le (ℕ_discrete j i) }
  where
    kept : Kept i w (put_entry w i address length hop)
    kept = kept_entry i w i (omega arith) room address length hop short

    go : (j : ℕ) → 0 < j → j ≤ i → Dec (j ≡ i) → word (put_entry w i address length hop) (slot_word j 1) % 64 ≤ 32
    go j pos le (yes e) = rw (e, get_or-set_same (set w (slot_word i 0) address) (slot_word i 1) (packed hop length) 0 (simp length-set (omega arith))) (omega arith)
    go j pos le (no n) = (kept.plain _ p).short j pos (omega arith)

-- ---- the count

module _ (w : List ℕ) (n : ℕ) where
  pub count_size : length (put_count w n) ≡ length w
  unfolding put_count
  count_size = length-set w 1 n

  pub count_limit : limit_of (put_count w n) ≡ limit_of w
  unfolding put_count
  count_limit = get_or-set_other w 1 0 n 0 (λ e. omega arith)

  pub count_entries : 1 < length w → entries_held (put_count w n) ≡ n
  unfolding put_count
  count_entries h = get_or-set_same w 1 n 0 h

  pub count_past : (m : ℕ) → drop (cache_need m) (put_count w n) ≡ drop (cache_need m) w
  unfolding put_count
  count_past m = drop-set-lt (cache_need m) w 1 n (omega arith)

  pub count_plain : (m : ℕ) → 1 < length w → Plain w m → Plain (put_count w n) m
  unfolding put_count
  count_plain m h = plain_set w 1 n m h (λ i e. absurd (omega arith))
