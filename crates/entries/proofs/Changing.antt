-- A row of stores, each as a change of the slots' values; and what a change leaves of the store. Assumes nothing.
use mathlib.Core.Path.{◌≡◌, refl, sym, ap, ◌∙◌}
use mathlib.Core.List.{List}
use Prim.Native.Nat.{ℕ, ◌+◌, ◌-◌, ◌/◌, ◌≤◌, ◌<◌}
use native.Mathlib.Omega.{arith}
use lib.ListN.{drop}
use lib.Seq.{drop-drop}
use Rattle.prefix.specs.Prefix.{prefix_of}
use Rattle.sizes.specs.Sizes.{cache_need}
use Rattle.lru_cache.specs.Slots.{Cache, branch_node, set_entry, set_branch_length, set_child, set_up, set_prev, set_next}
use Rattle.lru_cache.specs.Sound as lru
use Rattle.sizes.specs.BothStores.{limit_of, Room}
use Rattle.slots.specs.Layout.{entries_held, cache_of, Shaped}
use Rattle.slots.specs.Stores.{put_entry, put_prev, put_next, put_child, put_branch, put_up}
use Rattle.slots.specs.Stores as slots
use Rattle.slots.proofs.StoreLaws.{cache_prev, cache_next, cache_entry, cache_branch, cache_child, cache_up}
use Rattle.slots.proofs.KeptLaws.{kept_then, kept_same, kept_prev, kept_next, kept_branch, kept_entry, kept_child, kept_up}
use Rattle.entries.specs.Caches.{entries, SoundEntries, Kept, Holds}
use Rattle.entries.specs.Changed.{Changed}

-- u is w after stores in its slots 0 to n, and holds c
pub record Stored (n : ℕ) (w u : List ℕ) (c : Cache) : Type 0 where
  pub kept : slots.Kept n w u
  pub is : cache_of u ≡ c

pub none_stored : (n : ℕ) (w : List ℕ) → Stored n w w (cache_of w)
none_stored n w = record { kept = kept_same n w; is = refl }

module _ {n : ℕ} {w u : List ℕ} {c : Cache} (room : Room w n) (s : Stored n w u c) where
  inside : (i : ℕ) → i ≤ n → Room u i
  inside i h = omega (arith, s.kept.size)

  stored_then : {u' : List ℕ} → slots.Kept n u u' → (f : Cache → Cache) → cache_of u' ≡ f (cache_of u) → Stored n w u' (f c)
  stored_then k f e = record { kept = kept_then s.kept k; is = e ∙ ap f s.is }

  pub next_stored : (i v : ℕ) → i ≤ n → Stored n w (put_next u i v) (set_next c i v)
  next_stored i v h = stored_then (kept_next n u i h (inside i h) v) (λ d. set_next d i v) (cache_next u i v (inside i h))

  pub prev_stored : (i v : ℕ) → i ≤ n → Stored n w (put_prev u i v) (set_prev c i v)
  prev_stored i v h = stored_then (kept_prev n u i h (inside i h) v) (λ d. set_prev d i v) (cache_prev u i v (inside i h))

  pub child_stored : (q x : ℕ) → q / 2 ≤ n → Stored n w (put_child u q x) (set_child c q x)
  child_stored q x h = stored_then (kept_child n u q h (inside (q / 2) h) x) (λ d. set_child d q x) (cache_child u q x (inside (q / 2) h))

  pub up_stored : (x q : ℕ) → x / 2 ≤ n → Stored n w (put_up u x q) (set_up c x q)
  up_stored x q h = stored_then (kept_up n u x h (inside (x / 2) h) q) (λ d. set_up d x q) (cache_up u x q (inside (x / 2) h))

  pub branch_stored : (i q m : ℕ) → m < 64 → i ≤ n → Stored n w (put_branch u i q m) (set_up (set_branch_length c i m) (branch_node i) q)
  branch_stored i q m short h =
      stored_then (kept_branch n u i h (inside i h) q m) (λ d. set_up (set_branch_length d i m) (branch_node i) q) (cache_branch u i q m short (inside i h))

  pub entry_stored : (i a len hop : ℕ) → len ≤ 32 → i ≤ n → Stored n w (put_entry u i a len hop) (set_entry c i (prefix_of 32 a len) hop)
  entry_stored i a len hop short h =
      stored_then (kept_entry n u i h (inside i h) a len hop short) (λ d. set_entry d i (prefix_of 32 a len) hop) (cache_entry u i a len hop (omega arith) (inside i h))

-- ---- changes

pub changed : {n : ℕ} {w w' : List ℕ} {c d : Cache} (fits : Type 0) → Stored n w w' c → c ≡ d → Changed n w w' fits d
changed fits s e = record { kept = s.kept; does = λ f. s.is ∙ e }

pub skipped : {n : ℕ} {w : List ℕ} {fits : Type 0} {c : Cache} → ¬ fits → Changed n w w fits c
skipped {n} {w} no-fit = record { kept = kept_same n w; does = λ f. absurd (no-fit f) }

-- ---- what is left of the store

pub past_more : (n m : ℕ) (w w' : List ℕ) → n ≤ m → drop (cache_need n) w' ≡ drop (cache_need n) w → drop (cache_need m) w' ≡ drop (cache_need m) w
past_more n m w w' h e =
    let z : cache_need m ≡ cache_need n + (cache_need m - cache_need n) = omega arith in
    rw (z, ← drop-drop (cache_need m - cache_need n) (cache_need n) w', ← drop-drop (cache_need m - cache_need n) (cache_need n) w, e)

pub slots_kept : {n : ℕ} {w w' : List ℕ} → Shaped w → n ≡ entries_held w → slots.Kept n w w' → Kept w w' n
slots_kept {n} {w} {w'} s e k = record {
  limit_kept = k.limit;
  count = k.entries ∙ sym e;
  past_kept = past_more n (limit_of w) w w' (omega (arith, s.entries_fit)) k.past;
}

pub shaped_after : {n : ℕ} {w w' : List ℕ} → slots.Kept n w w' → Shaped w → Shaped w'
shaped_after k s = record { legal = rw k.limit s.legal; enough = omega (arith, k.size, s.enough, k.limit); entries_fit = omega (arith, k.entries, k.limit, s.entries_fit) }

pub holds_after : {n : ℕ} {w w' : List ℕ} {c : Cache} → SoundEntries w → slots.Kept n w w' → cache_of w' ≡ c → lru.SoundCache (entries_held w) c → Holds w' (lru.entries (entries_held w) c)
unfolding entries
holds_after S k e L = record { sound = record { shaped = shaped_after k S.shaped; plain = rw k.entries (k.plain _ S.plain); slots = rw (k.entries, e) L }; are_entries = rw (k.entries, e) }
