-- Why each answer of the check on a node or a cell is right. Assumes nothing.
use mathlib.Core.Path.{◌≡◌, refl, sym, ap, ◌∙◌}
use mathlib.Core.Bool.{Bool, true, false, not}
use mathlib.Core.List.{List}
use Prim.Native.Nat.{ℕ, ◌+◌, ◌*◌, ◌/◌, ◌%◌, ◌≤◌, ◌<◌, min}
use native.Mathlib.Omega.{arith}
use lib.ListN.{length, take, get_or, length-take}
use lib.Seq.{get_or-take}
use lib.Dec.{eqb, leb, ltb}
use borrow.Author.Tests.{eqb-true, eqb-false, eq-eqb, ne_eqb, leb-true, leb-false, ltb-true, ltb-false, not-true, not-false}
use Rattle.prefix.specs.Bits.{bits, one?, digit}
use Rattle.prefix.specs.Prefix.{contains, common}
use Rattle.prefix.specs.Addresses.{address_bits}
use Rattle.prefix.specs.declared.Address.{Address}
use Rattle.prefix.proofs.Booleans.{clash}
use Rattle.prefix.proofs.BitLaws.{digit_one, length_bits, bit_digit}
use Rattle.prefix.proofs.Common.{common_sym, common_take}
use Rattle.prefix.proofs.Tests.{contains_common}
use Rattle.prefix.proofs.AddressLaws.{ipv4_contains, ipv4_bit}
use Rattle.lru_cache.specs.Slots.{cell_of, root_cell}
use Rattle.lru_cache.specs.Sound.{Live, InUse}
use Rattle.lru_cache.specs.Checks.{length_at, Hangs, RootOk}
use Rattle.sizes.specs.BothStores.{slot_word, word}
use Rattle.slots.specs.Layout.{cell_word, entries_held, up_in, cache_of}
use Rattle.slots.proofs.ReadLaws.{read_child, read_up}
use Rattle.cache.specs.Checks.{Decides, Longer, GoesOn, CellFine}

pub refuse : {good : Type 0} → ¬ good → Decides good false
refuse n = record { yes = λ e. absurd (clash e refl); no = λ _. n }

pub accept : {good : Type 0} → good → Decides good true
accept g = record { yes = λ _. g; no = λ e. absurd (clash refl e) }

-- ---- the cell that a node hangs in

module _ (w : List ℕ) (n x cell : ℕ) (is : cell ≡ up_in w x) (r : Bool) (d : Decides (InUse n cell) r) where
  pub hangs_out : r ≡ false → Decides (Hangs n (cache_of w) x) r
  unfolding cache_of
  hangs_out e = rw e (refuse (λ g. d.no e (rw is g.in_use)))

  module _ (e : r ≡ true) where
    pub hangs_at : (y : ℕ) → y ≡ word w (cell_word cell) → Decides (Hangs n (cache_of w) x) (eqb y x)
    unfolding cache_of
    hangs_at y is_y =
        let at : y ≡ word w (cell_word (up_in w x)) = is_y ∙ ap (λ (q : ℕ). word w (cell_word q)) is in
        record {
          yes = λ z. record { in_use = rw (← is) (d.yes e); points = sym at ∙ eqb-true y x z };
          no = λ z g. eqb-false y x z (at ∙ g.points);
        }

-- ---- lengths

pub entry_length : (w : List ℕ) (i : ℕ) → length ((cache_of w).entry i) ≡ min (word w (slot_word i 1) % 64) 32
unfolding cache_of
entry_length w i = simp (length-take, length_bits)

module _ (w : List ℕ) (x : ℕ) where
  pub length_entry : x % 2 ≡ 0 → length_at (cache_of w) x ≡ length ((cache_of w).entry (x / 2))
  unfolding length_at
  length_entry e = rw e

  pub length_branch : ¬ (x % 2 ≡ 0) → length_at (cache_of w) x ≡ word w (slot_word (x / 2) 7) % 64
  unfolding length_at cache_of
  length_branch d = let e : x % 2 ≡ 1 = omega arith in rw e

module _ (w : List ℕ) (x m : ℕ) where
  long_low : Longer w m x → m ≤ 31
  long_low g = omega (arith, g.entry, entry_length w (x / 2))

  long_own : Longer w m x → m < word w (slot_word (x / 2) 1) % 64
  long_own g = omega (arith, g.entry, entry_length w (x / 2))

  pub longer_none : 31 < m → Decides (Longer w m x) false
  longer_none l = refuse (λ g. omega (arith, long_low g))

  pub longer_short : word w (slot_word (x / 2) 1) % 64 ≤ m → Decides (Longer w m x) false
  longer_short l = refuse (λ g. omega (arith, long_own g))

  module _ (low : m ≤ 31) (own : ℕ) (is_own : own ≡ word w (slot_word (x / 2) 1) % 64) (long : m < own) where
    in_entry : m < length ((cache_of w).entry (x / 2))
    in_entry = omega (arith, entry_length w (x / 2))

    pub longer_entry : x % 2 ≡ 0 → Decides (Longer w m x) (eqb (x % 2) 0)
    longer_entry e = rw (eq-eqb (x % 2) 0 e) (accept (record { entry = in_entry; node = rw (length_entry w x e) in_entry }))

    pub longer_branch : ¬ (x % 2 ≡ 0) → (k : ℕ) → k ≡ word w (slot_word (x / 2) 7) % 64 → Decides (Longer w m x) (ltb m k)
    longer_branch d k is-k = record {
      yes = λ e. record { entry = in_entry; node = omega (arith, length_branch w x d, ltb-true m k e) };
      no = λ e g. omega (arith, g.node, length_branch w x d, ltb-false m k e);
    }

-- ---- whether the node goes on from a branch

module _ (w : List ℕ) (i side x m : ℕ) (is_m : m ≡ word w (slot_word i 7) % 64) (r : Bool) (d : Decides (Longer w m x) r) where
  m_is : m ≡ (cache_of w).branch_length i
  unfolding cache_of
  m_is = is_m

  pub goes_short : not r ≡ true → Decides (GoesOn w i (one? side) x) false
  goes_short e = refuse (λ g. d.no (not-true r e) (rw m_is g.longer))

  module _ (e : not r ≡ false) (low : side ≤ 1) (a : Address) (is-a : take 32 (address_bits a) ≡ bits 32 (word w (slot_word (x / 2) 0)))
      (bit : ℕ) (is-bit : bit ≡ digit (get_or (address_bits a) m false)) where
    long : Longer w m x
    long = d.yes (not-false r e)

    m_low : m < 32
    m_low = omega (arith, long.entry, entry_length w (x / 2))

    -- the entry's bit is the address's
    bit_is : get_or ((cache_of w).entry (x / 2)) m false ≡ get_or (address_bits a) m false
    unfolding cache_of
    bit_is =
        get_or-take (word w (slot_word (x / 2) 1) % 64) (bits 32 (word w (slot_word (x / 2) 0))) m false (omega (arith, long.entry, entry_length w (x / 2)))
        ∙ sym (ipv4_bit m (word w (slot_word (x / 2) 0)) a m_low is-a)

    side_is : digit (get_or ((cache_of w).entry (x / 2)) ((cache_of w).branch_length i) false) ≡ bit
    side_is = rw (← m_is, bit_is) (sym is-bit)

    pub goes_aside : ¬ (bit ≡ side) → Decides (GoesOn w i (one? side) x) (eqb bit side)
    goes_aside n = rw (ne_eqb bit side n) (refuse (λ g. n (sym side_is ∙ ap digit g.side ∙ digit_one side (omega arith))))

    module _ (same : bit ≡ side) (q : Address) (is-q : take 32 (address_bits q) ≡ bits 32 (word w (slot_word i 0))) (s : Bool)
        (is-s : s ≡ contains (take m (address_bits q)) (address_bits a)) where
      abbrev both : ℕ
      both = common (bits 32 (word w (slot_word i 0))) (bits 32 (word w (slot_word (x / 2) 0)))

      s_is : s ≡ leb m both
      s_is = is-s ∙ ipv4_contains m (word w (slot_word i 0)) (word w (slot_word (x / 2) 0)) q a (omega (arith, m_low)) is-q is-a
          ∙ contains_common m (bits 32 (word w (slot_word i 0))) (bits 32 (word w (slot_word (x / 2) 0))) (rw length_bits (omega (arith, m_low)))

      shared_is : common (bits 32 (word w (slot_word i 0))) ((cache_of w).entry (x / 2)) ≡ min (word w (slot_word (x / 2) 1) % 64) both
      unfolding cache_of
      shared_is = common_sym _ _ ∙ common_take (word w (slot_word (x / 2) 1) % 64) _ _ ∙ ap (min (word w (slot_word (x / 2) 1) % 64)) (common_sym _ _)

      pub goes_on : Decides (GoesOn w i (one? side) x) s
      goes_on = record {
        yes = λ z. record {
          longer = rw (← m_is) long;
          agrees = omega (arith, m_is, shared_is, long.entry, entry_length w (x / 2), leb-true m both (sym s_is ∙ z));
          side = sym (bit_digit _) ∙ ap one? (side_is ∙ same);
        };
        no = λ z g. omega (arith, m_is, shared_is, g.agrees, leb-false m both (sym s_is ∙ z));
      }

-- ---- what a cell points at

module _ (w : List ℕ) (n i side x : ℕ) (are : n ≡ entries_held w) (low : side ≤ 1) (is : x ≡ word w (cell_word (2 * i + side))) where
  cell_is : cell_of i (one? side) ≡ 2 * i + side
  cell_is = ap (λ (b : ℕ). 2 * i + b) (digit_one side (omega arith))

  child_is : (cache_of w).child (cell_of i (one? side)) ≡ x
  unfolding cache_of
  child_is = ap (λ (q : ℕ). word w (cell_word q)) cell_is ∙ sym is

  module _ (r : Bool) (d : Decides (Live n x) r) where
    pub child_out : r ≡ false → Decides (CellFine w i (one? side)) false
    child_out e = refuse (λ g. d.no e (rw (are, ← child_is) g.live))

    module _ (e : r ≡ true) where
      live : Live n x
      live = d.yes e

      module _ (up : ℕ) (is_up : up ≡ up_in w x) where
        up_is : up ≡ (cache_of w).up ((cache_of w).child (cell_of i (one? side)))
        up_is = is_up ∙ read_up w x ∙ ap (cache_of w).up (sym child_is)

        pub child_stray : ¬ (up ≡ 2 * i + side) → Decides (CellFine w i (one? side)) false
        child_stray n = refuse (λ g. n (up_is ∙ g.knows ∙ cell_is))

        module _ (back : up ≡ 2 * i + side) where
          fine : (0 < i → GoesOn w i (one? side) x) → CellFine w i (one? side)
          fine g = record { live = rw (child_is, ← are) live; knows = sym up_is ∙ back ∙ sym cell_is; onward = λ h. rw child_is (g h) }

          pub child_root : i ≡ 0 → Decides (CellFine w i (one? side)) (eqb i 0)
          child_root z = rw (eq-eqb i 0 z) (accept (fine (λ h. absurd (omega arith))))

          pub child_on : ¬ (i ≡ 0) → (s : Bool) → Decides (GoesOn w i (one? side) x) s → Decides (CellFine w i (one? side)) s
          child_on z s g = record { yes = λ t. fine (λ _. g.yes t); no = λ t f. g.no t (rw (← child_is) (f.onward (omega arith))) }

-- ---- the root cell of an empty cache

module _ (w : List ℕ) (n : ℕ) where
  pub root_empty : n ≡ 0 → (x : ℕ) → x ≡ word w (cell_word 0) → Decides (RootOk n (cache_of w)) (eqb x 0)
  root_empty z x is =
      let at : x ≡ (cache_of w).child root_cell = is ∙ read_child w root_cell in
      record {
        yes = λ e. record { empty = λ _. sym at ∙ eqb-true x 0 e; full = λ h. absurd (omega arith) };
        no = λ e g. eqb-false x 0 e (at ∙ g.empty z);
      }
