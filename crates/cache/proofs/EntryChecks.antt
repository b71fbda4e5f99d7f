-- The check of all slots decides soundness. Assumes nothing.
use mathlib.Core.Path.{◌≡◌, refl}
use mathlib.Core.Bool.{Bool, true, false, not}
use mathlib.Core.List.{List}
use Prim.Native.Nat.{ℕ, ◌+◌, ◌/◌, ◌%◌, ◌≤◌, ◌<◌, min}
use native.Mathlib.Decide.{ℕ_discrete}
use native.Mathlib.Omega.{arith}
use lib.ListN.{length}
use borrow.Author.Tests.{not-true, not-false}
use Rattle.prefix.specs.Bits.{bits}
use Rattle.prefix.specs.Prefix.{common}
use Rattle.prefix.proofs.Booleans.{clash, is_true}
use Rattle.prefix.proofs.Common.{common_take}
use Rattle.lru_cache.specs.Slots.{cell_of}
use Rattle.lru_cache.specs.Sound.{Slot, Live, Ring}
use Rattle.lru_cache.specs.Checks.{length_at, Leads, BranchOk, RootOk, Checked}
use Rattle.lru_cache.proofs.Checking.{checked_sound, sound_checked}
use Rattle.sizes.specs.BothStores.{slot_word, word}
use Rattle.slots.specs.Layout.{entries_held, cache_of, Shaped}
use Rattle.slots.proofs.ReadLaws.{read_branch}
use Rattle.entries.specs.Caches.{SoundEntries}
use Rattle.cache.specs.Calls.{EntriesChecked}
use Rattle.cache.specs.Checks.{Decides, CellFine, BranchFine, SlotFine}
use Rattle.cache.proofs.NodeChecks.{entry_length, length_entry, length_branch}

-- ---- a fine slot is one that the laws of the slots ask for

-- the first bits of an entry are those of its address
shared_entry : (w : List ℕ) (i j : ℕ) → common ((cache_of w).entry i) ((cache_of w).entry j) ≡ min (word w (slot_word i 1) % 64) (common (bits 32 (word w (slot_word i 0))) ((cache_of w).entry j))
unfolding cache_of
shared_entry w i j = common_take (word w (slot_word i 1) % 64) _ _

module _ (w : List ℕ) where
  leads : (i : ℕ) (b : Bool) → 1 < i → (cache_of w).branch_length i < length ((cache_of w).entry i) → CellFine w i b → Leads (entries_held w) (cache_of w) i b ((cache_of w).child (cell_of i b))
  leads i b h short f =
      let g = f.onward (omega arith) in
      record {
        live = f.live;
        knows = f.knows;
        longer = g.longer.node;
        agrees = omega (arith, g.agrees, entry_length w i, shared_entry w i ((cache_of w).child (cell_of i b) / 2));
        side = g.side;
      }

  module _ (K : Checked (entries_held w) (cache_of w)) where
    -- a live node is no longer than its slot's entry
    in_entry : (y m : ℕ) → Live (entries_held w) y → m < length_at (cache_of w) y → m < length ((cache_of w).entry (y / 2))
    in_entry y m l h = elim (ℕ_discrete (y % 2) 0) [
      | yes e ↦ omega (arith, length_entry w y e)
      | no d ↦ omega (arith, length_branch w y d, read_branch w (y / 2), ((K.slots (y / 2) (omega arith)).branch (omega arith)).short)
    ]

    cell_fine : (i : ℕ) (b : Bool) → Leads (entries_held w) (cache_of w) i b ((cache_of w).child (cell_of i b)) → CellFine w i b
    cell_fine i b l = record {
      live = l.live;
      knows = l.knows;
      onward = λ _. record {
        longer = record { entry = in_entry _ _ l.live l.longer; node = l.longer };
        agrees = omega (arith, l.agrees, shared_entry w i ((cache_of w).child (cell_of i b) / 2));
        side = l.side;
      };
    }

    branch_fine : (i : ℕ) → BranchOk (entries_held w) (cache_of w) i → BranchFine w i
    branch_fine i b = record { short = b.short; hangs = b.hangs; left = cell_fine i false (b.leads false); right = cell_fine i true (b.leads true) }

  slot_fine : SoundEntries w → (i : ℕ) → Slot (entries_held w) i → SlotFine w i
  slot_fine S i l =
      let K = sound_checked S.slots in
      let k = K.slots i l in
      record { plain = S.plain.short i l.0 l.1; hangs = k.entry; branch = λ h. branch_fine K i (k.branch h) }

-- ---- the loop over the slots

-- the slots below i are fine
pub record Passed (w : List ℕ) (i : ℕ) : Type 0 where
  pub fine : (k : ℕ) → 0 < k → k < i → SlotFine w k

refused : (w : List ℕ) → ¬ (SoundEntries w) → EntriesChecked w false
refused w n = (λ e. absurd (clash e refl), λ S. absurd (n S))

module _ (w : List ℕ) (n : ℕ) (are : n ≡ entries_held w) where
  pub check_root : (r : Bool) → Decides (RootOk n (cache_of w)) r → not r ≡ true → EntriesChecked w false
  check_root r d e = refused w (λ S. d.no (not-true r e) (rw are (sound_checked S.slots).root))

  module _ (i : ℕ) (r : Bool) (d : Decides (SlotFine w i) r) where
    pub check_slot : 0 < i → i ≤ n → not r ≡ true → EntriesChecked w false
    check_slot a b e = refused w (λ S. d.no (not-true r e) (slot_fine w S i (a, omega (arith, are))))

    pub passed_on : Passed w i → not r ≡ false → Passed w (i + 1)
    passed_on P e = record { fine = λ k a b. elim (ℕ_discrete k i) [ yes z ↦ rw z (d.yes (not-false r e)) | no z ↦ P.fine k a (omega arith) ] }

  module _ (s : Shaped w) (i : ℕ) (past : n < i) (P : Passed w i) (r : Bool) (root : Decides (RootOk n (cache_of w)) r) (e : not r ≡ false) (t : Bool) (ring : Decides (Ring n (cache_of w)) t) where
    fine : (k : ℕ) → Slot (entries_held w) k → SlotFine w k
    fine k l = P.fine k l.0 (omega (arith, are))

    branch_ok : (k : ℕ) → Slot (entries_held w) k → 1 < k → BranchOk (entries_held w) (cache_of w) k
    branch_ok k l u = let b = (fine k l).branch u in record { short = b.short; hangs = b.hangs; leads = λ d. leads w k d u b.short (side b d) }
      where
        side : BranchFine w k → (d : Bool) → CellFine w k d
        side b false = b.left
        side b true = b.right

    pub check_all : EntriesChecked w t
    check_all = (
      λ z. record {
        shaped = s;
        plain = record { short = λ k a b. (fine k (a, b)).plain };
        slots = checked_sound (record {
          root = rw (← are) (root.yes (not-false r e));
          slots = λ k l. record { entry = (fine k l).hangs; branch = branch_ok k l };
          ring = rw (← are) (ring.yes z);
        });
      },
      λ S. is_true (λ z. ring.no z (rw are S.slots.ring)),
    )
