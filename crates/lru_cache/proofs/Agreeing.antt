-- Only the values in use count: a cache that agrees with a sound one on them is sound and holds the same entries. Assumes nothing.
use mathlib.Core.Path.{◌≡◌, sym, ap, ap₂, ◌∙◌}
use mathlib.Core.List.Memᴰ
use mathlib.Core.List.{Memᴰ}
use mathlib.Core.Logic.{◌⊎◌, inl, inr}
use Prim.Native.Nat.{ℕ, ◌/◌, ◌≤◌}
use native.Mathlib.Omega.{arith}
use lib.ListN.{take}
use Rattle.trie.proofs.Moving.{Agrees, agrees_sound, agrees_branchy}
use Rattle.lru_cache.specs.Slots.{Cache}
use Rattle.lru_cache.specs.Sound.{prefix_at, cell_at, trie, Live, SoundCache, entry_of, order, entries}
use Rattle.lru_cache.specs.Results.{Agree}
use Rattle.lru_cache.proofs.Nodes.{Node, is_entry, is_branch, node, prefix_entry, prefix_branch, hop_same, child_same}
use Rattle.lru_cache.proofs.Shape.{cell_inside}
use Rattle.lru_cache.proofs.Rings.{chain_ext}
use Rattle.lru_cache.proofs.Orders.{Order, ring_order, order_ring, in_slot}
use Rattle.lru_cache.proofs.Using.{entry_path, map_same, entries_of}

module _ {n : ℕ} {c w : Cache} (A : Agree n c w) (S : SoundCache n c) where
  prefix : (x : ℕ) → Live n x → prefix_at w x ≡ prefix_at c x
  prefix x l = go (node x)
    where
      go : Node x → prefix_at w x ≡ prefix_at c x
      go (is_entry i e) = rw e (prefix_entry w i ∙ A.entry i (omega arith) ∙ sym (prefix_entry c i))
      go (is_branch i e) = rw e (prefix_branch w i ∙ ap₂ take (A.branch_length i (omega arith) (omega arith)) (A.entry i (omega arith)) ∙ sym (prefix_branch c i))

  nodes : Agrees (Live n) (trie c) (trie w)
  nodes = record {
    prefix = prefix;
    hop = λ x l. hop_same c w x (A.hop (x / 2) (omega arith));
    up = λ x l. ap cell_at (A.up x l);
    child = λ e i. child_same c w (Live n) (λ l. omega arith) e i (λ q z. A.child q (cell_inside n q (rw z at i)));
  }

  used : Order n w (order n c)
  used = record {
    loop = record { chain = chain_ext c w 0 (order n c) 0 o.loop.chain (λ x m. A.next x (from (Memᴰ.cases_cons m))) (λ x m. A.prev x (to m)); outside = o.loop.outside };
    below = o.below;
    size = o.size;
  }
    where
      o : Order n c (order n c)
      o = ring_order S.ring

      from : {x : ℕ} → (x ≡ 0) ⊎ Memᴰ x (order n c) → x ≤ n
      from (inl e) = omega arith
      from {x} (inr m) = o.below x m

      to : {x : ℕ} → Memᴰ x (order n c) ⊎ (x ≡ 0) → x ≤ n
      to {x} (inl m) = o.below x m
      to (inr e) = omega arith

  pub agree_sound : SoundCache n w
  agree_sound = record { pointers = agrees_sound nodes S.pointers; branchy = agrees_branchy nodes S.pointers S.branchy; ring = order_ring used }

  pub agree_entries : entries n w ≡ entries n c
  agree_entries = entries_of used ∙ map_same (entry_of w) (entry_of c) (order n c) (λ i m. let s = in_slot (ring_order S.ring) i m in entry_path (A.entry i s) (A.hop i s)) ∙ sym (entries_of (ring_order S.ring))
