-- An entry is used, or gets another hop; and the entry that was used least recently. Assumes nothing.
use mathlib.Core.Path.{◌≡◌, refl, sym, ap, ◌∙◌, subst, fun_ext}
use mathlib.Core.List.{List, [], ◌∷◌, ◌++◌, map, map-map, map-append, Memᴰ}
use mathlib.Core.Option.{Option, some}
use Prim.Native.Nat.{ℕ, suc}
use native.Mathlib.Decide.{ℕ_discrete}
use native.Mathlib.Omega.{arith}
use Rattle.model.specs.Model.{Entry}
use Rattle.trie.specs.Trie.{Cell, Root, Kid, Trie, Sound, Branchy, Put}
use Rattle.trie.proofs.Stores.{upd_same, upd_other}
use Rattle.trie.proofs.Announcing.{put_hop}
use Rattle.trie.proofs.Moving.{Agrees, agrees_sound, agrees_branchy}
use Rattle.trie.specs.Updates as Updates
use Rattle.trie.specs.Updates.{upd}
use Rattle.trie.proofs.Pigeonhole.{Distinct}
use Rattle.lru_cache.specs.Slots.{Cache, entry_node, branch_node, set_hop, set_prev, set_next}
use Rattle.lru_cache.specs.Sound.{prefix_at, hop_at, child_at, trie, Slot, Live, Ring, SoundCache, entry_of, order, entries}
use Rattle.lru_cache.specs.Changes.{unlink, push_front, to_front}
use Rattle.lru_cache.specs.Results.{without, others}
use Rattle.lru_cache.proofs.Nodes.{Node, is_entry, is_branch, node, prefix_entry, hop_entry, hop_branch, prefix_same}
use Rattle.lru_cache.proofs.Rings.{mem_last, without_last}
use Rattle.lru_cache.proofs.Orders.{Order, ring_order, order_ring, order_is, order_same, order_distinct, in_slot, order_front, order_last}

-- ---- the trie does not depend on the order of use

child_path : (c w : Cache) → w.child ≡ c.child → (e : Cell) → child_at w e ≡ child_at c e
unfolding child_at
child_path c w h Root = rw h
child_path c w h (Kid x b) = rw h

trie_path : {v w : Trie} → v.prefix ≡ w.prefix → v.hop ≡ w.hop → v.child ≡ w.child → v.up ≡ w.up → v ≡ w
trie_path p h d u = λ i. record { prefix = p i; hop = h i; child = d i; up = u i }

pub unlink_trie : (c : Cache) (k : ℕ) → trie (unlink c k) ≡ trie c
unfolding unlink set_prev set_next prefix_at hop_at
unlink_trie c k = trie_path refl refl (fun_ext (child_path c (unlink c k) refl)) refl

pub push_trie : (c : Cache) (k : ℕ) → trie (push_front c k) ≡ trie c
unfolding push_front set_prev set_next prefix_at hop_at
push_trie c k = trie_path refl refl (fun_ext (child_path c (push_front c k) refl)) refl

-- so soundness needs the nodes of one cache and the ring of the other
pub same_trie : {n : ℕ} (c w : Cache) → trie w ≡ trie c → Sound (Live n) (trie c) → Branchy (Live n) (trie c) → Ring n w → SoundCache n w
same_trie {n} c w e S B R = record { pointers = subst (λ (v : Trie). Sound (Live n) v) (sym e) S; branchy = subst (λ (v : Trie). Branchy (Live n) v) (sym e) B; ring = R }

-- ---- the entries, slot by slot

pub entry_path : {a b : Entry} → a.prefix ≡ b.prefix → a.hop ≡ b.hop → a ≡ b
entry_path p q = λ i. record { prefix = p i; hop = q i }

pub map_same : {A B : Type 0} (f g : A → B) (l : List A) → ((i : A) → Memᴰ i l → f i ≡ g i) → map f l ≡ map g l
map_same f g [] h = refl
map_same f g (x ∷ l) h = let a = h x (Memᴰ.head refl) in let b = map_same f g l (λ i m. h i (Memᴰ.tail m)) in cc

pub entries_of : {n : ℕ} {c : Cache} {l : List ℕ} → Order n c l → entries n c ≡ map (entry_of c) l
unfolding entries
entries_of {n} {c} o = ap (map (entry_of c)) (order_is o)

-- ---- an entry is used

entry_front : (c : Cache) (k : ℕ) (l : List ℕ) → map (entry_of (to_front c k)) l ≡ map (entry_of c) l
unfolding to_front push_front unlink set_prev set_next
entry_front c k l = map_same (entry_of (to_front c k)) (entry_of c) l (λ i m. refl)

module _ {n : ℕ} {c : Cache} (S : SoundCache n c) where
  module _ (k : ℕ) (h : Slot n k) where
    front : Order n (to_front c k) (k ∷ without k (order n c))
    front = order_front (ring_order S.ring) k h

    pub front_sound : SoundCache n (to_front c k)
    unfolding to_front
    front_sound = same_trie c (to_front c k) (push_trie (unlink c k) k ∙ unlink_trie c k) S.pointers S.branchy (order_ring front)

    pub front_entries : entries n (to_front c k) ≡ entry_of c k ∷ others n c k
    front_entries = entries_of front ∙ entry_front c k (k ∷ without k (order n c))

  -- ---- the least recently used

  module _ {m : ℕ} (is : n ≡ suc m) where
    last : (i : List ℕ) × (order n c ≡ i ++ (c.prev 0 ∷ []))
    last = order_last (subst (λ (k : ℕ). Order k c (order n c)) is (ring_order S.ring))

    pub oldest_slot : Slot n (c.prev 0)
    oldest_slot = in_slot (ring_order S.ring) (c.prev 0) (subst (λ (l : List ℕ). Memᴰ (c.prev 0) l) (sym last.1) (mem_last (c.prev 0) last.0))

    -- it comes last
    pub oldest_last : entries n c ≡ others n c (c.prev 0) ++ (entry_of c (c.prev 0) ∷ [])
    unfolding entries
    oldest_last =
        ap (map (entry_of c)) (last.1 ∙ ap (λ (i : List ℕ). i ++ (c.prev 0 ∷ [])) (sym rest)) ∙ map-append (entry_of c) (without (c.prev 0) (order n c)) (c.prev 0 ∷ [])
      where
        distinct : Distinct (last.0 ++ (c.prev 0 ∷ []))
        distinct = subst (λ (l : List ℕ). Distinct l) last.1 (order_distinct (ring_order S.ring))

        rest : without (c.prev 0) (order n c) ≡ last.0
        rest = ap (without (c.prev 0)) last.1 ∙ without_last (c.prev 0) last.0 distinct

  -- ---- an entry gets another hop

  module _ (k h : ℕ) (lk : Slot n k) where
    put : Put (Live n) (Live n) (trie c) (Updates.hop_at (trie c) (entry_node k) h) (c.entry k) h
    put = put_hop S.pointers S.branchy (entry_node k) (c.entry k) h (omega arith) (prefix_entry c k)

    agrees : Agrees (Live n) (Updates.hop_at (trie c) (entry_node k) h) (trie (set_hop c k h))
    unfolding Updates.hop_at Updates.set_hop set_hop
    agrees = record {
      prefix = λ a l. prefix_same c (set_hop c k h) a refl refl;
      hop = λ a l. hop a (node a);
      up = λ a l. refl;
      child = λ e i. child_path c (set_hop c k h) refl e;
    }
      where
        hop : (a : ℕ) → Node a → hop_at (set_hop c k h) a ≡ upd ℕ_discrete (hop_at c) (entry_node k) (some h) a
        hop a (is_branch i e) = rw e (hop_branch (set_hop c k h) i ∙ sym (upd_other ℕ_discrete (hop_at c) (entry_node k) (some h) (branch_node i) (λ z. omega arith) ∙ hop_branch c i))
        hop a (is_entry i e) = rw e (hop_entry (set_hop c k h) i ∙ go (ℕ_discrete i k))
          where
            go : Dec (i ≡ k) → some (upd ℕ_discrete c.hop k h i) ≡ upd ℕ_discrete (hop_at c) (entry_node k) (some h) (entry_node i)
            go (yes z) = ap {B = Option ℕ} some (upd_same _ _ _ _ i z) ∙ sym (upd_same ℕ_discrete (hop_at c) (entry_node k) (some h) (entry_node i) (ap entry_node z))
            go (no ne) = ap {B = Option ℕ} some (upd_other _ _ _ _ i ne) ∙ sym (upd_other ℕ_discrete (hop_at c) (entry_node k) (some h) (entry_node i) (λ z. ne (omega arith)) ∙ hop_entry c i)

    pub hop_sound : SoundCache n (set_hop c k h)
    unfolding set_hop
    hop_sound = record { pointers = agrees_sound agrees put.sound; branchy = agrees_branchy agrees put.sound put.branchy; ring = order_ring (order_same (set_hop c k h) refl refl (ring_order S.ring)) }

    -- f changes the one entry's hop and leaves the others
    pub hop_entries : (f : Entry → Entry) → f (entry_of c k) ≡ record { prefix = c.entry k; hop = h } → ((i : ℕ) → Slot n i → ¬ (i ≡ k) → f (entry_of c i) ≡ entry_of c i) → entries n (set_hop c k h) ≡ map f (entries n c)
    unfolding entries set_hop
    hop_entries f same other =
        ap (map (entry_of (set_hop c k h))) (order_is (order_same (set_hop c k h) refl refl (ring_order S.ring)))
        ∙ map_same (entry_of (set_hop c k h)) (λ i. f (entry_of c i)) (order n c) (λ i m. go i (in_slot (ring_order S.ring) i m) (ℕ_discrete i k)) ∙ sym (map-map f (entry_of c) (order n c))
      where
        go : (i : ℕ) → Slot n i → Dec (i ≡ k) → entry_of (set_hop c k h) i ≡ f (entry_of c i)
        go i l (yes e) = rw e (entry_path refl (upd_same _ _ _ _ k refl) ∙ sym same)
        go i l (no ne) = entry_path refl (upd_other _ _ _ _ i ne) ∙ sym (other i l ne)
