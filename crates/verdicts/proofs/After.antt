-- A store that spells the trie of an accepted update is a sound one, and holds the routes that it should. Assumes nothing.
use mathlib.Core.Path.{◌≡◌, refl, sym, ap, ◌∙◌}
use mathlib.Core.Bool.{false}
use mathlib.Core.List.{List}
use mathlib.Core.Logic.{◌⊎◌, inl, inr}
use mathlib.Core.Option.{some}
use Prim.Native.Nat.{ℕ, ◌+◌, ◌-◌, ◌≤◌, ◌<◌}
use native.Mathlib.Omega.{arith}
use lib.ListN.{length}
use Rattle.prefix.specs.Bits.{Bits}
use Rattle.model.specs.Routes.{announce, withdraw, Update, held, updated}
use Rattle.model.specs.Demands.{Hop, SameRoutes}
use Rattle.trie.specs.Trie.{Trie, Sound, Branchy, Dense, Held, Put, Removed}
use Rattle.trie.specs.Routes.{routes_of}
use Rattle.trie.proofs.Holding.{put_updated, removed_updated, put_length_held, put_length_new, removed_length}
use Rattle.trie.proofs.Counting.{slots_fit}
use Rattle.sizes.specs.BothStores.{limit_of}
use Rattle.nodes.specs.Layout.{nodes_of, route_count, trie_of}
use Rattle.nodes.specs.Stores.{put_counts}
use Rattle.nodes.proofs.Keeping.{HeaderIs, counts_header, counts_past}
use Rattle.nodes.proofs.Plainness.{plain_fewer, plain_counts}
use Rattle.nodes.proofs.Spelling.{trie_counts}
use Rattle.table.specs.Tables.{routes, SoundTable}
use Rattle.verdicts.specs.Verdicts.{TableAfter}
use Rattle.verdicts.proofs.Kept.{Kept}

-- the new store is u, which keeps what is not stored, with the counts m and r
module _ (w : List ℕ) (s : SoundTable w) {k : ℕ} {u : List ℕ} (kept : Kept w k u) (m r : ℕ) (fewer : m ≤ k) where
  header : HeaderIs (put_counts u m r) (limit_of w) m r (length w)
  header =
      let h = counts_header u m r (omega (arith, kept.header.size, s.shaped.enough)) in
      rw (kept.header.limit_is, kept.header.size) at h

  its_routes : (v : Trie) → trie_of u ≡ v → routes (put_counts u m r) ≡ routes_of v m
  unfolding routes
  its_routes v e = rw (trie_counts u m r, header.nodes_are, e)

  after : (x : Update) (v : Trie) → trie_of u ≡ v → Sound (Dense m) v → Branchy (Dense m) v → ((i h : ℕ) → i < m → v.hop i ≡ some h → Hop h)
      → length (routes_of v m) ≡ r → r ≤ limit_of w → SameRoutes (routes_of v m) (updated (routes w) x) → TableAfter w (put_counts u m r) x
  after x v e S B hops count fits same =
      let t : trie_of (put_counts u m r) ≡ v = trie_counts u m r ∙ e in
      record {
        sound = record {
          shaped = record {
            legal = rw header.limit_is s.shaped.legal;
            enough = rw (header.limit_is, header.size) s.shaped.enough;
            nodes_fit = rw (header.limit_is, header.nodes_are) (slots_fit S B (limit_of w) (rw count fits));
            routes_fit = rw (header.limit_is, header.routes_are) fits;
          };
          plain = rw header.nodes_are (plain_counts m r (plain_fewer m fewer kept.plain));
          trie = rw (header.nodes_are, t) S;
          branches = rw (header.nodes_are, t) B;
          hops = rw (header.nodes_are, t) hops;
          counted = header.routes_are ∙ sym count ∙ ap length (sym (its_routes v e));
        };
        are_routes = rw (its_routes v e) same;
        limit_kept = header.limit_is;
        past_kept = counts_past u (limit_of w) m r ∙ kept.past;
      }

  old_hops : {p : Bits} {h : ℕ} → Held (Dense (nodes_of w)) (trie_of w) p h → Hop h
  old_hops x = s.hops x.slot _ x.is_live x.is_hop

  module _ {P : Bits} where
    put_after : (H : ℕ) (v : Trie) → Hop H → trie_of u ≡ v → Put (Dense (nodes_of w)) (Dense m) (trie_of w) v P H → length (routes_of v m) ≡ r → r ≤ limit_of w
        → TableAfter w (put_counts u m r) (record { prefix = P; action = announce H })
    unfolding routes
    put_after H v hop e put count fits =
        after _ v e put.sound put.branchy (λ i h l z. hops h (put.inv (record { slot = i; is_live = l; is_prefix = refl; is_hop = z }))) count fits (put_updated put)
      where
        hops : {p : Bits} (h : ℕ) → ((p ≡ P) × (h ≡ H)) ⊎ (Held (Dense (nodes_of w)) (trie_of w) p h × (¬ (p ≡ P))) → Hop h
        hops h (inl (a, b)) = rw b hop
        hops h (inr (x, n)) = old_hops x

    -- a prefix that is held takes another hop
    pub hop_after : (h H : ℕ) (v : Trie) → Hop H → trie_of u ≡ v → Held (Dense (nodes_of w)) (trie_of w) P h → Put (Dense (nodes_of w)) (Dense m) (trie_of w) v P H → r ≡ route_count w
        → TableAfter w (put_counts u m r) (record { prefix = P; action = announce H })
    unfolding routes
    hop_after h H v hop e old put z =
        put_after H v hop e put (put_length_held s.trie old put ∙ sym s.counted ∙ sym z) (omega (arith, s.shaped.routes_fit))

    -- a new prefix
    pub new_after : (H : ℕ) (v : Trie) → Hop H → trie_of u ≡ v → held (routes w) P ≡ false → Put (Dense (nodes_of w)) (Dense m) (trie_of w) v P H → r ≡ route_count w + 1 → r ≤ limit_of w
        → TableAfter w (put_counts u m r) (record { prefix = P; action = announce H })
    unfolding routes
    new_after H v hop e new put z fits =
        put_after H v hop e put (omega (arith, put_length_new s.trie new put, s.counted)) fits

    -- a prefix that is held goes
    pub gone_after : (h : ℕ) (v : Trie) → trie_of u ≡ v → Held (Dense (nodes_of w)) (trie_of w) P h → Removed (Dense (nodes_of w)) (Dense m) (trie_of w) v P → r ≡ route_count w - 1
        → TableAfter w (put_counts u m r) (record { prefix = P; action = withdraw })
    unfolding routes
    gone_after h v e old gone z =
        after _ v e gone.sound gone.branchy (λ i x l y. old_hops (gone.inv (record { slot = i; is_live = l; is_prefix = refl; is_hop = y })).0)
        (omega (arith, removed_length s.trie old gone, s.counted)) (omega (arith, s.shaped.routes_fit)) (removed_updated gone)
