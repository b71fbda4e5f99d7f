-- What a sound pair of stores gives, and what makes one. Assumes nothing.
use mathlib.Core.Path.{◌≡◌, ap}
use mathlib.Core.List.{List}
use Prim.Native.Nat.{ℕ, suc, ◌≤◌}
use native.Mathlib.Omega.{arith}
use lib.ListN.{length, length-take}
use Rattle.prefix.specs.Bits.{bits}
use Rattle.prefix.proofs.BitLaws.{length_bits}
use Rattle.model.specs.Lists.{◌∈◌}
use Rattle.model.specs.Model.{Entry}
use Rattle.model.specs.Demands.{Hop, Legal, NoLonger}
use Rattle.trie.proofs.Holding.{in_held, routes_distinct}
use Rattle.lru_cache.specs.Sound as lru
use Rattle.lru_cache.proofs.Holding.{entries_length, entry_slot, entries_apart}
use Rattle.sizes.specs.BothStores.{word, slot_word}
use Rattle.nodes.specs.Layout.{trie_of, nodes_of}
use Rattle.slots.specs.Layout.{entries_held, cache_of}
use Rattle.table.specs.Tables.{routes, SoundTable}
use Rattle.entries.specs.Caches.{entries, SoundEntries}
use Rattle.entries.proofs.EntryLaws.{entry_short}
use Rattle.pairs.specs.Pairs.{SoundPair, limits_of}

-- ---- the table

pub routes_short : (w : List ℕ) → NoLonger 32 (routes w)
unfolding routes trie_of
routes_short w R i =
    let r = in_held (trie_of w) (nodes_of w) R i in
    let u : ℕ = word w (slot_word (suc r.slot) 0) in
    let n : ℕ = word w (slot_word (suc r.slot) 1) in
    omega (arith, ap length r.is_prefix, length-take n (bits 32 u), length_bits 32 u)

pub routes_hops : {w : List ℕ} → SoundTable w → (R : Entry) → R ∈ routes w → Hop R.hop
unfolding routes
routes_hops {w} S R i = let r = in_held (trie_of w) (nodes_of w) R i in S.hops r.slot R.hop r.is_live r.is_hop

-- ---- the cache

pub held_entries : {w : List ℕ} → SoundEntries w → length (entries w) ≡ entries_held w
unfolding entries
held_entries S = entries_length S.slots

pub short_entries : {w : List ℕ} → SoundEntries w → NoLonger 32 (entries w)
unfolding entries
short_entries {w} S E i = go (entry_slot S.slots E i)
  where
    go : (k : ℕ) × lru.Slot (entries_held w) k × (lru.entry_of (cache_of w) k ≡ E) → length E.prefix ≤ 32
    go (k, l, e) = rw (← e) (entry_short w k)

-- ---- the pair

pub legal_pair : {table cache : List ℕ} → SoundPair table cache → Legal (limits_of table cache) (routes table) (entries cache)
unfolding routes entries
legal_pair {table} {cache} S = record {
  distinct = routes_distinct S.its_table.trie;
  routes_short = routes_short table;
  routes_hops = routes_hops S.its_table;
  routes_fit = omega (arith, S.its_table.counted, S.its_table.shaped.routes_fit);
  no_overlap = entries_apart S.its_cache.slots;
  entries_short = short_entries S.its_cache;
  covered = S.covered;
  entries_fit = omega (arith, entries_length S.its_cache.slots, S.its_cache.shaped.entries_fit);
}
