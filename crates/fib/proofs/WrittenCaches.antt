-- Sound cache stores carry every list of entries that do not overlap, within the limit and in every order of use: slots that hold them,
-- written out word by word. Assumes nothing.
use mathlib.Core.Path.{◌≡◌, sym, ap, ap₂, ◌∙◌, subst}
use mathlib.Core.Bool.{true, false, cond}
use mathlib.Core.List.{List}
use Prim.Native.Nat.{ℕ, zero, suc, ◌+◌, ◌-◌, ◌*◌, ◌/◌, ◌%◌, ◌≤◌, ◌<◌}
use native.Mathlib.Decide.{ℕ_discrete, dec_lt}
use native.Mathlib.Omega.{arith}
use lib.ListN.{length}
use lib.Dec.{ltb}
use borrow.Author.Tests.{lt-ltb, le-ltb}
use Rattle.prefix.specs.Prefix.{prefix_of}
use Rattle.sizes.specs.Sizes.{LegalLimit, cache_need}
use Rattle.model.specs.Lists.{◌∈◌}
use Rattle.model.specs.Model as model
use Rattle.model.specs.Demands.{NoOverlap, NoLonger}
use Rattle.lru_cache.specs.Slots.{Cache, entry_node, branch_node, cell_of}
use Rattle.lru_cache.specs.Sound.{Slot, Live, InUse, SoundCache, entry_of}
use Rattle.lru_cache.specs.Sound as lru
use Rattle.lru_cache.specs.Results.{Agree, Carried}
use Rattle.lru_cache.proofs.Orders.{ring_linked}
use Rattle.lru_cache.proofs.Shape.{cell_low, pointed, hangs, branch_short}
use Rattle.lru_cache.proofs.Agreeing.{agree_sound, agree_entries}
use Rattle.lru_cache.proofs.Holding.{slot_entry}
use Rattle.lru_cache.proofs.Carrying.{carried}
use Rattle.sizes.specs.BothStores.{slot_word, word, limit_of}
use Rattle.slots.specs.Layout.{cell_word, entries_held, up_in, cache_of, packed}
use Rattle.entries.specs.Caches.{entries, SoundEntries}
use Rattle.fib.proofs.Writing.{word_end, Words, words, words_length, words_at, words_below, address_for, address_below, prefix_coded}

-- ---- the words of slots

-- of slot i
field_of : Cache → ℕ → ℕ → ℕ
field_of c i zero = address_for (c.entry i)
field_of c i (suc zero) = packed (c.hop i) (length (c.entry i))
field_of c i (suc (suc zero)) = c.prev i
field_of c i (suc (suc (suc zero))) = c.next i
field_of c i (suc (suc (suc (suc zero)))) = c.up (entry_node i)
field_of c i (suc (suc (suc (suc (suc zero))))) = c.child (cell_of i false)
field_of c i (suc (suc (suc (suc (suc (suc zero)))))) = c.child (cell_of i true)
field_of c i (suc (suc (suc (suc (suc (suc (suc f))))))) = packed (c.up (branch_node i)) (c.branch_length i)

-- the header: its two words, the second once more in all that follow
header_of : ℕ → ℕ → ℕ → ℕ
header_of limit n zero = limit
header_of limit n (suc i) = n

-- the word at place i
placed : ℕ → ℕ → Cache → ℕ → ℕ
placed limit n c i = cond (ltb i 1016) (header_of limit n i) (field_of c ((i - 1016) / 8) ((i - 1016) % 8))

placed_header : (limit n : ℕ) (c : Cache) (i : ℕ) → i < 1016 → placed limit n c i ≡ header_of limit n i
unfolding placed
placed_header limit n c i h = rw (lt-ltb i 1016 h)

placed_slot : (limit n : ℕ) (c : Cache) (i f : ℕ) → f < 8 → placed limit n c (slot_word i f) ≡ field_of c i f
unfolding placed
placed_slot limit n c i f h =
    let q : (slot_word i f - 1016) / 8 ≡ i = omega arith in
    let r : (slot_word i f - 1016) % 8 ≡ f = omega arith in
    rw (le-ltb (slot_word i f) 1016 (omega arith), q, r)

pub cache_words : ℕ → ℕ → ℕ → Cache → List ℕ
cache_words size limit n c = words (placed limit n c) size

below : (size limit n : ℕ) (c : Cache) → Words (cache_words size limit n c)
unfolding cache_words
below size limit n c = words_below (placed limit n c) size

module _ (size limit n : ℕ) (c : Cache) (legal : LegalLimit limit) (enough : cache_need limit ≤ size) (fit : n ≤ limit) where
  in_header : (i : ℕ) → i < 1016 → header_of limit n i < word_end → word (cache_words size limit n c) i ≡ header_of limit n i
  unfolding cache_words
  in_header i h b = words_at (placed limit n c) size i (omega arith) (rw (placed_header limit n c i h) b) ∙ placed_header limit n c i h

  at_slot : (i f : ℕ) → i ≤ n → f < 8 → field_of c i f < word_end → word (cache_words size limit n c) (slot_word i f) ≡ field_of c i f
  unfolding cache_words
  at_slot i f l h b = words_at (placed limit n c) size (slot_word i f) (omega arith) (rw (placed_slot limit n c i f h) b) ∙ placed_slot limit n c i f h

  length_is : length (cache_words size limit n c) ≡ size
  unfolding cache_words
  length_is = words_length (placed limit n c) size

  limit_is : limit_of (cache_words size limit n c) ≡ limit
  unfolding header_of
  limit_is = in_header 0 (omega arith) (omega arith)

  held_is : entries_held (cache_words size limit n c) ≡ n
  unfolding header_of
  held_is = in_header 1 (omega arith) (omega arith)

  module _ (S : SoundCache n c) (short : (i : ℕ) → Slot n i → length (c.entry i) ≤ 32) (hops : (i : ℕ) → Slot n i → c.hop i ≤ 65535) where
    child_low : (q : ℕ) → InUse n q → c.child q ≤ 2 * n + 1
    child_low q u = elim (dec_lt 0 (c.child q)) [ yes h ↦ (pointed S q u h).live.1 | no h ↦ omega arith ]

    up_low : (x : ℕ) → Live n x → c.up x ≤ 2 * n + 1
    up_low x l = cell_low n (c.up x) (hangs S x l).0

    address_is : (i : ℕ) → Slot n i → word (cache_words size limit n c) (slot_word i 0) ≡ address_for (c.entry i)
    unfolding field_of
    address_is i s = at_slot i 0 s.1 (omega arith) (address_below (c.entry i) (short i s))

    entry_is : (i : ℕ) → Slot n i → word (cache_words size limit n c) (slot_word i 1) ≡ packed (c.hop i) (length (c.entry i))
    unfolding field_of
    entry_is i s = at_slot i 1 s.1 (omega arith) (omega (arith, short i s, hops i s))

    length_low : (i : ℕ) → Slot n i → word (cache_words size limit n c) (slot_word i 1) % 64 ≡ length (c.entry i)
    length_low i s = omega (arith, entry_is i s, short i s)

    branch_is : (i : ℕ) → 1 < i → i ≤ n → word (cache_words size limit n c) (slot_word i 7) ≡ packed (c.up (branch_node i)) (c.branch_length i)
    unfolding field_of
    branch_is i h l = at_slot i 7 l (omega arith) (omega (arith, branch_short S i h l, short i (omega arith, l), up_low (branch_node i) (omega arith, omega arith, λ z. omega arith)))

    up_entry : (x : ℕ) → Live n x → x % 2 ≡ 0 → up_in (cache_words size limit n c) x ≡ c.up x
    unfolding up_in field_of
    up_entry x l e =
        let z : entry_node (x / 2) ≡ x = omega arith in
        let b : c.up (entry_node (x / 2)) < word_end = omega (arith, up_low x l, ap c.up z) in
        rw e (at_slot (x / 2) 4 (omega arith) (omega arith) b ∙ ap c.up z)

    up_branch : (x : ℕ) → Live n x → x % 2 ≡ 1 → up_in (cache_words size limit n c) x ≡ c.up x
    unfolding up_in
    up_branch x l e =
        let z : branch_node (x / 2) ≡ x = omega arith in
        let s = branch_short S (x / 2) (omega arith) (omega arith) in
        let t = short (x / 2) (omega arith, omega arith) in
        let b = branch_is (x / 2) (omega arith) (omega arith) in
        let q : word (cache_words size limit n c) (slot_word (x / 2) 7) / 64 ≡ c.up (branch_node (x / 2)) = omega (arith, b, s, t) in
        rw e (q ∙ ap c.up z)

    up_is : (x : ℕ) → Live n x → up_in (cache_words size limit n c) x ≡ c.up x
    up_is x l = elim (ℕ_discrete (x % 2) 0) [ yes e ↦ up_entry x l e | no d ↦ up_branch x l (omega arith) ]

    child_is : (q : ℕ) → InUse n q → word (cache_words size limit n c) (cell_word q) ≡ c.child q
    unfolding field_of
    child_is q u = elim (ℕ_discrete (q % 2) 0) [ yes e ↦ left e | no d ↦ right (omega arith) ]
      where
        here : q / 2 ≤ n
        here = omega (arith, cell_low n q u)

        left : q % 2 ≡ 0 → word (cache_words size limit n c) (cell_word q) ≡ c.child q
        left e =
            let z : cell_of (q / 2) false ≡ q = omega arith in
            let k : cell_word q ≡ slot_word (q / 2) 5 = omega arith in
            let b : c.child (cell_of (q / 2) false) < word_end = omega (arith, child_low q u, ap c.child z) in
            ap (word (cache_words size limit n c)) k ∙ at_slot (q / 2) 5 here (omega arith) b ∙ ap c.child z

        right : q % 2 ≡ 1 → word (cache_words size limit n c) (cell_word q) ≡ c.child q
        right e =
            let z : cell_of (q / 2) true ≡ q = omega arith in
            let k : cell_word q ≡ slot_word (q / 2) 6 = omega arith in
            let b : c.child (cell_of (q / 2) true) < word_end = omega (arith, child_low q u, ap c.child z) in
            ap (word (cache_words size limit n c)) k ∙ at_slot (q / 2) 6 here (omega arith) b ∙ ap c.child z

    prev_is : (i : ℕ) → i ≤ n → word (cache_words size limit n c) (slot_word i 2) ≡ c.prev i
    unfolding field_of
    prev_is i l = at_slot i 2 l (omega arith) (omega (arith, (ring_linked S.ring i l).prev_low))

    next_is : (i : ℕ) → i ≤ n → word (cache_words size limit n c) (slot_word i 3) ≡ c.next i
    unfolding field_of
    next_is i l = at_slot i 3 l (omega arith) (omega (arith, (ring_linked S.ring i l).next_low))

    -- what the words spell is the slots, where they are in use
    agree : Agree n c (cache_of (cache_words size limit n c))
    unfolding cache_of
    agree = record {
      entry = λ i s. ap₂ (prefix_of 32) (address_is i s) (length_low i s) ∙ prefix_coded (c.entry i) (short i s);
      hop = λ i s. omega (arith, entry_is i s, short i s);
      branch_length = λ i h l. omega (arith, branch_is i h l, branch_short S i h l, short i (omega arith, l));
      child = child_is;
      up = up_is;
      prev = prev_is;
      next = next_is;
    }

    pub written_cache : SoundEntries (cache_words size limit n c)
    written_cache = record {
      shaped = record {
        legal = subst LegalLimit (sym limit_is) legal;
        enough = omega (arith, limit_is, length_is);
        entries_fit = omega (arith, held_is, limit_is);
      };
      plain = record { short = λ i a b. let s : Slot n i = (a, omega (arith, held_is, b)) in omega (arith, length_low i s, short i s) };
      slots = subst (λ (k : ℕ). SoundCache k (cache_of (cache_words size limit n c))) (sym held_is) (agree_sound agree S);
    }

    pub written_entries : entries (cache_words size limit n c) ≡ lru.entries n c
    unfolding entries
    written_entries = ap (λ (k : ℕ). lru.entries k (cache_of (cache_words size limit n c))) held_is ∙ agree_entries agree S

-- ---- every list of entries

pub record CarriedCache (size limit : ℕ) (cache : model.Cache) : Type 0 where
  pub store : List ℕ
  pub its_size : length store ≡ size
  pub are_words : Words store
  pub sound : SoundEntries store
  pub its_limit : limit_of store ≡ limit
  pub same : entries store ≡ cache

pub carried_cache : (size limit : ℕ) (cache : model.Cache) → LegalLimit limit → cache_need limit ≤ size → NoOverlap cache → NoLonger 32 cache → ((E : model.Entry) → E ∈ cache → E.hop ≤ 65535) → length cache ≤ limit → CarriedCache size limit cache
carried_cache size limit cache legal enough apart short hops fit = go (carried cache apart)
  where
    go : Carried cache → CarriedCache size limit cache
    go k = record {
      store = cache_words size limit (length cache) k.cache;
      its_size = length_is size limit (length cache) k.cache legal enough fit;
      are_words = below size limit (length cache) k.cache;
      sound = written_cache size limit (length cache) k.cache legal enough fit k.sound lengths its_hops;
      its_limit = limit_is size limit (length cache) k.cache legal enough fit;
      same = written_entries size limit (length cache) k.cache legal enough fit k.sound lengths its_hops ∙ k.holds;
    }
      where
        held : (i : ℕ) → Slot (length cache) i → entry_of k.cache i ∈ cache
        held i s = subst (λ (l : model.Cache). entry_of k.cache i ∈ l) k.holds (slot_entry k.sound i s)

        lengths : (i : ℕ) → Slot (length cache) i → length (k.cache.entry i) ≤ 32
        lengths i s = short (entry_of k.cache i) (held i s)

        its_hops : (i : ℕ) → Slot (length cache) i → k.cache.hop i ≤ 65535
        its_hops i s = hops (entry_of k.cache i) (held i s)
