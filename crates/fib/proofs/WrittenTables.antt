-- Sound table stores carry every set of routes within the limit: a trie that holds them, written out word by word. Assumes nothing.
use mathlib.Core.Path.{◌≡◌, refl, sym, ap, ap₂, ◌∙◌, subst}
use mathlib.Core.Bool.{true, false, cond}
use mathlib.Core.List.{List}
use mathlib.Core.Option.{Option, none, some}
use Prim.Native.Nat.{ℕ, zero, suc, ◌+◌, ◌-◌, ◌*◌, ◌/◌, ◌%◌, ◌≤◌, ◌<◌}
use native.Mathlib.Omega.{arith}
use lib.ListN.{length}
use lib.Dec.{ltb}
use borrow.Author.Tests.{lt-ltb, le-ltb}
use Rattle.prefix.specs.Prefix.{prefix_of}
use Rattle.prefix.proofs.BitLaws.{digit_below}
use Rattle.sizes.specs.Sizes.{LegalLimit, table_need}
use Rattle.model.specs.Lists.{◌∈◌}
use Rattle.model.specs.Routes.{Route, Table}
use Rattle.model.specs.Demands.{Distinct, NoLonger, Hop, SameRoutes}
use Rattle.model.proofs.SameRoutes.{length_same}
use Rattle.trie.specs.Trie.{Cell, Root, Kid, Trie, Inside, Sound, Branchy, Dense}
use Rattle.trie.specs.Routes.{routes_of}
use Rattle.trie.proofs.Moving.{Agrees, agrees_sound, agrees_branchy}
use Rattle.trie.proofs.Holding.{held_in, agrees_routes, routes_distinct}
use Rattle.trie.proofs.NodeSet.{slots_short}
use Rattle.trie.proofs.Carrying.{Carried, carried}
use Rattle.sizes.specs.BothStores.{slot_word, word, limit_of}
use Rattle.nodes.specs.Layout.{nodes_of, route_count, numbered, cell_of, cell_number, child_in, trie_of}
use Rattle.nodes.proofs.Coding.{cell_numbered, number_not_one}
use Rattle.table.specs.Tables.{routes, SoundTable}
use Rattle.fib.proofs.Writing.{word_end, Words, words, words_length, words_at, words_below, address_for, address_below, prefix_coded}

-- the number of what a trie points at, and of a hop
number : Option ℕ → ℕ
number none = 0
number (some k) = suc k

number_back : (o : Option ℕ) → numbered (number o) ≡ o
unfolding number numbered
number_back none = refl
number_back (some k) = refl

number_low : (o : Option ℕ) (most : ℕ) → ((k : ℕ) → o ≡ some k → k < most) → number o ≤ most
unfolding number
number_low none most h = omega arith
number_low (some k) most h = h k refl

cell_low : (m : ℕ) (c : Cell) → Inside (Dense m) c → cell_number c ≤ 2 * m + 1
unfolding cell_number
cell_low m Root i = omega arith
cell_low m (Kid j b) i = omega (arith, digit_below b)

-- ---- the words of a trie

-- of slot k
field_of : Trie → ℕ → ℕ → ℕ
field_of v k zero = address_for (v.prefix k)
field_of v k (suc zero) = length (v.prefix k)
field_of v k (suc (suc zero)) = number (v.hop k)
field_of v k (suc (suc (suc zero))) = number (v.child (Kid k false))
field_of v k (suc (suc (suc (suc zero)))) = number (v.child (Kid k true))
field_of v k (suc (suc (suc (suc (suc f))))) = cell_number (v.up k)

-- the header, and the root cell in all words that follow its three
header_of : ℕ → ℕ → Trie → ℕ → ℕ
header_of limit m v zero = limit
header_of limit m v (suc zero) = m
header_of limit m v (suc (suc zero)) = length (routes_of v m)
header_of limit m v (suc (suc (suc i))) = number (v.child Root)

-- the word at place i
placed : ℕ → ℕ → Trie → ℕ → ℕ
placed limit m v i = cond (ltb i 1024) (header_of limit m v i) (field_of v ((i - 1024) / 8) ((i - 1024) % 8))

placed_header : (limit m : ℕ) (v : Trie) (i : ℕ) → i < 1024 → placed limit m v i ≡ header_of limit m v i
unfolding placed
placed_header limit m v i h = rw (lt-ltb i 1024 h)

placed_node : (limit m : ℕ) (v : Trie) (k f : ℕ) → f < 8 → placed limit m v (slot_word (suc k) f) ≡ field_of v k f
unfolding placed
placed_node limit m v k f h =
    let q : (slot_word (suc k) f - 1024) / 8 ≡ k = omega arith in
    let r : (slot_word (suc k) f - 1024) % 8 ≡ f = omega arith in
    rw (le-ltb (slot_word (suc k) f) 1024 (omega arith), q, r)

pub table_words : ℕ → ℕ → ℕ → Trie → List ℕ
table_words size limit m v = words (placed limit m v) size

below : (size limit m : ℕ) (v : Trie) → Words (table_words size limit m v)
unfolding table_words
below size limit m v = words_below (placed limit m v) size

module _ (size limit m : ℕ) (v : Trie) (legal : LegalLimit limit) (enough : table_need limit ≤ size) (fit : m ≤ 2 * limit) where
  in_header : (i : ℕ) → i < 1024 → header_of limit m v i < word_end → word (table_words size limit m v) i ≡ header_of limit m v i
  unfolding table_words
  in_header i h b = words_at (placed limit m v) size i (omega arith) (rw (placed_header limit m v i h) b) ∙ placed_header limit m v i h

  at_node : (k f : ℕ) → k < m → f < 8 → field_of v k f < word_end → word (table_words size limit m v) (slot_word (suc k) f) ≡ field_of v k f
  unfolding table_words
  at_node k f l h b = words_at (placed limit m v) size (slot_word (suc k) f) (omega arith) (rw (placed_node limit m v k f h) b) ∙ placed_node limit m v k f h

  length_is : length (table_words size limit m v) ≡ size
  unfolding table_words
  length_is = words_length (placed limit m v) size

  limit_is : limit_of (table_words size limit m v) ≡ limit
  unfolding header_of
  limit_is = in_header 0 (omega arith) (omega arith)

  nodes_is : nodes_of (table_words size limit m v) ≡ m
  unfolding header_of
  nodes_is = in_header 1 (omega arith) (omega arith)

  count_is : length (routes_of v m) ≤ limit → route_count (table_words size limit m v) ≡ length (routes_of v m)
  unfolding header_of
  count_is h = in_header 2 (omega arith) (omega arith)

  module _ (S : Sound (Dense m) v) (short : (k : ℕ) → k < m → length (v.prefix k) ≤ 32) (hops : (k h : ℕ) → k < m → v.hop k ≡ some h → Hop h) where
    child_low : (c : Cell) → Inside (Dense m) c → number (v.child c) ≤ m
    child_low c i = number_low (v.child c) m (λ j e. (S.points c j i e).is_live)

    hop_low : (k : ℕ) → k < m → number (v.hop k) ≤ 65536
    hop_low k l = number_low (v.hop k) 65536 (λ h e. let b = hops k h l e in omega (arith, b.1))

    up_low : (k : ℕ) → k < m → cell_number (v.up k) ≤ 2 * m + 1
    up_low k l = cell_low m (v.up k) (S.owned k l).inside

    -- what the words spell is the trie
    child_is : (c : Cell) → Inside (Dense m) c → child_in (table_words size limit m v) c ≡ v.child c
    unfolding child_in header_of field_of
    child_is Root i = ap numbered (in_header 1019 (omega arith) (omega (arith, child_low Root i))) ∙ number_back (v.child Root)
    child_is (Kid k false) i = ap numbered (at_node k 3 i (omega arith) (omega (arith, child_low (Kid k false) i))) ∙ number_back (v.child (Kid k false))
    child_is (Kid k true) i = ap numbered (at_node k 4 i (omega arith) (omega (arith, child_low (Kid k true) i))) ∙ number_back (v.child (Kid k true))

    agrees : Agrees (Dense m) v (trie_of (table_words size limit m v))
    unfolding trie_of field_of
    agrees = record {
      prefix = λ k l. ap₂ (prefix_of 32) (at_node k 0 l (omega arith) (address_below (v.prefix k) (short k l))) (at_node k 1 l (omega arith) (omega (arith, short k l))) ∙ prefix_coded (v.prefix k) (short k l);
      hop = λ k l. ap numbered (at_node k 2 l (omega arith) (omega (arith, hop_low k l))) ∙ number_back (v.hop k);
      up = λ k l. ap cell_of (at_node k 5 l (omega arith) (omega (arith, up_low k l))) ∙ cell_numbered (v.up k);
      child = child_is;
    }

    routes_are : routes (table_words size limit m v) ≡ routes_of v m
    unfolding routes
    routes_are = ap (routes_of (trie_of (table_words size limit m v))) nodes_is ∙ agrees_routes agrees

    short_words : (p : ℕ) → 0 < p → p ≤ m → word (table_words size limit m v) (slot_word p 1) ≤ 32
    unfolding field_of
    short_words zero a b = absurd (omega arith)
    short_words (suc k) a b = omega (arith, at_node k 1 b (omega arith) (omega (arith, short k b)), short k b)

    celled_words : (p : ℕ) → 0 < p → p ≤ m → ¬ (word (table_words size limit m v) (slot_word p 5) ≡ 1)
    unfolding field_of
    celled_words zero a b = absurd (omega arith)
    celled_words (suc k) a b = λ e. number_not_one (v.up k) (sym (at_node k 5 b (omega arith) (omega (arith, up_low k b))) ∙ e)

    pub written_table : Branchy (Dense m) v → length (routes_of v m) ≤ limit → SoundTable (table_words size limit m v)
    unfolding trie_of
    written_table B count = record {
      shaped = record {
        legal = subst LegalLimit (sym limit_is) legal;
        enough = omega (arith, limit_is, length_is);
        nodes_fit = omega (arith, nodes_is, limit_is);
        routes_fit = omega (arith, count_is count, limit_is);
      };
      plain = record {
        short = λ p a b. short_words p a (omega (arith, nodes_is, b));
        celled = λ p a b. celled_words p a (omega (arith, nodes_is, b));
      };
      trie = subst (λ (n : ℕ). Sound (Dense n) (trie_of (table_words size limit m v))) (sym nodes_is) (agrees_sound agrees S);
      branches = subst (λ (n : ℕ). Branchy (Dense n) (trie_of (table_words size limit m v))) (sym nodes_is) (agrees_branchy agrees S B);
      hops = λ k h l e. let b : k < m = omega (arith, nodes_is, l) in hops k h b (sym (agrees.hop k b) ∙ e);
      counted = count_is count ∙ ap length (sym routes_are);
    }

-- ---- every set of routes

pub record CarriedTable (size limit : ℕ) (table : Table) : Type 0 where
  pub store : List ℕ
  pub its_size : length store ≡ size
  pub are_words : Words store
  pub sound : SoundTable store
  pub its_limit : limit_of store ≡ limit
  pub same : SameRoutes (routes store) table

pub carried_table : (size limit : ℕ) (table : Table) → LegalLimit limit → table_need limit ≤ size → Distinct table → NoLonger 32 table → ((R : Route) → R ∈ table → Hop R.hop) → length table ≤ limit → CarriedTable size limit table
carried_table size limit table legal enough d short hops fit = go (carried d)
  where
    go : Carried table → CarriedTable size limit table
    go c = record {
      store = table_words size limit c.slots c.trie;
      its_size = length_is size limit c.slots c.trie legal enough slots_fit;
      are_words = below size limit c.slots c.trie;
      sound = written_table size limit c.slots c.trie legal enough slots_fit c.sound lengths its_hops c.branchy (omega (arith, count, fit));
      its_limit = limit_is size limit c.slots c.trie legal enough slots_fit;
      same = subst (λ (l : Table). SameRoutes l table) (sym (routes_are size limit c.slots c.trie legal enough slots_fit c.sound lengths its_hops)) c.same;
    }
      where
        slots_fit : c.slots ≤ 2 * limit
        slots_fit = omega (arith, c.fit, fit)

        count : length (routes_of c.trie c.slots) ≡ length table
        count = length_same (routes_of c.trie c.slots) table (routes_distinct c.sound) d c.same

        lengths : (k : ℕ) → k < c.slots → length (c.trie.prefix k) ≤ 32
        lengths = slots_short c.sound c.branchy 32 (λ R i. short R (c.same.to R i))

        its_hops : (k h : ℕ) → k < c.slots → c.trie.hop k ≡ some h → Hop h
        its_hops k h l e = hops (record { prefix = c.trie.prefix k; hop = h }) (c.same.to _ (held_in c.trie c.slots (record { slot = k; is_live = l; is_prefix = refl; is_hop = e })))
