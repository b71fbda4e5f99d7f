-- One turn of the descent: each way that it ends, and the way on. Assumes nothing.
use mathlib.Core.Path.{◌≡◌, refl, sym, ap, ◌∙◌}
use mathlib.Core.Bool.{Bool, true, false}
use mathlib.Core.List.{List}
use mathlib.Core.Option.{Option, none, some}
use Prim.Native.Nat.{ℕ, ◌+◌, ◌-◌, ◌≤◌, ◌<◌}
use native.Mathlib.Numerals.{add-one}
use native.Mathlib.Omega.{arith}
use lib.ListN.{length, take}
use Rattle.prefix.specs.Bits.{Bits}
use Rattle.prefix.specs.Prefix.{contains}
use Rattle.prefix.specs.Addresses.{ipv4_bits}
use Rattle.prefix.specs.declared.Address.{Address}
use Rattle.trie.specs.Trie.{Dense}
use Rattle.trie.specs.Walk.{Walking, follow}
use Rattle.trie.proofs.Walking.{walking_start, walking_off, walking_parted, walking_on}
use Rattle.sizes.specs.BothStores.{word}
use Rattle.nodes.specs.Layout.{cell_word, nodes_of, trie_of, numbered}
use Rattle.nodes.proofs.Coding.{numbered_some, numbered_node, none_numbered, cell_root}
use Rattle.nodes.proofs.Spelling.{child_word}
use Rattle.table.specs.Tables.{SoundTable}
use Rattle.table.specs.Stops.{Stopped}
use Rattle.table.specs.Turns.{Going, Onward, Turned, Tested, Chosen, off_of}
use Rattle.table.specs.declared.Walk.{Walk}
use Rattle.table.specs.declared.Stop.{Stop}
use Rattle.std.specs.declared.ops.ControlFlow.{ControlFlow}
use Rattle.std.specs.declared.ops.ControlFlow.TheVariants.{Continue, Break}
use Rattle.table.proofs.Reading.{length_sought}

module _ (w : List ℕ) (a : Address) (n : ℕ) (short : n ≤ 32) (k : Walk) (g : Going w (ipv4_bits a) n k) where
  abbrev X : Bits
  X = take n (ipv4_bits a)

  -- ---- no node in hand

  over : (SoundTable w → numbered k.at ≡ none) → Stopped w (ipv4_bits a) n (off_of k)
  over f = record {
    last_in = g.last_in;
    beyond_in = omega arith;
    best_in = g.best_in;
    few = g.few;
    place = λ S. rw none_numbered (sym (walking_off (rw (f S) at (g.way S))));
  }

  nothing : (o : Option ℕ) → ((i : ℕ) → o ≡ some i → ⊥) → o ≡ none
  nothing none f = refl
  nothing (some i) f = absurd (f i refl)

  module _ (s : Stop) (is : s ≡ off_of k) where
    pub over_none : k.at ≡ 0 → Turned w (ipv4_bits a) n k (Break s)
    unfolding Turned
    over_none z = rw is (over (λ S. ap numbered z ∙ none_numbered))

    pub over_out : (nodes : ℕ) → nodes ≡ nodes_of w → nodes < k.at → Turned w (ipv4_bits a) n k (Break s)
    unfolding Turned
    over_out nodes e l = rw is (over (λ S. nothing (numbered k.at) (λ i h. omega (arith, numbered_some k.at i h, ((g.way S).reached S.trie i h).0))))

    pub over_many : n < k.examined → Turned w (ipv4_bits a) n k (Break s)
    unfolding Turned
    over_many l = rw is (over (λ S. nothing (numbered k.at) (λ i e. omega (arith, length_sought a n short, ((g.way S).reached S.trie i e).2))))

  -- ---- a node in hand

  module _ (some_at : ¬ (k.at ≡ 0)) (nodes : ℕ) (are-nodes : nodes ≡ nodes_of w) (in_use : k.at ≤ nodes) (left : k.examined ≤ n) (h : Bool) (test : Tested w (ipv4_bits a) n k.at h) where
    inside : k.at ≤ nodes_of w
    inside = omega arith

    here : numbered k.at ≡ some (k.at - 1)
    here = numbered_node k.at (omega arith)

    there : SoundTable w → Walking (Dense (nodes_of w)) (trie_of w) X (some (k.at - 1)) (numbered k.last) (numbered k.best) k.examined
    there S = rw here at (g.way S)

    room : k.examined ≤ length X
    room = omega (arith, length_sought a n short)

    tested : SoundTable w → h ≡ contains ((trie_of w).prefix (k.at - 1)) X
    tested S = test.answer (S.plain.short k.at (omega arith) inside)

    pub parted : h ≡ false → Turned w (ipv4_bits a) n k (Break (record { last = k.last; beyond = k.at; best = k.best; examined = k.examined + 1 }))
    unfolding Turned
    parted f = record {
      last_in = g.last_in;
      beyond_in = inside;
      best_in = g.best_in;
      few = omega arith;
      place = λ S. rw (here, add-one) (sym (walking_parted (k.at - 1) (there S) room (sym (tested S) ∙ f)));
    }

    pub on : h ≡ true → (q r : ℕ) → numbered q ≡ follow (trie_of w) (take n (ipv4_bits a)) (k.at - 1) → Chosen w k.at k.best r
        → Turned w (ipv4_bits a) n k (Continue (record { at = q; last = k.at; best = r; examined = k.examined + 1 }))
    unfolding Turned
    on t q r eq ch = record {
      going = record {
        last_in = inside;
        best_in = ch.among (nodes_of w) inside g.best_in;
        few = omega arith;
        way = λ S. rw (here, add-one, eq, ch.route) (walking_on (k.at - 1) (there S) room (sym (tested S) ∙ t));
      };
      one_more = add-one k.examined;
    }

-- ---- what the answer tells

module _ (w : List ℕ) (X : Bits) (n : ℕ) (k : Walk) (t : ControlFlow Stop Walk) (h : Turned w X n k t) where
  turned_on : (next : Walk) → t ≡ Continue next → Onward w X n k next
  unfolding Turned
  turned_on next e = rw e at h

  pub turned_going : (next : Walk) → t ≡ Continue next → Going w X n next
  turned_going next e = (turned_on next e).going

  pub turned_less : (next : Walk) → t ≡ Continue next → n + 1 - next.examined < n + 1 - k.examined
  turned_less next e = let o = turned_on next e in omega (arith, o.one_more, o.going.few)

  pub turned_over : (s : Stop) → t ≡ Break s → Stopped w X n s
  unfolding Turned
  turned_over s e = rw e at h

-- ---- the start

pub start : (w : List ℕ) (X : Bits) (n r : ℕ) → r ≡ word w (cell_word 0) → Going w X n (record { at = r; last = 0; best = 0; examined = 0 })
start w X n r e = record {
  last_in = omega arith;
  best_in = omega arith;
  few = omega arith;
  way = λ S. rw (e, child_word w 0 (λ z. omega arith), cell_root, none_numbered) (walking_start (Dense (nodes_of w)) (trie_of w) (take n X));
}
