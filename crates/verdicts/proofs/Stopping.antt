-- What the place where the descent stopped tells of the prefix that was sought. Assumes nothing.
use mathlib.Core.Path.{◌≡◌, sym, ap, ◌∙◌}
use mathlib.Core.Bool.{false}
use mathlib.Core.List.{List}
use mathlib.Core.Option.{some}
use Prim.Native.Nat.{ℕ, ◌-◌, ◌≤◌, ◌<◌}
use native.Mathlib.Omega.{arith}
use lib.ListN.{length, take}
use Rattle.std.specs.Prelude.{Result, Ok, Err}
use Rattle.prefix.specs.Bits.{Bits}
use Rattle.prefix.specs.declared.Address.{Address}
use Rattle.model.specs.Routes.{Action, Update, held}
use Rattle.trie.specs.Trie.{Dense}
use Rattle.trie.specs.Walk as walk
use Rattle.trie.proofs.Walking.{at_last, Landed, landed_root, landed_below}
use Rattle.trie.proofs.Holding.{landed_not_held}
use Rattle.sizes.specs.BothStores.{slot_word, word, Room}
use Rattle.nodes.specs.Layout.{nodes_of, numbered, trie_of, Shaped}
use Rattle.nodes.specs.Headers.{HeaderRead}
use Rattle.nodes.specs.declared.Header.{Header}
use Rattle.nodes.proofs.Coding.{numbered_node, none_numbered}
use Rattle.prefix.specs.Addresses.{ipv4_bits}
use Rattle.table.specs.Tables.{routes, SoundTable}
use Rattle.table.specs.Stops.{Stopped}
use Rattle.table.specs.declared.Stop.{Stop}
use Rattle.table.proofs.Reading.{length_sought, own_length}
use Rattle.verdicts.specs.Verdicts.{limits_of, Answered, NodeAt}
use Rattle.verdicts.specs.declared.UpdateError.{UpdateError}
use Rattle.verdicts.specs.declared.UpdateError.TheVariants.{Unsound}
use Rattle.verdicts.proofs.Verdicts.{any_length, unsound}

-- ---- what the header's answer tells

pub not_read : (w : List ℕ) (n : ℕ) (u : Update) → ¬ Shaped w → Answered w w n u (Err Unsound)
not_read w n u f = unsound w w n u (λ s. f s.shaped)

module _ (w : List ℕ) (h : Header) (read : HeaderRead w (Ok h)) (X : Bits) (n : ℕ) (stop : Stop) (at : Stopped w X n stop) where
  pub last_room : Room w stop.last
  last_room = omega (arith, read.0.enough, read.0.nodes_fit, at.last_in)

  pub last_at : ¬ (stop.last ≡ 0) → NodeAt w h stop.last
  last_at some_last = record { header = read; some_node = omega arith; in_use = omega (arith, at.last_in, read.2) }

-- ---- what the descent's answer tells

module _ (w : List ℕ) (a : Address) (n : ℕ) (short : n ≤ 32) (stop : Stop) (at : Stopped w (ipv4_bits a) n stop) (s : SoundTable w) where
  pub stop_last : (walk.descent (trie_of w) (take n (ipv4_bits a))).last ≡ numbered stop.last
  stop_last = sym (ap (λ (r : walk.Stop). r.last) (at.place s))

  pub stop_beyond : (walk.descent (trie_of w) (take n (ipv4_bits a))).beyond ≡ numbered stop.beyond
  stop_beyond = sym (ap (λ (r : walk.Stop). r.beyond) (at.place s))

  -- no node contains it
  pub landed_first : stop.last ≡ 0 → Landed (Dense (nodes_of w)) (trie_of w) (take n (ipv4_bits a)) (walk.descent (trie_of w) (take n (ipv4_bits a)))
  landed_first z = landed_root s.trie _ (stop_last ∙ rw z none_numbered)

  module _ (some_last : ¬ (stop.last ≡ 0)) (own : ℕ) (is_own : own ≡ word w (slot_word stop.last 1)) where
    pub last_node : (walk.descent (trie_of w) (take n (ipv4_bits a))).last ≡ some (stop.last - 1)
    last_node = stop_last ∙ numbered_node stop.last (omega arith)

    pub last_length : length ((trie_of w).prefix (stop.last - 1)) ≡ own
    last_length = own_length w stop.last (omega arith) own is_own (rw is_own (s.plain.short stop.last (omega arith) at.last_in))

    -- the last node that contains it is shorter
    pub landed_after : ¬ (own ≡ n) → Landed (Dense (nodes_of w)) (trie_of w) (take n (ipv4_bits a)) (walk.descent (trie_of w) (take n (ipv4_bits a)))
    landed_after ne = landed_below s.trie _ (stop.last - 1) last_node (λ z. ne (omega (arith, last_length, length_sought a n short)))

    -- it is the last node's
    pub own_node : own ≡ n → (stop.last - 1 < nodes_of w) × ((trie_of w).prefix (stop.last - 1) ≡ take n (ipv4_bits a))
    own_node e = at_last s.trie _ (stop.last - 1) last_node (last_length ∙ e ∙ sym (length_sought a n short))

  pub landed_new : Landed (Dense (nodes_of w)) (trie_of w) (take n (ipv4_bits a)) (walk.descent (trie_of w) (take n (ipv4_bits a))) → held (routes w) (take n (ipv4_bits a)) ≡ false
  unfolding routes
  landed_new d = landed_not_held s.trie _ d

module _ (w : List ℕ) (a : Address) (n : ℕ) (short : n ≤ 32) (stop : Stop) (at : Stopped w (ipv4_bits a) n stop) where
  module _ (some_last : ¬ (stop.last ≡ 0)) (own : ℕ) (is_own : own ≡ word w (slot_word stop.last 1)) where
    -- what is answered for the prefix of the last node
    pub last_own : own ≡ n → (w' : List ℕ) (x : Action) (r : Result (Unit {0}) UpdateError) → Answered w w' 0 (record { prefix = (trie_of w).prefix (stop.last - 1); action = x }) r
        → Answered w w' n (record { prefix = take n (ipv4_bits a); action = x }) r
    last_own e w' x r g = record {
      late = g.late;
      number = λ s. g.number s ∙ rw (prefix s) (any_length (limits_of w) (routes w) n _ short x);
      refused = g.refused;
      accepted = λ s d. rw (prefix s) at (g.accepted s d);
    }
      where
        prefix : SoundTable w → (trie_of w).prefix (stop.last - 1) ≡ take n (ipv4_bits a)
        prefix s = (own_node w a n short stop at s some_last own is_own e).1
