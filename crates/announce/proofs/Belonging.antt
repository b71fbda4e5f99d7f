-- Where an announced prefix belongs, by where the descent for it stopped. Assumes nothing.
use mathlib.Core.Path.{◌≡◌, sym, ◌∙◌}
use mathlib.Core.Bool.{false}
use mathlib.Core.List.{List}
use Prim.Native.Nat.{ℕ, ◌+◌, ◌-◌, ◌*◌, ◌/◌, ◌≤◌, ◌<◌}
use native.Mathlib.Omega.{arith}
use lib.ListN.{take, get_or}
use lib.Seq.{get_or-take}
use Rattle.std.specs.Prelude.{Result, Ok, Err}
use mir.Syntax.{w32}
use mir.Val as Int
use Rattle.prefix.specs.Bits.{one?, digit}
use Rattle.prefix.specs.Addresses.{address_bits, ipv4_bits}
use Rattle.prefix.specs.declared.Address.{Address}
use Rattle.prefix.proofs.Order.{below_<}
use Rattle.model.specs.Demands.{Hop}
use Rattle.trie.specs.Trie.{Kid, Dense}
use Rattle.trie.specs.Walk as walk
use Rattle.trie.proofs.Walking.{Landed}
use Rattle.sizes.specs.BothStores.{slot_word, word}
use Rattle.nodes.specs.Layout.{nodes_of, cell_of, trie_of}
use Rattle.nodes.specs.Headers.{HeaderRead}
use Rattle.nodes.specs.declared.Header.{Header}
use Rattle.nodes.proofs.Coding.{none_numbered, cell_root, cell_side}
use Rattle.table.specs.Tables.{SoundTable}
use Rattle.table.specs.Stops.{Stopped}
use Rattle.table.specs.declared.Stop.{Stop}
use Rattle.table.proofs.Reading.{length_sought}
use Rattle.prefix.proofs.BitLaws.{bit_small}
use Rattle.verdicts.specs.Verdicts.{Answered}
use Rattle.announce.specs.declared.Route.{Route}
use Rattle.announce.specs.Steps.{announcement, announcement_at, Sought, Belongs, Adds}
use Rattle.verdicts.specs.declared.UpdateError.{UpdateError}
use Rattle.verdicts.specs.declared.UpdateError.TheVariants.{Unsound}
use Rattle.announce.proofs.Parting.{bit_digit}
use Rattle.verdicts.proofs.Verdicts.{unsound}
use Rattle.verdicts.proofs.Stopping.{stop_last, stop_beyond, last_node, last_length, landed_first, landed_after, landed_new, last_own}

pub is_sought : (w : List ℕ) (h : Header) (r : Route) (stop : Stop) → HeaderRead w (Ok h) → r.prefix.length ≤ 32 → Hop r.hop → Stopped w (ipv4_bits r.prefix.address) r.prefix.length stop → Sought w h stop r
is_sought w h r stop read l ok at = record { header = read; short = l; its_hop = ok; stopped = at }

-- ---- the cell where the descent stopped

module _ (w : List ℕ) (a : Address) (n : ℕ) (short : n ≤ 32) (stop : Stop) (at : Stopped w (ipv4_bits a) n stop) (s : SoundTable w) where
  module _ (d : Landed (Dense (nodes_of w)) (trie_of w) (take n (ipv4_bits a)) (walk.descent (trie_of w) (take n (ipv4_bits a)))) where
    belongs_at : (cell : ℕ) → ¬ (cell ≡ 1) → walk.cell_after (trie_of w) (take n (ipv4_bits a)) (walk.descent (trie_of w) (take n (ipv4_bits a))).last ≡ cell_of cell → Belongs w (take n (ipv4_bits a)) cell stop.beyond
    belongs_at cell ne e = record {
      is_cell = ne;
      inside = rw e at d.inside;
      fits = rw e at d.fits;
      child = rw e at d.child ∙ stop_beyond w a n short stop at s;
      parts = λ j z. d.out j (stop_beyond w a n short stop at s ∙ z);
      new = landed_new w a n short stop at s d;
    }

    belongs_first : stop.last ≡ 0 → Belongs w (take n (ipv4_bits a)) 0 stop.beyond
    unfolding walk.cell_after
    belongs_first z = belongs_at 0 (λ y. omega arith) (rw (stop_last w a n short stop at s, z, none_numbered, cell_root))

    module _ (some_last : ¬ (stop.last ≡ 0)) (own : ℕ) (is_own : own ≡ word w (slot_word stop.last 1)) where
      after : walk.cell_after (trie_of w) (take n (ipv4_bits a)) (walk.descent (trie_of w) (take n (ipv4_bits a))).last ≡ Kid (stop.last - 1) (get_or (take n (ipv4_bits a)) own false)
      unfolding walk.cell_after
      after = rw (last_node w a n short stop at s some_last own is_own, walk.cell_after, last_length w a n short stop at s some_last own is_own)

      own_shorter : own < n
      own_shorter = omega (arith, below_< (rw after at d.fits), last_length w a n short stop at s some_last own is_own, length_sought a n short)

      belongs_after : (side : ℕ) → side ≡ digit (get_or (address_bits a) own false) → Belongs w (take n (ipv4_bits a)) (2 * stop.last + side) stop.beyond
      belongs_after side e =
          let small = bit_small (address_bits a) own side e in
          let b : one? side ≡ get_or (take n (ipv4_bits a)) own false =
          rw (e, bit_digit) (sym (get_or-take n (ipv4_bits a) own false (own_shorter) ∙ get_or-take 32 (address_bits a) own false (omega (arith, own_shorter)))) in
          belongs_at (2 * stop.last + side) (λ z. omega arith) (after ∙ sym (cell_side stop.last side (omega arith) small ∙ rw b))

-- ---- an announcement

module _ (w : List ℕ) (h : Header) (stop : Stop) (r : Route) (sought : Sought w h stop r) where
  header : HeaderRead w (Ok h)
  header = sought.header

  at : Stopped w (ipv4_bits r.prefix.address) r.prefix.length stop
  at = sought.stopped

  adds : (cell : ℕ) → cell / 2 ≤ h.nodes → (SoundTable w → Belongs w (take r.prefix.length (ipv4_bits r.prefix.address)) cell stop.beyond) → Adds w h cell stop.beyond r.prefix.address r.prefix.length r.hop
  adds cell l b =
      record { header = header; node_in_use = omega (arith, at.beyond_in, header.2); cell_in_use = l; short = sought.short; its_hop = sought.its_hop; belongs = b }

  pub adds_first : stop.last ≡ 0 → Adds w h 0 stop.beyond r.prefix.address r.prefix.length r.hop
  adds_first z = adds 0 (omega arith) (λ s. belongs_first w r.prefix.address r.prefix.length sought.short stop at s (landed_first w r.prefix.address r.prefix.length sought.short stop at s z) z)

  module _ (pos : 0 < stop.last) where
    some_last : ¬ (stop.last ≡ 0)
    some_last z = omega arith

    module _ (own : ℕ) (is_own : own ≡ word w (slot_word stop.last 1)) where
      pub sought_own : own ≡ r.prefix.length → (w' : List ℕ) (x : Result (Unit {0}) UpdateError) → Answered w w' 0 (announcement_at w stop.last r.hop) x → Answered w w' r.prefix.length (announcement r.prefix.address r.prefix.length r.hop) x
      sought_own e w' x g = last_own w r.prefix.address r.prefix.length sought.short stop at some_last own is_own e w' _ x g

      pub cell_fits : (side : ℕ) → side ≡ digit (get_or (address_bits r.prefix.address) own false) → Int.Fits w32 (2 * stop.last + side)
      cell_fits side e = omega (arith, header.0.legal, header.0.nodes_fit, at.last_in, bit_small (address_bits r.prefix.address) own side e)

      module _ (other : ¬ (own ≡ r.prefix.length)) where
        landed : SoundTable w → Landed (Dense (nodes_of w)) (trie_of w) (take r.prefix.length (ipv4_bits r.prefix.address)) (walk.descent (trie_of w) (take r.prefix.length (ipv4_bits r.prefix.address)))
        landed s = landed_after w r.prefix.address r.prefix.length sought.short stop at s some_last own is_own other

        pub sought_long : 31 < own → Answered w w r.prefix.length (announcement r.prefix.address r.prefix.length r.hop) (Err Unsound)
        sought_long l = unsound w w r.prefix.length _ (λ s. omega (arith, sought.short, own_shorter w r.prefix.address r.prefix.length sought.short stop at s (landed s) some_last own is_own))

        pub adds_after : (side : ℕ) → side ≡ digit (get_or (address_bits r.prefix.address) own false) → Adds w h (2 * stop.last + side) stop.beyond r.prefix.address r.prefix.length r.hop
        adds_after side e = adds (2 * stop.last + side) (omega (arith, at.last_in, header.2, bit_small (address_bits r.prefix.address) own side e)) (λ s. belongs_after w r.prefix.address r.prefix.length sought.short stop at s (landed s) some_last own is_own side e)

pub first_adds : (w : List ℕ) (h : Header) (r : Route) (stop : Stop) → HeaderRead w (Ok h) → r.prefix.length ≤ 32 → Hop r.hop
    → Stopped w (ipv4_bits r.prefix.address) r.prefix.length stop → stop.last ≡ 0 → Adds w h 0 stop.beyond r.prefix.address r.prefix.length r.hop
first_adds w h r stop read l ok stopped z = adds_first w h stop r (is_sought w h r stop read l ok stopped) z
