-- The answer of a search, by where the descent stopped. Assumes nothing.
use mathlib.Core.Path.{◌≡◌, refl, sym, ap, ◌∙◌}
use mathlib.Core.List.{List, []}
use mathlib.Core.Option.{none, some, none-ne-some}
use Prim.Native.Nat.{ℕ, suc, ◌-◌, ◌<◌}
use native.Mathlib.Omega.{arith}
use lib.ListN.{length, take, length-take}
use lib.Seq.{take_all}
use Rattle.prefix.specs.Bits.{Bits, bits}
use Rattle.prefix.specs.Addresses.{ipv4_bits}
use Rattle.prefix.specs.declared.Address.{Address}
use Rattle.prefix.proofs.BitLaws.{length_bits}
use Rattle.prefix.proofs.AddressLaws.{length_ipv4}
use Rattle.model.specs.Routes.{Route, match}
use Rattle.model.specs.Model.{new_length}
use Rattle.model.specs.Nodes.{examined}
use Rattle.model.specs.Demands.{NoLonger}
use Rattle.trie.specs.Walk as walk
use Rattle.trie.specs.Walk.{length_from}
use Rattle.trie.specs.Routes.{routes_of}
use Rattle.trie.proofs.Holding.{in_held}
use Rattle.trie.proofs.Looking.{descent_best, descent_match, descent_drop, descent_examined, descent_new}
use Rattle.std.specs.Prelude.{Option, None, Some}
use Rattle.sizes.specs.BothStores.{slot_word, word}
use Rattle.nodes.specs.Layout.{nodes_of, trie_of, numbered}
use Rattle.nodes.proofs.Coding.{numbered_node, none_numbered}
use Rattle.table.specs.Tables.{routes, SoundTable}
use Rattle.table.specs.Stops.{Stopped, stop_of}
use Rattle.table.specs.declared.Stop.{Stop}
use Rattle.table.proofs.Reading.{own_length, mark_hop}
use Rattle.search.specs.Matches.{found_for}
use Rattle.search.specs.Looks.{found_at, Length, Answered}
use Rattle.search.specs.declared.Match.{Match}

-- ---- a node as a match

module _ (w : List ℕ) (p mark : ℕ) (pos : 0 < p) (is-mark : mark ≡ word w (slot_word p 2)) where
  pub matched_none : (own : ℕ) → mark ≡ 0 → None ≡ found_at ((trie_of w).hop (p - 1)) own
  unfolding found_at
  matched_none own z = rw (mark_hop w p mark pos is-mark, z, none_numbered)

  pub matched_some : (own own' : ℕ) → ¬ (mark ≡ 0) → own' ≡ own → Some (record { hop = mark - 1; length = own' }) ≡ found_at ((trie_of w).hop (p - 1)) own
  unfolding found_at
  matched_some own own' n e = rw (mark_hop w p mark pos is-mark, numbered_node mark (omega arith), e)

-- ---- the last route that contains what was looked for

module _ (w : List ℕ) (X : Bits) (n : ℕ) (s : Stop) (h : Stopped w X n s) (S : SoundTable w) where
  best_is : (walk.descent (trie_of w) (take n X)).best ≡ numbered s.best
  best_is = sym (ap (λ (r : walk.Stop). r.best) (h.place S))

  pub best_none : s.best ≡ 0 → match (routes w) (take n X) ≡ none
  unfolding routes
  best_none z = descent_drop S.trie (take n X) (best_is ∙ rw z none_numbered)

  pub best_match : ¬ (s.best ≡ 0) → found_at ((trie_of w).hop (s.best - 1)) (word w (slot_word s.best 1)) ≡ found_for (match (routes w) (take n X))
  unfolding routes found_at
  best_match some-best =
      let b = best_is ∙ numbered_node s.best (omega arith) in
      let d = descent_best S.trie (take n X) (s.best - 1) b in
      let own = own_length w s.best (omega arith) _ refl (S.plain.short s.best (omega arith) h.best_in) in
      rw (descent_match S.trie (take n X) (s.best - 1) d.2.0 b d.2.1, d.2.1, own) refl

-- ---- the descent by an address has stopped

short_routes : (w : List ℕ) (x : Address) → NoLonger (length (ipv4_bits x)) (routes_of (trie_of w) (nodes_of w))
unfolding trie_of
short_routes w x R i =
    let r = in_held (trie_of w) (nodes_of w) R i in
    let u : ℕ = word w (slot_word (suc r.slot) 0) in
    let n : ℕ = word w (slot_word (suc r.slot) 1) in
    omega (arith, ap length r.is_prefix, length_ipv4 x, length-take n (bits 32 u), length_bits 32 u)

module _ (w : List ℕ) (x : Address) (s : Stop) (h : Stopped w (ipv4_bits x) 32 s) where
  whole : take 32 (ipv4_bits x) ≡ ipv4_bits x
  whole = take_all 32 (ipv4_bits x) (omega (arith, length_ipv4 x))

  place : SoundTable w → stop_of s ≡ walk.descent (trie_of w) (ipv4_bits x)
  place S = rw whole at (h.place S)

  counted : SoundTable w → s.examined ≡ examined (routes w) (ipv4_bits x)
  unfolding routes
  counted S = ap (λ (r : walk.Stop). r.examined) (place S) ∙ sym (descent_examined S.trie (ipv4_bits x) S.branches (short_routes w x))

  pub answer_none : s.best ≡ 0 → Answered w (ipv4_bits x) (record { found = None; examined = s.examined; least = 0 })
  answer_none z = record {
    sound = λ S.
        let e : match (routes w) (ipv4_bits x) ≡ none = rw whole at (best_none w (ipv4_bits x) 32 s h S z) in
        record { is_match = rw e; count = counted S; least = λ M f. absurd (none-ne-some M (sym e ∙ f)) };
    any = omega arith;
  }

  module _ (some-best : ¬ (s.best ≡ 0)) (f : Option Match) (n : ℕ) where
    pub answer_match : f ≡ found_at ((trie_of w).hop (s.best - 1)) (word w (slot_word s.best 1))
        → Length w (length_from (trie_of w) (ipv4_bits x) (numbered s.last) (numbered s.beyond)) n
        → Answered w (ipv4_bits x) (record { found = f; examined = s.examined; least = n })
    unfolding routes walk.new_from
    answer_match e l = record { sound = λ S. record { is_match = e ∙ rw whole at (best_match w (ipv4_bits x) 32 s h S some-best); count = counted S; least = least S }; any = l.small }
      where
        least : SoundTable w → (M : Route) → match (routes w) (ipv4_bits x) ≡ some M → n ≡ new_length (routes w) [] (ipv4_bits x) M
        least S M m =
            l.right S ∙ ap (walk.new_from (trie_of w) (ipv4_bits x)) (place S) ∙ sym (descent_new S.trie (ipv4_bits x) S.branches M m)
