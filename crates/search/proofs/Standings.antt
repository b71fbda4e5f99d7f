-- The standing of a prefix, by where the descent stopped. Assumes nothing.
use mathlib.Core.Path.{◌≡◌, sym, ap, ap₂, ◌∙◌}
use mathlib.Core.Bool.{Bool}
use mathlib.Core.List.{List}
use Prim.Native.Nat.{ℕ, ◌-◌}
use native.Mathlib.Decide.{dec_le}
use native.Mathlib.Omega.{arith}
use lib.ListN.{take}
use Rattle.prefix.specs.Bits.{Bits}
use Rattle.prefix.specs.Prefix.{strictly_inside}
use Rattle.model.specs.Lists.{any}
use Rattle.trie.specs.Walk.{inside_from}
use Rattle.trie.proofs.RoutesInside.{descent_inside}
use Rattle.std.specs.Prelude.{Option, None}
use Rattle.sizes.specs.BothStores.{slot_word, word}
use Rattle.nodes.specs.Layout.{trie_of}
use Rattle.table.specs.Tables.{routes, SoundTable}
use Rattle.table.specs.Stops.{Stopped, stop_of}
use Rattle.table.specs.declared.Stop.{Stop}
use Rattle.search.specs.Looks.{found_at}
use Rattle.search.specs.Standings.{Judged, JudgedAt, Tells}
use Rattle.search.specs.declared.Match.{Match}
use Rattle.search.specs.declared.Standing.{Standing}
use Rattle.search.proofs.Answers.{best_none, best_match}

-- ---- the descent has stopped

module _ (w : List ℕ) (X : Bits) (n : ℕ) (s : Stop) (h : Stopped w X n s) (t : Bool) (told : Tells w (inside_from (trie_of w) (take n X) (stop_of s)) t) where
  inside_is : SoundTable w → t ≡ any (λ R. strictly_inside R.prefix (take n X)) (routes w)
  unfolding routes
  inside_is S = told.right S ∙ ap (inside_from (trie_of w) (take n X)) (h.place S) ∙ sym (descent_inside S.trie S.branches (take n X))

  pub standing_none : s.best ≡ 0 → SoundTable w → Judged w (take n X) (record { found = None; inside = t })
  standing_none z S = record { is_match = rw (best_none w X n s h S z); is_inside = inside_is S }

  pub standing_match : ¬ (s.best ≡ 0) → (f : Option Match) → f ≡ found_at ((trie_of w).hop (s.best - 1)) (word w (slot_word s.best 1)) → SoundTable w
      → Judged w (take n X) (record { found = f; inside = t })
  standing_match some-best f e S = record { is_match = e ∙ best_match w X n s h S some-best; is_inside = inside_is S }

-- ---- the contract leaves no two answers open

pub judged_alike : (w : List ℕ) (X : Bits) (n : ℕ) (r s : Standing) → SoundTable w → JudgedAt w X n r → JudgedAt w X n s → r ≡ s
judged_alike w X n r s S j k = elim (dec_le n 32) [
  | yes h ↦ let a = j.sound h S in let b = k.sound h S in ap₂ (λ (f : Option Match) (i : Bool). record { found = f; inside = i }) (a.is_match ∙ sym b.is_match) (a.is_inside ∙ sym b.is_inside)
  | no h ↦ j.long (omega arith) ∙ sym (k.long (omega arith))
]
