-- What a withdrawal answers, by where the descent stopped. Assumes nothing.
use mathlib.Core.Path.{◌≡◌, sym, ap, ◌∙◌}
use mathlib.Core.List.Memᴰ
use mathlib.Core.List.{List, [], ◌∷◌}
use Prim.Native.Nat.{ℕ, ◌≤◌, ◌<◌}
use native.Mathlib.Omega.{arith}
use lib.ListN.{length}
use Rattle.std.specs.Prelude.{Result, Err}
use Rattle.prefix.specs.Addresses.{ipv4_bits}
use Rattle.prefix.specs.declared.Address.{Address}
use Rattle.model.specs.Lists.{◌∈◌}
use Rattle.model.specs.Routes.{Route, Table}
use Rattle.trie.proofs.Holding.{held_in}
use Rattle.sizes.specs.BothStores.{slot_word, word}
use Rattle.nodes.specs.Layout.{nodes_of, trie_of}
use Rattle.nodes.specs.declared.Header.{Header}
use Rattle.table.specs.Tables.{routes}
use Rattle.table.specs.Stops.{Stopped}
use Rattle.table.specs.declared.Stop.{Stop}
use Rattle.verdicts.specs.Verdicts.{verdict_number, Answered, NodeAt}
use Rattle.withdraw.specs.Steps.{withdrawal, withdrawal_at, RouteAt, Gone}
use Rattle.verdicts.specs.declared.UpdateError.{UpdateError}
use Rattle.verdicts.specs.declared.UpdateError.TheVariants.{NotHeld, Unsound}
use Rattle.verdicts.proofs.Verdicts.{withdraw_held, withdraw_not_held, unsound, not_held}
use Rattle.verdicts.proofs.Standing.{branch_new, route_there, route_held}
use Rattle.verdicts.proofs.Stopping.{landed_first, landed_after, landed_new}

some_in : {R : Route} (l : Table) → R ∈ l → 0 < length l
some_in [] i = absurd (Memᴰ.not-nil i)
some_in (x ∷ l) i = omega arith

-- ---- at the prefix's own node

module _ (w : List ℕ) (h : Header) (p : ℕ) (at : NodeAt w h p) (mark : ℕ) (is-mark : mark ≡ word w (slot_word p 2)) where
  pub at_branch : mark ≡ 0 → Answered w w 0 (withdrawal_at w p) (Err NotHeld)
  at_branch z = not_held w 0 _ (λ s. withdraw_not_held _ _ 0 _ (omega arith) (branch_new w h p at mark is-mark s z))

  module _ (route : ¬ (mark ≡ 0)) where
    pub at_no_routes : h.routes ≡ 0 → Answered w w 0 (withdrawal_at w p) (Err Unsound)
    unfolding routes
    at_no_routes z = unsound w w 0 _ (λ s. omega (arith, some_in _ (held_in (trie_of w) (nodes_of w) (route_there w h p at mark is-mark route)), s.counted, at.header.3))

    pub route_at : ¬ (h.routes ≡ 0) → RouteAt w h p
    route_at n = record { node = at; some_route = omega arith; is_route = rw (← is-mark) route }

    pub at_route : (w' : List ℕ) (r : Result (Unit {0}) UpdateError) → Gone w w' p r → Answered w w' 0 (withdrawal_at w p) r
    at_route w' r g = record {
      late = g.late;
      number = λ s. ap verdict_number (g.done s) ∙ sym (withdraw_held _ _ 0 _ (omega arith) (route_held w h p at mark is-mark route));
      refused = λ s ne. absurd (ne (g.done s));
      accepted = λ s e. g.after s;
    }

-- ---- by where the descent stopped

module _ (w : List ℕ) (a : Address) (n : ℕ) (short : n ≤ 32) (stop : Stop) (at : Stopped w (ipv4_bits a) n stop) where
  pub none_contains : stop.last ≡ 0 → Answered w w n (withdrawal a n) (Err NotHeld)
  none_contains z = not_held w n _ (λ s. withdraw_not_held _ _ n _ short (landed_new w a n short stop at s (landed_first w a n short stop at s z)))

  module _ (some_last : ¬ (stop.last ≡ 0)) (own : ℕ) (is_own : own ≡ word w (slot_word stop.last 1)) where
    pub last_shorter : ¬ (own ≡ n) → Answered w w n (withdrawal a n) (Err NotHeld)
    last_shorter ne = not_held w n _ (λ s. withdraw_not_held _ _ n _ short (landed_new w a n short stop at s (landed_after w a n short stop at s some_last own is_own ne)))
