-- The routes of a trie as the model's table, and what an update makes of them. Assumes nothing.
use mathlib.Core.Path.{◌≡◌, refl, sym, ap, ◌∙◌}
use mathlib.Core.Bool.{Bool, true, false}
use mathlib.Core.List.Memᴰ
use mathlib.Core.List.{◌∷◌}
use mathlib.Core.Logic.{◌⊎◌, inl, inr}
use mathlib.Core.Option.{Option, none, some, none-ne-some}
use Prim.Native.Nat.{ℕ, zero, suc, ◌≤◌, ◌<◌}
use native.Mathlib.Nat.{le_refl, not-suc-le-zero}
use native.Mathlib.Decide.{ℕ_discrete}
use native.Mathlib.Omega.{arith}
use lib.ListN.{length}
use Rattle.prefix.specs.Bits.{Bits}
use Rattle.prefix.specs.Prefix.{same}
use Rattle.prefix.proofs.Booleans.{is_false, clash}
use Rattle.prefix.proofs.Tests.{same_eq, eq_same, not_⊑}
use Rattle.model.specs.Lists.{◌∈◌, p_nil, p_cons}
use Rattle.model.specs.Routes.{Route, Table, announce, withdraw, Update, held, with_announced, updated}
use Rattle.model.specs.Demands.{Distinct, SameRoutes, Standing, announced, stood}
use Rattle.model.proofs.ListLaws.{in_any, any_in}
use Rattle.model.proofs.Match.{one_each}
use Rattle.model.proofs.Updates.{in_updated, updated_in, updated_distinct, new_in}
use Rattle.model.proofs.SameRoutes.{length_same}
use Rattle.trie.specs.Trie.{Trie, Sound, Dense, Held, Put, Removed}
use Rattle.trie.specs.Walk.{descent}
use Rattle.trie.specs.Routes.{and_route, routes_of}
use Rattle.trie.proofs.Descent.{inject, absent}
use Rattle.trie.proofs.Walking.{Landed}
use Rattle.trie.proofs.Moving.{Agrees}

-- ---- the routes are those held

later : {m : ℕ} {v : Trie} {p : Bits} {h : ℕ} → Held (Dense m) v p h → Held (Dense (suc m)) v p h
later r = record { slot = r.slot; is_live = omega (arith, r.is_live); is_prefix = r.is_prefix; is_hop = r.is_hop }

pub in_held : (v : Trie) (m : ℕ) (R : Route) → R ∈ routes_of v m → Held (Dense m) v R.prefix R.hop
unfolding routes_of and_route
in_held v zero R i = absurd (Memᴰ.not-nil i)
in_held v (suc m) R i = go (v.hop m) refl i (λ k. in_held v m R k)
  where
    here : (h : ℕ) → v.hop m ≡ some h → (R ≡ record { prefix = v.prefix m; hop = h }) ⊎ (R ∈ routes_of v m) → (R ∈ routes_of v m → Held (Dense m) v R.prefix R.hop) → Held (Dense (suc m)) v R.prefix R.hop
    here h e (inl z) rec = rw z (record { slot = m; is_live = omega arith; is_prefix = refl; is_hop = e })
    here h e (inr k) rec = later (rec k)

    go : (o : Option ℕ) → v.hop m ≡ o → R ∈ and_route (v.prefix m) o (routes_of v m) → (R ∈ routes_of v m → Held (Dense m) v R.prefix R.hop) → Held (Dense (suc m)) v R.prefix R.hop
    go none e k rec = later (rec k)
    go (some h) e k rec = here h e (Memᴰ.cases_cons k) rec

pub held_in : (v : Trie) (m : ℕ) {p : Bits} {h : ℕ} → Held (Dense m) v p h → record { prefix = p; hop = h } ∈ routes_of v m
unfolding routes_of and_route
held_in v zero r = absurd (not-suc-le-zero r.is_live)
held_in v (suc m) {p} {h} r = go (ℕ_discrete r.slot m) (λ k. held_in v m k)
  where
    wider : (o : Option ℕ) → record { prefix = p; hop = h } ∈ routes_of v m → record { prefix = p; hop = h } ∈ and_route (v.prefix m) o (routes_of v m)
    wider none k = k
    wider (some x) k = Memᴰ.tail k

    go : Dec (r.slot ≡ m) → (Held (Dense m) v p h → record { prefix = p; hop = h } ∈ routes_of v m) → record { prefix = p; hop = h } ∈ and_route (v.prefix m) (v.hop m) (routes_of v m)
    go (yes z) rec =
        let e : v.prefix m ≡ p = ap v.prefix (sym z) ∙ r.is_prefix in
        let f : v.hop m ≡ some h = ap v.hop (sym z) ∙ r.is_hop in
        rw (e, f) (Memᴰ.head refl)
    go (no n) rec = wider (v.hop m) (rec (record { slot = r.slot; is_live = omega (arith, r.is_live); is_prefix = r.is_prefix; is_hop = r.is_hop }))

-- they are those of the live slots alone
pub agrees_routes : {m : ℕ} {v w : Trie} → Agrees (Dense m) v w → routes_of w m ≡ routes_of v m
unfolding routes_of
agrees_routes {m} {v} {w} k = go m (le_refl m)
  where
    go : (n : ℕ) → n ≤ m → routes_of w n ≡ routes_of v n
    go zero l = refl
    go (suc n) l = rw (k.prefix n l, k.hop n l, go n (omega arith))

module _ {m : ℕ} {v : Trie} (S : Sound (Dense m) v) where
  distinct_below : (n : ℕ) → n ≤ m → Distinct (routes_of v n)
  unfolding routes_of and_route
  distinct_below zero l = p_nil
  distinct_below (suc n) l = go (v.hop n) (distinct_below n (omega arith))
    where
      apart : (R : Route) → Held (Dense n) v R.prefix R.hop → ¬ (v.prefix n ≡ R.prefix)
      apart R r e = omega (arith, r.is_live, inject S n r.slot l (omega (arith, r.is_live)) (e ∙ sym r.is_prefix))

      go : (o : Option ℕ) → Distinct (routes_of v n) → Distinct (and_route (v.prefix n) o (routes_of v n))
      go none d = d
      go (some h) d = p_cons (λ R i e. apart R (in_held v n R i) e) d

  pub routes_distinct : Distinct (routes_of v m)
  routes_distinct = distinct_below m (omega arith)

-- ---- whether a prefix is held

pub held_is : (v : Trie) (m : ℕ) (p : Bits) → held (routes_of v m) p ≡ true → (h : ℕ) × Held (Dense m) v p h
unfolding held
held_is v m p e =
    let r = any_in (λ (R : Route). same R.prefix p) (routes_of v m) e in
    let k = in_held v m r.0 r.1 in
    (r.0.hop, record { slot = k.slot; is_live = k.is_live; is_prefix = k.is_prefix ∙ same_eq r.0.prefix p r.2; is_hop = k.is_hop })

pub is_held : (v : Trie) (m : ℕ) {p : Bits} {h : ℕ} → Held (Dense m) v p h → held (routes_of v m) p ≡ true
unfolding held
is_held v m {p} r = in_any (λ (R : Route). same R.prefix p) (held_in v m r) (eq_same refl)

module _ {m : ℕ} {v : Trie} (S : Sound (Dense m) v) (p : Bits) where
  -- the node with that prefix is a branch
  pub branch_not_held : (i : ℕ) → i < m → v.prefix i ≡ p → v.hop i ≡ none → held (routes_of v m) p ≡ false
  branch_not_held i l e n = is_false (λ h. go (held_is v m p h))
    where
      go : (h : ℕ) × Held (Dense m) v p h → ⊥
      go (h, r) = none-ne-some h (sym n ∙ ap v.hop (inject S i r.slot l r.is_live (e ∙ sym r.is_prefix)) ∙ r.is_hop)

  -- no node has that prefix
  pub landed_absent : Landed (Dense m) v p (descent v p) → (i : ℕ) → i < m → ¬ (v.prefix i ≡ p)
  landed_absent d = absent S p _ d.inside d.fits (λ j e. not_⊑ (v.prefix j) p (d.out j (sym d.child ∙ e)))

  pub landed_not_held : Landed (Dense m) v p (descent v p) → held (routes_of v m) p ≡ false
  landed_not_held d = is_false (λ h. let r = (held_is v m p h).1 in landed_absent d r.slot r.is_live r.is_prefix)

-- ---- updates

module _ {m m' : ℕ} {v w : Trie} {P : Bits} where
  pub put_updated : {H : ℕ} → Put (Dense m) (Dense m') v w P H → SameRoutes (routes_of w m') (updated (routes_of v m) (record { prefix = P; action = announce H }))
  put_updated {H} k = record { to = λ R i. to R (k.inv (in_held w m' R i)); from = λ R i. from R (updated_in (routes_of v m) u R i) }
    where
      u : Update
      u = record { prefix = P; action = announce H }

      to : (R : Route) → ((R.prefix ≡ P) × (R.hop ≡ H)) ⊎ (Held (Dense m) v R.prefix R.hop × (¬ (R.prefix ≡ P))) → R ∈ updated (routes_of v m) u
      to R (inl (e, f)) = let z : R ≡ record { prefix = P; hop = H } = rw (← e, ← f) in Memᴰ.cast z (new_in (routes_of v m) u H refl)
      to R (inr (h, n)) = in_updated (routes_of v m) u R (held_in v m h) n

      from : (R : Route) → Standing (routes_of v m) u R → R ∈ routes_of w m'
      from R (announced h e z) = let y : H ≡ h = cc in Memᴰ.cast z (rw y at (held_in w m' k.new))
      from R (stood i n) = held_in w m' (k.keep (in_held v m R i) n)

  pub removed_updated : Removed (Dense m) (Dense m') v w P → SameRoutes (routes_of w m') (updated (routes_of v m) (record { prefix = P; action = withdraw }))
  removed_updated k = record { to = λ R i. let r = k.inv (in_held w m' R i) in in_updated (routes_of v m) u R (held_in v m r.0) r.1; from = λ R i. from R (updated_in (routes_of v m) u R i) }
    where
      u : Update
      u = record { prefix = P; action = withdraw }

      from : (R : Route) → Standing (routes_of v m) u R → R ∈ routes_of w m'
      from R (announced h e z) = absurd (let y : ◌≡◌ {A = ℕ} 0 1 = cc in omega arith)
      from R (stood i n) = held_in w m' (k.keep (in_held v m R i) n)

-- ---- how many there are then

module _ (t : Table) (d : Distinct t) (P : Bits) where
  rest : Table
  rest = updated t (record { prefix = P; action = withdraw })

  still : (R : Route) → Standing t (record { prefix = P; action = withdraw }) R → (R ∈ t) × (¬ (R.prefix ≡ P))
  still R (announced h e z) = absurd (let y : ◌≡◌ {A = ℕ} 0 1 = cc in omega arith)
  still R (stood i n) = (i, n)

  rest_in : (R : Route) → R ∈ rest → (R ∈ t) × (¬ (R.prefix ≡ P))
  unfolding rest
  rest_in R i = still R (updated_in t (record { prefix = P; action = withdraw }) R i)

  in_rest : (R : Route) → R ∈ t → ¬ (R.prefix ≡ P) → R ∈ rest
  unfolding rest
  in_rest R i n = in_updated t (record { prefix = P; action = withdraw }) R i n

  rest_distinct : Distinct rest
  unfolding rest
  rest_distinct = updated_distinct t (record { prefix = P; action = withdraw }) d

  rest_held : (R : Route) → R ∈ t → R.prefix ≡ P → suc (length rest) ≡ length t
  rest_held R i e = length_same (R ∷ rest) t (p_cons (λ Q k z. (rest_in Q k).1 (sym z ∙ e)) rest_distinct) d
      (record { to = λ Q k. to Q (Memᴰ.cases_cons k); from = λ Q k. from Q k (bits_dec Q.prefix P) })
    where
      to : (Q : Route) → (Q ≡ R) ⊎ (Q ∈ rest) → Q ∈ t
      to Q (inl z) = Memᴰ.cast z i
      to Q (inr k) = (rest_in Q k).0

      bits_dec : (p q : Bits) → Dec (p ≡ q)
      bits_dec p q = go (same p q) refl
        where
          go : (b : Bool) → same p q ≡ b → Dec (p ≡ q)
          go true h = yes (same_eq p q h)
          go false h = no (λ z. clash (eq_same z) h)

      from : (Q : Route) → Q ∈ t → Dec (Q.prefix ≡ P) → Q ∈ R ∷ rest
      from Q k (yes z) = Memᴰ.head (one_each d Q R k i (z ∙ sym e))
      from Q k (no n) = Memᴰ.tail (in_rest Q k n)

  rest_new : ((R : Route) → R ∈ t → ¬ (R.prefix ≡ P)) → length rest ≡ length t
  rest_new n = length_same rest t rest_distinct d (record { to = λ R i. (rest_in R i).0; from = λ R i. in_rest R i (n R i) })

module _ {m : ℕ} {v : Trie} (S : Sound (Dense m) v) where
  removed_rest : {m' : ℕ} {w : Trie} {P : Bits} → Removed (Dense m) (Dense m') v w P → length (routes_of w m') ≡ length (rest (routes_of v m) (routes_distinct S) P)
  unfolding rest
  removed_rest {m'} {w} {P} k = length_same (routes_of w m') _ (routes_distinct k.sound) (rest_distinct (routes_of v m) (routes_distinct S) P) (removed_updated k)

  put_rest : {m' : ℕ} {w : Trie} {P : Bits} {H : ℕ} → Put (Dense m) (Dense m') v w P H → length (routes_of w m') ≡ suc (length (rest (routes_of v m) (routes_distinct S) P))
  unfolding rest updated with_announced
  put_rest {m'} {w} {P} {H} k = length_same (routes_of w m') _ (routes_distinct k.sound) (updated_distinct (routes_of v m) (record { prefix = P; action = announce H }) (routes_distinct S)) (put_updated k)

  had : {P : Bits} {h : ℕ} → Held (Dense m) v P h → suc (length (rest (routes_of v m) (routes_distinct S) P)) ≡ length (routes_of v m)
  had {P} {h} r = rest_held (routes_of v m) (routes_distinct S) P (record { prefix = P; hop = h }) (held_in v m r) refl

  -- a withdrawal leaves one less
  pub removed_length : {m' : ℕ} {w : Trie} {P : Bits} {h : ℕ} → Held (Dense m) v P h → Removed (Dense m) (Dense m') v w P → suc (length (routes_of w m')) ≡ length (routes_of v m)
  removed_length r k = ap suc (removed_rest k) ∙ had r

  -- an announcement of a held prefix leaves as many, and one of a new prefix one more
  pub put_length_held : {m' : ℕ} {w : Trie} {P : Bits} {h H : ℕ} → Held (Dense m) v P h → Put (Dense m) (Dense m') v w P H → length (routes_of w m') ≡ length (routes_of v m)
  put_length_held r k = put_rest k ∙ had r

  pub put_length_new : {m' : ℕ} {w : Trie} {P : Bits} {H : ℕ} → held (routes_of v m) P ≡ false → Put (Dense m) (Dense m') v w P H → length (routes_of w m') ≡ suc (length (routes_of v m))
  put_length_new {P} n k = put_rest k ∙ ap suc (rest_new (routes_of v m) (routes_distinct S) P (λ R i e. clash (is_held v m (rw e at (in_held v m R i))) n))
