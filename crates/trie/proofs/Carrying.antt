-- Every set of routes is carried by a sound trie: its routes are announced one by one. Assumes nothing.
use mathlib.Core.Path.{◌≡◌, refl, sym, ◌∙◌}
use mathlib.Core.List.Memᴰ
use mathlib.Core.List.{[], ◌∷◌}
use mathlib.Core.Logic.{◌⊎◌, inl, inr}
use mathlib.Core.Option.{none, some, none-ne-some}
use Prim.Native.Nat.{ℕ, suc, ◌*◌, ◌≤◌}
use native.Mathlib.Nat.{not-suc-le-zero}
use native.Mathlib.Omega.{arith}
use lib.ListN.{length}
use Rattle.prefix.specs.Bits.{Bits}
use Rattle.model.specs.Lists.{◌∈◌, p_nil, p_cons}
use Rattle.model.specs.Routes.{Route, Table}
use Rattle.model.specs.Demands.{Distinct, SameRoutes}
use Rattle.model.proofs.SameRoutes.{length_same}
use Rattle.trie.specs.Trie.{Cell, Root, Kid, Trie, Inside, Points, Sound, Branchy, Dense, Held, Put}
use Rattle.trie.specs.Routes.{routes_of}
use Rattle.trie.proofs.Walking.{Place, found, empty, above, fork, place}
use Rattle.trie.proofs.Announcing.{dense_joined, put_hop, put_leaf, put_above, put_fork}
use Rattle.trie.proofs.Holding.{held_in, in_held, routes_distinct}
use Rattle.trie.proofs.Counting.{slots_fit}

-- a trie with no slot is sound
pub empty_sound : (v : Trie) → v.child Root ≡ none → Sound (Dense 0) v × Branchy (Dense 0) v
empty_sound v e = (record { points = points; owned = λ j l. absurd (not-suc-le-zero l) }, λ i l. absurd (not-suc-le-zero l))
  where
    points : (c : Cell) (j : ℕ) → Inside (Dense 0) c → v.child c ≡ some j → Points (Dense 0) v c j
    points Root j i h = absurd (none-ne-some j (sym e ∙ h))
    points (Kid a b) j i h = absurd (not-suc-le-zero i)

-- every trie takes every route
pub put : {m : ℕ} {v : Trie} → Sound (Dense m) v → Branchy (Dense m) v → (P : Bits) (H : ℕ) → (m' : ℕ) × (w : Trie) × Put (Dense m) (Dense m') v w P H
put {m} {v} S B P H = go (place S P)
  where
    go : Place (Dense m) v P → (m' : ℕ) × (w : Trie) × Put (Dense m) (Dense m') v w P H
    go (found i l e) = (m, _, put_hop S B i P H l e)
    go (empty c i f e) = (suc m, _, put_leaf (dense_joined m) S B c i P H f e)
    go (above c j i f e n h) = (suc m, _, put_above (dense_joined m) S B c i P H f j e n h)
    go (fork c j i f e n h) = (suc (suc m), _, put_fork (dense_joined m) (dense_joined (suc m)) S B c i P H f j e n h)

-- a sound trie that holds these routes, in at most twice as many slots
pub record Carried (table : Table) : Type 0 where
  pub slots : ℕ
  pub trie : Trie
  pub sound : Sound (Dense slots) trie
  pub branchy : Branchy (Dense slots) trie
  pub same : SameRoutes (routes_of trie slots) table
  pub fit : slots ≤ 2 * length table

pub carried : {table : Table} → Distinct table → Carried table
unfolding routes_of
carried p_nil =
    let v : Trie = record { prefix = λ i. []; hop = λ i. none; child = λ c. none; up = λ i. Root } in
    let e = empty_sound v refl in
    record { slots = 0; trie = v; sound = e.0; branchy = e.1; same = record { to = λ R i. i; from = λ R i. i }; fit = omega arith }
carried (p_cons {x = R} {l = table} apart d) = go (carried d)
  where
    go : Carried table → Carried (R ∷ table)
    go c = add (put c.sound c.branchy R.prefix R.hop)
      where
        add : (m : ℕ) × (w : Trie) × Put (Dense c.slots) (Dense m) c.trie w R.prefix R.hop → Carried (R ∷ table)
        add (m, w, k) = record { slots = m; trie = w; sound = k.sound; branchy = k.branchy; same = same; fit = slots_fit k.sound k.branchy (length (R ∷ table)) (omega (arith, count)) }
          where
            to : (Q : Route) → ((Q.prefix ≡ R.prefix) × (Q.hop ≡ R.hop)) ⊎ (Held (Dense c.slots) c.trie Q.prefix Q.hop × (¬ (Q.prefix ≡ R.prefix))) → Q ∈ R ∷ table
            to Q (inl (e, f)) = let z : Q ≡ R = rw (← e, ← f) in Memᴰ.head z
            to Q (inr (h, n)) = Memᴰ.tail (c.same.to Q (held_in c.trie c.slots h))

            from : (Q : Route) → (Q ≡ R) ⊎ (Q ∈ table) → Q ∈ routes_of w m
            from Q (inl z) = Memᴰ.cast z (held_in w m k.new)
            from Q (inr i) = held_in w m (k.keep (in_held c.trie c.slots Q (c.same.from Q i)) (λ e. apart Q i (sym e)))

            same : SameRoutes (routes_of w m) (R ∷ table)
            same = record { to = λ Q i. to Q (k.inv (in_held w m Q i)); from = λ Q i. from Q (Memᴰ.cases_cons i) }

            count : length (routes_of w m) ≡ length (R ∷ table)
            count = length_same (routes_of w m) (R ∷ table) (routes_distinct k.sound) (p_cons apart d) same
