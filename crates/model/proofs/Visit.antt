-- The nodes that a descent by the bits of an address visits are those examined. Assumes nothing.
use mathlib.Core.Bool.{false, true}
use mathlib.Core.List.Memᴰ
use mathlib.Core.List.{List, [], ◌∷◌}
use mathlib.Core.Logic.{◌⊎◌, inl, inr}
use mathlib.Core.Path.{◌≡◌, ap, refl, sym}
use Prim.Native.Nat.{◌<◌, ◌≤◌, suc}
use native.Mathlib.Decide.{dec_le}
use native.Mathlib.Omega.{arith}
use lib.ListN.{length, take}
use Rattle.prefix.specs.Bits.{Bits}
use Rattle.prefix.specs.Prefix.{◌⊑◌, contains, shared, ⊑nil}
use Rattle.prefix.proofs.Booleans.{either}
use Rattle.prefix.proofs.Common.{shared_great, shared_right}
use Rattle.prefix.proofs.Order.{take_len, take_⊑, ⊑_by_length, ⊑_eq, ⊑_length, ⊑_of_eq, ⊑_trans}
use Rattle.prefix.proofs.Tests.{contains_⊑, not_⊑}
use Rattle.model.specs.Demands.{NoLonger}
use Rattle.model.specs.Lists.{◌∈◌, p_cons, p_nil}
use Rattle.model.specs.Nodes.{examined, nodes}
use Rattle.model.specs.Routes.{Route, Table}
use Rattle.model.proofs.ListLaws.{Unique}
use Rattle.model.proofs.NodeLaws.{Above, OnWay, branch_node, examined_count, in_node, node_in, of_one, shared_<}

-- w is the node below v on the side of X
pub record Child (t : Table) (X v w : Bits) : Type 0 where
  pub inside : v ⊑ X
  pub is_node : w ∈ nodes t
  pub below : v ⊑ w
  pub longer : length v < length w
  pub turns : take (suc (length v)) w ⊑ X
  pub between : (u : Bits) → Above t w u → length u ≤ length v

-- the nodes visited so far, the last one first: the root, and below each that contains X the child on its side
pub data Visited (t : Table) (X : Bits) : List Bits → Type 0 where
  at_root : {v : Bits} → v ∈ nodes t → ((u : Bits) → Above t v u → ⊥) → Visited t X (v ∷ [])
  at_child : {v w : Bits} {l : List Bits} → Visited t X (v ∷ l) → Child t X v w → Visited t X (w ∷ v ∷ l)

-- a node that is not yet visited
pub record Ahead (X v x : Bits) : Type 0 where
  pub below : v ⊑ x
  pub longer : length v < length x
  pub turns : take (suc (length v)) x ⊑ X

module _ (t : Table) (X : Bits) where
  -- a node with nothing as long as z above it, that shares z with another node, is above it
  above_all : (v x z : Bits) → v ∈ nodes t → x ∈ nodes t → z ⊑ v → z ⊑ x → ((u : Bits) → Above t v u → length u < length z) → v ⊑ x
  above_all v x z m n p q h = go (either (contains v x)) (either (contains x v))
    where
      sub : x ⊑ v → Dec (length v ≤ length x) → v ⊑ x
      sub k (yes l) = ⊑_of_eq (sym (⊑_eq k l))
      sub k (no l) = absurd (omega (arith, h x (n, k, omega arith), ⊑_length q))

      go : (contains v x ≡ true) ⊎ (contains v x ≡ false) → (contains x v ≡ true) ⊎ (contains x v ≡ false) → v ⊑ x
      go (inl a) b = contains_⊑ v x a
      go (inr a) (inl b) = sub (contains_⊑ x v b) (dec_le _ _)
      go (inr a) (inr b) =
          let f = branch_node (node_in t x n) (node_in t v m) (not_⊑ x v b) (not_⊑ v x a) in
          absurd (omega (arith, h (shared x v) (in_node t (shared x v) f, shared_right x v, shared_< (not_⊑ v x a)), ⊑_length (shared_great q p)))

  here_or_ahead : (v x : Bits) → v ∈ nodes t → v ⊑ x → OnWay t X x → (x ≡ v) ⊎ Ahead X v x
  here_or_ahead v x m h w = go (dec_le (length x) (length v))
    where
      go : Dec (length x ≤ length v) → (x ≡ v) ⊎ Ahead X v x
      go (yes l) = inl (sym (⊑_eq h l))
      go (no l) = inr (record { below = h; longer = omega arith; turns = w v (m, h, omega arith) })

  pub visited_or_ahead : {v : Bits} {l : List Bits} → Visited t X (v ∷ l) → (x : Bits) → x ∈ nodes t → OnWay t X x → (x ∈ v ∷ l) ⊎ Ahead X v x
  visited_or_ahead (at_root {v = v} m h) x n w = go (here_or_ahead v x m (above_all v x [] m n ⊑nil ⊑nil (λ u a. absurd (h u a))) w)
    where
      go : (x ≡ v) ⊎ Ahead X v x → (x ∈ v ∷ []) ⊎ Ahead X v x
      go (inl e) = inl (Memᴰ.head e)
      go (inr a) = inr a
  visited_or_ahead (at_child {v = v} {w = w} {l = l} D C) x n k = go (visited_or_ahead D x n k)
    where
      sub : (x ≡ w) ⊎ Ahead X w x → (x ∈ w ∷ v ∷ l) ⊎ Ahead X w x
      sub (inl e) = inl (Memᴰ.head e)
      sub (inr a) = inr a

      go : (x ∈ v ∷ l) ⊎ Ahead X v x → (x ∈ w ∷ v ∷ l) ⊎ Ahead X w x
      go (inl m) = inl (Memᴰ.tail m)
      go (inr a) =
          let lw = take_len (suc (length v)) w C.longer in
          let lx = take_len (suc (length v)) x a.longer in
          let z = ⊑_trans (⊑_by_length C.turns a.turns (omega arith)) (take_⊑ (suc (length v)) x) in
          sub (here_or_ahead w x C.is_node (above_all w x (take (suc (length v)) w) C.is_node n (take_⊑ (suc (length v)) w) z (λ u b. omega (arith, C.between u b))) k)

  pub visited_node : {l : List Bits} → Visited t X l → (x : Bits) → x ∈ l → (x ∈ nodes t) × OnWay t X x
  visited_node (at_root {v = v} m h) x i = go (Memᴰ.cases_cons i)
    where
      go : (x ≡ v) ⊎ (x ∈ []) → (x ∈ nodes t) × OnWay t X x
      go (inl e) = (Memᴰ.cast e m, λ u a. absurd (h u (rw e at a)))
      go (inr k) = absurd (Memᴰ.not-nil k)
  visited_node (at_child {v = v} {w = w} {l = l} D C) x i = go (Memᴰ.cases_cons i) (λ k. visited_node D x k)
    where
      way : OnWay t X w
      way u a =
          let lu = take_len (suc (length u)) w a.2 in
          let lv = take_len (suc (length v)) w C.longer in
          ⊑_trans (⊑_by_length (take_⊑ (suc (length u)) w) (take_⊑ (suc (length v)) w) (omega (arith, C.between u a))) C.turns

      go : (x ≡ w) ⊎ (x ∈ v ∷ l) → (x ∈ v ∷ l → (x ∈ nodes t) × OnWay t X x) → (x ∈ nodes t) × OnWay t X x
      go (inl e) rec = rw e (C.is_node, way)
      go (inr k) rec = rec k

  -- the last one is the longest
  visited_longest : {v : Bits} {l : List Bits} → Visited t X (v ∷ l) → (x : Bits) → x ∈ l → length x < length v
  visited_longest (at_root m h) x i = absurd (Memᴰ.not-nil i)
  visited_longest (at_child {v = v} {w = w} {l = l} D C) x i = go (Memᴰ.cases_cons i) (λ k. visited_longest D x k)
    where
      go : (x ≡ v) ⊎ (x ∈ l) → (x ∈ l → length x < length v) → length x < length w
      go (inl e) rec = omega (arith, ap length e, C.longer)
      go (inr k) rec = omega (arith, rec k, C.longer)

  visited_unique : {l : List Bits} → Visited t X l → Unique l
  visited_unique (at_root m h) = p_cons (λ y i. absurd (Memᴰ.not-nil i)) p_nil
  visited_unique (at_child {v = v} {w = w} {l = l} D C) = p_cons {x = w} {l = v ∷ l} (λ y i e. omega (arith, visited_longest (at_child D C) y i, ap length e)) (visited_unique D)

  -- the descent has ended: the last node does not contain X, or no node goes on from it as X does
  pub visited_count : NoLonger (length X) t → {v : Bits} {l : List Bits} → Visited t X (v ∷ l) → ((x : Bits) → x ∈ nodes t → Ahead X v x → ⊥) → examined t X ≡ length (v ∷ l)
  visited_count s {v} {l} D end = examined_count t X s (v ∷ l) (visited_unique D) (visited_node D) (λ x m w. go x m (visited_or_ahead D x m w))
    where
      go : (x : Bits) → x ∈ nodes t → (x ∈ v ∷ l) ⊎ Ahead X v x → x ∈ v ∷ l
      go x m (inl i) = i
      go x m (inr a) = absurd (end x m a)

  -- every node that contains X lies on the way, so every route that contains X is visited
  pub inside_way : (x : Bits) → x ⊑ X → OnWay t X x
  inside_way x h u a = ⊑_trans (take_⊑ (suc (length u)) x) h

  pub visited_routes : {v : Bits} {l : List Bits} → Visited t X (v ∷ l) → ((x : Bits) → x ∈ nodes t → Ahead X v x → ⊥) → (r : Route) → r ∈ t → contains r.prefix X ≡ true → r.prefix ∈ v ∷ l
  visited_routes {v} {l} D end r m h = go (visited_or_ahead D r.prefix n (inside_way r.prefix (contains_⊑ r.prefix X h)))
    where
      n : r.prefix ∈ nodes t
      n = in_node t r.prefix (of_one r m refl)

      go : (r.prefix ∈ v ∷ l) ⊎ Ahead X v r.prefix → r.prefix ∈ v ∷ l
      go (inl i) = i
      go (inr a) = absurd (end r.prefix n a)
