-- The length that a miss stores, by the last node that contains the address: what a descent of the trie has at hand. Assumes nothing.
use mathlib.Core.Bool.{false, not, true}
use mathlib.Core.List.Memᴰ
use mathlib.Core.List.{List, [], ◌++◌, ◌∷◌, map}
use mathlib.Core.Logic.{◌⊎◌, inl, inr}
use mathlib.Core.Path.{◌≡◌, ap, refl, sym}
use Prim.Native.Nat.{◌<◌, ◌≤◌, max, suc, ℕ}
use native.Mathlib.Decide.{dec_le}
use native.Mathlib.Omega.{arith}
use lib.ListN.{length}
use Rattle.prefix.specs.Bits.{Bits}
use Rattle.prefix.specs.Prefix.{◌⊑◌, common, contains, shared, strictly_inside}
use Rattle.prefix.proofs.Booleans.{clash}
use Rattle.prefix.proofs.Common.{common_⊑, le_common, shared_great, shared_left, shared_length, shared_right}
use Rattle.prefix.proofs.Order.{⊑_by_length, ⊑_eq, ⊑_length, ⊑_of_eq, ⊑_total, ⊑_trans}
use Rattle.prefix.proofs.Tests.{contains_⊑, not_⊑, strict_⊑, ⊑_contains, ⊑_not, ⊑_strict}
use Rattle.model.specs.Demands.{Longest}
use Rattle.model.specs.Lists.{◌∈◌, keep, largest}
use Rattle.model.specs.Model.{Cache, Entry, new_length}
use Rattle.model.specs.Nodes.{nodes}
use Rattle.model.specs.Routes.{Route, Table}
use Rattle.model.proofs.Match.{Part, new_match, new_part, new_route, of_entry, of_match, of_route}
use Rattle.model.proofs.NodeLaws.{branch_node, in_node, node_in, node_route, of_one}

largest_append : (l k : List ℕ) → largest (l ++ k) ≡ max (largest l) (largest k)
unfolding largest
largest_append [] k = omega arith
largest_append (n ∷ l) k = omega (arith, largest_append l k)

-- the routes' part and the entries' part
pub new_split : (t : Table) (c : Cache) (X : Bits) (M : Route) → new_length t c X M ≡ max (new_length t [] X M) (largest (map (λ e. suc (common X e.prefix)) c))
unfolding new_length largest
new_split t c X M =
    let a = largest_append (map (λ (r : Route). suc (common X r.prefix)) (keep (λ (r : Route). not (contains r.prefix X)) t)) (map (λ (e : Entry). suc (common X e.prefix)) c) in
    let b = largest_append (map (λ (r : Route). suc (common X r.prefix)) (keep (λ (r : Route). not (contains r.prefix X)) t)) [] in
    omega (arith, a, b)

-- w is a node that does not contain X and goes on as X does past every node that does: of the routes that do not contain X, none has
-- more in common with X than w, and one has as much. (For a cache too: its entries are such a list of routes.)
module _ (t : Table) (X w : Bits) (m : w ∈ nodes t) (n : ¬ (w ⊑ X)) (deep : (u : Bits) → u ∈ nodes t → u ⊑ X → length u < common X w) where
  pub next_reached : (r : Route) × (r ∈ t) × (contains r.prefix X ≡ false) × (common X w ≤ common X r.prefix)
  next_reached =
      let r = node_route (node_in t w m) in
      let c = le_common (shared_left X w) (⊑_trans (shared_right X w) r.2) in
      (r.0, r.1, ⊑_not (λ h. n (⊑_trans r.2 h)), omega (arith, shared_length X w, c))

  pub next_most : (r : Route) → r ∈ t → contains r.prefix X ≡ false → common X r.prefix ≤ common X w
  next_most r i f = bound (dec_le (common X r.prefix) (common X w))
    where
      bound : Dec (common X r.prefix ≤ common X w) → common X r.prefix ≤ common X w
      bound (yes h) = h
      bound (no h) = absurd (omega (arith, deep y ynode yX, ⊑_length wy, shared_length X w))
        where
          R : Bits
          R = shared X r.prefix

          longer : length (shared X w) < length R
          longer = omega (arith, shared_length X r.prefix, shared_length X w)

          -- what X and r share is no prefix of w
          off : ¬ (R ⊑ w)
          off k = omega (arith, ⊑_length (shared_great (shared_left X r.prefix) k), longer)

          not_rw : ¬ (r.prefix ⊑ w)
          not_rw k = off (⊑_trans (shared_right X r.prefix) k)

          not_wr : ¬ (w ⊑ r.prefix)
          not_wr k = go (⊑_total k (shared_right X r.prefix))
            where
              go : (w ⊑ R) ⊎ (R ⊑ w) → ⊥
              go (inl a) = n (⊑_trans a (shared_left X r.prefix))
              go (inr a) = off a

          y : Bits
          y = shared r.prefix w

          ynode : y ∈ nodes t
          ynode = in_node t y (branch_node (of_one r i refl) (node_in t w m) not_rw not_wr)

          wy : shared X w ⊑ y
          wy = shared_great (⊑_trans (⊑_by_length (shared_left X w) (shared_left X r.prefix) (omega (arith, longer))) (shared_right X r.prefix)) (shared_right X w)

          yX : y ⊑ X
          yX = go (⊑_total (shared_left r.prefix w) (shared_right X r.prefix))
            where
              go : (y ⊑ R) ⊎ (R ⊑ y) → y ⊑ X
              go (inl a) = ⊑_trans a (shared_left X r.prefix)
              go (inr a) = absurd (off (⊑_trans a (shared_right r.prefix w)))

-- v is the last node that contains X
module _ (t : Table) (X : Bits) (M : Route) (L : Longest t X M) (v : Bits) (vX : v ⊑ X) (deep : (u : Bits) → u ∈ nodes t → u ⊑ X → length u ≤ length v) where
  route_node : (r : Route) → r ∈ t → r.prefix ∈ nodes t
  route_node r m = in_node t r.prefix (of_one r m refl)

  match_≤ : length M.prefix ≤ length v
  match_≤ = deep M.prefix (route_node M L.is_route) (contains_⊑ M.prefix X L.covers)

  upper : (n : ℕ) → length M.prefix ≤ n → ((r : Route) → r ∈ t → contains r.prefix X ≡ false → common X r.prefix < n) → new_length t [] X M ≤ n
  upper n h k = go (new_length t [] X M) (new_part t [] X M)
    where
      go : (m : ℕ) → Part t [] X M m → m ≤ n
      go m (of_match e) = omega arith
      go m (of_route r i f e) = omega (arith, k r i f)
      go m (of_entry d i e) = absurd (Memᴰ.not-nil i)

  -- a node w that does not contain X goes on from v as X does: n is one more than Common(X, w)
  pub new_next : (w : Bits) → w ∈ nodes t → ¬ (w ⊑ X) → length v < common X w → new_length t [] X M ≡ suc (common X w)
  new_next w m n l =
      let d : (u : Bits) → u ∈ nodes t → u ⊑ X → length u < common X w = λ u i h. omega (arith, deep u i h) in
      let r = next_reached t X w m n d in
      omega (arith, upper (suc (common X w)) (omega (arith, match_≤)) (λ r i f. omega (arith, next_most t X w m n d r i f)), new_route t [] X M r.0 r.1 r.2, r.3)

  -- no route goes on from v as X does, and one lies strictly inside v: n is one more than v's length
  pub new_turn : ((r : Route) → r ∈ t → contains r.prefix X ≡ false → common X r.prefix ≤ length v) → (r : Route) → r ∈ t → strictly_inside r.prefix v ≡ true → new_length t [] X M ≡ suc (length v)
  new_turn h r m s =
      let k = strict_⊑ r.prefix v s in
      let f : contains r.prefix X ≡ false = ⊑_not (λ a. omega (arith, deep r.prefix (route_node r m) a, k.1)) in
      omega (arith, upper (suc (length v)) (omega (arith, match_≤)) (λ r i f. omega (arith, h r i f)), new_route t [] X M r m f, le_common vX k.0)

  -- no route lies strictly inside v: v is the match, and n is its length
  pub new_leaf : v ∈ nodes t → ((r : Route) → r ∈ t → strictly_inside r.prefix v ≡ false) → (M.prefix ≡ v) × (new_length t [] X M ≡ length v)
  new_leaf m h = (is_v, omega (arith, upper (length v) match_≤ (λ r i f. below r i f (dec_le (length v) (common X r.prefix))), new_match t [] X M, ap length is_v))
    where
      r : (r : Route) × (r ∈ t) × (v ⊑ r.prefix)
      r = node_route (node_in t v m)

      len : Dec (length r.0.prefix ≤ length v) → length r.0.prefix ≤ length v
      len (yes l) = l
      len (no l) = absurd (clash (⊑_strict r.2 (omega arith)) (h r.0 r.1))

      same : v ≡ r.0.prefix
      same = ⊑_eq r.2 (len (dec_le _ _))

      is_v : M.prefix ≡ v
      is_v = ⊑_eq (⊑_by_length (contains_⊑ M.prefix X L.covers) vX match_≤) (omega (arith, L.longest r.0 r.1 (⊑_contains (⊑_trans (⊑_of_eq (sym same)) vX)), ap length same))

      below : (r : Route) → r ∈ t → contains r.prefix X ≡ false → Dec (length v ≤ common X r.prefix) → common X r.prefix < length v
      below r i f (no l) = omega arith
      below r i f (yes l) = sub (dec_le (length r.prefix) (length v))
        where
          k : v ⊑ r.prefix
          k = common_⊑ vX l

          sub : Dec (length r.prefix ≤ length v) → common X r.prefix < length v
          sub (yes a) = absurd (not_⊑ r.prefix X f (⊑_trans (⊑_of_eq (sym (⊑_eq k a))) vX))
          sub (no a) = absurd (clash (⊑_strict k (omega arith)) (h r i))
