-- The nodes of a table, and how many are examined for an address. Assumes nothing.
use mathlib.Core.Bool.{Bool, beq, ◌&&◌, ◌||◌, cond, false, not, true}
use mathlib.Core.List.Memᴰ
use mathlib.Core.List.{List, [], ◌++◌, ◌∷◌, flat_map, map}
use mathlib.Core.Logic.{◌⊎◌, inl, inr}
use mathlib.Core.Option.{Option, none, some}
use mathlib.Core.Path.{◌∙◌, ◌≡◌, ap, refl, sym}
use Prim.Native.Nat.{◌<◌, ◌≤◌, suc, zero, ℕ}
use native.Mathlib.Decide.{dec_le, ℕ_discrete}
use native.Mathlib.Nat.{le_of_suc-le-suc, not-suc-le-zero}
use native.Mathlib.Omega.{arith}
use lib.Dec.{ltb}
use lib.ListN.{length, length-map, take}
use borrow.Author.Tests.{le-ltb, lt-ltb}
use Rattle.prefix.specs.Bits.{Bits}
use Rattle.prefix.specs.Prefix.{◌⊑◌, contains, overlap, same, shared, strictly_inside, ⊑cons, ⊑nil}
use Rattle.prefix.proofs.Booleans.{and_true, beq_eq, beq_refl, clash, either, not_false, or_right, or_true}
use Rattle.prefix.proofs.Common.{shared_great, shared_left, shared_right}
use Rattle.prefix.proofs.Order.{take_len, take_⊑, ⊑_antisym, ⊑_by_length, ⊑_eq, ⊑_length, ⊑_of_eq, ⊑_total, ⊑_trans}
use Rattle.prefix.proofs.Tests.{contains_⊑, eq_same, not_⊑, same_eq, strict_⊑, ⊑_apart, ⊑_strict}
use Rattle.model.specs.Demands.{Legal, NoLonger}
use Rattle.model.specs.Lists.{◌∈◌, any, keep, p_cons, p_nil}
use Rattle.model.specs.Model.{Cache, Limits}
use Rattle.model.specs.Nodes.{branches, examined, is_examined, is_root, nodes, parent, towards, without_repeats}
use Rattle.model.specs.Routes.{Route, Table}
use Rattle.model.proofs.ListLaws.{Pairwise_keep, Unique, any_false, any_in, biggest_is, biggest_none, flat_in, in_flat, in_keep, in_map, keep_in, map_in, none_any, same_length, subset_length}

-- v is a route, or the longest common prefix of two routes neither of which lies inside the other
pub data Node (t : Table) (v : Bits) : Type 0 where
  of_one : (r : Route) → r ∈ t → v ≡ r.prefix → Node t v
  of_two : (r s : Route) → r ∈ t → s ∈ t → overlap r.prefix s.prefix ≡ false → v ≡ shared r.prefix s.prefix → Node t v

-- ---- the nodes are those

without_repeats_in : (l : List Bits) {p : Bits} → p ∈ without_repeats l → p ∈ l
unfolding without_repeats
without_repeats_in [] m = m
without_repeats_in (a ∷ l) {p} m = go (any (same a) l) m (λ k. without_repeats_in l k)
  where
    sub : (p ≡ a) ⊎ (p ∈ without_repeats l) → (p ∈ without_repeats l → p ∈ l) → p ∈ a ∷ l
    sub (inl e) rec = Memᴰ.head e
    sub (inr k) rec = Memᴰ.tail (rec k)

    go : (b : Bool) → p ∈ cond b (without_repeats l) (a ∷ without_repeats l) → (p ∈ without_repeats l → p ∈ l) → p ∈ a ∷ l
    go true m rec = Memᴰ.tail (rec m)
    go false m rec = sub (Memᴰ.cases_cons m) rec

in_without_repeats : (l : List Bits) {p : Bits} → p ∈ l → p ∈ without_repeats l
unfolding without_repeats
in_without_repeats [] m = m
in_without_repeats (a ∷ l) {p} m = go (any (same a) l) refl (Memᴰ.cases_cons m) (λ k. in_without_repeats l k)
  where
    go : (b : Bool) → any (same a) l ≡ b → (p ≡ a) ⊎ (p ∈ l) → (p ∈ l → p ∈ without_repeats l) → p ∈ cond b (without_repeats l) (a ∷ without_repeats l)
    go true h (inl e) rec = let r = any_in (same a) l h in rec (Memᴰ.cast (e ∙ same_eq a r.0 r.2) r.1)
    go true h (inr k) rec = rec k
    go false h (inl e) rec = Memᴰ.head e
    go false h (inr k) rec = Memᴰ.tail (rec k)

without_repeats_unique : (l : List Bits) → Unique (without_repeats l)
unfolding without_repeats
without_repeats_unique [] = p_nil
without_repeats_unique (a ∷ l) = go (any (same a) l) refl (without_repeats_unique l)
  where
    go : (b : Bool) → any (same a) l ≡ b → Unique (without_repeats l) → Unique (cond b (without_repeats l) (a ∷ without_repeats l))
    go true h u = u
    go false h u = p_cons (λ y m e. clash (eq_same e) (any_false (same a) h (without_repeats_in l m))) u

pub node_in : (t : Table) (v : Bits) → v ∈ nodes t → Node t v
unfolding nodes branches
node_in t v m = go (Memᴰ.append_cases ps (without_repeats_in (ps ++ branches ps) m))
  where
    ps : List Bits
    ps = map (λ (r : Route). r.prefix) t

    two : (p q : Bits) (r s : Route) → r ∈ t → s ∈ t → p ≡ r.prefix → q ≡ s.prefix → overlap p q ≡ false → v ≡ shared p q → Node t v
    two p q r s m n f g h e = of_two r s m n (rw (f, g) at h) (rw (f, g) at e)

    go : (v ∈ ps) ⊎ (v ∈ branches ps) → Node t v
    go (inl m) = let r = map_in (λ (r : Route). r.prefix) t m in of_one r.0 r.1 r.2
    go (inr m) =
        let a = flat_in (λ (p : Bits). map (shared p) (keep (λ (q : Bits). not (overlap p q)) ps)) ps m in
        let b = map_in (shared a.0) (keep (λ (q : Bits). not (overlap a.0 q)) ps) a.2 in
        let k = keep_in (λ (q : Bits). not (overlap a.0 q)) ps b.1 in
        let r = map_in (λ (r : Route). r.prefix) t a.1 in
        let s = map_in (λ (r : Route). r.prefix) t k.0 in
        two a.0 b.0 r.0 s.0 r.1 s.1 r.2 s.2 (not_false (overlap a.0 b.0) k.1) b.2

pub in_node : (t : Table) (v : Bits) → Node t v → v ∈ nodes t
unfolding nodes branches
in_node t v n = in_without_repeats (ps ++ branches ps) (go n)
  where
    ps : List Bits
    ps = map (λ (r : Route). r.prefix) t

    go : Node t v → v ∈ ps ++ branches ps
    go (of_one r m e) = Memᴰ.append_left (branches ps) (Memᴰ.cast e (in_map (λ (r : Route). r.prefix) m))
    go (of_two r s m n h e) =
        let k : s.prefix ∈ keep (λ (q : Bits). not (overlap r.prefix q)) ps = in_keep (λ (q : Bits). not (overlap r.prefix q)) (in_map (λ (r : Route). r.prefix) n) (rw h refl) in
        Memᴰ.append_right ps (in_flat (λ (p : Bits). map (shared p) (keep (λ (q : Bits). not (overlap p q)) ps)) (in_map (λ (r : Route). r.prefix) m) (Memᴰ.cast e (in_map (shared r.prefix) k)))

pub nodes_unique : (t : Table) → Unique (nodes t)
unfolding nodes
nodes_unique t = without_repeats_unique _

-- ---- the nodes are closed under longest common prefixes

-- a node is a prefix of a route
pub node_route : {t : Table} {v : Bits} → Node t v → (r : Route) × (r ∈ t) × (v ⊑ r.prefix)
node_route (of_one r m e) = (r, m, ⊑_of_eq e)
node_route (of_two r s m n h e) = (r, m, ⊑_trans (⊑_of_eq e) (shared_left r.prefix s.prefix))

module _ {u v r s : Bits} (p : u ⊑ r) (q : v ⊑ s) (n : ¬ (u ⊑ v)) (m : ¬ (v ⊑ u)) where
  no_both : {w : Bits} → u ⊑ w → v ⊑ w → ⊥
  no_both a b = go (⊑_total a b)
    where
      go : (u ⊑ v) ⊎ (v ⊑ u) → ⊥
      go (inl h) = n h
      go (inr h) = m h

  pub shared_above : shared r s ≡ shared u v
  shared_above = ⊑_antisym (shared_great (left (⊑_total (shared_left r s) p)) (right (⊑_total (shared_right r s) q)))
      (shared_great (⊑_trans (shared_left u v) p) (⊑_trans (shared_right u v) q))
    where
      left : (shared r s ⊑ u) ⊎ (u ⊑ shared r s) → shared r s ⊑ u
      left (inl h) = h
      left (inr h) = absurd (no_both (⊑_trans h (shared_right r s)) q)

      right : (shared r s ⊑ v) ⊎ (v ⊑ shared r s) → shared r s ⊑ v
      right (inl h) = h
      right (inr h) = absurd (no_both p (⊑_trans h (shared_left r s)))

  pub apart_above : overlap r s ≡ false
  apart_above = ⊑_apart (λ h. no_both (⊑_trans p h) q) (λ h. no_both p (⊑_trans q h))

pub branch_node : {t : Table} {u v : Bits} → Node t u → Node t v → ¬ (u ⊑ v) → ¬ (v ⊑ u) → Node t (shared u v)
branch_node a b n m =
    let r = node_route a in
    let s = node_route b in
    of_two r.0 s.0 r.1 s.1 (apart_above r.2 s.2 n m) (sym (shared_above r.2 s.2 n m))

pub shared_< : {u v : Bits} → ¬ (v ⊑ u) → length (shared u v) < length v
shared_< {u} {v} m = go (dec_le (length v) (length (shared u v)))
  where
    go : Dec (length v ≤ length (shared u v)) → length (shared u v) < length v
    go (yes h) = absurd (m (⊑_trans (⊑_of_eq (sym (⊑_eq (shared_right u v) h))) (shared_left u v)))
    go (no h) = omega arith

-- ---- examined, without root and parent: v is examined when past each node above it v goes on as X does

abbrev pub Above : Table → Bits → Bits → Type 0
Above t v u = (u ∈ nodes t) × (u ⊑ v) × (length u < length v)

abbrev pub OnWay : Table → Bits → Bits → Type 0
OnWay t X v = (u : Bits) → Above t v u → take (suc (length u)) v ⊑ X

pub parent_above : (t : Table) (v p : Bits) → parent (nodes t) v ≡ some p → Above t v p × ((u : Bits) → Above t v u → length u ≤ length p)
unfolding parent
parent_above t v p e =
    let b = biggest_is length (keep (λ (p : Bits). strictly_inside v p) (nodes t)) e in
    let k = keep_in (λ (p : Bits). strictly_inside v p) (nodes t) b.is_in in
    let s = strict_⊑ v p k.1 in
    ((k.0, s.0, s.1), λ u a. b.most u (in_keep (λ (p : Bits). strictly_inside v p) a.0 (⊑_strict a.1 a.2)))

pub parent_none : (t : Table) (v : Bits) → parent (nodes t) v ≡ none → (u : Bits) → Above t v u → ⊥
unfolding parent
parent_none t v e u a = biggest_none length (keep (λ (p : Bits). strictly_inside v p) (nodes t)) e (in_keep (λ (p : Bits). strictly_inside v p) a.0 (⊑_strict a.1 a.2))

pub root_above : (t : Table) (v : Bits) → is_root (nodes t) v ≡ true → (u : Bits) → Above t v u → ⊥
unfolding is_root
root_above t v e u a = clash (lt-ltb (length u) (length v) a.2) (any_false (λ (u : Bits). ltb (length u) (length v)) (not_false _ e) a.0)

-- two nodes that begin with z, with nothing as long as z above them, are one
pub node_one : (t : Table) (v w z : Bits) → v ∈ nodes t → w ∈ nodes t → z ⊑ v → z ⊑ w
    → ((u : Bits) → Above t v u → length u < length z) → ((u : Bits) → Above t w u → length u < length z) → v ≡ w
node_one t v w z m n p q av aw = go (either (contains v w)) (either (contains w v))
  where
    below : {x y : Bits} → x ∈ nodes t → x ⊑ y → z ⊑ x → ((u : Bits) → Above t y u → length u < length z) → Dec (length y ≤ length x) → x ≡ y
    below m h k a (yes l) = ⊑_eq h l
    below {x} {y} m h k a (no l) = absurd (omega (arith, a x (m, h, omega arith), ⊑_length k))

    go : (contains v w ≡ true) ⊎ (contains v w ≡ false) → (contains w v ≡ true) ⊎ (contains w v ≡ false) → v ≡ w
    go (inl h) o = below m (contains_⊑ v w h) p aw (dec_le (length w) (length v))
    go (inr h) (inl k) = sym (below n (contains_⊑ w v k) q av (dec_le (length v) (length w)))
    go (inr h) (inr k) =
        let f = branch_node (node_in t v m) (node_in t w n) (not_⊑ v w h) (not_⊑ w v k) in
        absurd (omega (arith, aw (shared v w) (in_node t (shared v w) f, shared_right v w, shared_< (not_⊑ w v k)), ⊑_length (shared_great p q)))

-- there is one root
pub one_root : (t : Table) (v w : Bits) → v ∈ nodes t → w ∈ nodes t → is_root (nodes t) v ≡ true → is_root (nodes t) w ≡ true → v ≡ w
one_root t v w m n e f = node_one t v w [] m n ⊑nil ⊑nil (λ u a. absurd (root_above t v e u a)) (λ u a. absurd (root_above t w f u a))

-- what has no parent is the root
pub none_root : (t : Table) (v : Bits) → v ∈ nodes t → parent (nodes t) v ≡ none → is_root (nodes t) v ≡ true
unfolding is_root
none_root t v m e = rw (none_any (λ (u : Bits). ltb (length u) (length v)) (nodes t) (λ u n. le-ltb (length u) (length v) (short u n (either (contains v u)) (either (contains u v))))) refl
  where
    short : (u : Bits) → u ∈ nodes t → (contains v u ≡ true) ⊎ (contains v u ≡ false) → (contains u v ≡ true) ⊎ (contains u v ≡ false) → length v ≤ length u
    short u n (inl h) o = ⊑_length (contains_⊑ v u h)
    short u n (inr h) (inl k) = le (dec_le (length v) (length u))
      where
        le : Dec (length v ≤ length u) → length v ≤ length u
        le (yes l) = l
        le (no l) = absurd (parent_none t v e u (n, contains_⊑ u v k, omega arith))
    short u n (inr h) (inr k) =
        let f = branch_node (node_in t u n) (node_in t v m) (not_⊑ u v k) (not_⊑ v u h) in
        absurd (parent_none t v e (shared u v) (in_node t (shared u v) f, shared_right u v, shared_< (not_⊑ v u h)))

-- the parent's test by prefixes
towards_take : (X v p : Bits) → p ⊑ v → length p < length v → towards X v (some p) ≡ true → length v ≤ length X → take (suc (length p)) v ⊑ X
unfolding towards contains
towards_take [] v p h l e k = absurd (omega arith)
towards_take (c ∷ X) [] p h l e k = absurd (not-suc-le-zero l)
towards_take (c ∷ X) (b ∷ v) [] h l e k = ⊑cons (beq_eq b c e) ⊑nil
towards_take (c ∷ X) (b ∷ v) (a ∷ p) (⊑cons f h) l e k =
    let x = and_true (beq a c && contains p X) _ e in
    let y = and_true (beq a c) _ x.0 in
    ⊑cons (sym f ∙ beq_eq a c y.0) (towards_take X v p h (le_of_suc-le-suc l) (rw (y.1, x.1)) (le_of_suc-le-suc k))

take_towards : (X v p : Bits) → p ⊑ v → length p < length v → take (suc (length p)) v ⊑ X → towards X v (some p) ≡ true
unfolding towards contains
take_towards X [] p h l e = absurd (not-suc-le-zero l)
take_towards (c ∷ X) (b ∷ v) [] h l (⊑cons g e) = rw (g, beq_refl c)
take_towards (c ∷ X) (b ∷ v) (a ∷ p) (⊑cons f h) l (⊑cons g e) = rw (f ∙ g, beq_refl c) (take_towards X v p h (le_of_suc-le-suc l) e)
take_towards [] (b ∷ v) p h l e = elim e [ ]

pub examined_way : (t : Table) (X v : Bits) → length v ≤ length X → is_examined (nodes t) X v ≡ true → OnWay t X v
unfolding is_examined
examined_way t X v k e u a = go (or_true (is_root (nodes t) v) _ e)
  where
    way : (o : Option Bits) → parent (nodes t) v ≡ o → towards X v o ≡ true → take (suc (length u)) v ⊑ X
    way none f h = absurd (parent_none t v f u a)
    way (some p) f h =
        let b = parent_above t v p f in
        let l = b.1 u a in
        let z = towards_take X v p b.0.1 b.0.2 h k in
        ⊑_trans (⊑_by_length (take_⊑ (suc (length u)) v) (take_⊑ (suc (length p)) v) (rw (take_len (suc (length u)) v a.2, take_len (suc (length p)) v b.0.2) (omega arith))) z

    go : (is_root (nodes t) v ≡ true) ⊎ (towards X v (parent (nodes t) v) ≡ true) → take (suc (length u)) v ⊑ X
    go (inl h) = absurd (root_above t v h u a)
    go (inr h) = way (parent (nodes t) v) refl h

pub way_examined : (t : Table) (X v : Bits) → v ∈ nodes t → OnWay t X v → is_examined (nodes t) X v ≡ true
unfolding is_examined
way_examined t X v m w = go (parent (nodes t) v) refl
  where
    go : (o : Option Bits) → parent (nodes t) v ≡ o → (is_root (nodes t) v || towards X v o) ≡ true
    go none f = rw (none_root t v m f)
    go (some p) f = let b = (parent_above t v p f).0 in or_right (is_root (nodes t) v) _ (take_towards X v p b.1 b.2 (w p b))

pub node_short : (n : ℕ) (t : Table) → NoLonger n t → (v : Bits) → v ∈ nodes t → length v ≤ n
node_short n t s v m = let r = node_route (node_in t v m) in omega (arith, ⊑_length r.2, s r.0 r.1)

-- any list of the examined nodes, each once, has the length that is reported
pub examined_count : (t : Table) (X : Bits) → NoLonger (length X) t → (l : List Bits) → Unique l
    → ((v : Bits) → v ∈ l → (v ∈ nodes t) × OnWay t X v) → ((v : Bits) → v ∈ nodes t → OnWay t X v → v ∈ l) → examined t X ≡ length l
unfolding examined
examined_count t X s l u to from = same_length (Pairwise_keep (is_examined (nodes t) X) (nodes_unique t)) u
    (λ v m. let k = keep_in (is_examined (nodes t) X) (nodes t) m in from v k.0 (examined_way t X v (node_short (length X) t s v k.0) k.1))
    (λ v m. let k = to v m in in_keep (is_examined (nodes t) X) k.0 (way_examined t X v k.0 k.1))

-- ---- at most one more than the width

upto : ℕ → List ℕ
upto zero = []
upto (suc n) = n ∷ upto n

upto_length : (n : ℕ) → length (upto n) ≡ n
unfolding upto
upto_length zero = refl
upto_length (suc n) = ap suc (upto_length n)

in_upto : (n k : ℕ) → k < n → k ∈ upto n
unfolding upto
in_upto zero k h = absurd (not-suc-le-zero h)
in_upto (suc n) k h = go (ℕ_discrete k n) (λ l. in_upto n k l)
  where
    go : Dec (k ≡ n) → (k < n → k ∈ upto n) → k ∈ n ∷ upto n
    go (yes e) rec = Memᴰ.head e
    go (no m) rec = Memᴰ.tail (rec (omega arith))

unique_map : {A : Type 0} (f : A → ℕ) {l : List A} → Unique l → ((x y : A) → x ∈ l → y ∈ l → f x ≡ f y → x ≡ y) → Unique (map f l)
unique_map f p_nil h = p_nil
unique_map f (p_cons {x = a} {l = l} n u) h =
    p_cons {x = f a} (λ y m e. let r = map_in f l m in n r.0 r.1 (h a r.0 (Memᴰ.head refl) (Memᴰ.tail r.1) (e ∙ r.2)))
    (unique_map f u (λ x y m k. h x y (Memᴰ.tail m) (Memᴰ.tail k)))

-- one more than the parent's length, or 0 at the root
rank_of : Option Bits → ℕ
rank_of none = 0
rank_of (some p) = suc (length p)

rank : Table → Bits → ℕ
rank t v = rank_of (parent (nodes t) v)

record Ranked (t : Table) (X v : Bits) (k : ℕ) : Type 0 where
  on_way : take k v ⊑ X
  within : k ≤ length v
  past : (u : Bits) → Above t v u → length u < k

ranked : (t : Table) (X v : Bits) → OnWay t X v → Ranked t X v (rank t v)
unfolding rank rank_of
ranked t X v w = go (parent (nodes t) v) refl
  where
    go : (o : Option Bits) → parent (nodes t) v ≡ o → Ranked t X v (rank_of o)
    go none f = record { on_way = ⊑nil; within = omega arith; past = λ u a. absurd (parent_none t v f u a) }
    go (some p) f = let b = parent_above t v p f in record { on_way = w p b.0; within = b.0.2; past = λ u a. omega (arith, b.1 u a) }

pub examined_at_most : (t : Table) (X : Bits) → NoLonger (length X) t → examined t X ≤ suc (length X)
unfolding examined
examined_at_most t X s =
    let h = subset_length (unique_map (rank t) (Pairwise_keep f (nodes_unique t)) one) (upto (suc (length X)))
    (λ k m. let r = map_in (rank t) (keep f (nodes t)) m in in_upto (suc (length X)) k (rw r.2 (small r.0 r.1))) in
    omega (arith, rw (length-map, upto_length) at h)
  where
    f : Bits → Bool
    f = is_examined (nodes t) X

    R : (v : Bits) → v ∈ keep f (nodes t) → Ranked t X v (rank t v)
    R v m = let k = keep_in f (nodes t) m in ranked t X v (examined_way t X v (node_short (length X) t s v k.0) k.1)

    small : (v : Bits) → v ∈ keep f (nodes t) → rank t v < suc (length X)
    small v m = omega (arith, (R v m).within, node_short (length X) t s v (keep_in f (nodes t) m).0)

    one : (v w : Bits) → v ∈ keep f (nodes t) → w ∈ keep f (nodes t) → rank t v ≡ rank t w → v ≡ w
    one v w m n e =
        let a = R v m in
        let b = R w n in
        let lv = take_len (rank t v) v a.within in
        let lw = take_len (rank t w) w b.within in
        let z : take (rank t v) v ⊑ take (rank t w) w = ⊑_by_length a.on_way b.on_way (omega arith) in
        node_one t v w (take (rank t v) v) (keep_in f (nodes t) m).0 (keep_in f (nodes t) n).0
        (take_⊑ (rank t v) v) (⊑_trans z (take_⊑ (rank t w) w))
        (λ u x. omega (arith, a.past u x)) (λ u x. omega (arith, b.past u x))

pub examined_none : (X : Bits) → examined [] X ≡ 0
unfolding examined nodes branches without_repeats flat_map keep
examined_none X = refl

-- "no table gives more than 33"
pub examined_at_most_33 : {limits : Limits} {t : Table} {c : Cache} → limits.width ≡ 32 → Legal limits t c → (X : Bits) → length X ≡ 32 → examined t X ≤ 33
examined_at_most_33 {limits} {t} w S X e = omega (arith, examined_at_most t X (λ r m. rw (e ∙ sym w) (S.routes_short r m)))
