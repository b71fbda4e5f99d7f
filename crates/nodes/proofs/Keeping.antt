-- What a store leaves: the header, the number of words, and the words past what the limit needs. Assumes nothing.
use mathlib.Core.Path.{◌≡◌, refl, ◌∙◌}
use mathlib.Core.List.{List, [], ◌∷◌, ◌++◌}
use Prim.Native.Nat.{ℕ, ◌+◌, ◌*◌, ◌/◌, ◌≤◌, ◌<◌}
use native.Mathlib.Nat.{add-zero}
use native.Mathlib.Numerals.{towards_suc}
use native.Mathlib.Omega.{arith}
use lib.ListN.{length, take, drop, set, length-set, length-append, get_or-append}
use lib.Seq.{sets, sets-eq, length-take-le, get_or-append-add, get_or-set_other, set-get_or, drop-set-lt}
use Rattle.sizes.specs.Sizes.{LegalLimit, table_need}
use Rattle.sizes.specs.BothStores.{word, limit_of, Room}
use Rattle.nodes.specs.Layout.{nodes_of, route_count, Shaped}
use Rattle.nodes.specs.Stores.{put_mark, put_up, put_child, filled_at, put_node, put_counts, emptied, node_in}
use Rattle.nodes.specs.declared.Node.{Node}

-- what each of its six stores keeps, the store of a node keeps
filled_keeps : (P : List ℕ → Type 0) (w : List ℕ) (a : ℕ) (n : Node) → ((u : List ℕ) (i v : ℕ) → a ≤ i → i < a + 6 → P u → P (set u i v)) → P w → P (filled_at w a n)
unfolding filled_at
filled_keeps P w a n k p =
    let s : (u : List ℕ) (j v : ℕ) → j < 6 → P u → P (set u (a + j) v) = λ u j v h. k u (a + j) v (omega arith) (omega arith) in
    s _ 5 n.up (omega arith) (s _ 4 n.right (omega arith) (s _ 3 n.left (omega arith) (s _ 2 n.mark (omega arith) (s _ 1 n.length (omega arith) (k w a n.address (omega arith) (omega arith) p)))))

-- ---- the header and the number of words

pub record HeaderIs (w : List ℕ) (limit nodes routes words : ℕ) : Type 0 where
  pub limit_is : limit_of w ≡ limit
  pub nodes_are : nodes_of w ≡ nodes
  pub routes_are : route_count w ≡ routes
  pub size : length w ≡ words

abbrev pub SameHeader : List ℕ → List ℕ → Type 0
SameHeader w w' = HeaderIs w' (limit_of w) (nodes_of w) (route_count w) (length w)

pub header_is : (w : List ℕ) → SameHeader w w
header_is w = record { limit_is = refl; nodes_are = refl; routes_are = refl; size = refl }

past_header : (w : List ℕ) {limit nodes routes words : ℕ} (i v : ℕ) → 3 ≤ i → HeaderIs w limit nodes routes words → HeaderIs (set w i v) limit nodes routes words
past_header w i v h s = record {
  limit_is = get_or-set_other w i 0 v 0 (λ z. omega arith) ∙ s.limit_is;
  nodes_are = get_or-set_other w i 1 v 0 (λ z. omega arith) ∙ s.nodes_are;
  routes_are = get_or-set_other w i 2 v 0 (λ z. omega arith) ∙ s.routes_are;
  size = length-set w i v ∙ s.size;
}

header_stored : (w : List ℕ) (limit nodes routes : ℕ) → Room w 0 → HeaderIs (set (set (set w 0 limit) 1 nodes) 2 routes) limit nodes routes (length w)
header_stored [] limit nodes routes room = absurd (omega arith)
header_stored (a ∷ []) limit nodes routes room = absurd (omega arith)
header_stored (a ∷ b ∷ []) limit nodes routes room = absurd (omega arith)
header_stored (a ∷ b ∷ c ∷ w) limit nodes routes room = record { limit_is = refl; nodes_are = refl; routes_are = refl; size = refl }

module _ (w : List ℕ) where
  pub mark_header : (p mark : ℕ) → SameHeader w (put_mark w p mark)
  unfolding put_mark
  mark_header p mark = past_header w _ mark (omega arith) (header_is w)

  pub up_header : (p cell : ℕ) → SameHeader w (put_up w p cell)
  unfolding put_up
  up_header p cell = past_header w _ cell (omega arith) (header_is w)

  pub child_header : (cell p : ℕ) → SameHeader w (put_child w cell p)
  unfolding put_child
  child_header cell p = past_header w _ p (omega arith) (header_is w)

  pub node_header : (p : ℕ) (n : Node) → SameHeader w (put_node w p n)
  unfolding put_node
  node_header p n = filled_keeps (SameHeader w) w _ n (λ u i v l h. past_header u i v (omega arith)) (header_is w)

  pub counts_header : (nodes routes : ℕ) → Room w 0 → HeaderIs (put_counts w nodes routes) (limit_of w) nodes routes (length w)
  unfolding put_counts
  counts_header nodes routes room = rw set-get_or at (header_stored w (limit_of w) nodes routes room)

  pub empty_header : (limit : ℕ) → Room w 0 → HeaderIs (emptied w limit) limit 0 0 (length w)
  unfolding emptied
  empty_header limit room = past_header _ 1019 0 (omega arith) (header_stored w limit 0 0 room)

pub empty_shaped : (w : List ℕ) (limit : ℕ) → LegalLimit limit → table_need limit ≤ length w → Shaped (emptied w limit)
empty_shaped w limit legal enough =
    let h = empty_header w limit (omega arith) in
    record { legal = rw h.limit_is legal; enough = rw (h.limit_is, h.size) enough; nodes_fit = omega arith; routes_fit = omega arith }

-- ---- the words past what the limit needs

module _ (w : List ℕ) (limit : ℕ) where
  pub mark_past : (p mark : ℕ) → p ≤ 2 * limit → drop (table_need limit) (put_mark w p mark) ≡ drop (table_need limit) w
  unfolding put_mark
  mark_past p mark h = drop-set-lt (table_need limit) w _ mark (omega arith)

  pub up_past : (p cell : ℕ) → p ≤ 2 * limit → drop (table_need limit) (put_up w p cell) ≡ drop (table_need limit) w
  unfolding put_up
  up_past p cell h = drop-set-lt (table_need limit) w _ cell (omega arith)

  pub child_past : (cell p : ℕ) → cell / 2 ≤ 2 * limit → drop (table_need limit) (put_child w cell p) ≡ drop (table_need limit) w
  unfolding put_child
  child_past cell p h = drop-set-lt (table_need limit) w _ p (omega arith)

  pub node_past : (p : ℕ) (n : Node) → p ≤ 2 * limit → drop (table_need limit) (put_node w p n) ≡ drop (table_need limit) w
  unfolding put_node
  node_past p n h = filled_keeps (λ u. drop (table_need limit) u ≡ drop (table_need limit) w) w _ n (λ u i v l b e. drop-set-lt (table_need limit) u i v (omega arith) ∙ e) refl

  low_past : (u : List ℕ) (i v : ℕ) → i < 1024 → drop (table_need limit) (set u i v) ≡ drop (table_need limit) u
  low_past u i v h = drop-set-lt (table_need limit) u i v (omega arith)

  pub counts_past : (nodes routes : ℕ) → drop (table_need limit) (put_counts w nodes routes) ≡ drop (table_need limit) w
  unfolding put_counts
  counts_past nodes routes = low_past _ 2 routes (omega arith) ∙ low_past w 1 nodes (omega arith)

  pub empty_past : drop (table_need limit) (emptied w limit) ≡ drop (table_need limit) w
  unfolding emptied
  empty_past =
      low_past _ 1019 0 (omega arith) ∙ low_past _ 2 0 (omega arith) ∙ low_past _ 1 0 (omega arith) ∙ low_past w 0 limit (omega arith)

-- ---- a node that is stored is read back

abbrev words_of : Node → List ℕ
words_of n = n.address ∷ n.length ∷ n.mark ∷ n.left ∷ n.right ∷ n.up ∷ []

filled_word : (w : List ℕ) (a j : ℕ) (n : Node) → a + 6 ≤ length w → j < 6 → word (filled_at w a n) (a + j) ≡ word (words_of n) j
unfolding filled_at
filled_word w a j n room h =
    let s : filled_at w a n ≡ sets w a (words_of n) = simp towards_suc in
    let e = s ∙ sets-eq (words_of n) w a room in
    let f : length (take a w) ≡ a = length-take-le a w (omega arith) in
    rw e
    (get_or-append (take a w ++ words_of n) (drop (a + 6) w) 0 (a + j) (omega (arith, length-append (take a w) (words_of n)))
    ∙ (rw f at (get_or-append-add (take a w) (words_of n) j 0)))

pub node_back : (w : List ℕ) (p : ℕ) (n : Node) → Room w p → node_in (put_node w p n) p ≡ n
unfolding node_in put_node
node_back w p n room =
    let f : (j : ℕ) → j < 6 → word (filled_at w (1016 + 8 * p) n) (1016 + 8 * p + j) ≡ word (words_of n) j
    = λ j h. filled_word w (1016 + 8 * p) j n (omega arith) h in
    simp add-zero
    (rw (
      simp add-zero at (f 0 (omega arith)),
      f 1 (omega arith),
      f 2 (omega arith),
      f 3 (omega arith),
      f 4 (omega arith),
      f 5 (omega arith),
    ))
