-- What a store changes and what it leaves. Assumes nothing.
use mathlib.Core.Path.{◌≡◌, refl, sym}
use mathlib.Core.Bool.{Bool, true, false, false≢true}
use mathlib.Core.Option.{Option, none, some, none-ne-some}
use Prim.Native.Nat.{ℕ}
use native.Mathlib.Omega.{arith}
use Rattle.prefix.specs.Bits.{Bits}
use Rattle.trie.specs.Trie.{Cell, Root, Kid, Trie, Inside}
use Rattle.trie.specs.Updates.{upd, set_hop, set_child, set_up, set_node, set_slot, upd_of, set_up_of}

module _ {I A : Type 0} (dec : (x y : I) → Dec (x ≡ y)) (f : I → A) (k : I) (a : A) where
  pub upd_same : (i : I) → i ≡ k → upd dec f k a i ≡ a
  unfolding upd
  upd_same i e = go (dec i k)
    where
      go : (d : Dec (i ≡ k)) → elim d [ yes e ↦ a | no n ↦ f i ] ≡ a
      go (yes e) = refl
      go (no n) = absurd (n e)

  pub upd_other : (i : I) → ¬ (i ≡ k) → upd dec f k a i ≡ f i
  unfolding upd
  upd_other i n = go (dec i k)
    where
      go : (d : Dec (i ≡ k)) → elim d [ yes e ↦ a | no n ↦ f i ] ≡ f i
      go (yes e) = absurd (n e)
      go (no n) = refl

-- ---- one store

pub set_hop_same : (v : Trie) (k : ℕ) (h : Option ℕ) → (set_hop v k h).hop k ≡ h
unfolding set_hop
set_hop_same v k h = upd_same _ _ _ _ k refl

pub set_hop_other : (v : Trie) (k : ℕ) (h : Option ℕ) (i : ℕ) → ¬ (i ≡ k) → (set_hop v k h).hop i ≡ v.hop i
unfolding set_hop
set_hop_other v k h i n = upd_other _ _ _ _ i n

pub set_child_same : (v : Trie) (c : Cell) (o : Option ℕ) → (set_child v c o).child c ≡ o
unfolding set_child
set_child_same v c o = upd_same _ _ _ _ c refl

-- ---- the up of what a cell points at

pub set_up_of_none : (v : Trie) (c : Cell) → set_up_of v none c ≡ v
unfolding set_up_of upd_of
set_up_of_none v c = refl

pub set_up_of_some : (v : Trie) (j : ℕ) (c : Cell) → set_up_of v (some j) c ≡ set_up v j c
unfolding set_up_of upd_of set_up
set_up_of_some v j c = refl

pub upd_of_same : (up : ℕ → Cell) (o : Option ℕ) (c : Cell) (j : ℕ) → o ≡ some j → upd_of up o c j ≡ c
unfolding upd_of
upd_of_same up none c j e = absurd (none-ne-some j e)
upd_of_same up (some x) c j e = upd_same _ _ _ _ j (cc)

pub upd_of_other : (up : ℕ → Cell) (o : Option ℕ) (c : Cell) (j : ℕ) → ¬ (o ≡ some j) → upd_of up o c j ≡ up j
unfolding upd_of
upd_of_other up none c j n = refl
upd_of_other up (some x) c j n = upd_other _ _ _ _ j (λ z. n (cc))

-- ---- cells

pub kid_slot : {a b : ℕ} {x y : Bool} → Kid a x ≡ Kid b y → a ≡ b
kid_slot e = cc

pub kid_side : {a b : ℕ} {x y : Bool} → Kid a x ≡ Kid b y → x ≡ y
kid_side e = cc

pub not_root : {a : ℕ} {x : Bool} → ¬ (Kid a x ≡ Root)
not_root z = let y : ◌≡◌ {A = ℕ} 0 1 = cc in omega arith

-- a cell in use is none of a slot that is not
pub fresh_cell : (live : ℕ → Type 0) (n : ℕ) → ¬ live n → (e : Cell) → Inside live e → (b : Bool) → ¬ (e ≡ Kid n b)
fresh_cell live n fresh e i b z = fresh (rw z at i)

-- the pointers once the slot n has the children k, and the cell c points at it
module _ (v : Trie) (n : ℕ) (p : Bits) (h : Option ℕ) (u c : Cell) (k : Bool → Option ℕ) where
  sides : ¬ (Kid n false ≡ Kid n true)
  sides z = false≢true (kid_side z)

  pub slot_cell : (set_child (set_slot v n p h u (k false) (k true)) c (some n)).child c ≡ some n
  slot_cell = set_child_same _ c (some n)

  pub slot_new : ((b : Bool) → ¬ (c ≡ Kid n b)) → (b : Bool) → (set_child (set_slot v n p h u (k false) (k true)) c (some n)).child (Kid n b) ≡ k b
  unfolding set_child set_slot set_up
  slot_new nc b = go b (λ z. nc b (sym z))
    where
      go : (b : Bool) → ¬ (Kid n b ≡ c) → (set_child (set_slot v n p h u (k false) (k true)) c (some n)).child (Kid n b) ≡ k b
      go false ne = simp (upd_other, upd_same, ne, sides)
      go true ne = simp (upd_other, upd_same, ne)

  pub slot_old : (x : Cell) → ((b : Bool) → ¬ (x ≡ Kid n b)) → ¬ (x ≡ c) → (set_child (set_slot v n p h u (k false) (k true)) c (some n)).child x ≡ v.child x
  unfolding set_child set_slot set_up set_node
  slot_old x i ne = simp (upd_other, i)
