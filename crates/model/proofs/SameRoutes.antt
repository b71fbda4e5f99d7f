-- Answers, next caches and nodes examined depend on the set of routes, not on the order in which a table lists them. Assumes nothing.
use mathlib.Core.Bool.{Bool}
use mathlib.Core.List.Memᴰ
use mathlib.Core.List.{List, ◌∷◌}
use mathlib.Core.Option.{Option, none, some}
use mathlib.Core.Path.{◌∙◌, ◌≡◌, ap, ap₂, fun_ext, refl, sym}
use Prim.Native.Nat.{◌≤◌, suc, zero, ℕ}
use native.Mathlib.Omega.{arith}
use lib.Dec.{ltb}
use lib.ListN.{length, take}
use Rattle.prefix.specs.Bits.{Bits}
use Rattle.prefix.specs.Prefix.{contains, same, strictly_inside}
use Rattle.prefix.proofs.Order.{⊑_by_length, ⊑_eq}
use Rattle.prefix.proofs.Tests.{strict_⊑}
use Rattle.model.specs.Demands.{Alike, AlikeOutcome, AllFull, Distinct, LegalState, SameRoutes, Standing, Subset, UpdateOutcome, and_calls, announced, no_calls, stood}
use Rattle.model.specs.Lists.{◌∈◌, first, keep, p_cons, p_nil}
use Rattle.model.specs.Model.{Cache, Entry, Limits, Looked, changed, fresh, leaves, look_cache, look_table, lookup, new_length, refreshed, refusal, removed}
use Rattle.model.specs.Nodes.{examined, is_examined, is_root, nodes, parent}
use Rattle.model.specs.Routes.{Action, Route, Table, Update, announce, held, match, updated, withdraw}
use Rattle.model.specs.Runs.{Call, Outcome, State, accepted, after, answers, judged, look, looked, step, update}
use Rattle.model.proofs.Legal.{legal_step}
use Rattle.model.proofs.ListLaws.{Pairwise_keep, Unique, any_same, biggest_same, in_keep, keep_in, same_length}
use Rattle.model.proofs.Match.{OneEach, Part, match_agree, new_entry, new_match, new_part, new_route, of_entry, of_match, of_route, one_each}
use Rattle.model.proofs.NodeLaws.{Node, in_node, node_in, nodes_unique, of_one, of_two}
use Rattle.model.proofs.Updates.{in_updated, new_in, only_refreshed, updated_distinct, updated_in}

pub flip : {t u : Table} → SameRoutes t u → SameRoutes u t
flip s = record { to = s.from; from = s.to }

pub match_same : (t u : Table) (X : Bits) → OneEach u → SameRoutes t u → match t X ≡ match u X
match_same t u X one s = match_agree t u X X one (λ r m h. (s.to r m, h)) (λ r m h. (s.from r m, h))

new_le : (t u : Table) (c : Cache) (X : Bits) (M : Route) → Subset t u → new_length t c X M ≤ new_length u c X M
new_le t u c X M s = go (new_length t c X M) (new_part t c X M)
  where
    go : (n : ℕ) → Part t c X M n → n ≤ new_length u c X M
    go n (of_match e) = rw e (new_match u c X M)
    go n (of_route r m h e) = rw e (new_route u c X M r (s r m) h)
    go n (of_entry d m e) = rw e (new_entry u c X M d m)

pub new_same : (t u : Table) (c : Cache) (X : Bits) (M : Route) → SameRoutes t u → new_length t c X M ≡ new_length u c X M
new_same t u c X M s = omega (arith, new_le t u c X M s.to, new_le u t c X M s.from)

node_sub : {t u : Table} {v : Bits} → Subset t u → Node t v → Node u v
node_sub f (of_one r m e) = of_one r (f r m) e
node_sub f (of_two r s m n h e) = of_two r s (f r m) (f s n) h e

nodes_sub : (t u : Table) → Subset t u → Subset (nodes t) (nodes u)
nodes_sub t u f v m = in_node u v (node_sub f (node_in t v m))

-- ---- nodes examined

pub parent_same : (ns ms : List Bits) (v : Bits) → Subset ns ms → Subset ms ns → parent ns v ≡ parent ms v
unfolding parent
parent_same ns ms v s t = biggest_same length (keep f ns) (keep f ms) one (sub ns ms s) (sub ms ns t)
  where
    f : Bits → Bool
    f p = strictly_inside v p

    sub : (l k : List Bits) → Subset l k → Subset (keep f l) (keep f k)
    sub l k s x m = let a = keep_in f l m in in_keep f (s x a.0) a.1

    one : (x y : Bits) → x ∈ keep f ms → y ∈ keep f ms → length x ≡ length y → x ≡ y
    one x y m n e =
        let a = (strict_⊑ v x (keep_in f ms m).1).0 in
        let b = (strict_⊑ v y (keep_in f ms n).1).0 in
        ⊑_eq (⊑_by_length a b (omega arith)) (omega arith)

pub is_examined_same : (ns ms : List Bits) (X v : Bits) → Subset ns ms → Subset ms ns → is_examined ns X v ≡ is_examined ms X v
unfolding is_examined is_root
is_examined_same ns ms X v s t = rw (any_same (λ (u : Bits). ltb (length u) (length v)) ns ms s t, parent_same ns ms v s t)

pub examined_same : (t u : Table) (X : Bits) → SameRoutes t u → examined t X ≡ examined u X
unfolding examined
examined_same t u X s = same_length (Pairwise_keep (is_examined (nodes t) X) (nodes_unique t)) (Pairwise_keep (is_examined (nodes u) X) (nodes_unique u)) (sub t u s) (sub u t (flip s))
  where
    sub : (t u : Table) → SameRoutes t u → Subset (keep (is_examined (nodes t) X) (nodes t)) (keep (is_examined (nodes u) X) (nodes u))
    sub t u s v m =
        let a = keep_in (is_examined (nodes t) X) (nodes t) m in
        let f = nodes_sub t u s.to in
        let g = nodes_sub u t s.from in
        in_keep (is_examined (nodes u) X) (f v a.0) (sym (is_examined_same (nodes t) (nodes u) X v f g) ∙ a.1)

-- ---- calls

pub lookup_same : (t u : Table) (c : Cache) (limit : ℕ) (X : Bits) → Distinct u → SameRoutes t u → lookup t c limit X ≡ lookup u c limit X
unfolding lookup look_cache look_table
lookup_same t u c limit X d s = on_cache (first (λ (e : Entry). contains e.prefix X) c)
  where
    on_table : (o : Option Route) → look_table t c limit X o ≡ look_table u c limit X o
    on_table none = rw (examined_same t u X s)
    on_table (some M) = rw (examined_same t u X s, new_same t u c X M s)

    on_cache : (o : Option Route) → look_cache t c limit X o ≡ look_cache u c limit X o
    on_cache none = rw (match_same t u X (one_each d) s) (on_table (match u X))
    on_cache (some e) = refl

updated_sub : (t u : Table) (w : Update) → Subset t u → Subset (updated t w) (updated u w)
updated_sub t u w s r m = go (updated_in t w r m)
  where
    go : Standing t w r → r ∈ updated u w
    go (announced h e z) = Memᴰ.cast z (new_in u w h e)
    go (stood m n) = in_updated u w r (s r m) n

pub updated_same : (t u : Table) (w : Update) → SameRoutes t u → SameRoutes (updated t w) (updated u w)
updated_same t u w s = record { to = updated_sub t u w s.to; from = updated_sub u t w s.from }

pub leaves_same : (t u : Table) (w : Update) → SameRoutes t u → leaves t w ≡ leaves u w
unfolding leaves
leaves_same t u w s = fun_ext (λ e. rw (any_same (λ (r : Route). strictly_inside r.prefix e.prefix) t u s.to s.from, any_same (λ (r : Route). contains r.prefix e.prefix) t u s.to s.from))

pub fresh_same : (t u : Table) → OneEach u → SameRoutes t u → fresh t ≡ fresh u
unfolding fresh
fresh_same t u one s = fun_ext (λ e. rw (match_same t u e.prefix one s))

pub refreshed_same : (t u : Table) (w : Update) (c : Cache) → OneEach u → SameRoutes t u → refreshed t w c ≡ refreshed u w c
unfolding refreshed
refreshed_same t u w c one s = rw (leaves_same t u w s, fresh_same t u one s)

pub removed_same : (t u : Table) (w : Update) (c : Cache) → SameRoutes t u → removed t w c ≡ removed u w c
unfolding removed
removed_same t u w c s = rw (leaves_same t u w s)

pub changed_same : (t u : Table) (w : Update) (c : Cache) → OneEach u → SameRoutes t u → changed t w c ≡ changed u w c
unfolding changed
changed_same t u w c one s = rw (leaves_same t u w s, fresh_same t u one s)

pub length_same : (t u : Table) → Distinct t → Distinct u → SameRoutes t u → length t ≡ length u
length_same t u d e s = same_length (once d) (once e) s.to s.from
  where
    once : {l : List Route} → Distinct l → Unique l
    once p_nil = p_nil
    once (p_cons h k) = p_cons (λ y m z. h y m (ap (λ (r : Route). r.prefix) z)) (once k)

pub refusal_same : (L : Limits) (t u : Table) (n : ℕ) (p : Bits) (a : Action) → Distinct t → Distinct u → SameRoutes t u → refusal L t n p a ≡ refusal L u n p a
unfolding refusal held
refusal_same L t u n p (announce h) d e s = rw (any_same (λ (r : Route). same r.prefix p) t u s.to s.from, length_same t u d e s)
refusal_same L t u n p withdraw d e s = rw (any_same (λ (r : Route). same r.prefix p) t u s.to s.from)

pub step_same : (L : Limits) (s z : State) (x : Call) → LegalState L s → LegalState L z → Alike s z → AlikeOutcome (step L s x) (step L z x)
unfolding step looked judged accepted
step_same L s z (look X) S Z A =
    let e : lookup s.table s.cache L.entries X ≡ lookup z.table z.cache L.entries X = rw A.caches (lookup_same s.table z.table z.cache L.entries X Z.distinct A.tables) in
    record { same_answer = ap (λ (r : Looked). r.answer) e; still_alike = record { tables = A.tables; caches = ap (λ (r : Looked). r.cache) e; tallies = rw (e, A.tallies) } }
step_same L s z (update a n act) S Z A = rw (refusal_same L s.table z.table n (take n a) act S.distinct Z.distinct A.tables) (go (refusal L z.table n (take n a) act))
  where
    u : Update
    u = record { prefix = take n a; action = act }

    T : SameRoutes (updated s.table u) (updated z.table u)
    T = updated_same s.table z.table u A.tables

    one : OneEach (updated z.table u)
    one = one_each (updated_distinct z.table u Z.distinct)

    ca : refreshed (updated s.table u) u s.cache ≡ refreshed (updated z.table u) u z.cache
    ca = rw A.caches (refreshed_same (updated s.table u) (updated z.table u) u z.cache one T)

    re : removed (updated s.table u) u s.cache ≡ removed (updated z.table u) u z.cache
    re = rw A.caches (removed_same (updated s.table u) (updated z.table u) u z.cache T)

    ch : changed (updated s.table u) u s.cache ≡ changed (updated z.table u) u z.cache
    ch = rw A.caches (changed_same (updated s.table u) (updated z.table u) u z.cache one T)

    go : (k : ℕ) → AlikeOutcome (judged s u k) (judged z u k)
    go zero = record { same_answer = rw (re, ch); still_alike = record { tables = T; caches = ca; tallies = rw (re, A.tallies) } }
    go (suc k) = record { same_answer = refl; still_alike = A }

pub answers_same : (L : Limits) (s z : State) {l : List Call} → AllFull L l → LegalState L s → LegalState L z → Alike s z → answers L s l ≡ answers L z l
unfolding answers
answers_same L s z no_calls S Z A = refl
answers_same L s z (and_calls {x = x} {l = l} g gs) S Z A =
    let o = step_same L s z x S Z A in
    ap₂ ◌∷◌ o.same_answer (answers_same L (step L s x).state (step L z x).state gs (legal_step L s x g S) (legal_step L z x g Z) o.still_alike)

pub after_alike : (L : Limits) (s z : State) {l : List Call} → AllFull L l → LegalState L s → LegalState L z → Alike s z → Alike (after L s l) (after L z l)
unfolding after
after_alike L s z no_calls S Z A = A
after_alike L s z (and_calls {x = x} g gs) S Z A =
    after_alike L (step L s x).state (step L z x).state gs (legal_step L s x g S) (legal_step L z x g Z) (step_same L s z x S Z A).still_alike

-- ---- what demand 3 says leaves no two outcomes open, but for that order

standing_one_each : (t : Table) (u : Update) (table : Table) → Distinct t → ((r : Route) → r ∈ table → Standing t u r) → OneEach table
standing_one_each t u table d stand r s m n e = go (stand r m) (stand s n)
  where
    go : Standing t u r → Standing t u s → r ≡ s
    go (announced h f z) (announced k g w) = let i : announce h ≡ announce k = sym f ∙ g in let j : h ≡ k = cc in z ∙ rw j (sym w)
    go (announced h f z) (stood i k) = absurd (k (sym e ∙ ap (λ (r : Route). r.prefix) z))
    go (stood i k) (announced h f z) = absurd (k (e ∙ ap (λ (r : Route). r.prefix) z))
    go (stood i k) (stood j l) = one_each d r s i j e

pub update_outcomes_alike : (s : State) (u : Update) {a b : Outcome} → Distinct s.table → UpdateOutcome s u a → UpdateOutcome s u b → AlikeOutcome a b
update_outcomes_alike s u {a} {b} d A B = record {
  same_answer = A.counts ∙ rw (re, ch) (sym B.counts);
  still_alike = record { tables = T; caches = ca; tallies = A.tallies ∙ rw re (sym B.tallies) };
}
  where
    t : Table
    t = a.state.table

    z : Table
    z = b.state.table

    T : SameRoutes t z
    T = record { to = λ r m. (B.routes r).1 ((A.routes r).0 m); from = λ r m. (A.routes r).1 ((B.routes r).0 m) }

    one : OneEach z
    one = standing_one_each s.table u z d (λ r m. (B.routes r).0 m)

    ca : a.state.cache ≡ b.state.cache
    ca = (only_refreshed A.entries).0 ∙ refreshed_same t z u s.cache one T ∙ sym (only_refreshed B.entries).0

    re : A.removed ≡ B.removed
    re = (only_refreshed A.entries).1 ∙ removed_same t z u s.cache T ∙ sym (only_refreshed B.entries).1

    ch : A.changed ≡ B.changed
    ch = (only_refreshed A.entries).2 ∙ changed_same t z u s.cache one T ∙ sym (only_refreshed B.entries).2
