-- What an update does to the table and to the entries. Assumes nothing.
use mathlib.Core.Bool.{Bool, ◌&&◌, ◌||◌, cond, false, false≢true, not, true}
use mathlib.Core.List.Memᴰ
use mathlib.Core.List.{List, [], ◌∷◌, map}
use mathlib.Core.Logic.{◌⊎◌, inl, inr}
use mathlib.Core.Option.{Option, none, some}
use mathlib.Core.Path.{◌∙◌, ◌≡◌, ap, refl, sym}
use Prim.Native.Nat.{suc, ℕ}
use native.Mathlib.Omega.{arith}
use lib.Dec.{eqb}
use lib.ListN.{length, take}
use borrow.Author.Tests.{eq-eqb, eqb-false, eqb-true, ne_eqb}
use Rattle.prefix.specs.Bits.{Bits}
use Rattle.prefix.specs.Prefix.{contains, overlap, same, strictly_inside}
use Rattle.prefix.proofs.Booleans.{clash, is_false, not_false, or_right, or_true}
use Rattle.prefix.proofs.Order.{⊑_length, ⊑_of_eq}
use Rattle.prefix.proofs.Tests.{apart_⊑, contains_⊑, eq_same, ne_same, same_eq, strict_⊑, ⊑_contains}
use Rattle.model.specs.Demands.{Covered, Distinct, Leaving, LegalState, Longest, Refreshed, Standing, UpdateOutcome, announced, at_end, left, new_hop, route_inside, same_hop, stood, uncovered, withdrawn}
use Rattle.model.specs.Lists.{◌∈◌, any, keep, p_cons}
use Rattle.model.specs.Model.{Cache, Entry, Limits, changed, fresh, hop_of, leaves, refreshed, refusal, refused, removed, withdraws}
use Rattle.model.specs.Routes.{Action, Route, Table, Update, announce, match, updated, with_announced, withdraw}
use Rattle.model.specs.Runs.{State, accepted, judged, step, update}
use Rattle.model.proofs.ListLaws.{Pairwise_keep, any_false, any_in, in_any, in_keep, keep_in, none_any}
use Rattle.model.proofs.Match.{longest_match, match_agree, match_longest, match_none, one_each}

-- ---- what the updated table holds

pub in_updated : (t : Table) (u : Update) (r : Route) → r ∈ t → ¬ (r.prefix ≡ u.prefix) → r ∈ updated t u
unfolding updated with_announced
in_updated t u r m n = go u.action
  where
    k : r ∈ keep (λ (r : Route). not (same r.prefix u.prefix)) t
    k = in_keep (λ (r : Route). not (same r.prefix u.prefix)) m (rw (ne_same n) refl)

    go : (a : Action) → r ∈ with_announced u.prefix a (keep (λ (r : Route). not (same r.prefix u.prefix)) t)
    go (announce h) = Memᴰ.tail k
    go withdraw = k

pub updated_in : (t : Table) (u : Update) (r : Route) → r ∈ updated t u → Standing t u r
unfolding updated with_announced
updated_in t u r m = go u.action refl m
  where
    old : r ∈ keep (λ (r : Route). not (same r.prefix u.prefix)) t → Standing t u r
    old m = let k = keep_in (λ (r : Route). not (same r.prefix u.prefix)) t m in stood k.0 (λ e. clash (eq_same e) (not_false _ k.1))

    sub : (h : ℕ) → u.action ≡ announce h → (r ≡ record { prefix = u.prefix; hop = h }) ⊎ (r ∈ keep (λ (r : Route). not (same r.prefix u.prefix)) t) → Standing t u r
    sub h e (inl z) = announced h e z
    sub h e (inr m) = old m

    go : (a : Action) → u.action ≡ a → r ∈ with_announced u.prefix a (keep (λ (r : Route). not (same r.prefix u.prefix)) t) → Standing t u r
    go (announce h) e m = sub h e (Memᴰ.cases_cons m)
    go withdraw e m = old m

pub updated_distinct : (t : Table) (u : Update) → Distinct t → Distinct (updated t u)
unfolding updated with_announced
updated_distinct t u d = go u.action
  where
    f : Route → Bool
    f r = not (same r.prefix u.prefix)

    rest : Distinct (keep f t)
    rest = Pairwise_keep f d

    go : (a : Action) → Distinct (with_announced u.prefix a (keep f t))
    go (announce h) = p_cons (λ y m k. clash (eq_same (sym k)) (not_false _ (keep_in f t m).1)) rest
    go withdraw = rest

pub new_in : (t : Table) (u : Update) (h : ℕ) → u.action ≡ announce h → record { prefix = u.prefix; hop = h } ∈ updated t u
unfolding updated with_announced
new_in t u h e = rw e (Memᴰ.head refl)

pub standing_in : (t : Table) (u : Update) (r : Route) → Standing t u r → r ∈ updated t u
standing_in t u r (announced h e z) = Memᴰ.cast z (new_in t u h e)
standing_in t u r (stood m n) = in_updated t u r m n

-- ---- the entries that leave

pub leaves_leaving : (t : Table) (u : Update) (e : Entry) → leaves t u e ≡ true → Leaving t u e
unfolding leaves withdraws
leaves_leaving t u e h = go (or_true (any (λ (r : Route). strictly_inside r.prefix e.prefix) t || not (any (λ (r : Route). contains r.prefix e.prefix) t)) _ h)
  where
    act : (a : Action) → u.action ≡ a → (withdraws a && same u.prefix e.prefix) ≡ true → Leaving t u e
    act (announce x) z k = absurd (false≢true k)
    act withdraw z k = withdrawn z (same_eq u.prefix e.prefix k)

    sub : (any (λ (r : Route). strictly_inside r.prefix e.prefix) t ≡ true) ⊎ (not (any (λ (r : Route). contains r.prefix e.prefix) t) ≡ true) → Leaving t u e
    sub (inl k) = let r = any_in (λ (r : Route). strictly_inside r.prefix e.prefix) t k in route_inside r.0 r.1 r.2
    sub (inr k) = uncovered (λ r m. any_false (λ (r : Route). contains r.prefix e.prefix) (not_false _ k) m)

    go : ((any (λ (r : Route). strictly_inside r.prefix e.prefix) t || not (any (λ (r : Route). contains r.prefix e.prefix) t)) ≡ true) ⊎ ((withdraws u.action && same u.prefix e.prefix) ≡ true) → Leaving t u e
    go (inl k) = sub (or_true _ _ k)
    go (inr k) = act u.action refl k

pub leaving_leaves : (t : Table) (u : Update) (e : Entry) → Leaving t u e → leaves t u e ≡ true
unfolding leaves withdraws
leaving_leaves t u e (route_inside r m h) = rw (in_any (λ (r : Route). strictly_inside r.prefix e.prefix) m h)
leaving_leaves t u e (uncovered h) = rw (none_any (λ (r : Route). contains r.prefix e.prefix) t h) (go (any (λ (r : Route). strictly_inside r.prefix e.prefix) t))
  where
    go : (b : Bool) → (b || true || (withdraws u.action && same u.prefix e.prefix)) ≡ true
    go true = refl
    go false = refl
leaving_leaves t u e (withdrawn a z) = or_right (any (λ (r : Route). strictly_inside r.prefix e.prefix) t || not (any (λ (r : Route). contains r.prefix e.prefix) t)) _ (rw (a, eq_same z))

-- ---- the cache after an update, entry by entry

-- what is kept is as it should be
pub fresh_entry : (t : Table) (u : Update) (e : Entry) → leaves t u e ≡ false → Covered t (fresh t e)
unfolding fresh hop_of
fresh_entry t u e h = go (match t e.prefix) refl
  where
    go : (o : Option Route) → match t e.prefix ≡ o → Covered t (fresh t e)
    go none f = absurd (clash (leaving_leaves t u e (uncovered (match_none t e.prefix f))) h)
    go (some r) f = record {
      cover = r;
      is_match = f;
      its_hop = rw f refl;
      none_inside = λ r m. is_false (λ k. clash (leaving_leaves t u e (route_inside r m k)) h);
    }

fresh_prefix : (t : Table) (e : Entry) → (fresh t e).prefix ≡ e.prefix
unfolding fresh
fresh_prefix t e = refl

fresh_unchanged : (t : Table) (e : Entry) → e.hop ≡ (fresh t e).hop → fresh t e ≡ e
unfolding fresh
fresh_unchanged t e h = rw (← h)

pub covered_fresh : {t : Table} {e : Entry} → Covered t e → fresh t e ≡ e
unfolding fresh hop_of
covered_fresh E = rw (E.is_match, ← E.its_hop)

pub refreshed_is : (t : Table) (u : Update) (c : Cache) → Refreshed t u c (refreshed t u c) (removed t u c) (changed t u c)
unfolding refreshed removed changed keep
refreshed_is t u [] = at_end
refreshed_is t u (e ∷ c) = go (leaves t u e) refl (refreshed_is t u c)
  where
    rest : Cache
    rest = keep (λ (d : Entry). not (leaves t u d)) c

    new : Entry → Bool
    new d = not (eqb d.hop (fresh t d).hop)

    stays : leaves t u e ≡ false → ¬ Leaving t u e
    stays h k = clash (leaving_leaves t u e k) h

    hop : leaves t u e ≡ false → (b : Bool) → eqb e.hop (fresh t e).hop ≡ b → Refreshed t u c (map (fresh t) rest) (length (keep (leaves t u) c)) (length (keep new rest))
        → Refreshed t u (e ∷ c) (fresh t e ∷ map (fresh t) rest) (length (keep (leaves t u) c)) (length (cond (not b) (e ∷ keep new rest) (keep new rest)))
    hop h true k rec = let z = fresh_unchanged t e (eqb-true e.hop (fresh t e).hop k) in rw z (same_hop (stays h) (rw (← z) (fresh_entry t u e h)) rec)
    hop h false k rec = new_hop (stays h) (fresh_entry t u e h) (fresh_prefix t e) (λ z. eqb-false e.hop (fresh t e).hop k (sym z)) rec

    go : (b : Bool) → leaves t u e ≡ b → Refreshed t u c (map (fresh t) rest) (length (keep (leaves t u) c)) (length (keep new rest))
        → Refreshed t u (e ∷ c) (map (fresh t) (cond (not b) (e ∷ rest) rest)) (length (cond b (e ∷ keep (leaves t u) c) (keep (leaves t u) c))) (length (keep new (cond (not b) (e ∷ rest) rest)))
    go true h rec = left (leaves_leaving t u e h) rec
    go false h rec = hop h (eqb e.hop (fresh t e).hop) refl rec

fresh_by_prefix : (t : Table) (e d : Entry) → e.prefix ≡ d.prefix → fresh t e ≡ fresh t d
unfolding fresh
fresh_by_prefix t e d h = rw h

-- and there is no other cache, and there are no other counts
pub only_refreshed : {t : Table} {u : Update} {c d : Cache} {r k : ℕ} → Refreshed t u c d r k → (d ≡ refreshed t u c) × (r ≡ removed t u c) × (k ≡ changed t u c)
unfolding refreshed removed changed keep
only_refreshed at_end = (refl, refl, refl)
only_refreshed {t} {u} (left {E = e} l rest) =
    let z = only_refreshed rest in
    let h = leaving_leaves t u e l in
    (rw h z.0, rw h (ap suc z.1), rw h z.2)
only_refreshed {t} {u} (same_hop {E = e} n C rest) =
    let z = only_refreshed rest in
    let h : leaves t u e ≡ false = is_false (λ k. n (leaves_leaving t u e k)) in
    let same = covered_fresh C in
    let hop = eq-eqb e.hop (fresh t e).hop (ap (λ (d : Entry). d.hop) (sym same)) in
    (rw (h, same) (ap (λ (l : Cache). e ∷ l) z.0), rw h z.1, rw (h, hop) z.2)
only_refreshed {t} {u} (new_hop {E = e} {D = d} n C p m rest) =
    let z = only_refreshed rest in
    let h : leaves t u e ≡ false = is_false (λ k. n (leaves_leaving t u e k)) in
    let same : fresh t e ≡ d = fresh_by_prefix t e d (sym p) ∙ covered_fresh C in
    let hop = ne_eqb e.hop (fresh t e).hop (λ q. m (ap (λ (d : Entry). d.hop) (sym same) ∙ sym q)) in
    (rw (h, same) (ap (λ (l : Cache). d ∷ l) z.0), rw h z.1, rw (h, hop) (ap suc z.2))

-- ---- entries that do not overlap the updated prefix

module _ (t : Table) (u : Update) (e : Entry) (d : Distinct t) (E : Covered t e) (a : overlap e.prefix u.prefix ≡ false) where
  off : (r : Route) → (contains r.prefix e.prefix ≡ true) ⊎ (strictly_inside r.prefix e.prefix ≡ true) → ¬ (r.prefix ≡ u.prefix)
  off r (inl h) z = (apart_⊑ e.prefix u.prefix a).1 (rw z at (contains_⊑ r.prefix e.prefix h))
  off r (inr h) z = (apart_⊑ e.prefix u.prefix a).0 (rw z at (strict_⊑ r.prefix e.prefix h).0)

  back : (r : Route) → ¬ (r.prefix ≡ u.prefix) → Standing t u r → r ∈ t
  back r n (announced h f z) = absurd (n (ap (λ (r : Route). r.prefix) z))
  back r n (stood m k) = m

  pub same_match : match (updated t u) e.prefix ≡ match t e.prefix
  same_match = match_agree (updated t u) t e.prefix e.prefix (one_each d)
      (λ r m h. (back r (off r (inl h)) (updated_in t u r m), h))
      (λ r m h. (in_updated t u r m (off r (inl h)), h))

  pub apart_stays : leaves (updated t u) u e ≡ false
  apart_stays = is_false (λ h. go (leaves_leaving (updated t u) u e h))
    where
      go : Leaving (updated t u) u e → ⊥
      go (route_inside r m h) = clash h (E.none_inside r (back r (off r (inr h)) (updated_in t u r m)))
      go (uncovered h) =
          let l = match_longest t e.prefix E.is_match in
          clash l.covers (h E.cover (in_updated t u E.cover l.is_route (off E.cover (inl l.covers))))
      go (withdrawn x z) = (apart_⊑ e.prefix u.prefix a).0 (⊑_of_eq (sym z))

  pub apart_unchanged : fresh (updated t u) e ≡ e
  unfolding fresh hop_of
  apart_unchanged = rw (same_match, E.is_match, ← E.its_hop)

-- they are the same list as before
pub apart_same : (t : Table) (u : Update) (c : Cache) → Distinct t → ((e : Entry) → e ∈ c → Covered t e)
    → keep (λ e. not (overlap e.prefix u.prefix)) (refreshed (updated t u) u c) ≡ keep (λ e. not (overlap e.prefix u.prefix)) c
unfolding refreshed keep
apart_same t u [] d E = refl
apart_same t u (e ∷ c) d E = go (overlap e.prefix u.prefix) refl (leaves (updated t u) u e) refl (apart_same t u c d (λ x m. E x (Memᴰ.tail m)))
  where
    out : Route → Bool
    out e = not (overlap e.prefix u.prefix)

    rest : List Route
    rest = keep (λ e. not (leaves (updated t u) u e)) c

    same_pre : out (fresh (updated t u) e) ≡ out e
    same_pre = rw fresh_prefix

    go : (b : Bool) → overlap e.prefix u.prefix ≡ b → (l : Bool) → leaves (updated t u) u e ≡ l
        → keep out (map (fresh (updated t u)) rest) ≡ keep out c
        → keep out (map (fresh (updated t u)) (cond (not l) (e ∷ rest) rest)) ≡ cond (not b) (e ∷ keep out c) (keep out c)
    go true a true h rec = rec
    go true a false h rec = rw (same_pre, a) rec
    go false a true h rec = absurd (clash h (apart_stays t u e d (E e (Memᴰ.head refl)) a))
    go false a false h rec = rw (apart_unchanged t u e d (E e (Memᴰ.head refl)) a, a) (ap (λ (l : List Route). e ∷ l) rec)

-- ---- entries that do

-- an entry with the announced prefix itself is kept and takes the new hop
pub announced_kept : (t : Table) (p : Bits) (h : ℕ) (e : Entry) → Distinct t → Covered t e → e.prefix ≡ p
    → (leaves (updated t (record { prefix = p; action = announce h })) (record { prefix = p; action = announce h }) e ≡ false)
    × ((fresh (updated t (record { prefix = p; action = announce h })) e).hop ≡ h)
unfolding fresh hop_of
announced_kept t p h e d E z = (is_false (λ k. go (leaves_leaving (updated t u) u e k)), rw (longest_match (updated t u) e.prefix (one_each (updated_distinct t u d)) best) refl)
  where
    u : Update
    u = record { prefix = p; action = announce h }

    new : Route
    new = record { prefix = p; hop = h }

    go : Leaving (updated t u) u e → ⊥
    go (route_inside r m k) = old r k (updated_in t u r m)
      where
        old : (r : Route) → strictly_inside r.prefix e.prefix ≡ true → Standing t u r → ⊥
        old r k (announced x f y) = omega (arith, (strict_⊑ r.prefix e.prefix k).1, ap length (ap (λ (r : Route). r.prefix) y ∙ sym z))
        old r k (stood m n) = clash k (E.none_inside r m)
    go (uncovered k) = clash (⊑_contains (⊑_of_eq (sym z))) (k new (new_in t u h refl))
    go (withdrawn f y) = let w : ◌≡◌ {A = ℕ} 0 1 = cc in omega arith

    best : Longest (updated t u) e.prefix new
    best = record { is_route = new_in t u h refl; covers = ⊑_contains (⊑_of_eq (sym z)); longest = λ r m k. omega (arith, ⊑_length (contains_⊑ r.prefix e.prefix k), ap length z) }

-- an entry that an announced prefix lies strictly inside leaves, whatever its hop
pub announced_inside_leaves : (t : Table) (u : Update) (h : ℕ) (e : Entry) → u.action ≡ announce h → strictly_inside u.prefix e.prefix ≡ true → leaves (updated t u) u e ≡ true
announced_inside_leaves t u h e f k = leaving_leaves (updated t u) u e (route_inside (record { prefix = u.prefix; hop = h }) (new_in t u h f) k)

-- an entry with the withdrawn prefix leaves, whatever still covers it
pub withdrawn_leaves : (t : Table) (u : Update) (e : Entry) → u.action ≡ withdraw → u.prefix ≡ e.prefix → leaves (updated t u) u e ≡ true
withdrawn_leaves t u e f k = leaving_leaves (updated t u) u e (withdrawn f k)

-- ---- calls

-- an update that is not refused does what demand 3 asks
pub update_outcome : (L : Limits) (s : State) (a : Bits) (n : ℕ) (act : Action) → LegalState L s → refusal L s.table n (take n a) act ≡ 0
    → UpdateOutcome s (record { prefix = take n a; action = act }) (step L s (update a n act))
unfolding step judged accepted
update_outcome L s a n act S e = rw e (record {
  routes = λ r. (updated_in s.table u r, standing_in s.table u r);
  removed = removed (updated s.table u) u s.cache;
  changed = changed (updated s.table u) u s.cache;
  entries = refreshed_is (updated s.table u) u s.cache;
  counts = refl;
  tallies = refl;
  others = apart_same s.table u s.cache S.distinct S.covered;
})
  where
    u : Update
    u = record { prefix = take n a; action = act }

-- a refusal changes nothing
pub update_refused : (L : Limits) (s : State) (a : Bits) (n : ℕ) (act : Action) (k : ℕ) → refusal L s.table n (take n a) act ≡ suc k
    → step L s (update a n act) ≡ record { answer = refused (suc k); state = s }
unfolding step judged
update_refused L s a n act k e = rw e
