-- What becomes of the entry in hand, by what the table says of its prefix. Assumes nothing.
use mathlib.Core.Path.{◌≡◌, refl, sym, ◌∙◌, subst}
use mathlib.Core.Bool.{Bool, true, false, not, ◌&&◌, ◌||◌}
use mathlib.Core.List.{List}
use Prim.Native.Nat.{ℕ, ◌%◌, ◌≤◌, ◌<◌}
use native.Mathlib.Omega.{arith}
use lib.ListN.{take}
use Rattle.std.specs.Prelude.{None, Some}
use Rattle.std.proofs.lemmas.Option.{none-some}
use Rattle.std.proofs.Math.Option as math
use Rattle.std.proofs.Math.Option.{none, some}
use Rattle.prefix.specs.Bits.{bits}
use Rattle.prefix.specs.Prefix.{contains, strictly_inside, overlap, same}
use Rattle.prefix.specs.Addresses.{address_bits, ipv4_bits}
use Rattle.prefix.specs.declared.Address.{Address}
use Rattle.prefix.proofs.Booleans.{or_right}
use Rattle.model.specs.Lists.{◌∈◌, any}
use Rattle.model.specs.Routes.{Route, match}
use Rattle.model.specs.Model.{withdraws, leaves, hop_of, fresh}
use Rattle.model.specs.Demands.{uncovered}
use Rattle.model.proofs.ListLaws.{in_any}
use Rattle.model.proofs.Match.{match_longest, match_none}
use Rattle.model.proofs.Updates.{leaving_leaves}
use Rattle.sizes.specs.BothStores.{slot_word, word}
use Rattle.slots.specs.Layout.{cache_of}
use Rattle.table.specs.Tables.{routes}
use Rattle.search.specs.Matches.{found_for}
use Rattle.search.specs.Standings.{Judged, JudgedAt}
use Rattle.search.specs.declared.Match.{Match}
use Rattle.search.specs.declared.Standing.{Standing}
use Rattle.lru_cache.proofs.Holding.{slot_entry}
use Rattle.entries.specs.Caches.{entries, SoundEntries, entry_in}
use Rattle.updates.specs.Updates.{action_of, prefix_of_update, update_of}
use Rattle.updates.specs.declared.Prefix.{Prefix}
use Rattle.updates.specs.declared.Update.{Update}
use Rattle.renewal.specs.declared.Pass.{Pass}
use Rattle.renewal.specs.Passes.{Within, next_pass, Turned, Drops, Keeps, Ready, Turns, Touches, Withdrawn}
use Rattle.pairs.proofs.Pairing.{routes_hops}
use Rattle.renewal.proofs.Turning.{right_already}

-- ---- each way out

found_none : (o : math.Option Route) → found_for o ≡ None → o ≡ none
found_none none e = refl
found_none (some M) e = absurd (none-some _ (sym e))

found_some : (o : math.Option Route) (m : Match) → found_for o ≡ Some m → (M : Route) × (o ≡ some M) × (M.hop ≡ m.hop)
found_some none m e = absurd (none-some m e)
found_some (some M) m e = (M, refl, cc)

module _ (table w : List ℕ) (u : Update) (p q : Pass) (held : Prefix) (in_range : Within w p) (in_hand : 0 < p.at)
    (ea : take 32 (address_bits held.address) ≡ bits 32 (word w (slot_word p.at 0))) (en : held.length ≡ word w (slot_word p.at 1) % 64) where
  is_apart : Ready table w u → Touches u.prefix held false → overlap (entry_in w p.at).prefix (prefix_of_update u) ≡ false
  unfolding cache_of
  is_apart R told = rw (← ea, ← en) (sym (told (rw en (R.its_entries.plain.short p.at in_hand (omega (arith, in_range.at_most, in_range.count)))) R.short))

  in_entries : SoundEntries w → entry_in w p.at ∈ entries w
  unfolding entries
  in_entries S = slot_entry S.slots p.at (in_hand, omega (arith, in_range.at_most, in_range.count))

  pub untouched : (r : Bool) → Touches u.prefix held r → r ≡ false → q ≡ next_pass p 0 → Turns table w w u p q
  untouched r told e next R = right_already in_range in_hand next (routes table) (update_of u) R.its_entries
      (R.apart (entry_in w p.at) (in_entries R.its_entries) (is_apart R (subst (Touches u.prefix held) e told)))

module _ (table w w' : List ℕ) (u : Update) (p q : Pass) (a : Address) (n : ℕ) (s : Standing) (in_range : Within w p) (in_hand : 0 < p.at)
    (ea : take 32 (address_bits a) ≡ bits 32 (word w (slot_word p.at 0))) (en : n ≡ word w (slot_word p.at 1) % 64) (j : JudgedAt table (ipv4_bits a) n s) where
  low : SoundEntries w → n ≤ 32
  low S = rw en (S.plain.short p.at in_hand (omega (arith, in_range.at_most, in_range.count)))

  its_prefix : (entry_in w p.at).prefix ≡ take n (ipv4_bits a)
  unfolding cache_of
  its_prefix = rw (ea, en)

  judged : Ready table w u → Judged table (entry_in w p.at).prefix s
  judged R = rw its_prefix (j.sound (low R.its_entries) R.its_table)

  pub no_match : s.found ≡ None → Drops w w' p q → Turns table w w' u p q
  no_match e d R =
      let m = found_none (match (routes table) (entry_in w p.at).prefix) (sym (judged R).is_match ∙ e) in
      d (routes table) (update_of u) R.its_entries (leaving_leaves (routes table) (update_of u) (entry_in w p.at) (uncovered (match_none (routes table) (entry_in w p.at).prefix m)))

  inside_leaves : Ready table w u → s.inside ≡ true → leaves (routes table) (update_of u) (entry_in w p.at) ≡ true
  unfolding leaves
  inside_leaves R e = rw (← (judged R).is_inside, e)

  pub route_inside : s.inside ≡ true → Drops w w' p q → Turns table w w' u p q
  route_inside e d R = d (routes table) (update_of u) R.its_entries (inside_leaves R e)

  gone : Ready table w u → (r : Bool) → Withdrawn u (record { address = a; length = n }) r → r ≡ (withdraws (action_of u.action) && same (prefix_of_update u) (entry_in w p.at).prefix)
  gone R r told = rw its_prefix (told (low R.its_entries) R.short)

  withdrawn_leaves : Ready table w u → (r : Bool) → Withdrawn u (record { address = a; length = n }) r → r ≡ true → leaves (routes table) (update_of u) (entry_in w p.at) ≡ true
  unfolding leaves
  withdrawn_leaves R r told e = or_right
      (any (λ (S : Route). strictly_inside S.prefix (entry_in w p.at).prefix) (routes table) || not (any (λ (S : Route). contains S.prefix (entry_in w p.at).prefix) (routes table)))
      (withdraws (action_of u.action) && same (prefix_of_update u) (entry_in w p.at).prefix) (sym (gone R r told) ∙ e)

  pub own_withdrawn : (r : Bool) → Withdrawn u (record { address = a; length = n }) r → r ≡ true → Drops w w' p q → Turns table w w' u p q
  own_withdrawn r told e d R = d (routes table) (update_of u) R.its_entries (withdrawn_leaves R r told e)

  stays : Ready table w u → s.inside ≡ false → (r : Bool) → Withdrawn u (record { address = a; length = n }) r → r ≡ false → (M : Route) → match (routes table) (entry_in w p.at).prefix ≡ some M
      → leaves (routes table) (update_of u) (entry_in w p.at) ≡ false
  unfolding leaves
  stays R out r told e M m =
      let l = match_longest (routes table) (entry_in w p.at).prefix m in
      let c : any (λ (S : Route). contains S.prefix (entry_in w p.at).prefix) (routes table) ≡ true = in_any (λ (S : Route). contains S.prefix (entry_in w p.at).prefix) l.is_route l.covers in
      rw (← (judged R).is_inside, out, c, ← gone R r told, e)

  its_hop : (M : Route) → match (routes table) (entry_in w p.at).prefix ≡ some M → (fresh (routes table) (entry_in w p.at)).hop ≡ M.hop
  unfolding fresh hop_of
  its_hop M m = rw m

  pub stays_fresh : (m : Match) → s.found ≡ Some m → s.inside ≡ false → (r : Bool) → Withdrawn u (record { address = a; length = n }) r → r ≡ false → Keeps w w' p m.hop q → Turns table w w' u p q
  stays_fresh m f out r told e k R = go (found_some (match (routes table) (entry_in w p.at).prefix) m (sym (judged R).is_match ∙ f))
    where
      go : (M : Route) × (match (routes table) (entry_in w p.at).prefix ≡ some M) × (M.hop ≡ m.hop) → Turned (routes table) (update_of u) w w' p q
      go (M, longest, z) =
          k (routes table) (update_of u) R.its_entries (stays R out r told e M longest) (its_hop M longest ∙ z)
          (omega (arith, z, routes_hops R.its_table M (match_longest (routes table) (entry_in w p.at).prefix longest).is_route))
