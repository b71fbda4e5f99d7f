-- Sound caches carry every list of entries that do not overlap, in every order of use. Assumes nothing.
use mathlib.Core.Path.{◌≡◌, refl, sym, ap, ◌∙◌, subst}
use mathlib.Core.Bool.{false}
use mathlib.Core.List.Memᴰ
use mathlib.Core.List.{List, [], ◌∷◌, ◌++◌, map}
use Prim.Native.Nat.{ℕ, ◌<◌}
use native.Mathlib.Decide.{dec_lt}
use native.Mathlib.Omega.{arith}
use lib.ListN.{length, replicate, length-append, length-replicate}
use lib.Seq.{take-append_seam}
use Rattle.prefix.specs.Bits.{Bits}
use Rattle.prefix.specs.Prefix.{overlap, ◌⊑◌}
use Rattle.prefix.proofs.Order.{take_⊑}
use Rattle.model.specs.Lists.{◌∈◌, largest, p_cons}
use Rattle.model.specs.Model.{Entry}
use Rattle.model.specs.Demands.{NoOverlap}
use Rattle.model.proofs.ListLaws.{le_largest}
use Rattle.lru_cache.specs.Slots.{Cache}
use Rattle.lru_cache.specs.Sound.{Slot, SoundCache, entry_of, stretch, order, entries}
use Rattle.lru_cache.specs.Changes.{insert_first}
use Rattle.lru_cache.specs.Results.{Short, Free, Inserted, Carried}
use Rattle.lru_cache.proofs.Inserting.{insert_found, insert_first_inserts}
use Rattle.lru_cache.proofs.Removing.{empty_sound}
use Rattle.lru_cache.proofs.Holding.{slot_entry}

-- one more entry in front
more : (E : Entry) (es : List Entry) → ((D : Entry) → D ∈ es → overlap E.prefix D.prefix ≡ false) → Carried es → Carried (E ∷ es)
more E es apart C = go (dec_lt 0 (length es)) C.sound C.holds
  where
    done : (w : Cache) → Inserted (length es) C.cache w E.prefix E.hop → Carried (E ∷ es)
    done w I = record { cache = w; sound = I.sound; holds = I.holds ∙ ap (λ (l : List Entry). E ∷ l) C.holds }

    go : Dec (0 < length es) → SoundCache (length es) C.cache → entries (length es) C.cache ≡ es → Carried (E ∷ es)
    go (no h) S e =
        let z : length es ≡ 0 = omega arith in
        done (insert_first C.cache E.prefix E.hop) (subst (λ (k : ℕ). Inserted k C.cache (insert_first C.cache E.prefix E.hop) E.prefix E.hop) (sym z) (insert_first_inserts (subst (λ (k : ℕ). SoundCache k C.cache) z S) E.prefix E.hop))
    go (yes h) S e = done _ (insert_found S X E.prefix E.hop _ _ h short within free refl refl)
      where
        -- its address, made as long as any entry
        X : Bits
        X = E.prefix ++ replicate (largest (map (λ D. length D.prefix) es)) false

        held : (k : ℕ) → Slot (length es) k → entry_of C.cache k ∈ es
        held k l = subst (λ (q : List Entry). entry_of C.cache k ∈ q) e (slot_entry S k l)

        short : Short (length es) C.cache X
        short k l = omega (arith, le_largest (Memᴰ.map (λ D. length D.prefix) (held k l)), length-append E.prefix (replicate (largest (map (λ D. length D.prefix) es)) false), length-replicate (largest (map (λ D. length D.prefix) es)) false)

        within : E.prefix ⊑ X
        within = subst (λ (p : Bits). p ⊑ X) (take-append_seam E.prefix (replicate (largest (map (λ D. length D.prefix) es)) false)) (take_⊑ (length E.prefix) X)

        free : Free (length es) C.cache E.prefix
        free k l = apart (entry_of C.cache k) (held k l)

pub carried : (es : List Entry) → NoOverlap es → Carried es
unfolding entries order stretch
carried [] p = record { cache = blank; sound = empty_sound blank refl refl refl; holds = refl }
  where
    blank : Cache
    blank = record { entry = λ i. []; hop = λ i. 0; branch_length = λ i. 0; child = λ q. 0; up = λ x. 0; prev = λ i. 0; next = λ i. 0 }
carried (E ∷ es) (p_cons h p) = more E es h (carried es p)
