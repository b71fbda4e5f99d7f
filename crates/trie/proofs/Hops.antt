-- A hop that is stored leaves every other route, and the shape of the trie. Assumes nothing.
use mathlib.Core.Path.{◌≡◌, sym, ap, ◌∙◌}
use mathlib.Core.Logic.{◌⊎◌, inl, inr}
use mathlib.Core.Option.{Option, some}
use Prim.Native.Nat.{ℕ}
use native.Mathlib.Decide.{ℕ_discrete}
use Rattle.prefix.specs.Bits.{Bits}
use Rattle.trie.specs.Trie.{Cell, Root, Kid, Trie, Fits, Sound, Held}
use Rattle.trie.specs.Updates.{set_hop}
use Rattle.trie.proofs.Descent.{inject}
use Rattle.trie.proofs.Stores.{set_hop_same, set_hop_other}

module _ {live : ℕ → Type 0} {v : Trie} (S : Sound live v) (i : ℕ) (o : Option ℕ) where
  pub hop_sound : Sound live (set_hop v i o)
  unfolding set_hop
  hop_sound = record {
    points = λ c j ci h. let p = S.points c j ci h in record { is_live = p.is_live; back = p.back; fits = fits c (v.prefix j) p.fits };
    owned = λ j l. let k = S.owned j l in record { inside = k.inside; child = k.child };
  }
    where
      fits : (c : Cell) (p : Bits) → Fits v c p → Fits (set_hop v i o) c p
      fits Root p f = tt
      fits (Kid a b) p f = f

  pub hop_kept : {p : Bits} {h : ℕ} → Held live v p h → ¬ (p ≡ v.prefix i) → Held live (set_hop v i o) p h
  unfolding set_hop
  hop_kept r n = record {
    slot = r.slot;
    is_live = r.is_live;
    is_prefix = r.is_prefix;
    is_hop = set_hop_other v i o r.slot (λ z. n (sym r.is_prefix ∙ ap v.prefix z)) ∙ r.is_hop;
  }

  pub hop_inv : {p : Bits} {h : ℕ} → live i → Held live (set_hop v i o) p h → ((p ≡ v.prefix i) × (o ≡ some h)) ⊎ (Held live v p h × (¬ (p ≡ v.prefix i)))
  unfolding set_hop
  hop_inv {p} {h} l r = go (ℕ_discrete r.slot i)
    where
      go : Dec (r.slot ≡ i) → ((p ≡ v.prefix i) × (o ≡ some h)) ⊎ (Held live v p h × (¬ (p ≡ v.prefix i)))
      go (yes z) = inl (sym r.is_prefix ∙ ap v.prefix z, sym (set_hop_same v i o) ∙ ap (set_hop v i o).hop (sym z) ∙ r.is_hop)
      go (no n) = inr (
        record { slot = r.slot; is_live = r.is_live; is_prefix = r.is_prefix; is_hop = sym (set_hop_other v i o r.slot n) ∙ r.is_hop },
        λ y. n (inject S r.slot i r.is_live l (r.is_prefix ∙ y)),
      )
