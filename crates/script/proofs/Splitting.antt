-- What splitting at a mark leaves. Assumes nothing.
use Prim.Native.Nat.{ℕ, ◌<◌, ◌≤◌}
use native.Mathlib.Omega.{arith}
use mathlib.Core.Path.{◌≡◌, refl}
use mathlib.Core.Bool.{Bool, true, false, ◌&&◌, not}
use mathlib.Core.List.{List, [], ◌∷◌}
use lib.Dec.{leb, eqb}
use borrow.Author.Tests.{leb-true, ne_eqb, not-true}
use Rattle.script.specs.Lines.{digit, digits, onto, parts}
use Rattle.script.specs.Blocks.{before}
use Rattle.answers.proofs.Booleans.{by_cases, both_true}

-- a digit is no space, no point and no line feed
pub no_mark : (b m : ℕ) → digit b ≡ true → m < 48 → eqb b m ≡ false
unfolding digit
no_mark b m h k =
    let low : 48 ≤ b = leb-true 48 b (both_true (leb 48 b) (leb b 57) h).0 in
    ne_eqb b m (λ e. omega arith)

-- the first part is what stands before the first mark
pub parts_first : (m : ℕ) (t : List ℕ) → (ps : List (List ℕ)) × (parts m t ≡ before m t ∷ ps)
unfolding parts before onto
parts_first m [] = ([], refl)
parts_first m (b ∷ t) =
    by_cases (eqb b m) (λ e. (parts m t, rw e))
    (λ e. let (ps, is) = parts_first m t in (ps, rw (e, is)))

-- no byte is the mark
unfoldable pub free : ℕ → List ℕ → Bool
free m [] = true
free m (b ∷ l) = not (eqb b m) && free m l

pub digits_free : (m : ℕ) (x : List ℕ) → m < 48 → digits x ≡ true → free m x ≡ true
unfolding digits free
digits_free m [] k h = refl
digits_free m (b ∷ x) k h =
    let (d, ds) = both_true (digit b) (digits x) h in
    rw (no_mark b m d k, digits_free m x k ds)

-- then they are one part
pub parts_last : (m : ℕ) (x : List ℕ) → free m x ≡ true → parts m x ≡ x ∷ []
unfolding parts free onto
parts_last m [] h = refl
parts_last m (b ∷ x) h =
    let (d, ds) = both_true (not (eqb b m)) (free m x) h in
    rw (not-true (eqb b m) d, parts_last m x ds)
