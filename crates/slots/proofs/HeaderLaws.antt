-- What a header that was read does. Assumes nothing.
use mathlib.Core.Path.{◌≡◌}
use mathlib.Core.List.{List}
use Prim.Native.Nat.{ℕ}
use Rattle.std.specs.Prelude.{Result, Ok}
use Rattle.sizes.specs.declared.refusal.Unsound.{Unsound}
use Rattle.slots.specs.Layout.{entries_held, Shaped}
use Rattle.slots.specs.Headers.{HeaderRead}
use Rattle.slots.specs.declared.Header.{Header}

module _ (w : List ℕ) (answer : Result Header Unsound) (read : HeaderRead w answer) (h : Header) (is : answer ≡ Ok h) where
  pub header_shaped : Shaped w
  header_shaped = (rw is at read).0

  pub header_entries : h.entries ≡ entries_held w
  header_entries = (rw is at read).2
