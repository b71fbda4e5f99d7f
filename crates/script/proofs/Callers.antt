-- What a caller needs of a line's end. Assumes nothing.
use Prim.Native.Nat.{ℕ, ◌≤◌}
use native.Mathlib.Omega.{arith}
use mathlib.Core.List.{List}
use Rattle.script.specs.Blocks.{line_end}

pub ends_after : (l : List ℕ) (at : ℕ) → at ≤ line_end l at
unfolding line_end
ends_after l at = omega arith
