-- `script::number` meets its contract: after digits of the value so far, the rest is read as it is from the start. Assumes nothing.
use Prim.Native.Nat.{◌+◌, ◌≤◌}
use mathlib.Core.Path.{◌≡◌}
use Rattle.script.proofs.NumberLaws.{Counted}
use Rattle.script.proofs.number.Given as goal

abbrev pub invariant-loop-byte : goal.invariant-loop-byte
invariant-loop-byte l = (l.end ≡ l.at + l.byte-index) × (l.value ≤ l.most) × Counted l.block l.at l.value l.end
