-- `byte_width` meets its contract: the values are those that so many symbols spell, and no smaller number was enough. Assumes nothing.
use mathlib.Core.Path.{◌≡◌}
use mathlib.Core.Bool.{false}
use Prim.Native.Nat.{ℕ, ◌^◌, ◌<◌}
use Rattle.cells.proofs.Bytes.{spells_byte}
use Rattle.params.proofs.bytes.byte_width.Given as goal

abbrev pub invariant-loop-width : goal.invariant-loop-width
invariant-loop-width l = (l.values ≡ l.q ^ l.width) × ((x : ℕ) → x < l.width → spells_byte l.q x ≡ false)
