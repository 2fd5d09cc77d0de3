-- `placement_at` meets its contract: the first j starts are filled in, and the others are 0. Assumes nothing.
use mathlib.Core.Path.{◌≡◌}
use mathlib.Core.List.{List}
use Prim.Native.Nat.{ℕ, ◌+◌, ◌*◌}
use lib.ListN.{get_or}
use Rattle.cells.specs.Bytes.{byte_values}
use Rattle.placements.proofs.Begun.{begun}
use Rattle.placements.proofs.starts.placement_at.Given as goal

abbrev pub start : List ℕ → ℕ → ℕ → ℕ
start bytes from i = get_or bytes (from + 2 * i) 0 * byte_values + get_or bytes (from + 2 * i + 1) 0

abbrev pub invariant-loop-j : goal.invariant-loop-j
invariant-loop-j l = (l.found.count ≡ l.m) × (l.found.starts ≡ begun (start l.bytes l.from) l.j)
