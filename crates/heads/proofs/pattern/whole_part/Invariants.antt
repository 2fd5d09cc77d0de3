-- `whole_part` meets its contract: the first j blocks of the part stand in the answer. Assumes nothing.
use mathlib.Core.Path.{◌≡◌}
use Prim.Native.Nat.{ℕ, ◌+◌, ◌*◌, ◌<◌}
use lib.ListN.{length, get_or}
use Rattle.cells.specs.Figures.{max_bursts}
use Rattle.heads.proofs.pattern.whole_part.Given as goal

abbrev pub invariant-loop-j : goal.invariant-loop-j
invariant-loop-j l = (l.from ≡ l.part * l.m) × (length l.blocks ≡ max_bursts) × ((x : ℕ) → x < l.j → get_or l.blocks x 0 ≡ l.from + x)
