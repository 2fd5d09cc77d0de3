-- `put_part` meets its contract: the first j blocks of the part have their entries, and those before the part stand. Assumes nothing.
use mathlib.Core.Path.{◌≡◌}
use Prim.Native.Nat.{ℕ, suc, ◌+◌, ◌<◌}
use lib.ListN.{length, get_or}
use Rattle.cells.specs.Cut.{piece_start}
use Rattle.params.specs.Given.{max_blocks}
use Rattle.params.proofs.heads.put_part.Given as goal

abbrev pub invariant-loop-j : goal.invariant-loop-j
invariant-loop-j l =
    (l.head ≡ l.from + piece_start l.len l.m l.j) × (length l.heads ≡ suc max_blocks) × ((k : ℕ) → k < l.first → get_or l.heads k 0 ≡ get_or l.initial.heads k 0)
    × ((x : ℕ) → x < l.j → get_or l.heads (l.first + x) 0 ≡ l.from + piece_start l.len l.m x)
