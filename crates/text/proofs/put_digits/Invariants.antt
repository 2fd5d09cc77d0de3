-- `put_digits` meets its contract: the digits of the first i values stand in the line. Assumes nothing.
use mathlib.Core.List.{map}
use Prim.Native.Nat.{◌+◌}
use lib.ListN.{take}
use Rattle.text.specs.Text.{hex_digit}
use Rattle.text.proofs.Line.{Put}
use Rattle.text.proofs.put_digits.Given as goal

abbrev pub invariant-loop-i : goal.invariant-loop-i
invariant-loop-i l = Put l.at (map hex_digit (take l.i l.values)) l.initial.line l.line (l.at + l.i)
