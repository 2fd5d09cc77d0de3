-- `put_nibbles` meets its contract: the nibbles of the first i bytes stand in the line. Assumes nothing.
use mathlib.Core.Path.{◌≡◌}
use mathlib.Core.Bool.{true}
use lib.ListN.{take}
use Rattle.combinatorics.specs.Lists.{all_below}
use Rattle.text.specs.Nibbles.{nibbles}
use Rattle.text.proofs.Line.{Put}
use Rattle.text.proofs.put_nibbles.Given as goal

abbrev pub invariant-loop-byte : goal.invariant-loop-byte
invariant-loop-byte l =
    let done = nibbles (take l.byte-index l.bytes) in
    Put l.at done l.initial.line l.line l.behind × (all_below 16 done ≡ true)
