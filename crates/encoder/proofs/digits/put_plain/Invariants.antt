-- `put_plain` meets its contract: the digits from position j on are made. Assumes nothing.
use mathlib.Core.Path.{◌≡◌}
use mathlib.Core.List.{List}
use Prim.Native.Nat.{ℕ, ◌+◌, ◌≤◌, ◌<◌}
use lib.ListN.{length, get_or}
use Rattle.cells.specs.Digits.{Place, plain}
use Rattle.encoder.specs.Digits.{max_digits, SpelledFrom}
use Rattle.encoder.proofs.digits.put_plain.Given as goal

abbrev pub invariant-loop-j : goal.invariant-loop-j
invariant-loop-j l =
    (length l.digits ≡ max_digits)
    × ((ps : List Place) (v : ℕ) → length ps ≤ max_digits → l.from + l.count ≤ length ps → ((x : ℕ) → x < l.count → get_or ps (l.from + x) plain ≡ plain)
    → SpelledFrom l.q ps v (l.from + l.count) l.value l.initial.digits → SpelledFrom l.q ps v (l.from + l.j) l.left l.digits)
