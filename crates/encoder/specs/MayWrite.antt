-- What every word writer tests behind its figures. Assumes nothing.
use Rattle.std.specs.Prelude.{◌&&◌, List, ℕ, eqb, length}
use Rattle.refusals.specs.Refusals.{must, served, wrong_length, bad_symbol, bad_starts}
use Rattle.combinatorics.specs.Bursts.{apart}
use Rattle.combinatorics.specs.Lists.{all_below}
use Rattle.cells.specs.Outcomes.{Held, in_use}

-- "word write 1 2 3 5 4" from 3 on: m bursts of b in a word of n symbols, a message of k symbols below q, a lent word of so many symbols
unfoldable pub write_number : (n m b q k : ℕ) → Held → List ℕ → ℕ → ℕ
write_number n m b q k at ms lent =
    must (eqb at.count m && eqb (length ms) k && eqb lent n) wrong_length
    (must (apart b n 0 (in_use at)) bad_starts
    (must (all_below q ms) bad_symbol
    served))
