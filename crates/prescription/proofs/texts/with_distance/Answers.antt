-- `with_distance` meets its contract. Assumes nothing.
use Rattle.std.proofs.Common.{pos, ap, ◌∙◌, zero-lt-suc, arith}
use lib.Ieee.{Float, binary64, of_bits, div}
use Rattle.prescription.proofs.Counting.{quotient, two_float, two-worth}
use Rattle.prescription.proofs.Reading.{distance-fits}
use Rattle.prescription.proofs.texts.with_distance.Goals as goal

pub returns : goal.returns
unfolding of_bits
returns c =
    let a = c.args in
    distance-fits a.right a.left a.halves _ c.if-halves-lt-MIN_HALVES.false c.if-halves-gt-MAX_HALVES.false
    (ap (λ (x : Float). div binary64 x two_float) c.from.ensures ∙ quotient (pos a.halves) 2 two_float (omega arith) (zero-lt-suc 1) two-worth)
