-- `fitting_round_trip` meets its contract, test by test. Assumes nothing.
use mathlib.Core.Path.{◌≡◌, sym, ◌∙◌}
use mathlib.Core.Bool.{true}
use native.Mathlib.Omega.{arith}
use Rattle.codes.specs.Given.{coding_in}
use Rattle.codes.proofs.Layouts.{in_order}
use Rattle.lanes_roundtrip.proofs.Tests.{too_few, too-many, in-depth, trip-depth, trip-sizes, trip-symbols}
use Rattle.lanes_roundtrip.proofs.fitting_round_trip.Goals as goal
use Rattle.lanes_roundtrip.proofs.fitting_round_trip.Goals.{Start}

-- the figures of the layout fit
fit : (s : Start) → (let k = coding_in s.args.layout in (k.in_range ≡ true) × (k.fits ≡ true))
fit s = in_order s.args.layout s.requires

pub returns-then-depth-lt-MIN_DEPTH : goal.returns-then-depth-lt-MIN_DEPTH
returns-then-depth-lt-MIN_DEPTH c =
    let a = c.args in
    trip-depth (coding_in a.layout) a.depth a.map.now a.sent.now a.damage.now a.words.now a.interleaved.now a.read.now
    (fit (goal.at.returns-then-depth-lt-MIN_DEPTH c).Start).0 (fit (goal.at.returns-then-depth-lt-MIN_DEPTH c).Start).1 (too_few a.depth c.if-depth-lt-MIN_DEPTH.true)

pub returns-then-depth-gt-MAX_DEPTH : goal.returns-then-depth-gt-MAX_DEPTH
returns-then-depth-gt-MAX_DEPTH c =
    let a = c.args in
    trip-depth (coding_in a.layout) a.depth a.map.now a.sent.now a.damage.now a.words.now a.interleaved.now a.read.now
    (fit (goal.at.returns-then-depth-gt-MAX_DEPTH c).Start).0 (fit (goal.at.returns-then-depth-gt-MAX_DEPTH c).Start).1 (too-many a.depth (omega arith) c.if-depth-gt-MAX_DEPTH.true)

pub returns-then-not-sized : goal.returns-then-not-sized
returns-then-not-sized c =
    let a = c.args in
    trip-sizes (coding_in a.layout) a.depth a.map.now a.sent.now a.damage.now a.words.now a.interleaved.now a.read.now
    (fit (goal.at.returns-then-not-sized c).Start).0 (fit (goal.at.returns-then-not-sized c).Start).1 (in-depth a.depth (omega arith) (omega arith)) (sym c.sized.ensures ∙ c.if-not-sized.true)

pub returns-then-not-in_alphabet : goal.returns-then-not-in_alphabet
returns-then-not-in_alphabet c =
    let a = c.args in
    trip-symbols (coding_in a.layout) a.depth a.map.now a.sent.now a.damage.now a.words.now a.interleaved.now a.read.now
    (fit (goal.at.returns-then-not-in_alphabet c).Start).0 (fit (goal.at.returns-then-not-in_alphabet c).Start).1 (in-depth a.depth (omega arith) (omega arith)) (sym c.sized.ensures ∙ c.if-not-sized.false)
    (sym c.in_alphabet.ensures ∙ c.if-not-in_alphabet.true)
