-- `run_lanes` meets its contract: the calls of the law leave what their definitions say. Assumes nothing.
use mathlib.Core.Path.{ap, ◌∙◌}
use Rattle.refusals.specs.Numbers.{answer_of}
use Rattle.lanes.specs.Outcomes.{Rearranged}
use Rattle.lanes_roundtrip.proofs.Chain.{when-uncovered, when-covered}
use Rattle.lanes_roundtrip.proofs.run_lanes.Goals as goal

pub returns-then-not-all_covered : goal.returns-then-not-all_covered
returns-then-not-all_covered c =
    let a = c.args in
    when-uncovered a.layout a.depth a.map.now a.sent.now a.damage.now a.words.now a.interleaved.now a.read.now c.requires
    c.deinterleave_fitting.new.words c.all_covered.result
    (ap (λ (o : Rearranged). o.buffer) c.deinterleave_fitting.ensures) c.all_covered.ensures (c.if-not-all_covered.true)

pub returns : goal.returns
returns c =
    let a = c.args in
    when-covered a.layout a.depth a.map.now a.sent.now a.damage.now a.words.now a.interleaved.now a.read.now c.requires
    c.deinterleave_fitting.new.words c.all_covered.result
    (ap (λ (o : Rearranged). o.buffer) c.deinterleave_fitting.ensures) c.all_covered.ensures (c.if-not-all_covered.false)
    c.write_interleaved.new.interleaved c.spoil_defects.new.interleaved c.write_interleaved.new.words
    c.read_interleaved.new.words c.read_interleaved.new.read (answer_of c.read_interleaved.result)
    c.write_interleaved.ensures c.spoil_defects.ensures (c.words-2-1.given ∙ c.words-1.given)
    c.read_interleaved.ensures.words
    c.read_interleaved.ensures.read
