-- `write_lane` meets its contract: a map that can't be covered is kept. Assumes nothing.
use mathlib.Core.Path.{sym, ap, ◌∙◌}
use Rattle.refusals.specs.Numbers.{number_of}
use Rattle.cells.specs.Outcomes.{Covered, encode_under}
use Rattle.codes.specs.Given.{coding_in}
use Rattle.lanes_roundtrip.proofs.Covering.{uncovered-keeps}
use Rattle.lanes_roundtrip.proofs.lane_by_lane.write_lane.Goals as goal

pub returns-in_default-clause-word : goal.returns-in_default-clause-word
returns-in_default-clause-word c =
    let a = c.args in
    sym (uncovered-keeps a.layout c.requires (number_of c.in_default.field-0) a.message.now a.word.now)
    ∙ ap (λ (o : Covered). (encode_under (coding_in a.layout) o.placement a.message.now a.word.now).word) c.in_default.ensures
