-- `LongParams::figures` meets its contract: the refusals in their order, then the layout. Assumes nothing.
use mathlib.Core.Path.{◌≡◌, sym, ◌∙◌}
use Rattle.cells.proofs.Outcomes.{figures-invalid}
use Rattle.construction_b.specs.Figures.{LongParams, long_params, in_range}
use Rattle.construction_b.specs.Outcomes.{coding}
use Rattle.params.proofs.LongLaying.{range_same}
use Rattle.params.proofs.long.LongParams.figures.Goals as goal
use Rattle.params.proofs.long.LongParams.figures.Goals.{After-in_range, Start}

abbrev figures : Start → LongParams
figures s = long_params s.args.n s.args.q s.args.b

tested : (s : After-in_range) → in_range (figures s.before) ≡ s.in_range.result
tested s = sym (range_same (figures s.before)) ∙ sym s.in_range.ensures

pub laid_out-requires : goal.laid_out-requires
laid_out-requires c = tested (goal.at.laid_out-requires c).After-in_range ∙ c.if-not-in_range.false

pub returns-then-not-in_range-clause-answer : goal.returns-then-not-in_range-clause-answer
returns-then-not-in_range-clause-answer c = sym (figures-invalid (coding (figures (goal.at.returns-then-not-in_range-clause-answer c).Start)) (tested (goal.at.returns-then-not-in_range-clause-answer c).After-in_range ∙ c.if-not-in_range.true))
