-- `burgzemi_deinterleave` meets its contract: what `lanes::deinterleave` says. Assumes nothing.
use Rattle.lanes.specs.Outcomes.{deinterleave_out}
use Rattle.exports.proofs.burgzemi_deinterleave.Goals as goal

pub returns : goal.returns
unfolding deinterleave_out
returns c = rw c.answer.ensures c.deinterleave-taken.ensures
