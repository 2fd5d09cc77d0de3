-- `burgzemi_interleave` meets its contract: what `lanes::interleave` says. Assumes nothing.
use Rattle.lanes.specs.Outcomes.{interleave_out}
use Rattle.exports.proofs.burgzemi_interleave.Goals as goal

pub returns : goal.returns
unfolding interleave_out
returns c = rw c.answer.ensures c.interleave-laid.ensures
