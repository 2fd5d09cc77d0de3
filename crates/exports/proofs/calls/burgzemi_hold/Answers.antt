-- `burgzemi_hold` meets its contract: the inner function's, by its letter. Assumes nothing.
use Rattle.jobs.specs.Letters.{kind_of, list_kind}
use Rattle.exports.proofs.calls.burgzemi_hold.Goals as goal

pub returns : goal.returns
unfolding kind_of list_kind
returns c = c.call.ensures
