-- `burgzemi_decode` meets its contract: the inner function's, under Construction A's figures. Assumes nothing.
use Rattle.decoder.specs.Exported.{exported_out}
use Rattle.exports.proofs.burgzemi_decode.Goals as goal

pub returns : goal.returns
unfolding exported_out
returns c = c.decode.ensures
