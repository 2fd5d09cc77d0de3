-- `burgzemi_encode` meets its contract: the inner function's, under Construction A's figures. Assumes nothing.
use Rattle.lent.specs.Words.{encode_bytes_out}
use Rattle.exports.proofs.burgzemi_encode.Goals as goal

pub returns : goal.returns
unfolding encode_bytes_out
returns c = c.encode.ensures
