-- `burgzemi_cover` meets its contract. Assumes nothing.
use Rattle.lent.specs.Covering.{cover_bytes_out}
use Rattle.exports.proofs.burgzemi_cover.Goals as goal

pub returns : goal.returns
unfolding cover_bytes_out
returns c = c.cover_bytes.ensures
