-- `burgzemi_prescription_read` meets its contract: the inner function's, under Construction A's figures. Assumes nothing.
use Rattle.lent_prescriptions.specs.Prescriptions.{prescription_read_bytes_out}
use Rattle.exports.proofs.eye_calls.burgzemi_prescription_read.Goals as goal

pub returns : goal.returns
unfolding prescription_read_bytes_out
returns c = c.read.ensures
