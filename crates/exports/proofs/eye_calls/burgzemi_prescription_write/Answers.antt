-- `burgzemi_prescription_write` meets its contract: the inner function's, under Construction A's figures. Assumes nothing.
use Rattle.lent_prescriptions.specs.Prescriptions.{prescription_write_bytes_out}
use Rattle.exports.proofs.eye_calls.burgzemi_prescription_write.Goals as goal

pub returns : goal.returns
unfolding prescription_write_bytes_out
returns c = c.write_values.ensures
