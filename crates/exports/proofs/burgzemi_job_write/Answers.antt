-- `burgzemi_job_write` meets its contract: the inner function's, under Construction A's figures. Assumes nothing.
use Rattle.lent_jobs.specs.Jobs.{job_write_bytes_out}
use Rattle.exports.proofs.burgzemi_job_write.Goals as goal

pub returns : goal.returns
unfolding job_write_bytes_out
returns c = c.write.ensures
