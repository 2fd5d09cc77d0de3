-- `burgzemi_job_read` meets its contract: the inner function's, under Construction A's figures. Assumes nothing.
use Rattle.lent_jobs.specs.Jobs.{job_read_bytes_out}
use Rattle.exports.proofs.burgzemi_job_read.Goals as goal

pub returns : goal.returns
unfolding job_read_bytes_out
returns c = c.read.ensures
