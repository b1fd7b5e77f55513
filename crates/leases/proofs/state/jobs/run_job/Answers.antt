-- Its query has run by itself.
use Rattle.leases.proofs.JobRunLemmas.{job_ran}
use Rattle.leases.proofs.state.jobs.run_job.Goals as goal

pub returns : goal.returns
returns c =
    job_ran c.args.streams.now c.args.quota c.args.job.now c.run_remains-ran.result c.run_remains-ran.new.remains c.requires.quota c.run_remains-ran.ensures c.requires.may.plain c.requires.may.running
