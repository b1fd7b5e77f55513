-- One more job has run.
use Rattle.std.proofs.Common.{arith}
use Rattle.leases.proofs.SharesLemmas.{all_have_run, may_next, none_has_run, one_has_run}
use Rattle.leases.proofs.state.shares.run_all.Goals as goal

pub loop-place-init : goal.loop-place-init
loop-place-init c = none_has_run c.args.streams.now c.args.quota c.args.jobs.now

pub run_job-requires-clause-may : goal.run_job-requires-clause-may
run_job-requires-clause-may c =
    may_next c.args.streams.now c.args.quota c.args.jobs.now c.loop-place.jobs c.loop-place.place c.index-jobs-place.result c.args.registered.now (omega (arith, c.loop-place-test.true, c.loop-place.invariant.many)) c.requires.may c.loop-place.invariant

pub loop-place-preserved : goal.loop-place-preserved
loop-place-preserved c =
    one_has_run c.args.streams.now c.args.quota c.args.jobs.now c.loop-place.jobs c.loop-place.place c.index-jobs-place.result c.run_job.new.job (omega (arith, c.loop-place-test.true, c.loop-place.invariant.many)) c.loop-place.invariant c.run_job.ensures

pub returns : goal.returns
returns c = all_have_run c.args.streams.now c.args.quota c.args.jobs.now c.loop-place.jobs c.loop-place.place (omega (arith, c.loop-place-test.false)) c.loop-place.invariant
