-- What each part of the jobs may do and has done, the whole may and has.
use Rattle.leases.proofs.SharesLemmas.{both_shares, may_back, may_front}
use Rattle.leases.proofs.state.shares.+halves.Goals as goal

pub run_jobs-run_both-requires-clause-front : goal.run_jobs-run_both-requires-clause-front
run_jobs-run_both-requires-clause-front g t c κs within =
    may_front c.args.streams.now c.args.registered.now c.args.jobs.now c.split_at_mut-front.result.0.now c.split_at_mut-front.result.1.now c.split_at_mut-front.ensures.value c.requires.may

pub run_jobs-run_both-requires-clause-back : goal.run_jobs-run_both-requires-clause-back
run_jobs-run_both-requires-clause-back g t c κs within =
    may_back c.args.streams.now c.args.registered.now c.args.jobs.now c.split_at_mut-front.result.0.now c.split_at_mut-front.result.1.now c.split_at_mut-front.ensures.value c.requires.may

pub run_jobs-returns : goal.run_jobs-returns
run_jobs-returns g t c =
    both_shares c.args.streams.now c.args.quota c.args.jobs.now c.split_at_mut-front.result.0.now c.split_at_mut-front.result.1.now _ _
    c.split_at_mut-front.ensures.value c.run_both.ensures.front c.run_both.ensures.back
