-- The jobs before this place have run, and the others have not.
use Rattle.leases.proofs.SharesLemmas.{HaveSomeRun}
use Rattle.leases.proofs.state.shares.run_all.Given as goal

abbrev pub invariant-loop-place : goal.invariant-loop-place
invariant-loop-place l = HaveSomeRun l.streams l.quota l.fn.jobs l.jobs l.place
