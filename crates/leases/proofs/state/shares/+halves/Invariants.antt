-- Each half has fewer threads.
use Rattle.std.proofs.Common.{◌+◌, ◌-◌, ◌*◌}
use Rattle.leases.proofs.state.shares.+halves.Given as goal

abbrev pub decreases-run_jobs : goal.decreases-run_jobs
decreases-run_jobs g l = 4 * l.threads

abbrev pub decreases-run_both : goal.decreases-run_both
decreases-run_both g l = 4 * (l.fewer + l.others) - 1

abbrev pub decreases-run_both-first : goal.decreases-run_both-first
decreases-run_both-first g l = 4 * l.fewer + 1

abbrev pub decreases-run_both-second : goal.decreases-run_both-second
decreases-run_both-second g l = 4 * l.others + 1
