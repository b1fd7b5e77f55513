-- Each try has half the rows.
use Rattle.leases.proofs.state.EngineState.+drain_in_threads.Given as goal

abbrev pub decreases-drain_in_threads : goal.decreases-drain_in_threads
decreases-drain_in_threads g l = l.rows
