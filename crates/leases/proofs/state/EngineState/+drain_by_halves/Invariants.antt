-- Each try has half the rows.
use Rattle.leases.proofs.state.EngineState.+drain_by_halves.Given as goal

abbrev pub decreases-drain_by_halves : goal.decreases-drain_by_halves
decreases-drain_by_halves l = l.rows
