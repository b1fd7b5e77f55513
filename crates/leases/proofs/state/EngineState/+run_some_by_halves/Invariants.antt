-- Each try has half the rows.
use Rattle.leases.proofs.state.EngineState.+run_some_by_halves.Given as goal

abbrev pub decreases-run_some_by_halves : goal.decreases-run_some_by_halves
decreases-run_some_by_halves g l = l.rows
