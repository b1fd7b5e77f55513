use Rattle.leases.proofs.RestartLemmas.{IsRestarting}
use Rattle.leases.proofs.state.forget.restart.Given as goal

-- the queries before this one go on
abbrev pub invariant-loop-query : goal.invariant-loop-query
invariant-loop-query l = IsRestarting l.fn.registered l.remains l.query l.registered
