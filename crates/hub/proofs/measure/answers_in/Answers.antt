use Rattle.std.proofs.Common.{arith}
use Rattle.leases.specs.Openings.{opening_in}
use Rattle.hub.proofs.MeasureLemmas.{answers_next}
use Rattle.hub.proofs.measure.answers_in.Goals as goal

pub loop-query-preserved : goal.loop-query-preserved
loop-query-preserved c =
    answers_next (opening_in c.args.opening.now).queries c.loop-query.query c.loop-query.values c.waiting_in.result c.saturating_add-values.result (omega (arith, c.queries-query-end.ensures)) c.loop-query.invariant c.waiting_in.ensures c.saturating_add-values.ensures
