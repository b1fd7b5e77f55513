use Rattle.std.proofs.Common.{subst}
use Rattle.operators.specs.Passing.{MayPass}
use Rattle.query_runtime.specs.Turns.{log_of}
use Rattle.query_runtime.proofs.queries.RunningQuery.quiet_at.Goals as goal

pub returns : goal.returns
returns c b above le =
    subst (MayPass c.args.start b (log_of c.args.streams.now c.args.self.now c.args.operator)) c.operator.ensures
    (subst (λ log. MayPass c.args.start b log c.operator.result.now) c.log-log.ensures (c.quiet_until.ensures b above le))
