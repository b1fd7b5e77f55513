use Rattle.std.proofs.Common.{arith}
use Rattle.leases.proofs.WalkedLemmas.{walked_all, walked_next}
use Rattle.leases.proofs.state.EngineState.walked.Goals as goal

pub loop-stream-preserved : goal.loop-stream-preserved
loop-stream-preserved c =
    walked_next c.args.self.now c.loop-stream.stream c.loop-stream.walked c.kept.result c.unwrap_or-rows.result c.saturating_add-walked.result (omega (arith, c.len-stream-end.ensures, c.loop-stream-test.true)) c.loop-stream.invariant c.kept.ensures c.unwrap_or-rows.ensures c.saturating_add-walked.ensures

pub returns : goal.returns
returns c = walked_all c.args.self.now c.loop-stream.stream c.loop-stream.walked (omega (arith, c.len-stream-end.ensures, c.loop-stream.auto.stream-end, c.loop-stream-test.false)) c.loop-stream.invariant
