use Rattle.op_queue.proofs.GainLemmas.{on_any_err}
use Rattle.windows.specs.Latest.{interleaved}
use Rattle.windows.proofs.latest.put_fallen.Goals as goal

pub returns-in_err-put_all-clause-err : goal.returns-in_err-put_all-clause-err
returns-in_err-put_all-clause-err c =
    let grown = c.in_err-put_all.ensures.err c.args.at (interleaved c.args.batch.now c.args.near.now) c.in_ok-outputs.ensures in
    on_any_err c.from_residual-in_err-put_all.result (c.args.at, grown.0, grown.1)
