-- A query that runs is one running query; after a refusal it is as it was, or has run a turn of fewer rows.
use Rattle.std.proofs.Common.{sym, ◌∙◌}
use Rattle.std.proofs.lemmas.Result.{IfErr-weaker, on_ok_weaker}
use Rattle.leases.proofs.InPlaceLemmas.{run_all, stopped_all}
use Rattle.leases.proofs.state.drain.run_in.Goals as goal

pub returns-clause-ok : goal.returns-clause-ok
returns-clause-ok c =
    on_ok_weaker c.run.result (λ f p is. f p (sym c.running_mut.ensures.value ∙ is))
    (run_all c.run.result c.args.streams.now c.running_mut.result.now c.run.new.self c.args.slot.now c.operator.result c.side.result c.args.rows c.operator.ensures c.side.ensures c.run.ensures.ok)

pub returns-clause-err : goal.returns-clause-err
returns-clause-err c =
    IfErr-weaker c.run.result _ _ (λ r f p is. f p (sym c.running_mut.ensures.value ∙ is))
    (stopped_all c.run.result c.args.streams.now c.running_mut.result.now c.run.new.self c.args.slot.now c.operator.result c.side.result c.args.rows c.operator.ensures c.side.ensures c.run.ensures.err)
