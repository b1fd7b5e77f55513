-- The operator at the wire's end stands later, and takes what is put out.
use Rattle.std.proofs.lemmas.Result.{IfErr-weaker, on_ok_weaker}
use Rattle.query_runtime.proofs.InPlaceLemmas.{puts_here, ran_below, runs_here, stopped_below}
use Rattle.query_runtime.proofs.queries.RunningQuery.run_below.Goals as goal

pub run_below_at-requires-clause-may : goal.run_below_at-requires-clause-may
run_below_at-requires-clause-may c = runs_here c.args.streams.now _ c.args.self.now c.self.view_is c.args.operator c.args.side c.args.rows c.within_a_batch-rows.result c.within_a_batch-rows.ensures c.requires.may c.log-log.result.now c.log-log.ensures

pub run_below_at-requires-clause-puts : goal.run_below_at-requires-clause-puts
run_below_at-requires-clause-puts c =
    puts_here c.args.streams.now _ c.args.self.now c.self.view_is c.args.operator c.args.side c.args.rows c.within_a_batch-rows.result c.within_a_batch-rows.ensures c.requires.may c.log-log.result.now c.log-log.ensures c.wire-wire.result c.wire-wire.ensures c.requires.below

pub returns-clause-ok : goal.returns-clause-ok
returns-clause-ok c =
    on_ok_weaker c.run_below_at.result
    (λ r. ran_below c.args.streams.now _ c.args.self.now c.self.view_is c.args.operator c.args.side c.args.rows c.within_a_batch-rows.result c.within_a_batch-rows.ensures c.requires.may c.log-log.result.now c.log-log.ensures c.wire-wire.result c.wire-wire.ensures c.requires.below
    c.run_below_at.new.operators.items r c.run_below_at.ensures.only)
    c.run_below_at.ensures.ok

pub returns-clause-err : goal.returns-clause-err
returns-clause-err c =
    IfErr-weaker c.run_below_at.result _ _
    (λ r h. stopped_below c.args.streams.now _ c.args.self.now c.self.view_is c.args.operator c.args.side c.args.rows c.within_a_batch-rows.result c.within_a_batch-rows.ensures c.requires.may c.log-log.result.now c.log-log.ensures c.wire-wire.result c.wire-wire.ensures c.requires.below
    c.run_below_at.new.operators.items r h c.run_below_at.ensures.only)
    c.run_below_at.ensures.err
