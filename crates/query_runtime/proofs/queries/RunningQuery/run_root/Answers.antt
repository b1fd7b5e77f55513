-- What the root answers waits behind the other answers.
use Rattle.std.proofs.lemmas.Result.{on_ok_weaker}
use Rattle.query_runtime.proofs.InPlaceLemmas.{gives_here, ran_root, runs_here, stopped_root}
use Rattle.query_runtime.proofs.queries.RunningQuery.run_root.Goals as goal

pub run_root_at-requires-clause-may : goal.run_root_at-requires-clause-may
run_root_at-requires-clause-may c = runs_here c.args.streams.now _ c.args.self.now c.self.view_is c.args.operator c.args.side c.args.rows c.within_a_batch-rows.result c.within_a_batch-rows.ensures c.requires.may c.log-log.result.now c.log-log.ensures

pub run_root_at-requires-clause-gives : goal.run_root_at-requires-clause-gives
run_root_at-requires-clause-gives c = gives_here c.args.streams.now _ c.args.self.now c.self.view_is c.args.operator c.args.side c.args.rows c.within_a_batch-rows.result c.within_a_batch-rows.ensures c.requires.may c.log-log.result.now c.log-log.ensures c.requires.root

pub returns-clause-ok : goal.returns-clause-ok
returns-clause-ok c =
    on_ok_weaker c.run_root_at.result
    (λ r. ran_root c.args.streams.now _ c.args.self.now c.self.view_is c.args.operator c.args.side c.args.rows c.within_a_batch-rows.result c.within_a_batch-rows.ensures c.requires.may c.log-log.result.now c.log-log.ensures c.run_root_at.new.operators.items c.run_root_at.new.answers c.requires.root r
    c.run_root_at.ensures.only)
    c.run_root_at.ensures.ok

pub returns-clause-err : goal.returns-clause-err
returns-clause-err c =
    stopped_root c.args.streams.now _ c.args.self.now c.self.view_is c.args.operator c.args.side c.args.rows c.within_a_batch-rows.result c.within_a_batch-rows.ensures c.requires.may c.log-log.result.now c.log-log.ensures c.run_root_at.new.operators.items c.run_root_at.new.answers c.requires.root c.run_root_at.result
    c.run_root_at.ensures.err c.run_root_at.ensures.only c.run_root_at.ensures.answers
