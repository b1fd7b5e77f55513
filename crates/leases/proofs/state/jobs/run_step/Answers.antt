-- A turn that ran is a step of the query, and so is a pass.
use Rattle.std.proofs.lemmas.Result.{on_ok_weaker}
use Rattle.leases.proofs.AloneLemmas.{err_own, passes_own, takes_own}
use Rattle.leases.proofs.state.jobs.run_step.Goals as goal

pub returns-in-Some-clause-ok : goal.returns-in-Some-clause-ok
returns-in-Some-clause-ok c = passes_own c.args.streams.now c.args.rows c.args.query.now c.pass.new.self c.in-Some.until c.in-Some.ensures c.pass.ensures

pub returns-clause-ok : goal.returns-clause-ok
returns-clause-ok c =
    on_ok_weaker c.run_one.result
    (takes_own c.args.streams.now c.args.rows c.args.query.now c.run_one.new.query c.args.slot.now c.requires.may.here)
    c.run_one.ensures.ok

pub returns-clause-err : goal.returns-clause-err
returns-clause-err c = err_own c.args.streams.now c.args.rows c.args.query.now c.run_one.new.query c.args.slot.now c.run_one.result c.requires.may.here c.run_one.ensures.err
