-- Query by query, and then turn by turn, up to the same number.
use Rattle.std.proofs.Common.{◌<◌, ◌≤◌, OnErr, arith, inl}
use Rattle.std.proofs.lemmas.Result.{on_err_weaker}
use Rattle.reference.specs.declared.fault.Fault.TheVariants.{OutOfMemory}
use Rattle.leases.specs.ByQuery.{RunsOnce}
use Rattle.leases.specs.Drains.{as_drained}
use Rattle.leases.specs.Shown.{engine_in}
use Rattle.leases.proofs.ByQueryLemmas.{done_gives, drained, less_takes, less_whole, out_below, stays_whole}
use Rattle.leases.proofs.DrainLemmas.{same_err}
use Rattle.leases.proofs.state.EngineState.run_some_once.Goals as goal

pub returns-in_err-run_by_query-clause-runs : goal.returns-in_err-run_by_query-clause-runs
returns-in_err-run_by_query-clause-runs g c =
    same_err c.from_residual.result OutOfMemory (λ r. RunsOnce (engine_in c.args.self.now) c.args.rows (as_drained r) (engine_in c.run_by_query.new.self)) c.from_residual.ensures.1
    (inl c.in_err-run_by_query.ensures.err)

pub run_until-requires-clause-within : goal.run_until-requires-clause-within
run_until-requires-clause-within g c = omega (arith, c.requires.within, c.in_ok-run_by_query.ensures.most)

pub returns-clause-runs : goal.returns-clause-runs
returns-clause-runs g c =
    drained (engine_in c.args.self.now) (engine_in c.run_by_query.new.self) (engine_in c.run_until.new.self) c.args.rows (as_drained c.run_until.result) c.run_by_query.ensures.sound.good c.requires.accepted
    c.in_ok-run_by_query.ensures.ok c.run_until.ensures.runs

pub returns-clause-whole : goal.returns-clause-whole
returns-clause-whole g c = λ whole.
    c.run_until.ensures.whole (stays_whole c.args.rows (engine_in c.args.self.now) (engine_in c.run_by_query.new.self) c.requires.sound.good whole c.run_by_query.ensures.others c.in_ok-run_by_query.ensures.ok)

pub returns-in_err-run_by_query-clause-below : goal.returns-in_err-run_by_query-clause-below
returns-in_err-run_by_query-clause-below g c = λ out. inl c.in_err-run_by_query.ensures.err

pub returns-in_err-run_by_query-clause-looks : goal.returns-in_err-run_by_query-clause-looks
returns-in_err-run_by_query-clause-looks g c =
    same_err c.from_residual.result OutOfMemory (λ r. OnErr r (c.args.self.now.next < c.args.until)) c.from_residual.ensures.1
    (omega (arith, c.requires.within, c.in_err-run_by_query.ensures.most, less_takes c.args.rows (engine_in c.args.self.now) (engine_in c.run_by_query.new.self) c.in_err-run_by_query.ensures.err))

pub returns-clause-below : goal.returns-clause-below
returns-clause-below g c = λ out.
    out_below c.args.rows c.args.until (engine_in c.args.self.now) (engine_in c.run_by_query.new.self) (engine_in c.run_until.new.self) c.run_by_query.ensures.sound.good c.in_ok-run_by_query.ensures.ok
    (c.run_until.ensures.below out)

pub returns-clause-looks : goal.returns-clause-looks
returns-clause-looks g c =
    let taken : c.args.self.now.next ≤ c.run_by_query.new.self.next = done_gives c.args.rows (engine_in c.args.self.now) (engine_in c.run_by_query.new.self) c.in_ok-run_by_query.ensures.ok in
    on_err_weaker c.run_until.result (λ h. omega (arith, taken, h)) c.run_until.ensures.looks

pub returns-in_err-run_by_query-clause-whole : goal.returns-in_err-run_by_query-clause-whole
returns-in_err-run_by_query-clause-whole g c = λ whole.
    less_whole c.args.rows (engine_in c.args.self.now) (engine_in c.run_by_query.new.self) c.requires.sound.good whole c.run_by_query.ensures.others c.in_err-run_by_query.ensures.err
