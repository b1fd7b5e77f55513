-- Memory ran out: the next try has half the rows, or there was one row.
use Rattle.std.proofs.Common.{◌≡◌, ◌∙◌, ◌<◌, ◌/◌, Err, ap, arith, subst}
use Rattle.leases.specs.ByQuery.{RunsOnce}
use Rattle.leases.specs.Drains.{as_drained}
use Rattle.leases.specs.Shown.{engine_in}
use Rattle.leases.proofs.ByQueryLemmas.{accepted_too, last_below, tried_again, tried_last}
use Rattle.leases.proofs.state.EngineState.+run_some_by_halves.Goals as goal

pub returns-in-Err-OutOfMemory-clause-runs : goal.returns-in-Err-OutOfMemory-clause-runs
returns-in-Err-OutOfMemory-clause-runs g t c =
    let some : 0 < c.args.rows / 2 = omega (arith, c.if-rows-gt1.true) in
    let less : c.args.rows / 2 < c.args.rows = omega (arith, c.if-rows-gt1.true) in
    tried_again (engine_in c.args.self.now) (engine_in c.run_some_once.new.self) (engine_in c.run_some_by_halves.new.self) c.args.rows (c.args.rows / 2) (as_drained c.run_some_by_halves.result) c.requires.accepted
    (accepted_too c.args.rows (c.args.rows / 2) c.requires.accepted some less) some less
    (subst (λ r. RunsOnce (engine_in c.args.self.now) c.args.rows (as_drained r) (engine_in c.run_some_once.new.self)) (c.in-Err-OutOfMemory.is ∙ ap Err c.in-Err-OutOfMemory.field-0-is) c.run_some_once.ensures.runs)
    c.run_some_by_halves.ensures.runs

pub returns-in_default-clause-runs : goal.returns-in_default-clause-runs
returns-in_default-clause-runs g t c =
    tried_last (engine_in c.args.self.now) (engine_in c.run_some_once.new.self) c.args.rows (Err c.in-Err-OutOfMemory.field-0) c.requires.accepted (λ out. c.if-rows-gt1.false)
    (subst (λ r. RunsOnce (engine_in c.args.self.now) c.args.rows (as_drained r) (engine_in c.run_some_once.new.self)) c.in-Err-OutOfMemory.is c.run_some_once.ensures.runs)

pub returns-in_default-clause-below : goal.returns-in_default-clause-below
returns-in_default-clause-below g t c = λ out.
    last_below c.args.rows c.args.until (engine_in c.args.self.now) (engine_in c.run_some_once.new.self) c.requires.accepted c.if-rows-gt1.false
    (c.run_some_once.ensures.below (c.in-Err-OutOfMemory.is ∙ ap Err c.in-Err-OutOfMemory.field-0-is))
