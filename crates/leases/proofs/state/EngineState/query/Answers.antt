use Rattle.std.proofs.Common.{ap, refl, sym}
use Rattle.std.specs.Option.{option_copied}
use Rattle.plan.specs.Chart.{given_by}
use Rattle.reference.specs.Standing.{found_of}
use Rattle.laws_engine.specs.Engines.{world_of}
use Rattle.laws_engine.proofs.RegisteredLemmas.{register_good}
use Rattle.laws_engine.specs.Accepted.{newest}
use Rattle.laws_engine.proofs.StartLemmas.{found_accepted, plans_may_be_made, registrations_run}
use Rattle.laws_engine.proofs.UptoLemmas.{begun_upto}
use Rattle.leases.specs.Shown.{engine_in, world_in}
use Rattle.leases.proofs.QueryLemmas.{lacks_memory, refused_early, refused_later, registers}
use Rattle.leases.proofs.state.EngineState.query.Goals as goal

pub returns-in-Some-clause-does : goal.returns-in-Some-clause-does
returns-in-Some-clause-does c = refused_early (world_in c.args.self.now) c.args.name.now c.args.text.now (given_by (option_copied c.args.chart)) c.in-Some.fault c.in-Some.ensures.first c.in-Some.ensures.told

pub returns-in-Err-clause-does : goal.returns-in-Err-clause-does
returns-in-Err-clause-does c = refused_later (world_in c.args.self.now) c.args.name.now c.args.text.now (given_by (option_copied c.args.chart)) c.in-Err.fault c.in_default.ensures.first c.in-Err.ensures.finds

pub register-requires-clause-may : goal.register-requires-clause-may
register-requires-clause-may c =
    let m = (engine_in c.args.self.now).machine in
    let given = given_by (option_copied c.args.chart) in
    let accepted = found_accepted m c.args.name.now c.args.text.now given (found_of c.in-Ok.plan) (sym c.in_default.ensures.first) c.in-Ok.ensures.finds in
    plans_may_be_made m c.args.name.now c.args.text.now given c.in-Ok.plan (record { machine = c.requires.good.machine; rows = c.requires.good.rows; columns = c.requires.columns }) accepted c.in-Ok.ensures.plan

pub register-requires-clause-good : goal.register-requires-clause-good
register-requires-clause-good c p begun =
    let e = engine_in c.args.self.now in
    let given = given_by (option_copied c.args.chart) in
    let accepted = found_accepted e.machine c.args.name.now c.args.text.now given (found_of c.in-Ok.plan) (sym c.in_default.ensures.first) c.in-Ok.ensures.finds in
    register_good e (newest e.machine c.args.name.now c.in-Ok.plan) p c.args.name.now c.args.text.now given c.requires.good
    (registrations_run e c.args.name.now c.args.text.now given c.in-Ok.plan p c.requires.good c.requires.columns accepted c.in-Ok.ensures.plan begun)

pub returns-in-Ok-register-clause-does : goal.returns-in-Ok-register-clause-does
returns-in-Ok-register-clause-does c =
    let e = engine_in c.args.self.now in
    let given = given_by (option_copied c.args.chart) in
    let accepted = found_accepted e.machine c.args.name.now c.args.text.now given (found_of c.in-Ok.plan) (sym c.in_default.ensures.first) c.in-Ok.ensures.finds in
    let r = c.in-Ok-register.ensures.engine in
    let q = newest e.machine c.args.name.now c.in-Ok.plan in
    registers e (engine_in c.register.new.self) c.args.name.now c.args.text.now given q r.0 c.in-Ok-register.number (found_of c.in-Ok.plan)
    (registrations_run e c.args.name.now c.args.text.now given c.in-Ok.plan r.0 c.requires.good c.requires.columns accepted c.in-Ok.ensures.plan r.1.0) r.1.0.answers c.requires.good.many c.in-Ok.ensures.finds refl
    (begun_upto c.in-Ok.plan q r.0 r.1.0) c.in-Ok-register.ensures.number r.1.1

pub returns-in-Ok-register-clause-engine : goal.returns-in-Ok-register-clause-engine
returns-in-Ok-register-clause-engine c =
    let e = engine_in c.args.self.now in
    let given = given_by (option_copied c.args.chart) in
    let accepted = found_accepted e.machine c.args.name.now c.args.text.now given (found_of c.in-Ok.plan) (sym c.in_default.ensures.first) c.in-Ok.ensures.finds in
    let r = c.in-Ok-register.ensures.engine in (
      newest e.machine c.args.name.now c.in-Ok.plan,
      (
        r.0,
        (
          record {
            registration = registrations_run e c.args.name.now c.args.text.now given c.in-Ok.plan r.0 c.requires.good c.requires.columns accepted c.in-Ok.ensures.plan r.1.0;
            plan = c.in-Ok.plan;
            of_text = c.in-Ok.ensures.plan;
            is = refl;
            begun = r.1.0;
          },
          r.1.1,
        ),
      ),
    )

pub returns-in-Err-register-clause-does : goal.returns-in-Err-register-clause-does
returns-in-Err-register-clause-does c =
    let e = engine_in c.args.self.now in
    let given = given_by (option_copied c.args.chart) in
    let accepted = found_accepted e.machine c.args.name.now c.args.text.now given (found_of c.in-Ok.plan) (sym c.in_default.ensures.first) c.in-Ok.ensures.finds in
    lacks_memory (world_in c.args.self.now) c.args.name.now c.args.text.now given (world_in c.register.new.self) accepted (ap world_of c.in-Err-register.ensures.err)
