-- After some steps of its own the query may still run by itself.
use Rattle.std.proofs.Common.{◌≡◌, ◌+◌, ◌++◌, ◌∷◌, [], true, false, length, refl, sym, subst, arith, length-append}
use Rattle.leases.specs.Alone.{HasStoppedOwn, OwnStep}
use Rattle.operators.specs.declared.runs.Refused.TheVariants.{Within}
use Rattle.leases.specs.Views.{query_of}
use Rattle.leases.proofs.AloneLemmas.{alone_has, alone_on, alone_runs, last_less, one_more_own}
use Rattle.leases.proofs.state.jobs.run_alone.Goals as goal

pub next_ready-requires-clause-may : goal.next_ready-requires-clause-may
next_ready-requires-clause-may c = alone_on c.args.streams.now (query_of c.args.registration.now) c.args.query.now c.requires.may c.args.quota.rows c.turns.invariant.ran.0 c.turns.query c.turns.invariant.ran.1.0

pub run_step-requires-clause-has : goal.run_step-requires-clause-has
run_step-requires-clause-has c = alone_has c.args.streams.now (query_of c.args.registration.now) c.turns.query
    (alone_on c.args.streams.now (query_of c.args.registration.now) c.args.query.now c.requires.may c.args.quota.rows c.turns.invariant.ran.0 c.turns.query c.turns.invariant.ran.1.0)

pub run_step-requires-clause-may : goal.run_step-requires-clause-may
run_step-requires-clause-may c =
    let may = alone_on c.args.streams.now (query_of c.args.registration.now) c.args.query.now c.requires.may c.args.quota.rows c.turns.invariant.ran.0 c.turns.query c.turns.invariant.ran.1.0 in
    record {
      here = alone_has c.args.streams.now (query_of c.args.registration.now) c.turns.query may c.in-Some.slot.operator c.in-Some.ensures.within;
      may = alone_runs c.args.streams.now (query_of c.args.registration.now) c.turns.query may c.in-Some.slot c.args.quota.rows c.requires.quota.some c.in-Some.ensures;
    }

pub next_above-next-requires : goal.next_above-next-requires
next_above-next-requires c =
    let may = alone_on c.args.streams.now (query_of c.args.registration.now) c.args.query.now c.requires.may c.args.quota.rows c.turns.invariant.ran.0 c.turns.query c.turns.invariant.ran.1.0 in
    alone_on c.args.streams.now (query_of c.args.registration.now) c.turns.query may c.args.quota.rows (c.in-Ok.ensures.ok.0 ∷ []) c.run_step.new.query (c.run_step.new.query, (c.in-Ok.ensures.ok.1.0, refl))

pub turns-preserved : goal.turns-preserved
turns-preserved c =
    let step : OwnStep = c.in-Ok.ensures.ok.0 in
    let more : length (c.turns.invariant.ran.0 ++ step ∷ []) ≡ length c.turns.invariant.ran.0 + 1 = length-append c.turns.invariant.ran.0 (step ∷ []) in
    record {
      ran = (
        c.turns.invariant.ran.0 ++ step ∷ [],
        (
          one_more_own c.args.streams.now c.args.quota.rows c.args.query.now c.turns.query c.run_step.new.query c.turns.invariant.ran.0 step c.turns.invariant.ran.1.0 c.in-Ok.ensures.ok.1.0,
          omega (arith, more, c.turns.invariant.ran.1.1),
          last_less c.turns.invariant.ran.0 step false c.turns.invariant.ran.1.2 c.in-Ok.ensures.ok.1.1,
        ),
      );
      few = omega (arith, c.turns-test.true);
      next = c.next_above-next.ensures;
    }

pub returns-in-Err-Within : goal.returns-in-Err-Within
returns-in-Err-Within c =
    let h : HasStoppedOwn Within c.args.streams.now c.args.quota.rows c.turns.query c.run_step.new.query =
    subst (λ r. HasStoppedOwn r c.args.streams.now c.args.quota.rows c.turns.query c.run_step.new.query) c.in-Err-Within.field-0-is c.in-Err-Within.ensures.err in
    let more : length (c.turns.invariant.ran.0 ++ h.0 ∷ []) ≡ length c.turns.invariant.ran.0 + 1 = length-append c.turns.invariant.ran.0 (h.0 ∷ []) in
    record {
      steps = c.turns.invariant.ran.0 ++ h.0 ∷ [];
      run = one_more_own c.args.streams.now c.args.quota.rows c.args.query.now c.turns.query c.run_step.new.query c.turns.invariant.ran.0 h.0 c.turns.invariant.ran.1.0 h.1.0;
      few = omega (arith, c.turns-test.true);
      counts = omega (arith, more, c.turns.invariant.ran.1.1);
      stopped = sym (last_less c.turns.invariant.ran.0 h.0 true c.turns.invariant.ran.1.2 h.1.1);
    }
