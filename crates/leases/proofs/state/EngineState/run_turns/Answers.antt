-- Each turn that goes out comes back, until no operator may take anything or something is scarce.
use Rattle.std.proofs.Common.{◌<◌, refl, sym, ap, ◌∙◌, subst, arith}
use Rattle.run_queue.specs.Slots.{first_of}
use Rattle.leases.proofs.DrainLemmas.{has_none, has_run, none_run, refused_leaves, refused_whole, run_more, same_err, step_ends, steps_count, steps_leave, steps_whole}
use Rattle.leases.specs.Drains.{OneOrMoreHaveRun, RunsTurns, SomeHaveRun}
use Rattle.leases.specs.Shown.{engine_in}
use Rattle.leases.specs.Whole.{IsWholeEngine}
use Rattle.leases.proofs.state.EngineState.run_turns.Goals as goal

pub turns-init : goal.turns-init
turns-init c = record { runs = none_run c.args.rows (engine_in c.args.self.now); others = refl; whole = λ w. w; sound = c.requires.sound }

-- THE STEP IS REFUSED
pub returns-in_err-run_first-clause-runs : goal.returns-in_err-run_first-clause-runs
returns-in_err-run_first-clause-runs c =
    same_err c.from_residual.result c.in_err-run_first.field-0.0 (λ r. RunsTurns (engine_in c.args.self.now) c.args.rows r (engine_in c.run_first.new.self)) c.from_residual.ensures.1
    (step_ends (engine_in c.args.self.now) (engine_in c.turns.self) (engine_in c.run_first.new.self) c.args.rows c.in_err-run_first.field-0.0 c.requires.accepted c.turns.invariant.runs c.in_err-run_first.ensures.runs)

pub returns-in_err-run_first-clause-others : goal.returns-in_err-run_first-clause-others
returns-in_err-run_first-clause-others c =
    refused_leaves (engine_in c.args.self.now) (engine_in c.turns.self) (engine_in c.run_first.new.self) c.args.rows c.in_err-run_first.field-0.0 c.turns.invariant.others c.turns.invariant.sound.good c.in_err-run_first.ensures.runs

pub returns-in_err-run_first-clause-whole : goal.returns-in_err-run_first-clause-whole
returns-in_err-run_first-clause-whole c = λ whole.
    refused_whole (engine_in c.turns.self) (engine_in c.run_first.new.self) c.args.rows c.in_err-run_first.field-0.0 (c.turns.invariant.whole whole) c.in_err-run_first.ensures.runs

-- NOTHING MAY BE TAKEN
pub returns-then-not-branch-clause-runs : goal.returns-then-not-branch-clause-runs
returns-then-not-branch-clause-runs c =
    let none = has_none (engine_in c.turns.self) (engine_in c.run_first.new.self) c.args.rows c.in_ok-run_first.field-0 c.if-not-branch.true c.in_ok-run_first.ensures.runs in
    (c.requires.accepted, subst (SomeHaveRun c.args.rows (engine_in c.args.self.now)) (sym none.1) c.turns.invariant.runs)

pub returns-then-not-branch-clause-others : goal.returns-then-not-branch-clause-others
returns-then-not-branch-clause-others c =
    let none = has_none (engine_in c.turns.self) (engine_in c.run_first.new.self) c.args.rows c.in_ok-run_first.field-0 c.if-not-branch.true c.in_ok-run_first.ensures.runs in
    ap (λ e. e.leases) none.1 ∙ c.turns.invariant.others

pub returns-then-not-branch-clause-idle : goal.returns-then-not-branch-clause-idle
returns-then-not-branch-clause-idle c =
    let none = has_none (engine_in c.turns.self) (engine_in c.run_first.new.self) c.args.rows c.in_ok-run_first.field-0 c.if-not-branch.true c.in_ok-run_first.ensures.runs in
    ap (λ e. first_of e.slots) none.1 ∙ none.0

pub returns-then-not-branch-clause-whole : goal.returns-then-not-branch-clause-whole
returns-then-not-branch-clause-whole c = λ whole.
    let none = has_none (engine_in c.turns.self) (engine_in c.run_first.new.self) c.args.rows c.in_ok-run_first.field-0 c.if-not-branch.true c.in_ok-run_first.ensures.runs in
    subst IsWholeEngine (sym none.1) (c.turns.invariant.whole whole)

-- TURNS HAVE RUN
pub turns-smaller : goal.turns-smaller
turns-smaller c =
    let ran : OneOrMoreHaveRun c.args.rows (engine_in c.turns.self) (engine_in c.run_first.new.self) = has_run (engine_in c.turns.self) (engine_in c.run_first.new.self) c.args.rows c.in_ok-run_first.field-0 c.if-not-branch.false c.in_ok-run_first.ensures.runs in
    let more : c.turns.self.next < c.run_first.new.self.next = steps_count (engine_in c.turns.self) (engine_in c.run_first.new.self) c.args.rows ran in
    omega (arith, more, c.in_ok-run_first.ensures.sound.numbers)

pub turns-preserved : goal.turns-preserved
turns-preserved c =
    let ran : OneOrMoreHaveRun c.args.rows (engine_in c.turns.self) (engine_in c.run_first.new.self) = has_run (engine_in c.turns.self) (engine_in c.run_first.new.self) c.args.rows c.in_ok-run_first.field-0 c.if-not-branch.false c.in_ok-run_first.ensures.runs in
    record {
      runs = run_more c.args.rows (engine_in c.args.self.now) (engine_in c.turns.self) (engine_in c.run_first.new.self) c.turns.invariant.runs ran;
      others = steps_leave (engine_in c.turns.self) (engine_in c.run_first.new.self) c.args.rows c.turns.invariant.sound.good ran ∙ c.turns.invariant.others;
      whole = λ whole. steps_whole (engine_in c.turns.self) (engine_in c.run_first.new.self) c.args.rows (c.turns.invariant.whole whole) ran;
      sound = c.in_ok-run_first.ensures.sound;
    }
