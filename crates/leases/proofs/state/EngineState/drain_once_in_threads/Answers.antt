-- A few turns; then query by query, in threads if they pay; then turn by turn.
use Rattle.std.proofs.Common.{◌∙◌, Err, inl, refl}
use Rattle.reference.specs.declared.fault.Fault.TheVariants.{OutOfMemory}
use Rattle.leases.specs.ByQuery.{RunsOnce}
use Rattle.leases.specs.Shown.{engine_in}
use Rattle.leases.proofs.ByQueryLemmas.{done_none, done_on, drained, few_done, less_since, less_whole, stays_whole}
use Rattle.leases.proofs.DrainLemmas.{same_err}
use Rattle.leases.proofs.state.EngineState.drain_once_in_threads.Goals as goal

pub returns-in_err-run_until-clause-runs : goal.returns-in_err-run_until-clause-runs
returns-in_err-run_until-clause-runs g c =
    same_err c.from_residual.result c.in_err-run_until.field-0.0 (λ r. RunsOnce (engine_in c.args.self.now) c.args.rows r (engine_in c.run_until.new.self)) c.from_residual.ensures.1
    (drained (engine_in c.args.self.now) (engine_in c.args.self.now) (engine_in c.run_until.new.self) c.args.rows (Err c.in_err-run_until.field-0.0) c.requires.sound.good c.requires.accepted
    (done_none c.args.rows (engine_in c.args.self.now) (engine_in c.args.self.now) refl) c.in_err-run_until.ensures.runs)

pub returns-then-not-branch-clause-runs : goal.returns-then-not-branch-clause-runs
returns-then-not-branch-clause-runs g c =
    (few_done (engine_in c.args.self.now) (engine_in c.run_until.new.self) c.args.rows c.requires.sound.good c.in_ok-run_until.ensures.runs)

pub returns-in_err-run_by_query-clause-runs : goal.returns-in_err-run_by_query-clause-runs
returns-in_err-run_by_query-clause-runs g c =
    let few = few_done (engine_in c.args.self.now) (engine_in c.run_until.new.self) c.args.rows c.requires.sound.good c.in_ok-run_until.ensures.runs in
    same_err c.from_residual-in_err-run_by_query.result OutOfMemory (λ r. RunsOnce (engine_in c.args.self.now) c.args.rows r (engine_in c.run_by_query.new.self)) c.from_residual-in_err-run_by_query.ensures.1 (inl (less_since c.args.rows (engine_in c.args.self.now) (engine_in c.run_until.new.self) (engine_in c.run_by_query.new.self) few c.in_err-run_by_query.ensures.err))

pub returns-clause-runs : goal.returns-clause-runs
returns-clause-runs g c =
    let few = few_done (engine_in c.args.self.now) (engine_in c.run_until.new.self) c.args.rows c.requires.sound.good c.in_ok-run_until.ensures.runs in
    drained (engine_in c.args.self.now) (engine_in c.run_by_query.new.self) (engine_in c.run_turns.new.self) c.args.rows c.run_turns.result c.run_by_query.ensures.sound.good c.requires.accepted
    (done_on c.args.rows (engine_in c.args.self.now) (engine_in c.run_until.new.self) (engine_in c.run_by_query.new.self) few c.in_ok-run_by_query.ensures.ok) c.run_turns.ensures.runs

pub returns-clause-whole : goal.returns-clause-whole
returns-clause-whole g c = λ whole.
    let few = few_done (engine_in c.args.self.now) (engine_in c.run_until.new.self) c.args.rows c.requires.sound.good c.in_ok-run_until.ensures.runs in
    c.run_turns.ensures.whole
    (stays_whole c.args.rows (engine_in c.args.self.now) (engine_in c.run_by_query.new.self) c.requires.sound.good whole (c.run_by_query.ensures.others ∙ c.in_ok-run_until.ensures.others)
    (done_on c.args.rows (engine_in c.args.self.now) (engine_in c.run_until.new.self) (engine_in c.run_by_query.new.self) few c.in_ok-run_by_query.ensures.ok))

pub returns-in_err-run_by_query-clause-whole : goal.returns-in_err-run_by_query-clause-whole
returns-in_err-run_by_query-clause-whole g c = λ whole.
    less_whole c.args.rows (engine_in c.run_until.new.self) (engine_in c.run_by_query.new.self) c.in_ok-run_until.ensures.sound.good (c.in_ok-run_until.ensures.whole whole) c.run_by_query.ensures.others c.in_err-run_by_query.ensures.err
