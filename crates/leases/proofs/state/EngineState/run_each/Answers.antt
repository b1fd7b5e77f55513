-- The jobs have run, and bring their queries home.
use Rattle.std.proofs.Common.{sym, subst, arith}
use Rattle.std.proofs.lemmas.Result.{on_err_weaker, on_ok_weaker}
use Rattle.leases.specs.Jobs.{AreOut}
use Rattle.leases.specs.Shown.{engine_in}
use Rattle.leases.proofs.LendAllLemmas.{written_back}
use Rattle.leases.proofs.state.EngineState.run_each.Goals as goal

pub bring_home-requires : goal.bring_home-requires
bring_home-requires c = (
  engine_in c.args.self.now,
  (
    c.args.rows,
    subst (λ js. AreOut (engine_in c.args.self.now) c.args.rows js c.run_in_turn.new.self)
        (sym (written_back c.in-Some.jobs.len c.run_in_turn.new.jobs c.in-Some.jobs.items (omega (arith, c.run_in_turn.auto.jobs, c.deref_mut.ensures.len)) (omega (arith, c.in-Some.jobs.ok))))
        c.run_in_turn.ensures,
  ),
)

pub returns-clause-ok : goal.returns-clause-ok
returns-clause-ok c =
    on_ok_weaker c.bring_home.result
    (λ f. f (engine_in c.args.self.now) c.args.rows
    (subst (λ js. AreOut (engine_in c.args.self.now) c.args.rows js c.run_in_turn.new.self)
    (sym (written_back c.in-Some.jobs.len c.run_in_turn.new.jobs c.in-Some.jobs.items (omega (arith, c.run_in_turn.auto.jobs, c.deref_mut.ensures.len)) (omega (arith, c.in-Some.jobs.ok))))
    c.run_in_turn.ensures))
    c.bring_home.ensures.ok

pub returns-clause-err : goal.returns-clause-err
returns-clause-err c =
    on_err_weaker c.bring_home.result
    (λ f. f (engine_in c.args.self.now) c.args.rows
    (subst (λ js. AreOut (engine_in c.args.self.now) c.args.rows js c.run_in_turn.new.self)
    (sym (written_back c.in-Some.jobs.len c.run_in_turn.new.jobs c.in-Some.jobs.items (omega (arith, c.run_in_turn.auto.jobs, c.deref_mut.ensures.len)) (omega (arith, c.in-Some.jobs.ok))))
    c.run_in_turn.ensures))
    c.bring_home.ensures.err
