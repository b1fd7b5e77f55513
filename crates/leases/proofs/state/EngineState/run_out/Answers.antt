-- The jobs have their queries, and each has run.
use Rattle.std.proofs.Common.{sym, ap, subst}
use Rattle.laws_engine.specs.Engines.{PlainEngine}
use Rattle.leases.specs.Jobs.{MayRunJob}
use Rattle.leases.proofs.LendAllLemmas.{all_few, all_out, each_may}
use Rattle.leases.proofs.state.EngineState.run_out.Goals as goal

pub run_jobs-requires-clause-may : goal.run_jobs-requires-clause-may
run_jobs-requires-clause-may g c κs within = λ i job lt is.
    subst (λ rs. MayRunJob c.lend.new.self.streams rs job) (sym c.deref.ensures.value)
    (each_may c.args.self.now c.requires.sound c.requires.returned c.lend.new.jobs c.lend.new.self c.lend.ensures i job lt is)

pub returns-clause-out : goal.returns-clause-out
returns-clause-out g c =
    all_out c.args.self.now c.requires.sound c.requires.returned c.lend.new.jobs c.lend.new.self c.lend.ensures c.args.quota c.run_jobs.new.jobs c.run_jobs.ensures.many
    c.run_jobs.ensures.each

pub returns-clause-next : goal.returns-clause-next
returns-clause-next g c = ap (λ (z : PlainEngine). z.next) c.lend.ensures.bare.is

pub returns-clause-most : goal.returns-clause-most
returns-clause-most g c =
    all_few c.args.self.now c.requires.sound c.requires.returned c.lend.new.jobs c.lend.new.self c.lend.ensures c.args.quota c.run_jobs.new.jobs c.run_jobs.ensures.many
    c.run_jobs.ensures.each
