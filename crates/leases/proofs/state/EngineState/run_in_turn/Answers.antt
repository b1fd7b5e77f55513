-- The jobs have their queries, and each has run, one after the other.
use Rattle.std.proofs.Common.{sym, subst}
use Rattle.leases.specs.Jobs.{MayRunJob}
use Rattle.leases.proofs.LendAllLemmas.{all_out, each_may}
use Rattle.leases.proofs.state.EngineState.run_in_turn.Goals as goal

pub run_all-requires-clause-may : goal.run_all-requires-clause-may
run_all-requires-clause-may c = λ i job lt is.
    subst (λ rs. MayRunJob c.lend.new.self.streams rs job) (sym c.deref.ensures.value)
    (each_may c.args.self.now c.requires.sound c.requires.returned c.lend.new.jobs c.lend.new.self c.lend.ensures i job lt is)

pub returns : goal.returns
returns c =
    all_out c.args.self.now c.requires.sound c.requires.returned c.lend.new.jobs c.lend.new.self c.lend.ensures c.args.quota c.run_all.new.jobs c.run_all.ensures.many
    c.run_all.ensures.each
