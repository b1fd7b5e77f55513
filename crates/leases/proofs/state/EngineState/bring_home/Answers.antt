-- Each job's query comes home in turn.
use Rattle.std.proofs.Common.{◌≡◌, length, arith}
use Rattle.leases.proofs.LendAllLemmas.{all_home, all_less, all_took, ends_done, ends_less, ends_sound, one_took, some_home}
use Rattle.leases.proofs.state.EngineState.bring_home.Goals as goal

pub jobs-preserved-then-not-take_home : goal.jobs-preserved-then-not-take_home
jobs-preserved-then-not-take_home c = record {
  some = some_home c.args.jobs.items c.args.self.now c.jobs.self c.take_home.new.self c.jobs.jobs.items c.pop.new.self.items c.in-Some.job c.jobs.all_run c.take_home.result c.in-Some.ensures.items c.take_home.ensures.home c.jobs.invariant.some;
  few = one_took c.args.jobs.items c.args.self.now c.jobs.self c.take_home.new.self c.jobs.jobs.items c.pop.new.self.items c.in-Some.job c.in-Some.ensures.items c.take_home.ensures.next c.jobs.invariant.few;
  all = all_less c.args.jobs.items c.args.self.now c.jobs.self c.take_home.new.self c.jobs.jobs.items c.pop.new.self.items c.in-Some.job c.jobs.all_run c.take_home.result c.in-Some.ensures.items c.take_home.ensures.home c.if-not-take_home.true c.jobs.invariant.all;
}

pub jobs-preserved : goal.jobs-preserved
jobs-preserved c = record {
  some = some_home c.args.jobs.items c.args.self.now c.jobs.self c.take_home.new.self c.jobs.jobs.items c.pop.new.self.items c.in-Some.job c.jobs.all_run c.take_home.result c.in-Some.ensures.items c.take_home.ensures.home c.jobs.invariant.some;
  few = one_took c.args.jobs.items c.args.self.now c.jobs.self c.take_home.new.self c.jobs.jobs.items c.pop.new.self.items c.in-Some.job c.in-Some.ensures.items c.take_home.ensures.next c.jobs.invariant.few;
  all = all_home c.args.jobs.items c.args.self.now c.jobs.self c.take_home.new.self c.jobs.jobs.items c.pop.new.self.items c.in-Some.job c.jobs.all_run c.take_home.result c.in-Some.ensures.items c.take_home.ensures.home c.if-not-take_home.false c.jobs.invariant.all;
}

pub returns-then-all_run-clause-ok : goal.returns-then-all_run-clause-ok
returns-then-all_run-clause-ok c =
    let none : length c.jobs.jobs.items ≡ 0 = omega (arith, c.in_default.ensures.cases, c.jobs.jobs.ok) in
    ends_done c.args.jobs.items c.args.self.now c.jobs.self c.jobs.jobs.items c.jobs.all_run none c.if-all_run.true c.jobs.invariant.all

pub returns-then-all_run-clause-sound : goal.returns-then-all_run-clause-sound
returns-then-all_run-clause-sound c =
    let none : length c.jobs.jobs.items ≡ 0 = omega (arith, c.in_default.ensures.cases, c.jobs.jobs.ok) in
    ends_sound c.jobs.jobs.items c.jobs.self none c.jobs.invariant.some

pub returns-clause-err : goal.returns-clause-err
returns-clause-err c =
    let none : length c.jobs.jobs.items ≡ 0 = omega (arith, c.in_default.ensures.cases, c.jobs.jobs.ok) in
    ends_less c.args.jobs.items c.args.self.now c.jobs.self c.jobs.jobs.items c.jobs.all_run none c.if-all_run.false c.jobs.invariant.all

pub returns-clause-sound : goal.returns-clause-sound
returns-clause-sound c =
    let none : length c.jobs.jobs.items ≡ 0 = omega (arith, c.in_default.ensures.cases, c.jobs.jobs.ok) in
    ends_sound c.jobs.jobs.items c.jobs.self none c.jobs.invariant.some

pub returns-then-all_run-clause-most : goal.returns-then-all_run-clause-most
returns-then-all_run-clause-most c =
    let none : length c.jobs.jobs.items ≡ 0 = omega (arith, c.in_default.ensures.cases, c.jobs.jobs.ok) in
    all_took c.args.jobs.items c.args.self.now c.jobs.self c.jobs.jobs.items none c.jobs.invariant.few

pub returns-clause-most : goal.returns-clause-most
returns-clause-most c =
    let none : length c.jobs.jobs.items ≡ 0 = omega (arith, c.in_default.ensures.cases, c.jobs.jobs.ok) in
    all_took c.args.jobs.items c.args.self.now c.jobs.self c.jobs.jobs.items none c.jobs.invariant.few
