-- The query passes, a number is counted, and its slots are told.
use Rattle.std.proofs.Common.{sym, subst, arith}
use Rattle.leases.specs.Passing.{HasPassedIn, MayPassIn}
use Rattle.leases.specs.Shown.{engine_in}
use Rattle.leases.proofs.PassLemmas.{counts, may_change, may_pass, one_passed, same_next, sound_new}
use Rattle.leases.proofs.state.EngineState.pass.Goals as goal

pub pass_query-requires : goal.pass_query-requires
pass_query-requires c = subst (λ n. MayPassIn (engine_in c.args.self.now) n c.args.until) (sym c.query.ensures) (may_pass c.args.self.now c.args.slot.now c.requires.sound c.requires.first c.args.until c.args.slots.now c.requires.may)

pub overflow_add-self : goal.overflow_add-self
overflow_add-self c =
    let passed = subst (λ n. HasPassedIn (engine_in c.args.self.now) n c.args.until (engine_in c.pass_query.new.self)) c.query.ensures c.pass_query.ensures.passed in
    let same = same_next c.args.self.now c.args.slot.now c.requires.sound c.requires.first c.args.until c.args.slots.now c.requires.may c.pass_query.new.self passed c.pass_query.ensures.rest in
    omega (arith, same, c.requires.numbers)

pub change_slots-requires : goal.change_slots-requires
change_slots-requires c =
    let passed = subst (λ n. HasPassedIn (engine_in c.args.self.now) n c.args.until (engine_in c.pass_query.new.self)) c.query.ensures c.pass_query.ensures.passed in
    may_change c.args.self.now c.args.slot.now c.requires.sound c.requires.first c.args.until c.args.slots.now c.requires.may c.pass_query.new.self passed c.pass_query.ensures.rest

pub returns-clause-passed : goal.returns-clause-passed
returns-clause-passed c =
    let passed = subst (λ n. HasPassedIn (engine_in c.args.self.now) n c.args.until (engine_in c.pass_query.new.self)) c.query.ensures c.pass_query.ensures.passed in
    one_passed c.args.self.now c.args.slot.now c.requires.sound c.requires.first c.args.until c.args.slots.now c.requires.may c.pass_query.new.self passed c.pass_query.ensures.rest c.change_slots.new.self c.change_slots.ensures

pub returns-clause-counts : goal.returns-clause-counts
returns-clause-counts c =
    let passed = subst (λ n. HasPassedIn (engine_in c.args.self.now) n c.args.until (engine_in c.pass_query.new.self)) c.query.ensures c.pass_query.ensures.passed in
    counts c.args.self.now c.args.slot.now c.requires.sound c.requires.first c.args.until c.args.slots.now c.requires.may c.pass_query.new.self passed c.pass_query.ensures.rest c.change_slots.new.self c.change_slots.ensures

pub returns-clause-sound : goal.returns-clause-sound
returns-clause-sound c =
    let passed = subst (λ n. HasPassedIn (engine_in c.args.self.now) n c.args.until (engine_in c.pass_query.new.self)) c.query.ensures c.pass_query.ensures.passed in
    sound_new c.args.self.now c.args.slot.now c.requires.sound c.requires.first c.args.until c.args.slots.now c.requires.may c.pass_query.new.self passed c.pass_query.ensures.rest c.change_slots.new.self c.change_slots.ensures c.requires.numbers
