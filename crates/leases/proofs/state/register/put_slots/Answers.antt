use Rattle.std.proofs.Common.{◌≡◌, ◌∙◌, ◌+◌, suc, ap, refl, arith}
use Rattle.run_queue.specs.Changes.{put}
use Rattle.leases.specs.Registering.{with_first}
use Rattle.leases.proofs.RegisterLemmas.{left_again}
use Rattle.leases.proofs.state.register.put_slots.Goals as goal

pub loop-operator-init : goal.loop-operator-init
loop-operator-init c = refl

pub returns-in_default-clause-err : goal.returns-in_default-clause-err
returns-in_default-clause-err c =
    left_again c.args.streams.now c.args.running.now c.args.slopes.now c.args.number c.loop-operator.operator c.args.slots.now c.put.new.self c.drop_query.new.self (c.in_default.ensures.err ∙ c.loop-operator.invariant) c.requires.new
    c.drop_query.ensures

pub loop-operator-preserved : goal.loop-operator-preserved
loop-operator-preserved c =
    let p = c.args in
    let one_more : suc c.loop-operator.operator ≡ c.loop-operator.operator + 1 = omega arith in
    let full : c.put.new.self ≡ with_first p.streams.now p.running.now p.slopes.now p.number (suc c.loop-operator.operator) p.slots.now =
    c.in-Ok.ensures.ok ∙ ap (λ s. put s c.new_slot.result) c.loop-operator.invariant
    ∙ ap (put (with_first p.streams.now p.running.now p.slopes.now p.number c.loop-operator.operator p.slots.now)) c.new_slot.ensures in
    full ∙ ap (λ n. with_first p.streams.now p.running.now p.slopes.now p.number n p.slots.now) one_more
