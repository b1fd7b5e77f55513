-- Turns of the slot have run while the slots waited; then they are told.
use Rattle.std.proofs.Common.{◌≤◌, sym, subst}
use Rattle.leases.specs.Applied.{HasWiredOperators}
use Rattle.leases.specs.Drains.{OneOrMoreHaveRun}
use Rattle.leases.specs.Shown.{engine_in}
use Rattle.leases.specs.declared.state.EngineState.{EngineState}
use Rattle.leases.proofs.StepLemmas.{may_look_here, may_look_over}
use Rattle.leases.proofs.TurnsLemmas.{at_numbers, over_numbers}
use Rattle.leases.proofs.state.EngineState.run_slot.Goals as goal

pub above-above-requires-clause-here : goal.above-above-requires-clause-here
above-above-requires-clause-here c =
    at_numbers (engine_in c.args.self.now) c.args.slot.now c.query.result c.operator.result c.query.ensures c.operator.ensures (may_look_here c.args.self.now c.args.slot.now c.requires.sound c.requires.first)

pub above-above-requires-clause-wired : goal.above-above-requires-clause-wired
above-above-requires-clause-wired c = subst (λ n. HasWiredOperators (engine_in c.args.self.now) n) (sym c.query.ensures) (may_look_over c.args.self.now c.args.slot.now c.requires.sound c.requires.first)

pub run_while_first-requires-clause-over : goal.run_while_first-requires-clause-over
run_while_first-requires-clause-over c = over_numbers (engine_in c.args.self.now) c.args.slot.now c.query.result c.operator.result c.above-above.result c.query.ensures c.operator.ensures c.above-above.ensures

-- THEY ARE TOLD
pub returns-clause-ok : goal.returns-clause-ok
returns-clause-ok c = subst (λ (z : EngineState). OneOrMoreHaveRun c.args.rows (engine_in c.args.self.now) (engine_in z)) (sym c.update_slots.ensures) c.in_ok-next.ensures.ok

pub returns-clause-most : goal.returns-clause-most
returns-clause-most c = subst (λ (z : EngineState). z.next ≤ c.args.until) (sym c.update_slots.ensures) c.in_ok-next.ensures.most
