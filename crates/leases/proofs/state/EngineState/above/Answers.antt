-- The number is of an operator of the query, and the wire of each but the last leads to another.
use Rattle.std.proofs.Common.{◌≡◌, ◌<◌, ◌+◌, length, sym, ◌∙◌, subst, arith}
use Rattle.laws_queries.specs.Plain.{PlainQuery}
use Rattle.physical_plans.specs.declared.wiring.Wire.{Wire}
use Rattle.laws_engine.proofs.BackLemmas.{same_plain}
use Rattle.leases.specs.Asked.{HasOperatorAt}
use Rattle.leases.specs.Shown.{engine_in}
use Rattle.leases.proofs.state.EngineState.above.Goals as goal

pub overflow_add-operator : goal.overflow_add-operator
overflow_add-operator c =
    let here = c.requires.here.1.1 in
    let same : c.requires.here.1.0 ≡ c.running-running.result.now = same_plain (sym here.running ∙ c.running-running.ensures) in
    let lt : c.args.operator < length c.running-running.result.now.operators = subst (λ (p : PlainQuery). c.args.operator < length p.operators) same here.operator.operator in
    let h = c.len-count.ensures in
    omega (arith, lt, h)

pub slot-requires : goal.slot-requires
slot-requires c =
    let below : c.args.operator + 1 < length c.running-running.result.now.operators = omega (arith, c.len-count.ensures) in
    subst (λ (w : Wire). HasOperatorAt (engine_in c.args.self.now) c.args.query w.to) (sym c.wire.ensures) (c.requires.wired c.args.operator c.running-running.result.now c.running-running.ensures below)
