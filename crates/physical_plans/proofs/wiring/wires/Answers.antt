use Rattle.std.proofs.Common.{◌∙◌, ◌++◌, ◌∷◌, [], List, ap, sym, arith}
use Rattle.std.proofs.lemmas.List.FromFn.{map-range_with_len_more}
use Rattle.plan.specs.Views.{nodes_of}
use Rattle.physical_plans.specs.Wiring.{wire_from}
use Rattle.physical_plans.specs.declared.wiring.Wire.{Wire}
use Rattle.physical_plans.proofs.wiring.wires.Goals as goal

pub loop-operator-preserved : goal.loop-operator-preserved
loop-operator-preserved c =
    let f = wire_from 0 (nodes_of c.args.nodes.now) in
    c.in_ok-push.ensures.items
    ∙ ap (λ (w : Wire). c.loop-operator.all.items ++ w ∷ []) c.wire_from.ensures
    ∙ ap (λ (ws : List Wire). ws ++ f c.loop-operator.operator ∷ []) c.loop-operator.invariant
    ∙ sym (map-range_with_len_more f 0 c.loop-operator.operator c.loop-operator.operator (omega arith))
