use Rattle.std.proofs.Common.{◌≡◌, take, drop, map}
use Rattle.names.specs.Views.{conditions_of}
use Rattle.plan.specs.Build as spec
use Rattle.plan.proofs.place.set_all_alone.Given as goal

abbrev pub invariant-loop-condition : goal.invariant-loop-condition
invariant-loop-condition l = record {
  done : conditions_of (take l.condition-index l.conditions) ≡ map (spec.moved spec.alone) (conditions_of (take l.condition-index l.fn.conditions));
  left : drop l.condition-index l.conditions ≡ drop l.condition-index l.fn.conditions;
}
