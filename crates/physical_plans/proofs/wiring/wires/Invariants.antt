use Rattle.std.proofs.Common.{◌≡◌, map}
use Rattle.std.specs.List.{range_with_len}
use Rattle.plan.specs.Views.{nodes_of}
use Rattle.physical_plans.specs.Wiring.{wire_from}
use Rattle.physical_plans.proofs.wiring.wires.Given as goal

abbrev pub invariant-loop-operator : goal.invariant-loop-operator
invariant-loop-operator l = l.all.items ≡ map (wire_from 0 (nodes_of l.nodes)) (range_with_len 0 l.operator)
