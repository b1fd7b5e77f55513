use Rattle.std.proofs.Common.{take}
use Rattle.physical_plans.specs.Beginnings.{AreMade}
use Rattle.physical_plans.proofs.making.all_made.Given as goal

abbrev pub invariant-loop-number : goal.invariant-loop-number
invariant-loop-number l = AreMade l.plan.meaning.windows.items l.plan.widths.items l.widths l.places l.start (take l.number l.plan.nodes.items) l.operators.items
