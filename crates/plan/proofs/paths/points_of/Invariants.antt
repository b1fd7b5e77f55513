use Rattle.std.proofs.Common.{◌≡◌, ◌++◌, drop}
use Rattle.plan.specs.Paths as spec
use Rattle.plan.proofs.paths.points_of.Given as goal

abbrev pub invariant-loop-operator : goal.invariant-loop-operator
invariant-loop-operator l = l.points.items ++ spec.points_after l.t (spec.measures_on l.measures (drop l.operator-index l.path)) ≡ spec.points_of l.measures l.path
