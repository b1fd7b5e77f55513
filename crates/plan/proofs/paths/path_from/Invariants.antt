use Rattle.std.proofs.Common.{◌≡◌, ◌++◌, drop}
use Rattle.plan.specs.Paths as spec
use Rattle.plan.specs.Views.{nodes_of}
use Rattle.plan.proofs.paths.path_from.Given as goal

abbrev pub invariant-loop-number : goal.invariant-loop-number
invariant-loop-number l = l.path.items ++ spec.onward l.last l.number (nodes_of (drop l.number l.nodes)) ≡ spec.path_from (nodes_of l.nodes) l.first
