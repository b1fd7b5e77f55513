use Rattle.std.proofs.Common.{◌≡◌, ◌++◌, drop}
use Rattle.plan.specs.Paths as spec
use Rattle.plan.specs.Views.{nodes_of}
use Rattle.plan.proofs.paths.windows.Given as goal

abbrev pub invariant-loop-number : goal.invariant-loop-number
invariant-loop-number l = l.windows.items ++ spec.windows l.number (nodes_of (drop l.number l.nodes)) ≡ spec.windows 0 (nodes_of l.nodes)
