use Rattle.std.proofs.Common.{◌≡◌, take, map}
use Rattle.plan.specs.Chart.{default_of}
use Rattle.plan.specs.Views.{nodes_of}
use Rattle.plan.proofs.measures.default_measures.Given as goal

abbrev pub invariant-loop-node : goal.invariant-loop-node
invariant-loop-node l = l.measures.items ≡ map default_of (nodes_of (take l.node-index l.nodes))
