use Rattle.std.proofs.Common.{◌≡◌, map, take}
use Rattle.plan.specs.Views.{nodes_of}
use Rattle.query_runtime.specs.Turns.{source_among}
use Rattle.query_runtime.proofs.sources.sources_of.Given as goal

abbrev pub invariant-loop-node : goal.invariant-loop-node
invariant-loop-node l = l.sources.items ≡ map (source_among l.streams) (nodes_of (take l.node-index l.nodes))
