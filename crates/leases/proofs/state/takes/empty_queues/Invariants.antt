-- The noughts up to here, and those from here on.
use Rattle.std.proofs.Common.{◌≡◌, ◌++◌, drop}
use Rattle.plan.specs.Views.{nodes_of}
use Rattle.leases.specs.Looks.{noughts_of}
use Rattle.leases.proofs.state.takes.empty_queues.Given as goal

abbrev pub invariant-loop-k : goal.invariant-loop-k
invariant-loop-k l = l.lengths.items ++ noughts_of (nodes_of (drop l.k l.nodes)) ≡ noughts_of (nodes_of l.nodes)
