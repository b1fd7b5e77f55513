-- What the operators up to here have, and those from here on.
use Rattle.std.proofs.Common.{◌≡◌, ◌++◌, drop}
use Rattle.plan.specs.Views.{nodes_of}
use Rattle.query_runtime.specs.Turns.{log_of}
use Rattle.leases.specs.Looks.{lengths_from}
use Rattle.leases.proofs.state.takes.queues.Given as goal

abbrev pub invariant-loop-k : goal.invariant-loop-k
invariant-loop-k l = l.lengths.items ++ lengths_from (log_of l.streams l.query) l.query l.k (nodes_of (drop l.k l.nodes)) ≡ lengths_from (log_of l.streams l.query) l.query 0 (nodes_of l.nodes)
