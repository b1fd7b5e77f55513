-- The queries, and the rows of the streams before the next one.
use Rattle.std.proofs.Common.{◌≡◌}
use Rattle.leases.specs.Forgets.{counted}
use Rattle.leases.proofs.WalkedLemmas.{walked_first}
use Rattle.leases.proofs.state.EngineState.walked.Given as goal

abbrev pub invariant-loop-stream : goal.invariant-loop-stream
invariant-loop-stream l = l.walked ≡ counted (walked_first l.self l.stream)
