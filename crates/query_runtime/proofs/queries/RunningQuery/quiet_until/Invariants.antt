-- Below the instant that was found, each operator that was looked at may pass.
use Rattle.std.proofs.Common.{◌<◌, ◌≤◌, ℕ}
use Rattle.operators.specs.Passing.{MayPass}
use Rattle.laws_queries.specs.Plain.{operator_at}
use Rattle.query_runtime.specs.Turns.{log_of}
use Rattle.query_runtime.proofs.queries.RunningQuery.quiet_until.Given as goal

abbrev pub invariant-loop-operator : goal.invariant-loop-operator
invariant-loop-operator l = (k : ℕ) → k < l.operator → (b : ℕ) → l.start < b → b ≤ l.until → MayPass l.start b (log_of l.streams l.self k) (operator_at l.self.operators k)
