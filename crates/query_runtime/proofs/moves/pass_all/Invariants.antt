-- The operators that were reached have passed, and the others are as they were.
use Rattle.std.proofs.Common.{◌≡◌, ◌<◌, ◌≤◌, ℕ, length}
use Rattle.operators.specs.Passing.{IsPassed}
use Rattle.laws_queries.specs.Plain.{operator_at}
use Rattle.query_runtime.proofs.moves.pass_all.Given as goal

abbrev pub invariant-loop-number : goal.invariant-loop-number
invariant-loop-number l = record {
  many : length l.operators.items ≡ length l.initial.operators.items;
  done : (k : ℕ) → k < l.number → IsPassed l.until (operator_at l.initial.operators.items k) (operator_at l.operators.items k);
  rest : (k : ℕ) → l.number ≤ k → operator_at l.operators.items k ≡ operator_at l.initial.operators.items k;
}
