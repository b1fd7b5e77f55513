-- A running query passes instants at which it has nothing to do.
use Rattle.std.specs.Prelude.{ℕ, ◌≡◌, ◌<◌, List, length}
use Rattle.operators.specs.Passing.{IsPassed, IsQuiet, MayPass}
use Rattle.reference.specs.Machine.{Stream}
use Rattle.laws_queries.specs.Plain.{PlainQuery, operator_at}
use Rattle.query_runtime.specs.Turns.{HasOperator, log_of}

-- the streams have what its operators read
abbrev pub HasOperators : List Stream → PlainQuery → Type 0
HasOperators streams p = (k : ℕ) → k < length p.operators → HasOperator streams p k

-- each of its operators may pass the instants from n to below b
pub record MayPassAll (n b : ℕ) (streams : List Stream) (p : PlainQuery) : Type 0 where
  pub each : (k : ℕ) → k < length p.operators
      → MayPass n b (log_of streams p k) (operator_at p.operators k)

abbrev pub AreQuiet : ℕ → PlainQuery → Type 0
AreQuiet b p = (k : ℕ) → k < length p.operators
    → (n : ℕ) × IsQuiet n b (operator_at p.operators k).state

-- each has passed them, and all else is as it was
pub record HavePassed (b : ℕ) (p p2 : PlainQuery) : Type 0 where
  pub many : length p2.operators ≡ length p.operators
  pub each : (k : ℕ) → k < length p.operators
      → IsPassed b (operator_at p.operators k) (operator_at p2.operators k)
  pub wires : p2.wires ≡ p.wires
  pub sources : p2.sources ≡ p.sources
  pub answers : p2.answers ≡ p.answers
