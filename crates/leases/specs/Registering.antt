-- What is made of a query before it is registered.
use Rattle.std.specs.Prelude.{ℕ, ℤ, zero, suc, ◌≡◌, ◌<◌, Option, List, length, get_or}
use Rattle.envelope.specs.Fraction.{Fraction, fraction}
use Rattle.operators.specs.Ready.{ready}
use Rattle.plan.specs.declared.operators.Plan.{Plan}
use Rattle.reference.specs.Machine.{Registered, Stream}
use Rattle.laws_queries.specs.Plain.{PlainQuery, operator_at}
use Rattle.query_runtime.specs.Turns.{HasOperator, log_of}
use Rattle.run_queue.specs.Slots.{slot}
use Rattle.run_queue.specs.Changes.{put}
use Rattle.run_queue.specs.declared.slots.Slot.{Slot}
use Rattle.laws_engine.specs.Calls.{IsRegistration, registered}
use Rattle.laws_engine.specs.Engines.{PlainEngine}
use Rattle.laws_engine.specs.Accepted.{IsBegun, IsPlanOfText, newest}

-- the slot of the operator k of a query n that is new, of which no turn is out
abbrev pub new_slot : List Stream → PlainQuery → List Fraction → ℕ → ℕ → Slot
new_slot streams p slopes n k =
    slot (get_or slopes k (fraction 0 1))
    (ready (operator_at p.operators k) (log_of streams p k)) n k

-- the slots with those of its first `count` operators
abbrev pub with_first : List Stream → PlainQuery → List Fraction → ℕ → ℕ → List Slot → List Slot
with_first streams p slopes n zero slots = slots
with_first streams p slopes n (suc count) slots =
    put (with_first streams p slopes n count slots) (new_slot streams p slopes n count)

-- THE QUERY THAT IS REGISTERED is the one of the plan of its text, and runs as it
-- begins: nothing has come to its operators but what its streams close from now on
pub record IsRegistered (e : PlainEngine) (name text : List ℕ) (chart : Option (List (ℤ × ℤ)))
    (q : Registered) (p : PlainQuery) : Type 0 where
  pub registration : IsRegistration e name text chart q p
  pub plan : Plan
  pub of_text : IsPlanOfText e.machine text chart plan
  pub is : q ≡ newest e.machine name plan
  pub begun : IsBegun plan q p

-- it comes behind the others
abbrev pub Registers : PlainEngine → List ℕ → List ℕ → Option (List (ℤ × ℤ)) → PlainEngine → Type 0
Registers old name text chart new =
    (q : Registered) × ((p : PlainQuery)
    × (IsRegistered old name text chart q p × (new ≡ registered old q p)))

-- of a plan that was made
abbrev pub RegistersPlan : PlainEngine → List ℕ → Plan → PlainEngine → Type 0
RegistersPlan old name plan new =
    (p : PlainQuery) × (IsBegun plan (newest old.machine name plan) p
    × (new ≡ registered old (newest old.machine name plan) p))

-- all its operators are there, each with a slope
pub record IsNewQuery (streams : List Stream) (p : PlainQuery)
    (slopes : List Fraction) : Type 0 where
  pub operators : (k : ℕ) → k < length slopes → HasOperator streams p k
