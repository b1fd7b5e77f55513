-- A turn of the first slot that its query runs in place.
use Rattle.std.specs.Prelude.{ℕ, ◌≡◌, List}
use Rattle.operators.specs.Runs.{Stops}
use Rattle.operators.specs.declared.runs.Refused.{Refused}
use Rattle.reference.specs.Machine.{Stream}
use Rattle.laws_queries.specs.Plain.{PlainQuery}
use Rattle.query_runtime.specs.Runs.{CanRun, HasRun, HasRunLess}
use Rattle.query_runtime.specs.Turns.{HasOperator}
use Rattle.run_queue.specs.declared.slots.Slot.{Slot}
use Rattle.laws_engine.specs.Engines.{PlainEngine, Running, remains_at}
use Rattle.leases.specs.Applied.{with_remains}

-- the slot's operator may run a turn on the slot's side, of at most so many rows
pub record MayRunOn (streams : List Stream) (p : PlainQuery) (s : Slot) (rows : ℕ) : Type 0 where
  pub here : HasOperator streams p s.operator
  pub may : CanRun streams p s.operator s.side rows

abbrev pub MayRunIn : PlainEngine → Slot → ℕ → Type 0
MayRunIn e s rows = (p : PlainQuery)
    × ((remains_at e s.query ≡ Running p) × MayRunOn e.machine.streams p s rows)

-- IT HAS RUN
abbrev pub HasRunOn : List Stream → PlainQuery → Slot → ℕ → PlainQuery → Type 0
HasRunOn streams p s rows p2 = HasRun streams p s.operator s.side rows p2

abbrev pub HasRunIn : PlainEngine → Slot → ℕ → PlainEngine → Type 0
HasRunIn old s rows new =
    (p : PlainQuery) → remains_at old s.query ≡ Running p
    → (p2 : PlainQuery) × (HasRunOn old.machine.streams p s rows p2
    × (new ≡ with_remains old s.query (Running p2)))

-- IT WAS REFUSED MEMORY: the query is as it was, or it has run a turn of fewer rows
abbrev pub HasStoppedOn : Refused → List Stream → PlainQuery → Slot → ℕ → PlainQuery → Type 0
HasStoppedOn r streams p s rows p2 =
    Stops r (p2 ≡ p) (HasRunLess streams p s.operator s.side rows p2)

abbrev pub HasStoppedIn : Refused → PlainEngine → Slot → ℕ → PlainEngine → Type 0
HasStoppedIn r old s rows new =
    (p : PlainQuery) → remains_at old s.query ≡ Running p
    → (p2 : PlainQuery) × (HasStoppedOn r old.machine.streams p s rows p2
    × (new ≡ with_remains old s.query (Running p2)))
