-- A turn that comes back, step by step.
use Rattle.std.specs.Prelude.{ℕ, ⊤, ◌≡◌, ◌≢◌, ◌+◌, ◌<◌, ◌≤◌, ◌==◌, not, filter, MatchOption, Option}
use Rattle.std.specs.Prelude.{Some, List, [], ◌∷◌, length, set}
use Rattle.std.specs.List.{AllByRecursion}
use Rattle.turn.specs.Turns.{outs_in}
use Rattle.turn.specs.declared.parts.Parts.{Parts}
use Rattle.turn.specs.declared.turns.Turn.{Turn}
use Rattle.reference.specs.Machine.{Registered, Stream}
use Rattle.laws_queries.specs.Queries.{change_at_first}
use Rattle.laws_queries.specs.Plain.{PlainQuery, operator_at}
use Rattle.laws_queries.specs.Steps.{outs_at_first}
use Rattle.query_runtime.specs.Turns.{CanFinish, CanPut, HasBatches, HasFinished, HasOperator}
use Rattle.query_runtime.specs.Turns.{HasPut, log_of, wire_at}
use Rattle.run_queue.specs.Changes.{Stands, changed, without_query}
use Rattle.run_queue.specs.declared.slots.Slot.{Slot}
use Rattle.laws_engine.specs.Calls.{IsOf, broken, broken_at, others}
use Rattle.laws_engine.specs.Engines.{Lease, PlainEngine, PlainRemains, Running, next_at}
use Rattle.laws_engine.specs.Good.{IsIn}
use Rattle.laws_engine.specs.Engines.{query_at, remains_at, slot_at}
use Rattle.leases.specs.Asked.{HasOperatorAt}
use Rattle.leases.specs.Turns.{IsOut}
use Rattle.leases.specs.declared.state.EngineState.{EngineState}

-- THE TURN that was run is the one that was handed out:
-- operator, item and excerpt are the same by value
pub record IsTurn (t : Turn) (d : Parts) : Type 0 where
  pub node : t.node ≡ d.node
  pub item : t.item ≡ d.item
  pub near : t.near ≡ d.near

-- it is out
abbrev pub IsOutIn : PlainEngine → Parts → Type 0
IsOutIn e d = (q : Registered) × ((p : PlainQuery) × IsOut e d q p)

-- THE QUERY TAKES IT
-- it may
pub record MayApply (streams : List Stream) (p : PlainQuery) (d : Parts) : Type 0 where
  pub here : HasOperator streams p d.node.operator
  pub may : CanFinish (operator_at p.operators d.node.operator)
      (log_of streams p d.node.operator) d.node.side d.item d.change
  pub puts : CanPut streams p d.node.operator d.node.side d.item d.change (outs_in d.outputs)

abbrev pub MayApplyIn : PlainEngine → Parts → Type 0
MayApplyIn e d = (p : PlainQuery)
    × ((remains_at e d.node.query ≡ Running p) × MayApply e.machine.streams p d)

-- it has: the operator took the item, and what it put out went on
pub record IsApplied (streams : List Stream) (p : PlainQuery) (d : Parts)
    (p2 : PlainQuery) : Type 0 where
  pub finished : HasFinished streams p d.node.operator d.node.side d.item d.change p2
  pub put : HasPut p d.node.operator (outs_in d.outputs) p2
  pub batches : HasBatches p d.node.operator d.outputs p2

-- only what is left of one query is another
abbrev pub with_remains : PlainEngine → ℕ → PlainRemains → PlainEngine
with_remains e n remains = record e { queries = set e.queries n remains }

abbrev pub HasApplied : PlainEngine → Parts → PlainEngine → Type 0
HasApplied old d new =
    (p : PlainQuery) → remains_at old d.node.query ≡ Running p
    → (p2 : PlainQuery) × (IsApplied old.machine.streams p d p2
    × (new ≡ with_remains old d.node.query (Running p2)))

-- the same of a turn by its lease alone: it is out
pub record IsOutAs (e : PlainEngine) (l : Lease) (q : Registered) (p : PlainQuery) : Type 0 where
  pub out : IsIn e.leases l
  pub of : IsOf e l q p

abbrev pub IsOutAsIn : PlainEngine → Lease → Type 0
IsOutAsIn e l = (q : Registered) × ((p : PlainQuery) × IsOutAs e l q p)

-- the operator took the item, and what a turn with that puts out went on
pub record HasTaken (streams : List Stream) (p : PlainQuery) (l : Lease)
    (p2 : PlainQuery) : Type 0 where
  pub finished : HasFinished streams p l.operator l.side l.item
      (change_at_first (operator_at p.operators l.operator) l.side l.item) p2
  pub put : HasPut p l.operator (outs_at_first
      (operator_at p.operators l.operator) l.side l.item) p2

abbrev pub HasTakenIn : PlainEngine → Lease → PlainEngine → Type 0
HasTakenIn old l new =
    (p : PlainQuery) → remains_at old l.query ≡ Running p
    → (p2 : PlainQuery) × (HasTaken old.machine.streams p l p2
    × (new ≡ with_remains old l.query (Running p2)))

-- it is broken, and its answers are complete up to an instant, or up to where they were
abbrev pub IsBrokenAt : PlainEngine → ℕ → ℕ → PlainEngine → Type 0
IsBrokenAt old n upto new =
    (p : PlainQuery) → remains_at old n ≡ Running p → new ≡ broken_at old n p upto

abbrev pub IsBroken : PlainEngine → ℕ → PlainEngine → Type 0
IsBroken old n new = (p : PlainQuery) → remains_at old n ≡ Running p → new ≡ broken old n p

-- THE TURN ENDS
abbrev pub without_turn : PlainEngine → ℕ → PlainEngine
without_turn e n = record e { leases = others n e.leases }

-- A QUERY RUNS NO MORE: its turns end, its windows and slots leave, and nothing else is changed
pub record Stops (n : ℕ) (old new : EngineState) : Type 0 where
  pub leases : new.leases.items ≡ filter (λ t. not (t.node.query == n)) old.leases.items
  pub readers : new.readers ≡ filter (λ r. not (r.query == n)) old.readers
  pub slots : new.slots ≡ without_query n old.slots
  pub rest : new ≡ record old { leases = new.leases; readers = new.readers; slots = new.slots }

-- a query leaves: what is kept of those that were not dropped is
-- as it was, its windows are listed no more, and no turn goes out
pub record Forgets (n : ℕ) (old new : EngineState) : Type 0 where
  pub undropped : new.undropped ≡ old.undropped
  pub readers : new.readers ≡ filter (λ r. not (r.query == n)) old.readers
  pub leases : (t : Turn) → IsIn new.leases.items t → IsIn old.leases.items t

-- what is kept of undropped queries and the readers are as they were, and no turn goes out
pub record GivesNothing (old new : EngineState) : Type 0 where
  pub undropped : new.undropped ≡ old.undropped
  pub readers : new.readers ≡ old.readers
  pub leases : (t : Turn) → IsIn new.leases.items t → IsIn old.leases.items t

-- SLOTS THAT ARE TOLD ANEW
-- the query's operators are there, and the wire of each but the last leads to one
abbrev pub HasWiredOperators : PlainEngine → ℕ → Type 0
HasWiredOperators e n = (k : ℕ) (p : PlainQuery) → remains_at e n ≡ Running p
    → k + 1 < length p.operators → HasOperatorAt e n (wire_at p k).to

-- the slot of the operator to which the wire of the operator k leads, unless that is the last
abbrev pub IsAbove : PlainEngine → ℕ → ℕ → Option Slot → Type 0
IsAbove e n k above =
    (q : Registered) (p : PlainQuery) → query_at e n ≡ Some q → remains_at e n ≡ Running p
    → MatchOption above (length p.operators ≤ k + 1)
    (λ s. (k + 1 < length p.operators) × (s ≡ slot_at e n q p (wire_at p k).to))

-- a slot gets what its operator may take next
abbrev pub with_slot : PlainEngine → Slot → Registered → PlainQuery → PlainEngine
with_slot e s q p = record e { slots = changed s (next_at e s.query q p s.operator) e.slots }

abbrev pub IsUpdated : PlainEngine → Slot → PlainEngine → Type 0
IsUpdated old s new = (q : Registered) (p : PlainQuery) → query_at old s.query ≡ Some q
    → remains_at old s.query ≡ Running p → new ≡ with_slot old s q p

-- the slot of the operator that ran is told, and then the one above
abbrev pub HasTold : PlainEngine → Slot → Option Slot → PlainEngine → Type 0
HasTold old s above new = (told : PlainEngine)
    × (IsUpdated old s told × MatchOption above (new ≡ told) (λ a. IsUpdated told a new))

-- THE TURN OF A NUMBER HAS ENDED: it is out no more, and then they are told
abbrev pub HasEnded : PlainEngine → ℕ → Slot → Option Slot → PlainEngine → Type 0
HasEnded old n s above new = HasTold (without_turn old n) s above new

abbrev pub MayTell : PlainEngine → Option Slot → Type 0
MayTell e above = MatchOption above ⊤ (λ a. HasOperatorAt e a.query a.operator)

-- the two are as they stand in the list, and of two operators
abbrev pub BothStand : List Slot → Slot → Option Slot → Type 0
BothStand slots s above = Stands s slots
    × MatchOption above ⊤ (λ a. Stands a slots × (a.operator ≢ s.operator))

-- each is as it stands in the list, all are of one query, and each of another operator
abbrev pub AllStand : List Slot → List Slot → Type 0
AllStand slots [] = ⊤
AllStand slots (s ∷ ss) = Stands s slots
    × AllByRecursion (λ t. t.operator ≢ s.operator) ss × AllStand slots ss
