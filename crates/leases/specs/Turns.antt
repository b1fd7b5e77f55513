-- What calls about turns answer, and make of an engine.
use Rattle.std.specs.Prelude.{ℕ, ⊤, ◌≡◌, ◌≢◌, ◌<◌, ◌≤◌, ◌⊎◌, ◌||◌, ◌&&◌, not, nat_le, min, is_some}
use Rattle.std.specs.Prelude.{true, Option, Some, None, [], ◌∷◌, length, Result, Ok, Err}
use Rattle.names.specs.Faults.{first_of}
use Rattle.op_queue.specs.Items.{entries_of}
use Rattle.turn.specs.Turns.{Fits, outs_in}
use Rattle.turn.specs.declared.parts.Parts.{Parts}
use Rattle.turn.specs.declared.turns.Turn.{Turn}
use Rattle.operators.specs.Inboxes.{cut_of}
use Rattle.operators.specs.Ready.{inbox_of, ready}
use Rattle.reference.specs.Machine.{Registered}
use Rattle.reference.specs.declared.fault.Fault.{Fault}
use Rattle.reference.specs.declared.fault.Fault.TheVariants.{BadLimit, OutOfMemory, Stranger}
use Rattle.reference.specs.declared.fault.Fault.TheVariants.{TooManyLeases, UnknownLease}
use Rattle.reference.specs.declared.limits.TheConstants.{MAX_TURN}
use Rattle.laws_queries.specs.Plain.{PlainQuery, log_at, operator_at}
use Rattle.query_runtime.specs.Turns.{HasBatches, HasPut}
use Rattle.run_queue.specs.Slots as slots
use Rattle.run_queue.specs.declared.slots.Slot.{Slot}
use Rattle.laws_engine.specs.Calls.{IsLeasable, IsOf, abandoned, broken, leased}
use Rattle.laws_engine.specs.Engines.{Lease, PlainEngine}
use Rattle.laws_engine.specs.Good.{IsIn}
use Rattle.laws_engine.specs.Histories.{ComesBack}
use Rattle.laws_engine.specs.Promises.{IsOfSteepest}
use Rattle.leases.specs.declared.leased.Leased.{Leased}
use Rattle.leases.specs.declared.leased.Leased.TheVariants as answer
use Rattle.leases.specs.Views.{lease_of}
use Rattle.leases.specs.declared.limits.TheConstants.{LEASE_NUMBERS, MAX_LEASES}

-- A LEASE of at most so many rows
-- the first test that it fails; that turns are out, or numbers
-- are gone, matters only where an operator may be leased
abbrev pub lease_fault : PlainEngine → ℕ → Option Fault
lease_fault e rows = first_of (
    (not (nat_le 1 rows && nat_le rows MAX_TURN), BadLimit)
    ∷ (
      is_some (slots.first_of e.slots)
          && (nat_le MAX_LEASES (length e.leases) || nat_le LEASE_NUMBERS e.next),
      TooManyLeases,
    )
    ∷ [])

-- an operator may be leased
abbrev pub HasReady : PlainEngine → Type 0
HasReady e = is_some (slots.first_of e.slots) ≡ true

-- as many turns are out as may be, or all numbers were given
abbrev pub IsFull : PlainEngine → Type 0
IsFull e = (MAX_LEASES ≤ length e.leases) ⊎ (LEASE_NUMBERS ≤ e.next)

-- the slot of which the next turn is, if an operator
-- may be leased; refused where the engine is full
abbrev pub IsNext : PlainEngine → Result (Option Slot) Fault → Type 0
IsNext e (Ok (Some s)) = (slots.first_of e.slots ≡ Some s) × (length e.leases < MAX_LEASES)
    × (e.next < LEASE_NUMBERS)
IsNext e (Ok None) = slots.first_of e.slots ≡ None
IsNext e (Err fault) = (fault ≡ TooManyLeases) × IsFull e × HasReady e

-- no test fails, and it is of an operator of greatest slope, on the side that is ready, the left
-- one where both are, with the next number and what comes out at once of what waits there, at most
-- so many rows; it may be run
pub record IsTurnOf (old : PlainEngine) (rows : ℕ) (t : Turn) (new : PlainEngine) : Type 0 where
  pub query : Registered
  pub plain : PlainQuery
  pub slot : Slot
  pub allowed : lease_fault old rows ≡ None
  pub leasable : IsLeasable old (lease_of t) query plain slot
  pub steepest : IsOfSteepest old slot
  pub takes : ready (operator_at plain.operators t.node.operator)
      (log_at old.machine query t.node.operator) ≡ Some (t.node.side, slot.instant)
  pub kind : t.node.kind ≡ (operator_at plain.operators t.node.operator).kind
  pub fits : Fits t.node t.item t.near
  pub cut : entries_of t.item ≡ cut_of (min rows 1024)
      (inbox_of (operator_at plain.operators t.node.operator) t.node.side)
      (log_at old.machine query t.node.operator)
  pub after : new ≡ leased old (lease_of t) query plain

abbrev pub Leases : PlainEngine → ℕ → Result Leased Fault → PlainEngine → Type 0
Leases old rows (Ok (answer.Turn t)) new = IsTurnOf old rows t new
Leases old rows (Ok answer.Idle) new =
    (lease_fault old rows ≡ None) × (slots.first_of old.slots ≡ None) × (new ≡ old)
Leases old rows (Err OutOfMemory) new = (lease_fault old rows ≡ None) × (new ≡ old) × HasReady old
Leases old rows (Err fault) new = (lease_fault old rows ≡ Some fault) × (new ≡ old)

-- A TURN THAT COMES BACK
abbrev pub lease_of_parts : Parts → Lease
lease_of_parts d = record {
  number = d.lease;
  query = d.node.query;
  operator = d.node.operator;
  side = d.node.side;
  item = d.item;
  excerpt = d.near;
}

-- no turn of this number is out
abbrev pub IsUnknown : PlainEngine → ℕ → Type 0
IsUnknown e n = (l : Lease) → IsIn e.leases l → l.number ≢ n

-- the turn is the one of its number that is out, of
-- a running query, and does what its operator does
pub record IsOut (e : PlainEngine) (d : Parts) (q : Registered) (p : PlainQuery) : Type 0 where
  pub out : IsIn e.leases (lease_of_parts d)
  pub of : IsOf e (lease_of_parts d) q p
  pub kind : d.node.kind ≡ (operator_at p.operators d.node.operator).kind

-- a turn of its number is out, and it is another
pub record IsStranger (e : PlainEngine) (d : Parts) : Type 0 where
  pub out : Lease
  pub known : IsIn e.leases out
  pub numbered : out.number ≡ d.lease
  pub another : (q : Registered) (p : PlainQuery) → IsOut e d q p → ⊥

-- what it put out went on: items to the next operator, where each stands as a batch
-- or a tick of its own behind what waited, or answers behind those that waited
pub record HasPutOut (d : Parts) (p p2 : PlainQuery) : Type 0 where
  pub put : HasPut p d.node.operator (outs_in d.outputs) p2
  pub batches : HasBatches p d.node.operator d.outputs p2

-- accepted, it comes back; a growth that is refused breaks its query
abbrev pub Finishes : PlainEngine → Parts → Result ⊤ Fault → PlainEngine → Type 0
Finishes old d (Ok u) new = (q : Registered)
    × ((p : PlainQuery) × ((p2 : PlainQuery)
    × (IsOut old d q p × ComesBack old (lease_of_parts d) q p p2 new × HasPutOut d p p2)))
Finishes old d (Err OutOfMemory) new =
    (q : Registered) × ((p : PlainQuery) × (IsOut old d q p × (new ≡ broken old d.node.query p)))
Finishes old d (Err UnknownLease) new = IsUnknown old d.lease × (new ≡ old)
Finishes old d (Err Stranger) new = IsStranger old d × (new ≡ old)
Finishes old d (Err fault) new = ⊥

-- A TURN THAT IS ABANDONED
abbrev pub Abandons : PlainEngine → ℕ → Result ⊤ Fault → PlainEngine → Type 0
Abandons old n (Ok u) new = (l : Lease)
    × ((q : Registered) × ((p : PlainQuery)
    × (IsIn old.leases l × ((l.number ≡ n) × (IsOf old l q p × (new ≡ abandoned old l q p))))))
Abandons old n (Err UnknownLease) new = IsUnknown old n × (new ≡ old)
Abandons old n (Err fault) new = ⊥
