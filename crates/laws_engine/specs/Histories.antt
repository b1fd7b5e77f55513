-- What may happen to an engine, one call after the other.
use Rattle.std.specs.Prelude.{ℕ, ◌≡◌, ◌⊎◌, None, List, [], ◌∷◌}
use Rattle.reference.specs.Commands.{Append, Command, Declare, Drop, Heartbeat, Register, Take}
use Rattle.reference.specs.Commands.{first_fault}
use Rattle.reference.specs.Machine as machine
use Rattle.reference.specs.Machine.{Registered}
use Rattle.laws_queries.specs.Plain.{PlainQuery}
use Rattle.run_queue.specs.declared.slots.Slot.{Slot}
use Rattle.laws_engine.specs.Engines.{Lease, PlainEngine}
use Rattle.laws_engine.specs.Good.{IsIn}
use Rattle.laws_engine.specs.Openings.{forgotten}
use Rattle.laws_engine.specs.Calls.{IsAnsweredTurn, IsFinishedTurn, IsHeartbeat, IsLeasable, IsOf}
use Rattle.laws_engine.specs.Calls.{IsRegistration, IsTake, abandoned, answered, appended, broken}
use Rattle.laws_engine.specs.Calls.{declared, dropped, finished, heartbeat_taken, leased}
use Rattle.laws_engine.specs.Calls.{registered, taken}

-- THE EMPTY ENGINE
abbrev pub empty : PlainEngine
empty = record { machine = machine.empty; queries = []; leases = []; next = 0; slots = [] }

-- a command of the machine; a turn that goes out, or comes back finished or abandoned, or whose
-- finish a refused growth stops; that what no window shows again is forgotten; and a call that is
-- refused, or looks
pub data Call : Type 0 where
  Told : Command → Call
  Leases : Lease → Call
  Finishes : Lease → Call
  Abandons : Lease → Call
  Breaks : Lease → Call
  Forgets : Call
  Stays : Call

-- WHAT IT MAKES OF AN ENGINE
abbrev pub IsCommandStep : PlainEngine → Command → PlainEngine → Type 0
IsCommandStep e (Declare name columns start) e2 =
    (first_fault e.machine (Declare name columns start) ≡ None)
    × (e2 ≡ declared e name columns start)
IsCommandStep e (Register name text chart) e2 =
    (q : Registered) × ((p : PlainQuery)
    × (IsRegistration e name text chart q p × (e2 ≡ registered e q p)))
IsCommandStep e (Append s rows) e2 =
    (first_fault e.machine (Append s rows) ≡ None) × (e2 ≡ appended e s rows)
IsCommandStep e (Heartbeat s at) e2 = IsHeartbeat e s at × (e2 ≡ heartbeat_taken e s at)
IsCommandStep e (Take n limit) e2 =
    (count : ℕ) × (IsTake e n limit count × (e2 ≡ taken e n limit count))
IsCommandStep e (Drop n) e2 = (first_fault e.machine (Drop n) ≡ None) × (e2 ≡ dropped e n)

-- below the root, or at it
abbrev pub ComesBack : PlainEngine → Lease → Registered → PlainQuery → PlainQuery
    → PlainEngine → Type 0
ComesBack e l q p p2 e2 = (IsFinishedTurn e l q p p2 × (e2 ≡ finished e l q p p2))
    ⊎ (IsAnsweredTurn e l q p p2 × (e2 ≡ answered e l q p p2))

abbrev pub IsCallStep : PlainEngine → Call → PlainEngine → Type 0
IsCallStep e (Told c) e2 = IsCommandStep e c e2
IsCallStep e (Leases l) e2 = (q : Registered)
    × ((p : PlainQuery) × ((s : Slot) × (IsLeasable e l q p s × (e2 ≡ leased e l q p))))
IsCallStep e (Finishes l) e2 =
    IsIn e.leases l × ((q : Registered)
    × ((p : PlainQuery) × ((p2 : PlainQuery) × ComesBack e l q p p2 e2)))
IsCallStep e (Abandons l) e2 =
    IsIn e.leases l × ((q : Registered)
    × ((p : PlainQuery) × (IsOf e l q p × (e2 ≡ abandoned e l q p))))
IsCallStep e (Breaks l) e2 = IsIn e.leases l
    × ((q : Registered) × ((p : PlainQuery) × (IsOf e l q p × (e2 ≡ broken e l.query p))))
IsCallStep e Forgets e2 = e2 ≡ forgotten e
IsCallStep e Stays e2 = e2 ≡ e

-- ONE CALL AFTER THE OTHER
abbrev pub LeadTo : PlainEngine → List Call → PlainEngine → Type 0
LeadTo e [] e2 = e2 ≡ e
LeadTo e (c ∷ calls) e3 = (e2 : PlainEngine) × (IsCallStep e c e2 × LeadTo e2 calls e3)
