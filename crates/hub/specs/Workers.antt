-- What workers and looks do to what is under the lock, and a new hub.
use Rattle.std.specs.Prelude.{◌≡◌, ℕ, ◌+◌, ◌<◌, ◌≤◌, List, [], Bool, false, true, Option, None}
use Rattle.std.specs.Prelude.{Result, Ok, Err, ⊤, IfErr, OnOk, ◌≢◌, ◌↔◌, IfOk, IsTrue, ℤ}
use Rattle.envelope.specs.Fraction.{Fraction}
use Rattle.plan.specs.declared.node.NodeKind.{NodeKind}
use Rattle.reference.specs.Machine.{empty, stream_named}
use Rattle.reference.specs.World.{Looks, slopes_at}
use Rattle.reference.specs.declared.fault.Fault.{Fault}
use Rattle.reference.specs.declared.fault.Fault.TheVariants.{BadLimit, Foreign, HistoryFull}
use Rattle.reference.specs.declared.fault.Fault.TheVariants.{OutOfMemory, TooManyLeases}
use Rattle.turn.specs.declared.parts.Parts.{Parts}
use Rattle.turn.specs.declared.turns.Turn.{Turn}
use Rattle.run_queue.specs.Slots.{first_of}
use Rattle.laws_engine.specs.Engines.{world_of}
use Rattle.laws_engine.specs.Promises.{AreCompleteUpto, HasAllWaiting}
use Rattle.leases.specs.ByQuery.{RunsByQuery}
use Rattle.leases.specs.Drains.{LeavesOthers, RanOutBelow, RunsTurns, as_drained}
use Rattle.leases.specs.Openings.{opening_in}
use Rattle.leases.specs.Looks.{IsPending, WaitsAt, status_in_engine}
use Rattle.leases.specs.Takes.{Peeks}
use Rattle.reference.specs.Steps.{AreNext}
use Rattle.reference.specs.StatusViews.{status_in}
use Rattle.reference.specs.declared.status.Status.{Status}
use Rattle.leases.specs.Turns.{Abandons, Finishes, HasReady, IsTurnOf}
use Rattle.leases.specs.Views.{empty_engine}
use Rattle.leases.specs.declared.leased.Leased.TheVariants as leased
use Rattle.hub.specs.Seats.{PlainSeat, reach}
use Rattle.hub.specs.LedgerViews.{opened_for}
use Rattle.hub.specs.Steps.{Hands, HasRoom, IsFull, IsReplayed, PlainLocked, engine_at, next_number}

-- the test of a full history, or of a seat that knows too much, fails
abbrev pub Barred : PlainLocked → PlainSeat → Fault → Type 0
Barred l s HistoryFull = IsFull l
Barred l s (Foreign n) = HasRoom l × (n ≡ next_number l) × (n < reach s)
Barred l s f = ⊥

-- OF A NEW HUB
pub record IsFresh (l : PlainLocked) (seats limit : ℕ) : Type 0 where
  pub engine : engine_at l ≡ empty_engine
  pub opening : opening_in l.opening ≡ empty
  pub first : l.first ≡ 0
  pub history : l.history ≡ []
  pub limited : l.limit ≡ limit
  pub seated : l.seats ≡ seats
  pub ledger : l.ledger ≡ opened_for seats
  pub going : l.has_ended ≡ false

-- after the end was called
abbrev pub ended : PlainLocked → PlainLocked
ended l = record l { has_ended = true }

pub record Ends (old : PlainLocked) (done : Parts) (result : Result ⊤ Fault)
    (new : PlainLocked) : Type 0 where
  pub legal : IsReplayed old
  pub finishes : Finishes (engine_at old) done result (engine_at new)

pub record GivesUp (old : PlainLocked) (lease : ℕ) (result : Result ⊤ Fault)
    (new : PlainLocked) : Type 0 where
  pub legal : IsReplayed old
  pub abandons : Abandons (engine_at old) lease result (engine_at new)

-- A DRAIN IN PLACE: turns of at most so many rows run under the lock, and leave those that are out.
-- Each is of an operator that might be leased; those of different queries run in any order, also at
-- the same time. After it nothing is ready. Each query that runs and has no turn out then holds all
-- its closed answers that were not taken
pub record Drains (old : PlainLocked) (rows : ℕ) (result : Result ⊤ Fault)
    (new : PlainLocked) : Type 0 where
  pub legal : IsReplayed old
  pub runs : RunsByQuery (engine_at old) rows result (engine_at new)
  pub others : LeavesOthers (engine_at old) (engine_at new)
  pub machine : (engine_at new).machine ≡ (engine_at old).machine
  pub idle : OnOk result (first_of (engine_at new).slots ≡ None)
  pub all : OnOk result (HasAllWaiting (engine_at new))

-- A DRAIN OF SOME TURNS: at most that many run under the lock, as in a drain. If an operator may
-- still take something, exactly that many have run. If none may, it is as at the end of a drain,
-- and a lease would be idle in the very state that is left. With no turn to run nothing changes
pub record DrainsSome (old : PlainLocked) (rows turns : ℕ) (result : Result Bool Fault)
    (new : PlainLocked) : Type 0 where
  pub legal : IsReplayed old
  pub runs : RunsTurns (engine_at old) rows (as_drained result) (engine_at new)
  pub others : LeavesOthers (engine_at old) (engine_at new)
  pub machine : (engine_at new).machine ≡ (engine_at old).machine
  pub most : (engine_at new).next ≤ (engine_at old).next + turns
  pub some : turns ≢ 0 → HasReady (engine_at old)
      → OnOk result ((engine_at old).next < (engine_at new).next)
  pub more : result ≡ Ok true → HasReady (engine_at new)
  pub last : result ≡ Ok true → (engine_at new).next ≡ (engine_at old).next + turns
  pub idle : result ≡ Ok false → first_of (engine_at new).slots ≡ None
  pub all : result ≡ Ok false → HasAllWaiting (engine_at new)
  pub rest : result ≡ Ok false → Hands new rows (Ok leased.Idle) new
  pub fewer : result ≡ Err TooManyLeases → (engine_at new).next < (engine_at old).next + turns
  pub below : result ≡ Err OutOfMemory
      → RanOutBelow rows ((engine_at old).next + turns) (engine_at old) (engine_at new)
  pub looks : turns ≡ 0 → (engine_at new ≡ engine_at old) × IfErr result (λ f. f ≡ BadLimit)

-- and the same query by query: those of different queries run in any order, also at the same time
pub record DrainsSomeByQuery (old : PlainLocked) (rows turns : ℕ) (result : Result Bool Fault)
    (new : PlainLocked) : Type 0 where
  pub legal : IsReplayed old
  pub runs : RunsByQuery (engine_at old) rows (as_drained result) (engine_at new)
  pub others : LeavesOthers (engine_at old) (engine_at new)
  pub machine : (engine_at new).machine ≡ (engine_at old).machine
  pub most : (engine_at new).next ≤ (engine_at old).next + turns
  pub some : turns ≢ 0 → HasReady (engine_at old)
      → OnOk result ((engine_at old).next < (engine_at new).next)
  pub more : result ≡ Ok true → HasReady (engine_at new)
  pub last : result ≡ Ok true → (engine_at new).next ≡ (engine_at old).next + turns
  pub idle : result ≡ Ok false → first_of (engine_at new).slots ≡ None
  pub all : result ≡ Ok false → HasAllWaiting (engine_at new)
  pub rest : result ≡ Ok false → Hands new rows (Ok leased.Idle) new
  pub fewer : result ≡ Err TooManyLeases → (engine_at new).next < (engine_at old).next + turns
  pub below : result ≡ Err OutOfMemory → (engine_at new).next < (engine_at old).next + turns
  pub looks : turns ≡ 0 → (engine_at new ≡ engine_at old) × IfErr result (λ f. f ≡ BadLimit)

-- a turn of at most so many rows goes out
pub record Lends (old : PlainLocked) (rows : ℕ) (t : Turn) (new : PlainLocked) : Type 0 where
  pub legal : IsReplayed old
  pub turn : IsTurnOf (engine_at old) rows t (engine_at new)

-- the end was called
pub record HasEnded (old new : PlainLocked) : Type 0 where
  pub legal : IsReplayed old
  pub called : old.has_ended ≡ true
  pub same : new ≡ old

-- WHAT LOOK-UPS FIND
pub record FindsStream (l : PlainLocked) (name : List ℕ) (found : Option ℕ) : Type 0 where
  pub legal : IsReplayed l
  pub is : found ≡ stream_named (engine_at l).machine name

-- WHAT LOOKS SEE
-- whether an operator may take something
pub record SeesReady (l : PlainLocked) (result : Bool) : Type 0 where
  pub legal : IsReplayed l
  pub is : IsTrue result ↔ HasReady (engine_at l)

-- one may
pub record IsReady (l : PlainLocked) : Type 0 where
  pub legal : IsReplayed l
  pub ready : HasReady (engine_at l)

pub record SeesWaiting (l : PlainLocked) (query : ℕ) (result : Result ℕ Fault) : Type 0 where
  pub legal : IsReplayed l
  pub is : WaitsAt (engine_at l) query result

pub record SeesPending {A : Type 0} (view : A → List ℕ) (l : PlainLocked) (query : ℕ)
    (result : Result A Fault) : Type 0 where
  pub legal : IsReplayed l
  pub is : IsPending view (engine_at l) query result

-- how far each stream and each query is; all its answers up to there wait or were taken
pub record SeesStatus (l : PlainLocked) (result : Result Status Fault) : Type 0 where
  pub legal : IsReplayed l
  pub is : IfOk result (λ s. status_in s ≡ status_in_engine (engine_at l))
  pub upto : AreCompleteUpto (engine_at l)
  pub want : IfErr result (λ f. f ≡ OutOfMemory)

-- what a take would answer
pub record SeesPeek {A : Type 0} (view : A → List (ℤ × List (Option ℤ))) (l : PlainLocked)
    (query : ℕ) (limit : ℤ) (result : Result A Fault) : Type 0 where
  pub legal : IsReplayed l
  pub is : Peeks view (engine_at l) query limit result
  pub next : IfOk result (λ rows. AreNext (engine_at l).machine query limit (view rows))

pub record SeesSlopes {A : Type 0} (view : A → List (NodeKind × Fraction)) (l : PlainLocked)
    (query : ℕ) (result : Result A Fault) : Type 0 where
  pub legal : IsReplayed l
  pub is : Looks view (slopes_at (world_of (engine_at l)) query) result
