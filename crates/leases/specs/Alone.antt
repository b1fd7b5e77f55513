-- A query that is drained by itself.
use Rattle.std.specs.Prelude.{ℕ, ◌≡◌, ◌<◌, ◌≤◌, ◌||◌, Bool, true, false, Some, List, [], ◌∷◌}
use Rattle.std.specs.Prelude.{length}
use Rattle.column.specs.declared.batch.Side.{Side}
use Rattle.operators.specs.Ready.{ready}
use Rattle.operators.specs.Runs.{Stops}
use Rattle.operators.specs.declared.runs.Refused.{Refused}
use Rattle.reference.specs.Machine.{Registered, Stream}
use Rattle.laws_queries.specs.Plain.{PlainQuery, operator_at}
use Rattle.query_runtime.specs.Passing.{HavePassed, MayPassAll}
use Rattle.query_runtime.specs.Runs.{HasRun}
use Rattle.query_runtime.specs.Turns.{HasOperator, log_of}
use Rattle.run_queue.specs.declared.slots.Slot.{Slot}
use Rattle.laws_engine.specs.Bounds.{HaveFewClosed}
use Rattle.laws_engine.specs.Engines.{PlainEngine, Running, query_at, remains_at}
use Rattle.laws_engine.specs.Good.{GoodEngine}
use Rattle.leases.specs.declared.state.jobs.Quota.{Quota}
use Rattle.leases.specs.declared.state.jobs.Ran.{Ran}

-- A STEP OF A QUERY: one of its operators takes what stands first on a side; or all pass the
-- instants below one at which they have nothing to do; or one of them takes only so many of the
-- rows, since it ran out of memory
pub data OwnStep : Type 0 where
  Takes : ℕ → Side → OwnStep
  PassesTo : ℕ → OwnStep
  TakesLess : ℕ → ℕ → Side → OwnStep

pub record HasTakenOwn (streams : List Stream) (rows : ℕ) (p : PlainQuery) (k : ℕ) (side : Side)
    (p2 : PlainQuery) : Type 0 where
  pub here : HasOperator streams p k
  pub ran : HasRun streams p k side rows p2

-- it may pass the instants below b, from some on, and has
pub record MayPassOwn (streams : List Stream) (p : PlainQuery) (b : ℕ) : Type 0 where
  pub start : ℕ
  pub each : MayPassAll start b streams p

pub record HasPassedOwn (streams : List Stream) (p : PlainQuery) (b : ℕ)
    (p2 : PlainQuery) : Type 0 where
  pub may : MayPassOwn streams p b
  pub passed : HavePassed b p p2

abbrev pub IsOwnStep : List Stream → ℕ → PlainQuery → OwnStep → PlainQuery → Type 0
IsOwnStep streams rows p (Takes k side) p2 = HasTakenOwn streams rows p k side p2
IsOwnStep streams rows p (PassesTo b) p2 = HasPassedOwn streams p b p2
IsOwnStep streams rows p (TakesLess count k side) p2 =
    (0 < count) × (count < rows) × HasTakenOwn streams count p k side p2

-- it ran out of memory
abbrev pub is_less_own : OwnStep → Bool
is_less_own (Takes k side) = false
is_less_own (PassesTo b) = false
is_less_own (TakesLess count k side) = true

-- one that did, or one that did not
abbrev pub OneOwnStep : Bool → List Stream → ℕ → PlainQuery → PlainQuery → Type 0
OneOwnStep less streams rows p p2 =
    (s : OwnStep) × (IsOwnStep streams rows p s p2 × (is_less_own s ≡ less))

-- one after the other
abbrev pub HaveRunOwn : List Stream → ℕ → PlainQuery → List OwnStep → PlainQuery → Type 0
HaveRunOwn streams rows p [] p2 = p2 ≡ p
HaveRunOwn streams rows p (s ∷ steps) p3 =
    (p2 : PlainQuery) × (IsOwnStep streams rows p s p2 × HaveRunOwn streams rows p2 steps p3)

-- one or more of them ran out of memory
abbrev pub one_was_less_own : List OwnStep → Bool
one_was_less_own [] = false
one_was_less_own (s ∷ steps) = is_less_own s || one_was_less_own steps

-- IT MAY RUN BY ITSELF: it is of some good engine over these streams, no turn of which is out
pub record MayRunAlone (streams : List Stream) (q : Registered) (p : PlainQuery) : Type 0 where
  pub engine : PlainEngine
  pub good : GoodEngine engine
  pub returned : engine.leases ≡ []
  pub closed : HaveFewClosed engine.machine
  pub over : engine.machine.streams ≡ streams
  pub number : ℕ
  pub registered : query_at engine number ≡ Some q
  pub running : remains_at engine number ≡ Running p

-- the slot is of an operator that is ready on the slot's side
pub record IsReadyIn (streams : List Stream) (p : PlainQuery) (s : Slot) : Type 0 where
  pub within : s.operator < length p.operators
  pub ready : ready (operator_at p.operators s.operator) (log_of streams p s.operator)
      ≡ Some (s.side, s.instant)

-- a step was refused memory: the query is as it was, or the step took fewer rows
abbrev pub HasStoppedOwn : Refused → List Stream → ℕ → PlainQuery → PlainQuery → Type 0
HasStoppedOwn r streams rows p p2 = Stops r (p2 ≡ p) (OneOwnStep true streams rows p p2)

-- IT HAS RUN BY ITSELF: steps of its own, each with a number, at
-- most as many as it may. If it was stopped, one ran out of memory
pub record HasRunAlone (streams : List Stream) (quota : Quota) (p : PlainQuery) (ran : Ran)
    (p2 : PlainQuery) : Type 0 where
  pub steps : List OwnStep
  pub run : HaveRunOwn streams quota.rows p steps p2
  pub few : ran.turns ≤ quota.turns
  pub counts : ran.turns ≡ length steps
  pub stopped : ran.stopped ≡ one_was_less_own steps
