-- TO BELIEVE: the theorem rests on these definitions, and no proof can check them.
-- What is promised of an engine of many queries.
use Rattle.std.specs.Prelude.{ℕ, false, ◌≡◌, ◌<◌, ◌++◌, ◌⊎◌, Some, None, List, drop, length}
use Rattle.std.specs.declared.cmp.Ordering.TheVariants.{Less}
use Rattle.values.specs.Row.{Row}
use Rattle.column.specs.declared.batch.Side.{Side}
use Rattle.envelope.specs.Fraction.{NoGreater}
use Rattle.reference.specs.Machine.{Machine, Registered, closed_answers}
use Rattle.laws_forgetting.specs.Below.{answers_below}
use Rattle.laws_queries.specs.Plain.{PlainQuery}
use Rattle.run_queue.specs.Slots.{first_of, slot_cmp}
use Rattle.run_queue.specs.declared.slots.Slot.{Slot}
use Rattle.laws_engine.specs.Engines.{HasGiven, PlainEngine, Running, answers_in, is_leased}
use Rattle.laws_engine.specs.Engines.{next_at, next_of, query_at, remains_at, slope_at, slot_at}

-- what is said of each query that runs: of its number, of it, and of its operators and queues
abbrev pub OfEachRunning : PlainEngine → (ℕ → Registered → PlainQuery → Type 0) → Type 0
OfEachRunning e Says = (n : ℕ) (q : Registered) (p : PlainQuery) → query_at e n ≡ Some q
    → remains_at e n ≡ Running p → Says n q p

-- what is said of each operator of such a query, by its number
abbrev pub OfEachOperator : PlainEngine → (ℕ → Registered → PlainQuery → ℕ → Type 0) → Type 0
OfEachOperator e Says = (n k : ℕ) (q : Registered) (p : PlainQuery) → query_at e n ≡ Some q
    → remains_at e n ≡ Running p → k < length q.nodes → Says n q p k

-- what is said of each operator that may be leased
abbrev pub OfEachReady : PlainEngine → (ℕ → Registered → PlainQuery → ℕ → Type 0) → Type 0
OfEachReady e Says = (n k : ℕ) (q : Registered) (p : PlainQuery) (t : Side × ℕ)
    → query_at e n ≡ Some q → remains_at e n ≡ Running p → k < length q.nodes
    → next_at e n q p k ≡ Some t → Says n q p k

-- OF EACH QUERY the answers that were taken, and those that wait,
-- are a beginning of CQL's answers for the instants that are closed
abbrev pub GivesBeginnings : PlainEngine → Type 0
GivesBeginnings e = (n : ℕ) (q : Registered) → query_at e n ≡ Some q
    → HasGiven e.machine q (answers_in (remains_at e n))

-- they are all of them
pub record HasGivenAll (e : PlainEngine) (q : Registered) (p : PlainQuery) : Type 0 where
  pub taken : List (ℕ × Row)
  pub counted : length taken ≡ q.taken
  pub all : taken ++ p.answers ≡ closed_answers e.machine q

-- none of the query's operators may be leased, and none is
pub record HasNothingToRun (e : PlainEngine) (n : ℕ) (q : Registered)
    (p : PlainQuery) : Type 0 where
  pub unready : (k : ℕ) → k < length q.nodes → next_at e n q p k ≡ None
  pub returned : (k : ℕ) → is_leased e n k ≡ false

-- so of each query that runs of which nothing is left to run, whatever others have
abbrev pub GivesAll : PlainEngine → Type 0
GivesAll e = OfEachRunning e (λ n q p. HasNothingToRun e n q p → HasGivenAll e q p)

-- THE FIRST SLOT is of an operator that may be leased; no operator that may be leased has a greater
-- slope, and each other one stands behind it in the order of slots: by slope, then by the earlier
-- instant, then by the lower number of the query, then by that of the operator
pub record IsOfSteepest (e : PlainEngine) (s : Slot) : Type 0 where
  pub query : Registered
  pub registered : query_at e s.query ≡ Some query
  pub plain : PlainQuery
  pub running : remains_at e s.query ≡ Running plain
  pub within : s.operator < length query.nodes
  pub next : next_at e s.query query plain s.operator ≡ Some (s.side, s.instant)
  pub steepest : OfEachReady e (λ n q p k. NoGreater (slope_at q k) (slope_at query s.operator))
  pub first : OfEachReady e (λ n q p k.
      (slot_at e n q p k ≡ s) ⊎ (slot_cmp s (slot_at e n q p k) ≡ Less))

abbrev pub LeasesSteepest : PlainEngine → Type 0
LeasesSteepest e = (s : Slot) → first_of e.slots ≡ Some s → IsOfSteepest e s

-- WHERE THERE IS NO FIRST SLOT no operator may be leased
abbrev pub TellsIdleness : PlainEngine → Type 0
TellsIdleness e = first_of e.slots ≡ None
    → OfEachOperator e (λ n q p k. next_at e n q p k ≡ None)

-- THE ANSWERS BELOW AN INSTANT: those that were taken, and those that wait, are just these
pub record HasGivenBelow (m : Machine) (q : Registered) (waiting : List (ℕ × Row))
    (upto : ℕ) : Type 0 where
  pub taken : List (ℕ × Row)
  pub counted : length taken ≡ q.taken
  pub all : taken ++ waiting ≡ answers_below m q upto

-- so of each query that runs, up to the instant after the last tick of its root
abbrev pub AreCompleteUpto : PlainEngine → Type 0
AreCompleteUpto e = OfEachRunning e (λ n q p.
    HasGivenBelow e.machine q p.answers (next_of q p))

-- ALL FOUR
pub record KeepsItsPromises (e : PlainEngine) : Type 0 where
  pub begins : GivesBeginnings e
  pub all : GivesAll e
  pub steepest : LeasesSteepest e
  pub idle : TellsIdleness e

-- THERE WAIT, of each query that runs and of which no turn is out,
-- just those of its answers that are closed and not yet taken
abbrev pub HasAllWaiting : PlainEngine → Type 0
HasAllWaiting e = OfEachRunning e (λ n q p. ((k : ℕ) → is_leased e n k ≡ false)
    → p.answers ≡ drop q.taken (closed_answers e.machine q))
