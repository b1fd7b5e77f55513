-- A query passes instants in a drain.
use Rattle.std.specs.Prelude.{ℕ, zero, suc, ◌≡◌, ◌<◌, ◌≤◌, Some, List, [], ◌∷◌, ◌++◌, length}
use Rattle.reference.specs.Machine.{Registered}
use Rattle.laws_queries.specs.Plain.{PlainQuery}
use Rattle.query_runtime.specs.Passing.{AreQuiet, HavePassed, MayPassAll}
use Rattle.run_queue.specs.declared.slots.Slot.{Slot}
use Rattle.laws_engine.specs.Engines.{PlainEngine, Running, query_at, remains_at, slot_at}
use Rattle.laws_engine.specs.Passing.{HasPassed}
use Rattle.leases.specs.Applied.{with_remains}
use Rattle.leases.specs.Asked.{IsAt}

-- the query runs, and each of its operators may be looked up
pub record MayLookAt (e : PlainEngine) (n : ℕ) : Type 0 where
  pub query : Registered
  pub plain : PlainQuery
  pub registered : query_at e n ≡ Some query
  pub running : remains_at e n ≡ Running plain
  pub each : (k : ℕ) → k < length plain.operators → IsAt e n k query plain

-- below the instant that was found each may pass, if that is not below the least
abbrev pub IsQuietUntil : PlainEngine → ℕ → ℕ → ℕ → ℕ → Type 0
IsQuietUntil e n start least until =
    (p : PlainQuery) → remains_at e n ≡ Running p
    → (b : ℕ) → start < b → b ≤ until → least ≤ until → MayPassAll start b e.machine.streams p

-- the slots of the first operators of the query
abbrev pub slots_below : PlainEngine → ℕ → Registered → PlainQuery → ℕ → List Slot
slots_below e n q p zero = []
slots_below e n q p (suc k) = slots_below e n q p k ++ slot_at e n q p k ∷ []

abbrev pub AreSlotsBelow : PlainEngine → ℕ → ℕ → List Slot → Type 0
AreSlotsBelow e n k slots = (q : Registered) (p : PlainQuery) → query_at e n ≡ Some q
    → remains_at e n ≡ Running p → slots ≡ slots_below e n q p k

abbrev pub AreSlotsOf : PlainEngine → ℕ → List Slot → Type 0
AreSlotsOf e n slots = (q : Registered) (p : PlainQuery) → query_at e n ≡ Some q
    → remains_at e n ≡ Running p → slots ≡ slots_below e n q p (length p.operators)

-- A PASS that may be: no turn is out, below the instant
-- nothing is to be done, and these are the query's slots
pub record IsPass (e : PlainEngine) (n b : ℕ) (slots : List Slot) : Type 0 where
  pub returned : e.leases ≡ []
  pub start : ℕ
  pub may : (p : PlainQuery) → remains_at e n ≡ Running p → MayPassAll start b e.machine.streams p
  pub listed : AreSlotsOf e n slots

-- the query may pass
abbrev pub MayPassIn : PlainEngine → ℕ → ℕ → Type 0
MayPassIn e n b = (p : PlainQuery) × ((remains_at e n ≡ Running p) × AreQuiet b p)

-- it has, and its slots are as they were
abbrev pub HasPassedIn : PlainEngine → ℕ → ℕ → PlainEngine → Type 0
HasPassedIn old n b new =
    (p : PlainQuery) → remains_at old n ≡ Running p
    → (p2 : PlainQuery) × (HavePassed b p p2 × (new ≡ with_remains old n (Running p2)))

-- some query has passed up to some instant
abbrev pub OneHasPassed : PlainEngine → PlainEngine → Type 0
OneHasPassed old new = (n : ℕ) × ((b : ℕ) × HasPassed old n b new)
