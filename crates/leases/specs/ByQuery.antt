-- A drain that takes query by query: turns of any operators that might be leased.
use Rattle.std.specs.Prelude.{ℕ, ⊤, ◌≡◌, ◌<◌, ◌⊎◌, ◌||◌, true, false, Bool, min, None, Some, List}
use Rattle.std.specs.Prelude.{[], ◌∷◌}
use Rattle.std.specs.Prelude.{Result, Ok, Err}
use Rattle.std.specs.List.{AllByRecursion}
use Rattle.op_queue.specs.Items.{entries_of}
use Rattle.operators.specs.Inboxes.{cut_of}
use Rattle.operators.specs.Ready.{inbox_of}
use Rattle.reference.specs.Machine.{Registered}
use Rattle.reference.specs.World.{drain_fault}
use Rattle.reference.specs.declared.fault.Fault.{Fault}
use Rattle.reference.specs.declared.fault.Fault.TheVariants.{BadLimit, OutOfMemory, TooManyLeases}
use Rattle.laws_queries.specs.Plain.{PlainQuery, log_at, operator_at}
use Rattle.laws_engine.specs.Calls.{leased}
use Rattle.laws_engine.specs.Engines.{Lease, PlainEngine}
use Rattle.laws_engine.specs.Histories.{Finishes, IsCallStep}
use Rattle.laws_engine.specs.Orders.{IsReady}
use Rattle.laws_engine.specs.Passing.{HasPassed}
use Rattle.leases.specs.Turns.{HasReady, IsFull, lease_fault}

-- A TURN THAT MIGHT GO OUT goes out: of any operator that has something to take and of which no
-- turn is out, with what comes out at once of what waits there, at most so many rows
pub record IsTurnOfAny (e : PlainEngine) (rows : ℕ) (l : Lease) (q : Registered)
    (p : PlainQuery) : Type 0 where
  pub ready : IsReady e l q p
  pub cut : entries_of l.item ≡ cut_of (min rows 1024)
      (inbox_of (operator_at p.operators l.operator) l.side) (log_at e.machine q l.operator)

abbrev pub GoesOutOfAny : ℕ → PlainEngine → Lease → PlainEngine → Type 0
GoesOutOfAny rows e l out = (q : Registered)
    × ((p : PlainQuery) × (IsTurnOfAny e rows l q p × (out ≡ leased e l q p)))

-- and comes back
abbrev pub GoesAndComes : ℕ → PlainEngine → Lease → PlainEngine → Type 0
GoesAndComes rows old l new =
    (out : PlainEngine) × (GoesOutOfAny rows old l out × IsCallStep out (Finishes l) new)

-- A STEP: one goes out and comes back; or a query passes the instants below one at which it has
-- nothing to do; or memory ran out, and a turn takes so many rows, fewer than it might, and comes
-- back
pub data AnyStep : Type 0 where
  RanAny : Lease → AnyStep
  PassedAny : ℕ → ℕ → AnyStep
  LessAny : ℕ → Lease → AnyStep

abbrev pub IsAnyStep : ℕ → PlainEngine → AnyStep → PlainEngine → Type 0
IsAnyStep rows old (RanAny l) new = GoesAndComes rows old l new
IsAnyStep rows old (PassedAny n b) new = HasPassed old n b new
IsAnyStep rows old (LessAny n l) new = (0 < n) × (n < rows) × GoesAndComes n old l new

-- it took fewer rows
abbrev pub is_less : AnyStep → Bool
is_less (RanAny l) = false
is_less (PassedAny n b) = false
is_less (LessAny n l) = true

-- STEPS, one after the other
abbrev pub HaveRunAny : ℕ → PlainEngine → List AnyStep → PlainEngine → Type 0
HaveRunAny rows old [] new = new ≡ old
HaveRunAny rows old (s ∷ steps) new =
    (mid : PlainEngine) × (IsAnyStep rows old s mid × HaveRunAny rows mid steps new)

-- some have run
abbrev pub SomeHaveRunAny : ℕ → PlainEngine → PlainEngine → Type 0
SomeHaveRunAny rows old new = (steps : List AnyStep) × HaveRunAny rows old steps new

-- some were done, and none of them took fewer rows
abbrev pub SomeWereDone : ℕ → PlainEngine → PlainEngine → Type 0
SomeWereDone rows old new = (steps : List AnyStep)
    × (HaveRunAny rows old steps new × AllByRecursion (λ s. is_less s ≡ false) steps)

-- or one or more of them did
abbrev pub one_was_less : List AnyStep → Bool
one_was_less [] = false
one_was_less (s ∷ steps) = is_less s || one_was_less steps

abbrev pub SomeWereLess : ℕ → PlainEngine → PlainEngine → Type 0
SomeWereLess rows old new = (steps : List AnyStep)
    × (HaveRunAny rows old steps new × (one_was_less steps ≡ true))

-- MEMORY RAN OUT for a turn of one row: some have run, and one that might go out did nothing
abbrev pub HasRunOut : ℕ → PlainEngine → PlainEngine → Type 0
HasRunOut rows old new = SomeHaveRunAny rows old new × (lease_fault new rows ≡ None) × HasReady new

-- A DRAIN by turns of at most so many rows: some have run; or it was refused where that number is
-- out of range; or it ended where an operator may be leased and as many turns are out as may be, or
-- all numbers were given; or memory ran out
abbrev pub RunsByQuery : PlainEngine → ℕ → Result ⊤ Fault → PlainEngine → Type 0
RunsByQuery old rows (Ok u) new = (drain_fault rows ≡ None) × SomeHaveRunAny rows old new
RunsByQuery old rows (Err BadLimit) new = (drain_fault rows ≡ Some BadLimit) × (new ≡ old)
RunsByQuery old rows (Err TooManyLeases) new =
    (drain_fault rows ≡ None) × (SomeHaveRunAny rows old new × IsFull new × HasReady new)
RunsByQuery old rows (Err OutOfMemory) new =
    (drain_fault rows ≡ None) × HasRunOut rows old new
RunsByQuery old rows (Err fault) new = ⊥

-- ONE TRY of it, by turns of so many rows: memory ran out in one of the steps, which took fewer
-- rows; or some were done, and then one that might go out did nothing
abbrev pub RanShort : ℕ → PlainEngine → PlainEngine → Type 0
RanShort rows old new = SomeWereLess rows old new
    ⊎ (SomeWereDone rows old new × (lease_fault new rows ≡ None) × HasReady new)

abbrev pub RunsOnce : PlainEngine → ℕ → Result ⊤ Fault → PlainEngine → Type 0
RunsOnce old rows (Ok u) new = SomeWereDone rows old new
RunsOnce old rows (Err TooManyLeases) new = SomeWereDone rows old new × IsFull new × HasReady new
RunsOnce old rows (Err OutOfMemory) new = RanShort rows old new
RunsOnce old rows (Err fault) new = ⊥

-- and where it did so before an end, a number below the end was left for one more
abbrev pub RanShortBelow : ℕ → ℕ → PlainEngine → PlainEngine → Type 0
RanShortBelow rows end old new = SomeWereLess rows old new ⊎ (new.next < end)

-- A QUERY CAME HOME: none of its steps took fewer rows, or one did
abbrev pub HaveComeHome : ℕ → Bool → PlainEngine → PlainEngine → Type 0
HaveComeHome rows true old new = SomeWereDone rows old new
HaveComeHome rows false old new = SomeWereLess rows old new
