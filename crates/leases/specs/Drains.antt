-- What a drain does: turns go out and come back, and queries pass instants.
use Rattle.std.specs.Prelude.{ℕ, Bool, true, false, ⊤, ◌≡◌, ◌<◌, ◌⊎◌, None, Some, List, [], ◌∷◌}
use Rattle.std.specs.Prelude.{Result, Ok, Err}
use Rattle.turn.specs.declared.turns.Turn.{Turn}
use Rattle.reference.specs.World.{drain_fault}
use Rattle.reference.specs.declared.fault.Fault.{Fault}
use Rattle.reference.specs.declared.fault.Fault.TheVariants.{BadLimit, OutOfMemory, TooManyLeases}
use Rattle.run_queue.specs.Slots.{first_of}
use Rattle.laws_engine.specs.Engines.{PlainEngine}
use Rattle.laws_engine.specs.Histories.{Finishes, IsCallStep}
use Rattle.laws_engine.specs.Passing.{HasPassed}
use Rattle.leases.specs.Turns.{HasReady, IsFull, IsTurnOf, lease_fault}
use Rattle.leases.specs.Views.{lease_of}

-- A STEP of a drain: a turn of at most so many rows of an operator of greatest slope, with the next
-- number, goes out and comes back; or a query, of which no turn is out, passes the instants below
-- one at which it has nothing to do
pub data Step : Type 0 where
  Ran : Turn → Step
  Passed : ℕ → ℕ → Step

abbrev pub IsDone : ℕ → PlainEngine → Step → PlainEngine → Type 0
IsDone rows old (Ran t) new =
    (out : PlainEngine) × (IsTurnOf old rows t out × IsCallStep out (Finishes (lease_of t)) new)
IsDone rows old (Passed n b) new = HasPassed old n b new

-- STEPS, one after the other
abbrev pub HaveRun : ℕ → PlainEngine → List Step → PlainEngine → Type 0
HaveRun rows old [] new = new ≡ old
HaveRun rows old (s ∷ steps) new =
    (mid : PlainEngine) × (IsDone rows old s mid × HaveRun rows mid steps new)

-- some did, and nothing else was done
abbrev pub SomeHaveRun : ℕ → PlainEngine → PlainEngine → Type 0
SomeHaveRun rows old new = (steps : List Step) × HaveRun rows old steps new

-- one went out and came back
abbrev pub OneTurnHasRun : ℕ → PlainEngine → PlainEngine → Type 0
OneTurnHasRun rows old new = (t : Turn) × IsDone rows old (Ran t) new

-- ONE RAN OUT OF MEMORY within: it is a turn of fewer rows, that went out and came back
pub record OneHasRunLess (rows : ℕ) (old new : PlainEngine) : Type 0 where
  pub count : ℕ
  pub some : 0 < count
  pub fewer : count < rows
  pub ran : OneTurnHasRun count old new

-- memory ran out for a turn that might go out: nothing was done, or the turn had fewer rows
abbrev pub RanOutOfMemory : ℕ → PlainEngine → PlainEngine → Type 0
RanOutOfMemory rows old new = ((lease_fault old rows ≡ None) × HasReady old × (new ≡ old))
    ⊎ OneHasRunLess rows old new

-- and so it did after turns that ran, of which there may be none
abbrev pub RanOutAfterTurns : ℕ → PlainEngine → PlainEngine → Type 0
RanOutAfterTurns rows old new =
    (last : PlainEngine) × (SomeHaveRun rows old last × RanOutOfMemory rows last new)

-- and the number of the turn that lacked it is below an end
abbrev pub RanOutBelow : ℕ → ℕ → PlainEngine → PlainEngine → Type 0
RanOutBelow rows end old new = (last : PlainEngine)
    × (SomeHaveRun rows old last × (RanOutOfMemory rows last new × (last.next < end)))

-- one was done
abbrev pub OneHasRun : ℕ → PlainEngine → PlainEngine → Type 0
OneHasRun rows old new = (s : Step) × IsDone rows old s new

-- AT LEAST ONE was done: some, and then one more
abbrev pub OneOrMoreHaveRun : ℕ → PlainEngine → PlainEngine → Type 0
OneOrMoreHaveRun rows old new =
    (last : PlainEngine) × (SomeHaveRun rows old last × OneHasRun rows last new)

-- or no operator may take anything; a refused step did nothing where an operator may be leased and
-- as many turns are out as may be, or all numbers were given; or memory ran out, after turns that
-- ran
abbrev pub RunsFirst : PlainEngine → ℕ → Result Bool Fault → PlainEngine → Type 0
RunsFirst old rows (Ok true) new = OneOrMoreHaveRun rows old new
RunsFirst old rows (Ok false) new = (first_of old.slots ≡ None) × (new ≡ old)
RunsFirst old rows (Err TooManyLeases) new = (new ≡ old) × IsFull old × HasReady old
RunsFirst old rows (Err OutOfMemory) new = RanOutAfterTurns rows old new
RunsFirst old rows (Err fault) new = ⊥

-- A DRAIN by turns of at most so many rows: some have run; a refused one did nothing where that
-- number is out of range, or ended where an operator may be leased and as many turns are out as may
-- be, or all numbers were given, or memory ran out for a turn
abbrev pub RunsTurns : PlainEngine → ℕ → Result ⊤ Fault → PlainEngine → Type 0
RunsTurns old rows (Ok u) new = (drain_fault rows ≡ None) × SomeHaveRun rows old new
RunsTurns old rows (Err BadLimit) new = (drain_fault rows ≡ Some BadLimit) × (new ≡ old)
RunsTurns old rows (Err TooManyLeases) new =
    (drain_fault rows ≡ None) × (SomeHaveRun rows old new × IsFull new × HasReady new)
RunsTurns old rows (Err OutOfMemory) new =
    (drain_fault rows ≡ None) × ((last : PlainEngine)
    × (SomeHaveRun rows old last × RanOutOfMemory rows last new))
RunsTurns old rows (Err fault) new = ⊥

-- A DRAIN OF A NUMBER OF TURNS, as one that goes on until nothing is ready
abbrev pub as_drained : Result Bool Fault → Result ⊤ Fault
as_drained (Ok more) = Ok tt
as_drained (Err fault) = Err fault

-- THE TURNS OF OTHERS, that were out before, all are out, and no more
abbrev pub LeavesOthers : PlainEngine → PlainEngine → Type 0
LeavesOthers old new = new.leases ≡ old.leases
