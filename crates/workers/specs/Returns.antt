-- A turn that a worker held.
use Rattle.std.specs.Prelude.{◌≡◌, ◌⊎◌, ⊤, Result, Err}
use Rattle.turn.specs.Finished.{IsDone, IsOf}
use Rattle.turn.specs.declared.parts.Parts.{Parts}
use Rattle.turn.specs.declared.turns.Turn.{Turn}
use Rattle.reference.specs.declared.fault.Fault.{Fault}
use Rattle.reference.specs.declared.fault.Fault.TheVariants.{OutOfMemory}
use Rattle.hub.specs.Steps.{PlainLocked}
use Rattle.hub.specs.Workers.{Ends, GivesUp}

-- IT WAS RUN, and came back so: taken in, or refused as one that is not
-- out or as a stranger, or its query broke since memory ran out
abbrev pub WasRun : Turn → Result ⊤ Fault → Type 0
WasRun turn answer = (done : Parts) × IsOf turn done × IsDone done
    × ((old : PlainLocked) × (new : PlainLocked) × Ends old done answer new)

-- IT WAS GIVEN UP, since memory ran out where it ran
abbrev pub WasGivenUp : Turn → Result ⊤ Fault → Type 0
WasGivenUp turn answer =
    (answer ≡ Err OutOfMemory) × ((given : Result ⊤ Fault)
    × ((old : PlainLocked) × (new : PlainLocked) × GivesUp old turn.lease given new))

-- the one or the other
abbrev pub IsBroughtBack : Turn → Result ⊤ Fault → Type 0
IsBroughtBack turn answer = WasRun turn answer ⊎ WasGivenUp turn answer
