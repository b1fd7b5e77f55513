-- What the look at a query's text gives.
use Rattle.std.specs.Prelude.{◌≡◌, Result, Ok, Err}
use Rattle.reference.specs.Commands as commands
use Rattle.reference.specs.declared.fault.Fault.{Fault}
use Rattle.reference.specs.declared.fault.Fault.TheVariants.{Query, OutOfMemory}
use Rattle.reference.specs.declared.fault.QueryFault.{QueryFault}
use Rattle.plan.specs.declared.operators.Plan.{Plan}
use Rattle.reference.specs.Standing.{found_of}

-- the fault is the defined one, unless memory ran out
abbrev pub FindsFault : Result commands.Found QueryFault → Fault → Type 0
FindsFault defined (Query fault) = defined ≡ Err fault
FindsFault defined OutOfMemory = Unit {0}
FindsFault defined _ = ⊥

-- what the text means, or its first fault, unless memory ran out
abbrev pub Finds : Result commands.Found QueryFault → Result Plan Fault → Type 0
Finds defined (Ok plan) = defined ≡ Ok (found_of plan)
Finds defined (Err fault) = FindsFault defined fault
