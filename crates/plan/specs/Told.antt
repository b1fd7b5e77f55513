-- The faults of the code as those of the definitions.
use Rattle.std.specs.Prelude.{◌≡◌, Option, Some}
use Rattle.names.specs.declared.fault.ResolveError.{ResolveError}
use Rattle.names.specs.declared.fault.ResolveError.TheVariants as resolving
use Rattle.plan.specs.declared.fault.PlanError.{PlanError}
use Rattle.plan.specs.declared.fault.PlanError.TheVariants.{OutOfMemory, Fault}
use Rattle.plan.specs.declared.fault.PlanFault.{PlanFault}
use Rattle.plan.specs.declared.fault.PlanFault.TheVariants.{Unresolved}

-- The fault that is told is the first one. That a growth was refused says nothing of the query.
abbrev pub Told : PlanError → Option PlanFault → Type 0
Told OutOfMemory first = Unit {0}
Told (Fault fault) first = first ≡ Some fault

-- why names were not resolved, as why the query was not planned
abbrev pub error_from : ResolveError → PlanError
error_from resolving.OutOfMemory = OutOfMemory
error_from (resolving.Fault fault) = Fault (Unresolved fault)
