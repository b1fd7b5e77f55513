-- The faults of the code as those of the definitions.
use Rattle.std.specs.Prelude.{◌≡◌, Bool, Option, Some, None, Result, Ok, Err, List, [], ◌∷◌}
use Rattle.names.specs.declared.fault.ResolveError.{ResolveError}
use Rattle.names.specs.declared.fault.ResolveError.TheVariants.{OutOfMemory, Fault}
use Rattle.names.specs.declared.fault.ResolveFault.{ResolveFault}
use Rattle.names.specs.declared.fault.ResolveFault.TheVariants.{UnknownStream, UnknownColumn}
use Rattle.names.specs.declared.fault.ResolveFault.TheVariants.{AmbiguousColumn, DuplicateAlias}
use Rattle.names.specs.declared.fault.ResolveFault.TheVariants.{NoJoinKey, NotGrouped, TooWide}
use Rattle.names.specs.declared.fault.Tests.{Tests}

-- The fault that is told is the first one. That a growth was refused says nothing of the query.
abbrev pub Told : ResolveError → Option ResolveFault → Type 0
Told OutOfMemory first = Unit {0}
Told (Fault fault) first = first ≡ Some fault

-- refused exactly where there is a first fault, and by it
abbrev pub Refuses : {A : Type 0} → Result A ResolveFault → Option ResolveFault → Type 0
Refuses (Ok a) first = first ≡ None
Refuses (Err fault) first = first ≡ Some fault

-- the tests in their order, each with its fault
abbrev pub tests_of : Tests → List (Bool × ResolveFault)
tests_of t =
    (t.unknown_stream, UnknownStream) ∷ (t.unknown_column, UnknownColumn)
    ∷ (t.ambiguous_column, AmbiguousColumn)
    ∷ (t.duplicate_alias, DuplicateAlias) ∷ (t.no_join_key, NoJoinKey) ∷ (t.not_grouped, NotGrouped)
    ∷ (t.too_wide, TooWide) ∷ []
