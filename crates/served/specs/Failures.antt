-- What a server says of its first failure.
use Rattle.std.specs.Prelude.{◌≡◌, ℕ, List, Option, Some, None}
use Rattle.served.specs.Errors.{IsTold, accept_line, audit_line, thread_line}
use Rattle.served.specs.declared.alarm.Failure.{Failure}
use Rattle.served.specs.declared.alarm.Failure.TheVariants.{Accept, Audit, Thread}

-- what is said of a failure
abbrev pub line_of : Failure → List ℕ
line_of Accept = accept_line
line_of Audit = audit_line
line_of Thread = thread_line

-- the status after a failure
abbrev pub status_of : Failure → ℕ
status_of Accept = 1
status_of Audit = 1
status_of Thread = 3

-- a sink was given the line of the first failure, or nothing if nothing failed
abbrev pub IsToldFirst : {E : Type 0} → (E → Option (List ℕ)) → (E → ℕ) → E → E
    → Option Failure → Type 0
IsToldFirst taken failures old new None = new ≡ old
IsToldFirst taken failures old new (Some failure) = IsTold taken failures old new (line_of failure)
