-- Turns that go out, come back or do not leave the machine as it is; of drains DrainLemmas says it.
use Rattle.std.proofs.Common.{◌≡◌, ℕ, Result, Ok, Err, ap}
use Rattle.std.specs.Prelude.{⊤}
use Rattle.turn.specs.declared.parts.Parts.{Parts}
use Rattle.reference.specs.declared.fault.Fault.{Fault}
use Rattle.reference.specs.declared.fault.Fault.TheVariants as fault
use Rattle.reference.specs.declared.fault.Fault.TheVariants.{Query, BadName, NameTaken, BadColumns, TooMany, UnknownStream, UnknownQuery, BadWidth, ValueRange, InstantRange, Late, Backward, Leap, StreamFull, BadLimit, UnknownLease, Stranger, TooManyLeases, HistoryFull, OutOfMemory, Foreign}
use Rattle.laws_engine.specs.Engines.{PlainEngine}
use Rattle.leases.proofs.DrainLemmas.{comes_machine}
use Rattle.leases.specs.Turns.{Abandons, Finishes, Leases, lease_of_parts}
use Rattle.leases.specs.declared.leased.Leased.{Leased}
use Rattle.leases.specs.declared.leased.Leased.TheVariants as answer

-- a lease that is refused leaves all as it was
same_refused : (e1 e2 : PlainEngine) (rows : ℕ) (f : Fault) → Leases e1 rows (Err f) e2 → e2 ≡ e1
same_refused e1 e2 rows OutOfMemory h = h.1
same_refused e1 e2 rows TooManyLeases h = h.1
same_refused e1 e2 rows (Query x) h = h.1
same_refused e1 e2 rows BadName h = h.1
same_refused e1 e2 rows NameTaken h = h.1
same_refused e1 e2 rows BadColumns h = h.1
same_refused e1 e2 rows TooMany h = h.1
same_refused e1 e2 rows UnknownStream h = h.1
same_refused e1 e2 rows UnknownQuery h = h.1
same_refused e1 e2 rows BadWidth h = h.1
same_refused e1 e2 rows ValueRange h = h.1
same_refused e1 e2 rows InstantRange h = h.1
same_refused e1 e2 rows Late h = h.1
same_refused e1 e2 rows Backward h = h.1
same_refused e1 e2 rows Leap h = h.1
same_refused e1 e2 rows StreamFull h = h.1
same_refused e1 e2 rows BadLimit h = h.1
same_refused e1 e2 rows fault.Broken h = h.1
same_refused e1 e2 rows UnknownLease h = h.1
same_refused e1 e2 rows Stranger h = h.1
same_refused e1 e2 rows HistoryFull h = h.1
same_refused e1 e2 rows (Foreign entries) h = h.1

pub leases_keep_the_machine : (old new : PlainEngine) (rows : ℕ) (r : Result Leased Fault) → Leases old rows r new → new.machine ≡ old.machine
leases_keep_the_machine old new rows (Ok (answer.Turn t)) h = ap (λ e. e.machine) h.after
leases_keep_the_machine old new rows (Ok answer.Idle) h = ap (λ e. e.machine) h.2
leases_keep_the_machine old new rows (Err f) h = ap (λ e. e.machine) (same_refused old new rows f h)

-- a turn that comes back also where it breaks its query
pub finishes_keep_the_machine : (old new : PlainEngine) (d : Parts) (r : Result ⊤ Fault) → Finishes old d r new → new.machine ≡ old.machine
finishes_keep_the_machine old new d (Ok u) h = comes_machine old new (lease_of_parts d) h.0 h.1.0 h.1.1.0 h.1.1.1.1
finishes_keep_the_machine old new d (Err OutOfMemory) h = ap (λ e. e.machine) h.1.1.1
finishes_keep_the_machine old new d (Err UnknownLease) h = ap (λ e. e.machine) h.1
finishes_keep_the_machine old new d (Err Stranger) h = ap (λ e. e.machine) h.1
finishes_keep_the_machine old new d (Err (Query x)) h = absurd h
finishes_keep_the_machine old new d (Err BadName) h = absurd h
finishes_keep_the_machine old new d (Err NameTaken) h = absurd h
finishes_keep_the_machine old new d (Err BadColumns) h = absurd h
finishes_keep_the_machine old new d (Err TooMany) h = absurd h
finishes_keep_the_machine old new d (Err UnknownStream) h = absurd h
finishes_keep_the_machine old new d (Err UnknownQuery) h = absurd h
finishes_keep_the_machine old new d (Err BadWidth) h = absurd h
finishes_keep_the_machine old new d (Err ValueRange) h = absurd h
finishes_keep_the_machine old new d (Err InstantRange) h = absurd h
finishes_keep_the_machine old new d (Err Late) h = absurd h
finishes_keep_the_machine old new d (Err Backward) h = absurd h
finishes_keep_the_machine old new d (Err Leap) h = absurd h
finishes_keep_the_machine old new d (Err StreamFull) h = absurd h
finishes_keep_the_machine old new d (Err BadLimit) h = absurd h
finishes_keep_the_machine old new d (Err fault.Broken) h = absurd h
finishes_keep_the_machine old new d (Err HistoryFull) h = absurd h
finishes_keep_the_machine old new d (Err (Foreign entries)) h = absurd h
finishes_keep_the_machine old new d (Err TooManyLeases) h = absurd h

pub abandons_keep_the_machine : (old new : PlainEngine) (n : ℕ) (r : Result ⊤ Fault) → Abandons old n r new → new.machine ≡ old.machine
abandons_keep_the_machine old new n (Ok u) h = ap (λ e. e.machine) h.1.1.1.1.1.1
abandons_keep_the_machine old new n (Err UnknownLease) h = ap (λ e. e.machine) h.1
abandons_keep_the_machine old new n (Err OutOfMemory) h = absurd h
abandons_keep_the_machine old new n (Err Stranger) h = absurd h
abandons_keep_the_machine old new n (Err (Query x)) h = absurd h
abandons_keep_the_machine old new n (Err BadName) h = absurd h
abandons_keep_the_machine old new n (Err NameTaken) h = absurd h
abandons_keep_the_machine old new n (Err BadColumns) h = absurd h
abandons_keep_the_machine old new n (Err TooMany) h = absurd h
abandons_keep_the_machine old new n (Err UnknownStream) h = absurd h
abandons_keep_the_machine old new n (Err UnknownQuery) h = absurd h
abandons_keep_the_machine old new n (Err BadWidth) h = absurd h
abandons_keep_the_machine old new n (Err ValueRange) h = absurd h
abandons_keep_the_machine old new n (Err InstantRange) h = absurd h
abandons_keep_the_machine old new n (Err Late) h = absurd h
abandons_keep_the_machine old new n (Err Backward) h = absurd h
abandons_keep_the_machine old new n (Err Leap) h = absurd h
abandons_keep_the_machine old new n (Err StreamFull) h = absurd h
abandons_keep_the_machine old new n (Err BadLimit) h = absurd h
abandons_keep_the_machine old new n (Err fault.Broken) h = absurd h
abandons_keep_the_machine old new n (Err HistoryFull) h = absurd h
abandons_keep_the_machine old new n (Err (Foreign entries)) h = absurd h
abandons_keep_the_machine old new n (Err TooManyLeases) h = absurd h
