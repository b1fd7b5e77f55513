-- What a drain that leaves all as it was where it is refused promises.
use Rattle.std.proofs.Common.{◌≡◌, Bool, true, false, [], ◌∷◌, Result, Ok, Err, ap, subst, sym, ℕ}
use Rattle.std.specs.Prelude.{not, ◌&&◌, nat_le, ⊤}
use Rattle.names.specs.Faults.{first_of}
use Rattle.reference.specs.World.{World, Step, Does, Drains, WaitingAreNext, drain_step, unless}
use Rattle.reference.specs.declared.limits.TheConstants.{MAX_TURN}
use Rattle.reference.specs.declared.fault.Fault.{Fault}
use Rattle.reference.specs.declared.fault.Fault.TheVariants.{Query, BadName, NameTaken, BadColumns, TooMany, UnknownStream, UnknownQuery, BadWidth, ValueRange, InstantRange, Late, Backward, Leap, StreamFull, BadLimit, Broken, UnknownLease, Stranger, TooManyLeases, HistoryFull, OutOfMemory, Foreign}

abbrev refused : Fault → Result ⊤ Fault
refused f = Err f

abbrev IsOther : Result ⊤ Fault → Type 0
IsOther (Ok a) = Unit {0}
IsOther (Err TooManyLeases) = ⊥
IsOther (Err f) = Unit {0}

by_test : (b : Bool) (w made new : World) (e : unless {A = ⊤} (first_of ((b, BadLimit) ∷ [])) w tt made ≡ (refused TooManyLeases, new)) → ⊥
by_test true w made new e = subst (λ (s : Step ⊤). IsOther s.0) e tt
by_test false w made new e = subst (λ (s : Step ⊤). IsOther s.0) e tt

-- no number of a turn is wanted
not_numbers : (w new : World) (rows : ℕ) → drain_step w rows ≡ (refused TooManyLeases, new) → ⊥
unfolding drain_step
not_numbers w new rows e = by_test (not (nat_le 1 rows && nat_le rows MAX_TURN)) w _ new e

pub not_wanted : (w new : World) (rows : ℕ) (r : Result ⊤ Fault) → Does (λ u. u) w (drain_step w rows) r new → r ≡ Err TooManyLeases → ⊥
not_wanted w new rows r d is = not_numbers w new rows (subst (λ (a : Result ⊤ Fault). Does (λ u. u) w (drain_step w rows) a new) is d)

pub drains : (w new : World) (rows : ℕ) (r : Result ⊤ Fault) → Does (λ u. u) w (drain_step w rows) r new → Drains w (drain_step w rows) r new
drains w new rows (Ok a) d = d
drains w new rows (Err (Query f)) d = d
drains w new rows (Err BadName) d = d
drains w new rows (Err NameTaken) d = d
drains w new rows (Err BadColumns) d = d
drains w new rows (Err TooMany) d = d
drains w new rows (Err UnknownStream) d = d
drains w new rows (Err UnknownQuery) d = d
drains w new rows (Err BadWidth) d = d
drains w new rows (Err ValueRange) d = d
drains w new rows (Err InstantRange) d = d
drains w new rows (Err Late) d = d
drains w new rows (Err Backward) d = d
drains w new rows (Err Leap) d = d
drains w new rows (Err StreamFull) d = d
drains w new rows (Err BadLimit) d = d
drains w new rows (Err Broken) d = d
drains w new rows (Err UnknownLease) d = d
drains w new rows (Err Stranger) d = d
drains w new rows (Err HistoryFull) d = d
drains w new rows (Err (Foreign entries)) d = d
drains w new rows (Err TooManyLeases) d = absurd (not_numbers w new rows d)
drains w new rows (Err OutOfMemory) d =
    record { machine = ap (λ (x : World). x.machine) d.0; lacks = d.1; next = subst WaitingAreNext (sym d.0) }
