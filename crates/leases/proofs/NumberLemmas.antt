-- Numbers of turns are given and never taken back: an engine that has some left had some left before.
use Rattle.std.proofs.Common.{◌≡◌, ◌≤◌, ◌<◌, ◌+◌, ℕ, ℤ, Option, Result, Ok, Err, OnOk, OnErr, List, inl, inr, ⊎_elim, ap, ◌∙◌, arith}
use Rattle.std.specs.Prelude.{⊤}
use Rattle.values.specs.Row.{Row}
use Rattle.reference.specs.declared.fault.Fault.{Fault}
use Rattle.reference.specs.declared.fault.Fault.TheVariants as fault
use Rattle.reference.specs.declared.fault.Fault.TheVariants.{Query, BadName, NameTaken, BadColumns, TooMany, UnknownStream, UnknownQuery, BadWidth, ValueRange, InstantRange, Late, Backward, Leap, StreamFull, BadLimit, UnknownLease, Stranger, TooManyLeases, HistoryFull, OutOfMemory, Foreign}
use Rattle.laws_engine.specs.Engines.{PlainEngine}
use Rattle.leases.specs.Drains.{RanOutOfMemory, RunsTurns}
use Rattle.leases.specs.Registering.{Registers}
use Rattle.leases.specs.Takes.{Takes}
use Rattle.leases.specs.declared.limits.TheConstants.{LEASE_NUMBERS}
use Rattle.leases.proofs.DrainLemmas.{have_given, step_counts, turn_has_run}
use Rattle.leases.proofs.WholeLemmas.{take_makes}

-- none was given back
abbrev pub HasGivenMore : PlainEngine → PlainEngine → Type 0
HasGivenMore old new = old.next ≤ new.next

pub spent : (old new : PlainEngine) → HasGivenMore old new → new.next < LEASE_NUMBERS → old.next < LEASE_NUMBERS
spent old new more left = omega (arith, more, left)

same_next : (old new : PlainEngine) → new.next ≡ old.next → HasGivenMore old new
same_next old new same = omega (arith, same)

-- A CALL that gives none
pub gives_none : {A E : Type 0} (r : Result A E) (old made new : PlainEngine) → OnOk r (new ≡ made) → OnErr r (new ≡ old) → made.next ≡ old.next → HasGivenMore old new
gives_none (Ok a) old made new ok err same = same_next old new (ap (λ e. e.next) ok ∙ same)
gives_none (Err f) old made new ok err same = same_next old new (ap (λ e. e.next) err)

pub registration_gives_none : (r : Result ℕ Fault) (old new : PlainEngine) (name text : List ℕ) (chart : Option (List (ℤ × ℤ))) → OnOk r (Registers old name text chart new) → OnErr r (new ≡ old) → HasGivenMore old new
registration_gives_none (Ok a) old new name text chart ok err = same_next old new (ap (λ e. e.next) ok.1.1.1)
registration_gives_none (Err f) old new name text chart ok err = same_next old new (ap (λ e. e.next) err)

pub take_gives_none : {A : Type 0} (view : A → List (ℤ × Row)) (old : PlainEngine) (n : ℕ) (limit : ℤ) (r : Result A Fault) (new : PlainEngine) → Takes view old n limit r new → HasGivenMore old new
take_gives_none view old n limit r new h = ⊎_elim (λ is. same_next old new (ap (λ e. e.next) is)) (λ is. same_next old new (ap (λ e. e.next) is)) (take_makes view old n limit r new h)

-- A DRAIN gives some
last_gives : (rows : ℕ) (e1 e2 : PlainEngine) → RanOutOfMemory rows e1 e2 → HasGivenMore e1 e2
last_gives rows e1 e2 (inl h) = same_next e1 e2 (ap (λ e. e.next) h.2)
last_gives rows e1 e2 (inr h) =
    let one : e2.next ≡ e1.next + 1 = step_counts e1 e2 h.count (turn_has_run h.count e1 e2 h.ran) in
    omega (arith, one)

pub drain_gives : (old new : PlainEngine) (rows : ℕ) (r : Result ⊤ Fault) → RunsTurns old rows r new → HasGivenMore old new
drain_gives old new rows (Ok u) h = have_given rows h.1.0 old new h.1.1
drain_gives old new rows (Err BadLimit) h = same_next old new (ap (λ e. e.next) h.1)
drain_gives old new rows (Err TooManyLeases) h = have_given rows h.1.0.0 old new h.1.0.1
drain_gives old new rows (Err OutOfMemory) h =
    let first : old.next ≤ h.1.0.next = have_given rows h.1.1.0.0 old h.1.0 h.1.1.0.1 in
    let last : h.1.0.next ≤ new.next = last_gives rows h.1.0 new h.1.1.1 in
    omega (arith, first, last)
drain_gives old new rows (Err (Query x)) h = absurd h
drain_gives old new rows (Err BadName) h = absurd h
drain_gives old new rows (Err NameTaken) h = absurd h
drain_gives old new rows (Err BadColumns) h = absurd h
drain_gives old new rows (Err TooMany) h = absurd h
drain_gives old new rows (Err UnknownStream) h = absurd h
drain_gives old new rows (Err UnknownQuery) h = absurd h
drain_gives old new rows (Err BadWidth) h = absurd h
drain_gives old new rows (Err ValueRange) h = absurd h
drain_gives old new rows (Err InstantRange) h = absurd h
drain_gives old new rows (Err Late) h = absurd h
drain_gives old new rows (Err Backward) h = absurd h
drain_gives old new rows (Err Leap) h = absurd h
drain_gives old new rows (Err StreamFull) h = absurd h
drain_gives old new rows (Err fault.Broken) h = absurd h
drain_gives old new rows (Err UnknownLease) h = absurd h
drain_gives old new rows (Err Stranger) h = absurd h
drain_gives old new rows (Err HistoryFull) h = absurd h
drain_gives old new rows (Err (Foreign entries)) h = absurd h
