-- Why no turn went out: where rows are in range, as many turns are out as may be, or memory was refused.
use Rattle.std.proofs.Common.{◌≡◌, ◌⊎◌, inl, inr, ℕ, ◌≤◌, Bool, true, false, not, ◌&&◌, nat_le, Some, Err, [], ◌∷◌, refl}
use Rattle.std.proofs.lemmas.Bool.{le-leb}
use Rattle.names.specs.Faults.{first_of}
use Rattle.reference.specs.declared.fault.Fault.{Fault}
use Rattle.reference.specs.declared.fault.Fault.TheVariants.{Query, BadName, NameTaken, BadColumns, TooMany, UnknownStream, UnknownQuery, BadWidth, ValueRange, InstantRange, Late, Backward, Leap, StreamFull, BadLimit, Broken, UnknownLease, Stranger, TooManyLeases, HistoryFull, OutOfMemory, Foreign}
use Rattle.reference.specs.declared.limits.TheConstants.{MAX_TURN}
use Rattle.laws_engine.specs.Engines.{PlainEngine}
use Rattle.leases.specs.Turns.{Leases, lease_fault}
use Rattle.hub.specs.Steps.{PlainLocked, Withholds, engine_at}

tested : (old new : PlainEngine) (rows : ℕ) (f : Fault) → Leases old rows (Err f) new → (f ≡ OutOfMemory) ⊎ (lease_fault old rows ≡ Some f)
tested old new rows (Query x) h = inr h.0
tested old new rows BadName h = inr h.0
tested old new rows NameTaken h = inr h.0
tested old new rows BadColumns h = inr h.0
tested old new rows TooMany h = inr h.0
tested old new rows UnknownStream h = inr h.0
tested old new rows UnknownQuery h = inr h.0
tested old new rows BadWidth h = inr h.0
tested old new rows ValueRange h = inr h.0
tested old new rows InstantRange h = inr h.0
tested old new rows Late h = inr h.0
tested old new rows Backward h = inr h.0
tested old new rows Leap h = inr h.0
tested old new rows StreamFull h = inr h.0
tested old new rows BadLimit h = inr h.0
tested old new rows Broken h = inr h.0
tested old new rows UnknownLease h = inr h.0
tested old new rows Stranger h = inr h.0
tested old new rows TooManyLeases h = inr h.0
tested old new rows HistoryFull h = inr h.0
tested old new rows OutOfMemory h = inl refl
tested old new rows (Foreign n) h = inr h.0

second : (a b : Bool) (f : Fault) → a ≡ true → first_of ((not a, BadLimit) ∷ (b, TooManyLeases) ∷ []) ≡ Some f → f ≡ TooManyLeases
second false b f within h = absurd (cc)
second true true f within h = cc
second true false f within h = absurd (cc)

both_true : (a b : Bool) → a ≡ true → b ≡ true → (a && b) ≡ true
both_true a b p q = rw (p, q) refl

by_test : (old : PlainEngine) (rows : ℕ) (f : Fault) → 1 ≤ rows → rows ≤ MAX_TURN → lease_fault old rows ≡ Some f → f ≡ TooManyLeases
by_test old rows f low high h = second (nat_le 1 rows && nat_le rows MAX_TURN) _ f (both_true _ _ (le-leb 1 rows low) (le-leb rows MAX_TURN high)) h

-- where rows are in range
pub withheld_for : (old new : PlainLocked) (rows : ℕ) (f : Fault) → 1 ≤ rows → rows ≤ MAX_TURN → Withholds old rows f new → (f ≡ TooManyLeases) ⊎ (f ≡ OutOfMemory)
withheld_for old new rows f low high h = elim (tested (engine_at old) (engine_at new) rows f h.refuses) [
  | inl wants ↦ inr wants
  | inr fails ↦ inl (by_test (engine_at old) rows f low high fails)
]
