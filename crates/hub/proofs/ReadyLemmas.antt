-- What a look at an engine shows that runs no turn.
use Rattle.std.proofs.Common.{◌≡◌, ℕ, Bool, true, false, ◌&&◌, ◌||◌, not, is_some, [], ◌∷◌, length, None, Result, Ok, refl, subst, sym}
use Rattle.std.specs.Prelude.{nat_le}
use Rattle.names.specs.Faults.{first_of as first_fault}
use Rattle.reference.specs.declared.fault.Fault.{Fault}
use Rattle.reference.specs.declared.fault.Fault.TheVariants.{BadLimit, TooManyLeases}
use Rattle.reference.specs.declared.limits.TheConstants.{MAX_TURN}
use Rattle.run_queue.specs.Slots.{first_of}
use Rattle.laws_engine.specs.Engines.{PlainEngine}
use Rattle.reference.specs.World.{drain_fault}
use Rattle.leases.specs.ByQuery.{RunsByQuery}
use Rattle.leases.specs.Drains.{RunsTurns, as_drained}
use Rattle.leases.specs.Turns.{lease_fault}
use Rattle.laws_engine.specs.Promises.{HasAllWaiting}
use Rattle.leases.specs.declared.leased.Leased.TheVariants.{Idle}
use Rattle.leases.specs.declared.limits.TheConstants.{LEASE_NUMBERS, MAX_LEASES}
use Rattle.std.specs.Prelude.{IsTrue}
use Rattle.leases.specs.Openings.{opening_in}
use Rattle.histories.specs.Histories.{Replays}
use Rattle.hub.specs.Steps.{Hands, IsReplayed, PlainLocked, engine_at, with_engine}
use Rattle.hub.specs.Workers.{IsReady, SeesReady}

-- a look that found something ready
pub ready_at : (l : PlainLocked) (r : Bool) → SeesReady l r → IsTrue r → (x : PlainLocked) × IsReady x
ready_at l r h is = (l, record { legal = h.legal; ready = h.is.0 is })

-- A DRAIN OF SOME TURNS after which nothing is ready: a lease would say so
no_lease : (b c : Bool) (f g : Fault) → first_fault ((b, f) ∷ []) ≡ None → first_fault ((b, f) ∷ (false && c, g) ∷ []) ≡ None
no_lease true c f g h = absurd (cc)
no_lease false c f g h = refl

idle_fault : (e : PlainEngine) (rows : ℕ) → drain_fault rows ≡ None → first_of e.slots ≡ None → lease_fault e rows ≡ None
idle_fault e rows h none =
    subst (λ o. first_fault ((not (nat_le 1 rows && nat_le rows MAX_TURN), BadLimit) ∷ (is_some o && (nat_le MAX_LEASES (length e.leases) || nat_le LEASE_NUMBERS e.next), TooManyLeases) ∷ []) ≡ None) (sym none)
    (no_lease (not (nat_le 1 rows && nat_le rows MAX_TURN)) (nat_le MAX_LEASES (length e.leases) || nat_le LEASE_NUMBERS e.next) BadLimit TooManyLeases h)

-- the history leads where it led
replayed_again : (old new : PlainLocked) → new ≡ with_engine old new.engine → (engine_at new).machine ≡ (engine_at old).machine → IsReplayed old → IsReplayed new
replayed_again old new step same legal =
    subst (λ (l : PlainLocked). Replays (opening_in l.opening) l.history (engine_at new).machine) (sym step) (subst (λ m. Replays (opening_in old.opening) old.history m) (sym same) legal)

idles : (old new : PlainLocked) (rows : ℕ) → new ≡ with_engine old new.engine → IsReplayed old → (engine_at new).machine ≡ (engine_at old).machine → drain_fault rows ≡ None → first_of (engine_at new).slots ≡ None → HasAllWaiting (engine_at new) → Hands new rows (Ok Idle) new
idles old new rows step legal machine fits none all = record {
  legal = replayed_again old new step machine legal;
  leases = (idle_fault (engine_at new) rows fits none, none, refl);
  idle = λ same. all;
}

pub would_idle : (old new : PlainLocked) (rows : ℕ) (r : Result Bool Fault) → new ≡ with_engine old new.engine → IsReplayed old → RunsTurns (engine_at old) rows (as_drained r) (engine_at new)
    → (engine_at new).machine ≡ (engine_at old).machine → (r ≡ Ok false → first_of (engine_at new).slots ≡ None) → (r ≡ Ok false → HasAllWaiting (engine_at new)) → r ≡ Ok false → Hands new rows (Ok Idle) new
would_idle old new rows r step legal runs machine idle all is =
    idles old new rows step legal machine (subst (λ (x : Result Bool Fault). RunsTurns (engine_at old) rows (as_drained x) (engine_at new)) is runs).0 (idle is) (all is)

-- and the same query by query
pub idle_by_query : (old new : PlainLocked) (rows : ℕ) (r : Result Bool Fault) → new ≡ with_engine old new.engine → IsReplayed old → RunsByQuery (engine_at old) rows (as_drained r) (engine_at new)
    → (engine_at new).machine ≡ (engine_at old).machine → (r ≡ Ok false → first_of (engine_at new).slots ≡ None) → (r ≡ Ok false → HasAllWaiting (engine_at new)) → r ≡ Ok false → Hands new rows (Ok Idle) new
idle_by_query old new rows r step legal runs machine idle all is =
    idles old new rows step legal machine (subst (λ (x : Result Bool Fault). RunsByQuery (engine_at old) rows (as_drained x) (engine_at new)) is runs).0 (idle is) (all is)
