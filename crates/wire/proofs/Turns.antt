-- The rows of a drain's turns change nothing, and giving up rows changes no answer.
use Rattle.std.proofs.Common.{◌≡◌, ◌≤◌, ◌<◌, ℕ, Bool, true, false, refl, ap, sym, subst, ◌∙◌, [], ◌∷◌, Result, Ok, Err, map, ◌⊎◌, inl, inr}
use Rattle.std.specs.Prelude.{not, ◌&&◌, nat_le, None, ⊤, OnOk, OnErr, IfErr}
use Rattle.std.proofs.lemmas.Bool.{le-leb, false≢true}
use Rattle.reference.specs.Alike.{Alike}
use Rattle.reference.specs.Machine.{ends_at}
use Rattle.reference.specs.World.{World, Step, Drains, IsPlenty, IsTurnSize, StopsEarly, is_scarce, drain_step, drain_fault, unless, untaken}
use Rattle.names.specs.Faults.{first_of}
use Rattle.reference.specs.declared.limits.TheConstants.{MAX_TURN}
use Rattle.reference.specs.declared.fault.Fault.{Fault}
use Rattle.reference.specs.declared.fault.Fault.TheVariants.{Query, BadName, NameTaken, BadColumns, TooMany, UnknownStream, UnknownQuery, BadWidth, ValueRange, InstantRange, Late, Backward, Leap, StreamFull, BadLimit, Broken, UnknownLease, Stranger, TooManyLeases, HistoryFull, OutOfMemory, Foreign}
use Rattle.wire.specs.Calls.{drain, forget}
use Rattle.wire.specs.Printed.{Answer, done, refused}
use Rattle.wire.specs.Script.{done_of, done_step, is_scarce_answer, AnswersCall, RestsOn}
use Rattle.wire.proofs.Leading.{goes_alike, goes_there}

legal : (rows : ℕ) → 0 < rows → rows ≤ 1024 → (nat_le 1 rows && nat_le rows MAX_TURN) ≡ true
legal rows low high = ap (λ b. b && nat_le rows MAX_TURN) (le-leb 1 rows low) ∙ le-leb rows MAX_TURN high

pub no_fault : (rows : ℕ) → 0 < rows → rows ≤ 1024 → drain_fault rows ≡ None
no_fault rows low high = ap (λ (t : Bool). first_of ((not t, BadLimit) ∷ [])) (legal rows low high)

same_drain : (w : World) (rows : ℕ) → 0 < rows → rows ≤ 1024 → drain_step w rows ≡ drain_step w 1
unfolding drain_step
same_drain w rows low high = ap (λ f. unless f w tt (record w { waiting = map (untaken w.machine) w.machine.queries; upto = map (ends_at w.machine) w.machine.queries })) (no_fault rows low high)

-- a drain that was refused stopped early for what was scarce, or did what its step says
refused_drain : (old new : World) (step : Step ⊤) (fault : Fault) → Drains old step (Err fault) new
    → (is_scarce fault ≡ true × StopsEarly old step new) ⊎ (is_scarce fault ≡ false × step ≡ (Err fault, new))
refused_drain old new step (Query f) d = inr (refl, d)
refused_drain old new step BadName d = inr (refl, d)
refused_drain old new step NameTaken d = inr (refl, d)
refused_drain old new step BadColumns d = inr (refl, d)
refused_drain old new step TooMany d = inr (refl, d)
refused_drain old new step UnknownStream d = inr (refl, d)
refused_drain old new step UnknownQuery d = inr (refl, d)
refused_drain old new step BadWidth d = inr (refl, d)
refused_drain old new step ValueRange d = inr (refl, d)
refused_drain old new step InstantRange d = inr (refl, d)
refused_drain old new step Late d = inr (refl, d)
refused_drain old new step Backward d = inr (refl, d)
refused_drain old new step Leap d = inr (refl, d)
refused_drain old new step StreamFull d = inr (refl, d)
refused_drain old new step BadLimit d = inr (refl, d)
refused_drain old new step Broken d = inr (refl, d)
refused_drain old new step UnknownLease d = inr (refl, d)
refused_drain old new step Stranger d = inr (refl, d)
refused_drain old new step HistoryFull d = inr (refl, d)
refused_drain old new step (Foreign entries) d = inr (refl, d)
refused_drain old new step TooManyLeases d = inl (refl, d)
refused_drain old new step OutOfMemory d = inl (refl, d)

-- of a drain's faults those are scarce that say so
scarce_drain : (fault : Fault) → is_scarce_answer drain (refused fault) ≡ is_scarce fault
scarce_drain (Query f) = refl
scarce_drain BadName = refl
scarce_drain NameTaken = refl
scarce_drain BadColumns = refl
scarce_drain TooMany = refl
scarce_drain UnknownStream = refl
scarce_drain UnknownQuery = refl
scarce_drain BadWidth = refl
scarce_drain ValueRange = refl
scarce_drain InstantRange = refl
scarce_drain Late = refl
scarce_drain Backward = refl
scarce_drain Leap = refl
scarce_drain StreamFull = refl
scarce_drain BadLimit = refl
scarce_drain Broken = refl
scarce_drain UnknownLease = refl
scarce_drain Stranger = refl
scarce_drain HistoryFull = refl
scarce_drain (Foreign entries) = refl
scarce_drain TooManyLeases = refl
scarce_drain OutOfMemory = refl

-- what a drain is answered that was done; the world after it may be any that no call tells from the one that it led to
pub drain_done : (old now new : World) (rows : ℕ) (a : ⊤) → IsTurnSize rows → Drains old (drain_step old rows) (Ok a) now → Alike now new
    → AnswersCall old drain done new
drain_done old now new rows a range d alike = (
  λ plenty. goes_alike (done_step (drain_step old 1)) done now new (ap done_step (sym (same_drain old rows range.0 range.1) ∙ d)) alike,
  λ short. absurd (false≢true short),
)

-- what a drain is answered that was refused
pub drain_refused : (old new : World) (rows : ℕ) (fault : Fault) → IsTurnSize rows → Drains old (drain_step old rows) (Err fault) new
    → AnswersCall old drain (refused fault) new
drain_refused old new rows fault range d =
    elim (refused_drain old new (drain_step old rows) fault d) [
      | inl early ↦ (
        λ plenty. absurd (false≢true (sym plenty ∙ scarce_drain fault ∙ early.0)),
        λ short. subst (λ (step : Step ⊤). StopsEarly old step new) (same_drain old rows range.0 range.1) early.1,
      )
      | inr stays ↦ (
        λ plenty. goes_there (done_step (drain_step old 1)) (refused fault) new (ap done_step (sym (same_drain old rows range.0 range.1) ∙ stays.1)),
        λ short. absurd (false≢true (sym stays.0 ∙ sym (scarce_drain fault) ∙ short)),
      )
    ]

-- what a refused drain's answer rests on is what its fault says
pub drain_rests : (N : Type 0) (result : Result ⊤ Fault) (fault : Fault) → result ≡ Err fault → (result ≡ Err TooManyLeases → N) → RestsOn N (Ok drain) (refused fault)
drain_rests N result fault is wants same told = wants (cc)

-- a drain that was refused, and not for what was scarce
pub drain_leaves_whole : (W : Type 0) (result : Result ⊤ Fault) (fault : Fault) → result ≡ Err fault → (IsPlenty result → W)
    → is_scarce_answer drain (refused fault) ≡ false → W
drain_leaves_whole W result fault is keeps plenty = keeps (subst IsPlenty (sym is) (sym (scarce_drain fault) ∙ plenty))

-- what is answered where rows are to be given up
pub forget_answers : (old new : World) (result : Result ⊤ Fault) (answer : Answer) → answer ≡ done_of result
    → OnOk result (Alike old new) → IfErr result (λ fault. fault ≡ OutOfMemory) → OnErr result (new ≡ old) → AnswersCall old forget answer new
forget_answers old new (Ok a) answer is alike lacks same =
    subst (λ r. AnswersCall old forget r new) (sym is) (λ plenty. (refl, alike), λ short. absurd (false≢true short))
forget_answers old new (Err fault) answer is alike lacks same =
    subst (λ r. AnswersCall old forget r new) (sym is) (
      λ plenty. absurd (false≢true (sym plenty ∙ ap (λ f. is_scarce_answer forget (refused f)) lacks)),
      λ short. (same, tt),
    )
