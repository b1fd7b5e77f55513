-- A turn that its query runs in place: the turn that would have gone out is nowhere kept, and is named here.
use Rattle.std.proofs.Common.{◌≡◌, ◌<◌, ◌+◌, ℕ, Option, Some, None, Result, Ok, Err, IfErr, OnOk, List, length, set, refl, sym, ap, ◌∙◌, subst, arith}
use Rattle.std.specs.Prelude.{⊤}
use Rattle.std.proofs.lemmas.List.{set-get_or}
use Rattle.std.proofs.lemmas.Option.{slice_get_within}
use Rattle.column.specs.declared.batch.Side.{Side}
use Rattle.op_queue.specs.declared.item.Item.{Item}
use Rattle.operators.specs.States.{near_of}
use Rattle.operators.specs.Runs.{Stops}
use Rattle.operators.specs.declared.runs.Refused.{Refused}
use Rattle.operators.specs.declared.runs.Refused.TheVariants.{Before, Within}
use Rattle.turn.specs.declared.turns.Turn.{Turn}
use Rattle.reference.specs.Machine.{Stream}
use Rattle.laws_queries.specs.Plain.{PlainQuery, operator_at}
use Rattle.query_runtime.specs.Runs.{HasRun, HasRunLess, IsRunItem}
use Rattle.query_runtime.specs.Turns.{log_of}
use Rattle.run_queue.specs.Slots.{first_of}
use Rattle.run_queue.specs.declared.slots.Slot.{Slot}
use Rattle.laws_engine.specs.Engines.{Dropped, PlainEngine, PlainRemains, Running, remains_at}
use Rattle.laws_engine.specs.Good.{GoodEngine}
use Rattle.laws_engine.proofs.BackLemmas.{same_plain}
use Rattle.leases.specs.Applied.{GivesNothing, HasTaken, HasTakenIn, HasTold, IsAbove, MayTell, with_remains}
use Rattle.leases.specs.Asked.{HasOperatorAt}
use Rattle.leases.specs.Drains.{OneTurnHasRun}
use Rattle.leases.specs.Leasing.{IsTurnOn}
use Rattle.leases.specs.Readers.{readers_of}
use Rattle.leases.specs.Runs.{HasRunIn, HasRunOn, HasStoppedIn, HasStoppedOn}
use Rattle.leases.specs.Shown.{engine_in}
use Rattle.leases.specs.Sound.{IsSound}
use Rattle.leases.specs.Turns.{lease_fault}
use Rattle.leases.specs.Views.{HasKind, lease_of}
use Rattle.leases.specs.declared.limits.TheConstants.{LEASE_NUMBERS}
use Rattle.leases.specs.declared.state.EngineState.{EngineState}
use Rattle.leases.proofs.FinishBackLemmas.{gives_on}
use Rattle.leases.proofs.FinishSoundLemmas.{StaysBut, sound_from}
use Rattle.leases.proofs.LeaseLemmas.{turn_with}
use Rattle.leases.proofs.StepLemmas.{counted, may_look_here, may_tell_here, may_tell_over, ran, ran_sound}

-- THE QUERY that was refused memory, of an operator and a side that are spelt in two ways
pub stopped_all : (result : Result ⊤ Refused) (streams : List Stream) (q q2 : PlainQuery) (s : Slot) (k : ℕ) (side : Side) (rows : ℕ) → k ≡ s.operator → side ≡ s.side
    → IfErr result (λ r. Stops r (q2 ≡ q) (HasRunLess streams q k side rows q2))
    → IfErr result (λ r. (p : PlainQuery) → Running q ≡ Running p → (p2 : PlainQuery) × ((Running q2 ≡ Running p2) × HasStoppedOn r streams p s rows p2))
stopped_all (Ok u) streams q q2 s k side rows ek es h = tt
stopped_all (Err r) streams q q2 s k side rows ek es h = λ p is. (
  q2,
  (
    refl,
    subst (λ (z : PlainQuery). HasStoppedOn r streams z s rows q2) (same_plain is)
        (subst (λ z. Stops r (q2 ≡ q) (HasRunLess streams q s.operator z rows q2)) es (subst (λ n. Stops r (q2 ≡ q) (HasRunLess streams q n side rows q2)) ek h)),
  ),
)

pub run_all : (result : Result ⊤ Refused) (streams : List Stream) (q q2 : PlainQuery) (s : Slot) (k : ℕ) (side : Side) (rows : ℕ) → k ≡ s.operator → side ≡ s.side → OnOk result (HasRun streams q k side rows q2)
    → OnOk result ((p : PlainQuery) → Running q ≡ Running p → (p2 : PlainQuery) × ((Running q2 ≡ Running p2) × HasRunOn streams p s rows p2))
run_all (Ok u) streams q q2 s k side rows ek es h = λ p is. (
  q2,
  (refl, subst (λ (z : PlainQuery). HasRunOn streams z s rows q2) (same_plain is) (subst (λ z. HasRun streams q s.operator z rows q2) es (subst (λ n. HasRun streams q n side rows q2) ek h))),
)
run_all (Err r) streams q q2 s k side rows ek es h = tt

-- it was refused before it took anything: all is as it was
pub stopped_as : (e e2 : PlainEngine) (s : Slot) (rows : ℕ) (p : PlainQuery) → remains_at e s.query ≡ Running p → HasStoppedIn Before e s rows e2 → e2 ≡ e
stopped_as e e2 s rows p running stopped =
    let l = stopped p running in
    let again : set e.queries s.query (Running p) ≡ e.queries = ap (set e.queries s.query) (sym running) ∙ set-get_or e.queries s.query Dropped in
    l.1.1 ∙ ap (λ (z : PlainQuery). with_remains e s.query (Running z)) l.1.0 ∙ ap (λ (qs : List PlainRemains). record e { queries = qs }) again

-- or within: it ran a turn of fewer rows
pub stopped_less : (e e2 : PlainEngine) (s : Slot) (rows : ℕ) (p : PlainQuery) → remains_at e s.query ≡ Running p → HasStoppedIn Within e s rows e2 → (n : ℕ) × ((0 < n) × (n < rows) × HasRunIn e s n e2)
stopped_less e e2 s rows p running stopped =
    let l = stopped p running in (
      l.1.0.count,
      (
        l.1.0.some,
        l.1.0.fewer,
        λ p0 is.
            subst (λ (z : PlainQuery). (p2 : PlainQuery) × (HasRunOn e.machine.streams z s l.1.0.count p2 × (e2 ≡ with_remains e s.query (Running p2)))) (same_plain (sym running ∙ is)) (l.0, (l.1.0.run, l.1.1)),
      ),
    )

pub sound_as : (old new : EngineState) → IsSound old → engine_in new ≡ engine_in old → GivesNothing old new → IsSound new
sound_as old new sound is r =
    let stays : StaysBut (engine_in old) (engine_in old) = record { machine = refl; next = refl; few = omega arith; gone = refl } in
    sound_from old new sound r.undropped (r.readers ∙ sound.readers ∙ ap readers_of (sym is)) r.leases (subst GoodEngine (sym is) sound.good) (subst (StaysBut (engine_in old)) (sym is) stays)
    (λ g i. subst (λ z. HasKind z g) (sym is) (sound.kinds g i))

-- A NUMBER is given
abbrev pub given : EngineState → ℕ → EngineState
given m n = record m { next = n + 1 }

module _ (old : EngineState) (s : Slot) (rows : ℕ) (sound : IsSound old) (first : first_of old.slots ≡ Some s) (allowed : lease_fault (engine_in old) rows ≡ None) (numbers : old.next < LEASE_NUMBERS) where
  -- THE QUERY that runs
  p : PlainQuery
  p = (may_look_here old s sound first).1.0

  running : remains_at (engine_in old) s.query ≡ Running p
  unfolding p
  running = (may_look_here old s sound first).1.1.running

  pub within : s.query < length (engine_in old).queries
  within = omega (arith, sound.good.many, slice_get_within (engine_in old).machine.queries s.query (may_look_here old s sound first).0 (may_look_here old s sound first).1.1.registered)

  -- the turn of an item
  abbrev turn_of : Item → Turn
  turn_of i = turn_with (engine_in old) p s i (near_of (operator_at p.operators s.operator).state s.side i)

  made : (i : Item) → IsRunItem (operator_at p.operators s.operator) (log_of (engine_in old).machine.streams p s.operator) s.side rows i → IsTurnOn (engine_in old) s rows (turn_of i)
  made i leased = (p, record { running = running; number = refl; node = refl; leased = leased })

  -- IT HAS RUN
  module _ (m : EngineState) (run : HasRunIn (engine_in old) s rows (engine_in m)) where
    took : (p2 : PlainQuery) × (HasRunOn (engine_in old).machine.streams p s rows p2 × (engine_in m ≡ with_remains (engine_in old) s.query (Running p2)))
    took = run p running

    abbrev t : Turn
    t = turn_of took.1.0.item

    is_made : IsTurnOn (engine_in old) s rows t
    is_made = made took.1.0.item took.1.0.leased

    applied : HasTakenIn (engine_in (counted old)) (lease_of t) (engine_in (given m old.next))
    applied p1 is =
        let same : p ≡ p1 = same_plain (sym running ∙ is) in
        subst (λ (z : PlainQuery). (p2 : PlainQuery) × (HasTaken (engine_in old).machine.streams z (lease_of t) p2 × (engine_in (given m old.next) ≡ with_remains (engine_in (counted old)) s.query (Running p2)))) same
        (took.0, (record { finished = took.1.0.finished; put = took.1.0.put }, ap (λ (e : PlainEngine). record e { next = old.next + 1 }) took.1.1))

    module _ (above : Option Slot) (over : IsAbove (engine_in old) s.query s.operator above) where
      pub tells_here : HasOperatorAt (engine_in (given m old.next)) s.query s.operator
      tells_here = may_tell_here old s rows t sound first allowed numbers is_made above over (engine_in (given m old.next)) applied

      pub tells_over : MayTell (engine_in (given m old.next)) above
      tells_over = may_tell_over old s rows t sound first allowed numbers is_made above over (engine_in (given m old.next)) applied

      pub has_run : (new : PlainEngine) → HasTold (engine_in (given m old.next)) s above new → OneTurnHasRun rows (engine_in old) new
      has_run new h = ran old s rows t sound first allowed numbers is_made above over (engine_in (given m old.next)) applied new h

      pub run_sound : (new : EngineState) → HasTold (engine_in (given m old.next)) s above (engine_in new) → GivesNothing old m → GivesNothing (given m old.next) new → IsSound new
      run_sound new h r u =
          let gives : GivesNothing (counted old) (given m old.next) = record { undropped = r.undropped; readers = r.readers; leases = r.leases } in
          ran_sound old s rows t sound first allowed numbers is_made above over (engine_in (given m old.next)) applied new h (gives_on (counted old) (given m old.next) new gives u)
