-- Where no operator may be leased, all answers of a query of which no turn is out wait that are closed and not yet taken, and the query is complete up to all that is closed.
use Rattle.std.proofs.Common.{◌≡◌, ℕ, zero, suc, ◌++◌, false, max, None, Some, List, [], ◌∷◌, drop, length, refl, sym, ap, ◌∙◌, arith}
use Rattle.values.specs.Row.{Row}
use Rattle.reference.specs.Machine.{Registered, until_for}
use Rattle.laws_queries.specs.Machines.{widths_of}
use Rattle.laws_queries.specs.Queries.{NoneReady}
use Rattle.laws_queries.specs.Plain.{PlainQuery}
use Rattle.laws_queries.proofs.ReadyLemmas.{running_reached}
use Rattle.run_queue.specs.Slots.{first_of}
use Rattle.laws_engine.specs.Engines.{PlainEngine, Running, is_leased, next_at, next_of, query_at}
use Rattle.laws_engine.specs.Engines.{ready_in, remains_at}
use Rattle.laws_engine.specs.Good.{GoodEngine, Goes}
use Rattle.laws_engine.specs.Promises.{HasAllWaiting, HasGivenAll, KeepsItsPromises}
use Rattle.laws_engine.proofs.MarkLemmas.{goes, opens_next}
use Rattle.laws_engine.proofs.PromiseLemmas.{keeps_its_promises}

pub behind : (n : ℕ) (xs ys : List (ℕ × Row)) → length xs ≡ n → drop n (xs ++ ys) ≡ ys
behind zero [] ys e = refl
behind zero (x ∷ xs) ys e = absurd (omega (arith, e))
behind (suc n) [] ys e = absurd (omega (arith, e))
behind (suc n) (x ∷ xs) ys e = behind n xs ys (omega (arith, e))

pub idle_waits : (e : PlainEngine) → GoodEngine e → first_of e.slots ≡ None → HasAllWaiting e
idle_waits e g none n q p r remains returned =
    let promises : KeepsItsPromises e = keeps_its_promises e g in
    let h : HasGivenAll e q p = promises.all n q p r remains (record { unready = λ k within. promises.idle none n k q p r remains within; returned = returned }) in
    sym (behind q.taken h.taken p.answers h.counted) ∙ ap (drop q.taken) h.all

-- IT IS COMPLETE up to the first instant that is not closed
pub idle_reached : (e : PlainEngine) → GoodEngine e → first_of e.slots ≡ None → (n : ℕ) (q : Registered) (p : PlainQuery) → query_at e n ≡ Some q → remains_at e n ≡ Running p → ((k : ℕ) → is_leased e n k ≡ false)
    → next_of q p ≡ max q.first (until_for e.machine.streams q.places)
idle_reached e g none n q p r remains returned =
    let promises : KeepsItsPromises e = keeps_its_promises e g in
    let h : Goes e.machine q p = goes e g n q p r remains in
    let unready : NoneReady e.machine q p.operators = λ k within.
    let out : is_leased e n k ≡ false = returned k in
    let is : next_at e n q p k ≡ ready_in e.machine q p k = rw out refl in
    sym is ∙ promises.idle none n k q p r remains within in
    sym (opens_next e g n q p r remains) ∙ running_reached (widths_of e.machine.streams q) h.widths e.machine q p.operators (h.taken ++ p.answers) h.runs.runs unready
