-- The operators of a query that runs, and what waits in their queues.
use Rattle.std.specs.Arc.{arc_value}
use Rattle.std.proofs.Common.{◌≡◌, ◌<◌, ◌+◌, ℕ, pos, Option, Some, None, Result, Ok, Err, IfOk, List, [], get_or, length, refl, sym, ap, ◌∙◌, subst, arith}
use Rattle.std.proofs.lemmas.List.{length-map}
use Rattle.values.specs.Row.{Row}
use Rattle.plan.specs.Views.{node_of, nodes_of}
use Rattle.reference.specs.Commands.{Drop, Take, first_fault, of_query, take_tests}
use Rattle.reference.specs.Machine as machine
use Rattle.reference.specs.Machine.{Registered}
use Rattle.laws_queries.specs.Plain.{PlainQuery, log_at}
use Rattle.query_runtime.specs.Turns.{HasOperator, log_of}
use Rattle.laws_engine.specs.Asks.{IsOperator}
use Rattle.laws_engine.specs.Engines.{Running, query_at, remains_at}
use Rattle.laws_engine.proofs.AskLemmas.{may_ask}
use Rattle.leases.proofs.PendingLemmas.{lengths_same}
use Rattle.leases.proofs.TakeLemmas.{query_there, registered_within, remains_is, remains_within, taken_at}
use Rattle.leases.specs.Looks.{lengths_from, lengths_in, noughts_of}
use Rattle.leases.specs.Shown.{engine_in}
use Rattle.leases.specs.Sound.{IsSound}
use Rattle.leases.specs.Views.{query_of, remains_of}
use Rattle.leases.specs.declared.reach.Reach.{Reach}
use Rattle.leases.specs.declared.remains.Remains.{Remains}
use Rattle.leases.specs.declared.remains.Remains.TheVariants as code
use Rattle.leases.specs.declared.registered.Registration.{Registration}
use Rattle.leases.specs.declared.state.EngineState.{EngineState}

-- where a drop is accepted, so is a take
take_too : (o : Option Registered) → of_query [] o ≡ None → of_query (take_tests (pos 1)) o ≡ None
take_too None h = absurd (cc)
take_too (Some q) h = refl

pub registered_there : (s : EngineState) (n : ℕ) → first_fault (engine_in s).machine (Drop n) ≡ None → n < length s.registered.items
registered_there s n h = registered_within s n (pos 1) (take_too (machine.query_at (engine_in s).machine n) h)

module _ (s : EngineState) (n : ℕ) (r : Registration) (x : Remains) (p : PlainQuery) (sound : IsSound s) (accepted : first_fault (engine_in s).machine (Drop n) ≡ None) (is_registered : r ≡ get_or s.registered.items n r) (is_remains : x ≡ get_or s.remains.items n x)
    (runs : x ≡ code.Running p) where
  takes : first_fault (engine_in s).machine (Take n (pos 1)) ≡ None
  takes = take_too (machine.query_at (engine_in s).machine n) accepted

  running : remains_at (engine_in s) n ≡ Running p
  running = remains_is s n x (remains_within s n (pos 1) sound takes) is_remains ∙ ap remains_of runs

  same : (q : Registered) → query_at (engine_in s) n ≡ Some q → q ≡ query_of r
  same q at = taken_at s n q r (registered_within s n (pos 1) takes) at is_registered

  operator : (k : ℕ) (q : Registered) → query_at (engine_in s) n ≡ Some q → k < length q.nodes → IsOperator (engine_in s) n k q p
  operator k q at within = record { registered = at; running = running; within = within }

  there : (k : ℕ) → k < length (arc_value r.plan).nodes.items → HasOperator s.streams p k
  there k within =
      let q = query_there (engine_in s) n (pos 1) takes in
      let many : length (query_of r).nodes ≡ length (arc_value r.plan).nodes.items = length-map (arc_value r.plan).nodes.items node_of in
      let nodes : length q.0.nodes ≡ length (query_of r).nodes = ap (λ z. length z.nodes) (same q.0 q.1.0) in
      (may_ask (engine_in s) sound.good).operators n k q.0 p (operator k q.0 q.1.0 (omega (arith, within, many, nodes)))

  lengths : (q : Registered) → query_at (engine_in s) n ≡ Some q → lengths_from (log_of s.streams p) p 0 (nodes_of (arc_value r.plan).nodes.items) ≡ lengths_in (engine_in s).machine q (remains_at (engine_in s) n)
  lengths q at =
      ap (λ z. lengths_from (log_of s.streams p) p 0 z.nodes) (sym (same q at))
      ∙ lengths_same p (log_of s.streams p) (log_at (engine_in s).machine q) 0 q.nodes
      (λ j within. let e : j ≡ 0 + j = omega arith in
      subst (λ i. log_of (engine_in s).machine.streams p i ≡ log_at (engine_in s).machine q i) e ((may_ask (engine_in s) sound.good).logs n j q p (operator j q at within)))
      ∙ sym (ap (lengths_in (engine_in s).machine q) running)

pub operators_there : (s : EngineState) (n : ℕ) (r : Registration) (x : Remains) (p : PlainQuery) → IsSound s → first_fault (engine_in s).machine (Drop n) ≡ None → r ≡ get_or s.registered.items n r → x ≡ get_or s.remains.items n x → x ≡ code.Running p
    → (k : ℕ) → k < length (arc_value r.plan).nodes.items → HasOperator s.streams p k
operators_there s n r x p sound accepted is_registered is_remains runs k within = there s n r x p sound accepted is_registered is_remains runs k within

pub lengths_are : {A E : Type 0} (view : A → List ℕ) (found : Result A E) (s : EngineState) (n : ℕ) (r : Registration) (x : Remains) (p : PlainQuery) → IsSound s → first_fault (engine_in s).machine (Drop n) ≡ None → r ≡ get_or s.registered.items n r
    → x ≡ get_or s.remains.items n x → x ≡ code.Running p → IfOk found (λ v. view v ≡ lengths_from (log_of s.streams p) p 0 (nodes_of (arc_value r.plan).nodes.items))
    → IfOk found (λ v. (q : Registered) → query_at (engine_in s) n ≡ Some q → view v ≡ lengths_in (engine_in s).machine q (remains_at (engine_in s) n))
lengths_are view (Ok v) s n r x p sound accepted is_registered is_remains runs h = λ q at. h ∙ lengths s n r x p sound accepted is_registered is_remains runs q at
lengths_are view (Err f) s n r x p sound accepted is_registered is_remains runs h = tt

-- IN THOSE OF A BROKEN QUERY nothing does
pub noughts_are : {A E : Type 0} (view : A → List ℕ) (found : Result A E) (s : EngineState) (n : ℕ) (r : Registration) (x : Remains) (answers : List (ℕ × Row)) (reach : Reach) → IsSound s → first_fault (engine_in s).machine (Drop n) ≡ None → r ≡ get_or s.registered.items n r
    → x ≡ get_or s.remains.items n x → x ≡ code.Broken answers reach → IfOk found (λ v. view v ≡ noughts_of (nodes_of (arc_value r.plan).nodes.items))
    → IfOk found (λ v. (q : Registered) → query_at (engine_in s) n ≡ Some q → view v ≡ lengths_in (engine_in s).machine q (remains_at (engine_in s) n))
noughts_are view (Ok v) s n r x answers reach sound accepted is_registered is_remains broke h = λ q at.
    let takes : first_fault (engine_in s).machine (Take n (pos 1)) ≡ None = take_too (machine.query_at (engine_in s).machine n) accepted in
    let same_query : q ≡ query_of r = taken_at s n q r (registered_within s n (pos 1) takes) at is_registered in
    let broken : remains_at (engine_in s) n ≡ remains_of (code.Broken answers reach) = remains_is s n x (remains_within s n (pos 1) sound takes) is_remains ∙ ap remains_of broke in
    h ∙ ap (λ z. noughts_of z.nodes) (sym same_query) ∙ sym (ap (lengths_in (engine_in s).machine q) broken)
noughts_are view (Err f) s n r x answers reach sound accepted is_registered is_remains broke h = tt
