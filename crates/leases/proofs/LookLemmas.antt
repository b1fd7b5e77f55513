-- What an engine's code looks up, in its lists and in the lists of the plain engine.
use Rattle.std.proofs.Common.{◌≡◌, ◌<◌, ◌||◌, ℕ, Bool, Option, Some, None, List, [], ◌∷◌, length, map, refl, ap}
use Rattle.std.specs.List.{list_any}
use Rattle.std.proofs.lemmas.List.FromFn.{length-map-range_with_len}
use Rattle.plan.specs.Nodes.{Node}
use Rattle.plan.specs.Paths.{plan_slopes, slope_of}
use Rattle.plan.specs.declared.chart.Measure.{Measure}
use Rattle.reference.specs.Machine.{Registered}
use Rattle.laws_queries.specs.Plain.{PlainQuery}
use Rattle.run_queue.specs.declared.slots.Slot.{Slot}
use Rattle.laws_engine.specs.Asks.{IsOperator, MayAsk}
use Rattle.laws_engine.specs.Engines.{Lease, PlainEngine, Running, query_at, remains_at}
use Rattle.laws_engine.specs.Good.{GoodEngine}
use Rattle.laws_engine.proofs.AskLemmas.{may_ask}
use Rattle.leases.specs.Applied.{MayTell}
use Rattle.leases.specs.Asked.{HasOperatorAt}
use Rattle.leases.specs.Views.{lease_of}
use Rattle.turn.specs.declared.turns.Turn.{Turn}

-- TURNS that are out
pub any_out : (p : Lease → Bool) (gs : List Turn) → list_any p (map lease_of gs) ≡ list_any (λ g. p (lease_of g)) gs
any_out p [] = refl
any_out p (g ∷ gs) = ap (λ b. p (lease_of g) || b) (any_out p gs)

-- SLOPES: each operator has one
pub many_slopes : (nodes : List Node) (measures : List Measure) → length (plan_slopes nodes measures) ≡ length nodes
many_slopes nodes measures = length-map-range_with_len (slope_of nodes measures) 0 (length nodes)

-- AN OPERATOR of a running query of a good engine may be looked up
pub asks : (e : PlainEngine) → GoodEngine e → (n k : ℕ) (q : Registered) (p : PlainQuery) → query_at e n ≡ Some q → remains_at e n ≡ Running p → k < length q.nodes → HasOperatorAt e n k
asks e g n k q p registered running within =
    let is : IsOperator e n k q p = record { registered = registered; running = running; within = within } in
    let may : MayAsk e = may_ask e g in
    (q, (p, record { registered = registered; running = running; within = within; operator = may.operators n k q p is; log = may.logs n k q p is }))

-- whatever turns are out, and whatever its slots are
pub asks_on : (e : PlainEngine) (ls : List Lease) (next : ℕ) (slots : List Slot) (n k : ℕ) → HasOperatorAt e n k → HasOperatorAt (record e { leases = ls; next = next; slots = slots }) n k
asks_on e ls next slots n k h =
    let is = h.1.1 in
    (h.0, (h.1.0, record { registered = is.registered; running = is.running; within = is.within; operator = is.operator; log = is.log }))

pub tells_on : (e : PlainEngine) (ls : List Lease) (next : ℕ) (slots : List Slot) (above : Option Slot) → MayTell e above → MayTell (record e { leases = ls; next = next; slots = slots }) above
tells_on e ls next slots None h = tt
tells_on e ls next slots (Some a) h = asks_on e ls next slots a.query a.operator h
