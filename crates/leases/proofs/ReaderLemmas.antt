-- The windows that read streams: what is known of their operators, and their slots, told one after the other.
use Rattle.std.proofs.Common.{◌≡◌, ℕ, zero, suc, ◌+◌, ◌<◌, ◌≤◌, true, false, ⊎_elim, Some, List, [], ◌∷◌, ◌++◌, drop, get_or, length, map, refl, sym, ap, ◌∙◌, subst, arith, drop-cons, nat_lt, ltb-true, lt-ltb, is_none, ◌&&◌, ap₂}
use Rattle.std.specs.Prelude.{slice_get}
use Rattle.std.specs.List.{AllByRecursion}
use Rattle.std.specs.Option.{option_map}
use Rattle.std.proofs.lemmas.Bool.{cases_lt}
use Rattle.std.proofs.lemmas.List.{drop_all}
use Rattle.std.proofs.lemmas.Option.{slice_get-map, slice_get_read}
use Rattle.values.specs.Row.{Row}
use Rattle.op_queue.specs.Logs.{Closed}
use Rattle.operators.specs.Ready.{PlainOperator}
use Rattle.operators.specs.declared.inboxes.Inbox.{Inbox}
use Rattle.plan.specs.Nodes as plan
use Rattle.plan.specs.Nodes.{Window, Select, Join, Project, Group, Distinct, ToStream}
use Rattle.reference.specs.Machine.{Machine, Registered, Stream}
use Rattle.laws_dataflow.specs.Roots.{below_root}
use Rattle.laws_queries.specs.Machines.{widths_of}
use Rattle.laws_queries.specs.Queries.{IsLeftInbox, IsRunning}
use Rattle.laws_queries.specs.Plain.{PlainQuery, log_at, node_at, operator_at}
use Rattle.run_queue.specs.declared.slots.Slot.{Slot}
use Rattle.laws_engine.specs.Asks.{IsOperator}
use Rattle.laws_engine.specs.Engines.{Broken, Dropped, PlainEngine, PlainRemains, Running, query_at}
use Rattle.laws_engine.specs.Engines.{remains_at, slot_at}
use Rattle.laws_engine.specs.Good.{AreRemains, Goes, GoodEngine, slot_of}
use Rattle.laws_engine.proofs.AskLemmas.{may_ask}
use Rattle.laws_engine.proofs.PromiseLemmas.{slot_is}
use Rattle.plan.proofs.Lists.{by_test}
use Rattle.query_runtime.specs.Turns.{HasOperator, log_of}
use Rattle.laws_engine.specs.Resting.{IsResting}
use Rattle.operators.specs.Ready.{ready}
use Rattle.leases.specs.Asked.{HasOperatorAt}
use Rattle.reference.proofs.StepLemmas.{get_or-map}
use Rattle.leases.specs.Readers.{HasSource, idle_slot, is_idle_at, is_idle_in, with_update, with_updates, with_slots}
use Rattle.leases.specs.Shown.{engine_in}
use Rattle.leases.specs.Views.{query_of, remains_of}
use Rattle.leases.specs.declared.remains.Remains.{Remains}
use Rattle.leases.specs.declared.registered.Registration.{Registration}
use Rattle.leases.specs.declared.state.EngineState.{EngineState}

-- THE SOURCE of a window of a running query is one of the query's
source_in : (q : Registered) (log : Closed) (node : plan.Node) (i : Inbox) → IsLeftInbox q log node i → HasSource q node
source_in q log (Window s) i h = h.0
source_in q log (Select j cs) i h = tt
source_in q log (Join j k ks) i h = tt
source_in q log (Project j columns) i h = tt
source_in q log (Group j by items) i h = tt
source_in q log (Distinct j) i h = tt
source_in q log (ToStream j op) i h = tt

source_of_running : (vs ws : List ℕ) (m : Machine) (q : Registered) (os : List PlainOperator) (given : List (ℕ × Row)) (k : ℕ) → IsRunning vs ws m q os given → k < length q.nodes → HasSource q (node_at q k)
source_of_running vs ws m q os given k r within = ⊎_elim
    (λ l. source_in q (log_at m q k) (node_at q k) (operator_at os k).left (r.inner k l).inboxes.left)
    (λ l. let root : k ≡ below_root q.nodes = omega (arith, l, within) in
    subst (λ z. HasSource q (node_at q z)) (sym root) (source_in q (log_at m q (below_root q.nodes)) (node_at q (below_root q.nodes)) (operator_at os (below_root q.nodes)).left r.last.inboxes.left))
    (cases_lt k (below_root q.nodes))

-- A REGISTERED QUERY by its number
pub registered_at : (rs : List Registration) (n : ℕ) (r : Registration) → n < length rs → r ≡ get_or rs n r → slice_get (map query_of rs) n ≡ Some (query_of r)
registered_at rs n r lt is = slice_get-map query_of rs n ∙ ap (option_map query_of) (slice_get_read rs (length rs) n r refl lt is)

pub some_query : {a b : Registered} → Some a ≡ Some b → a ≡ b
some_query e = cc

-- AN OPERATOR of a running query of a good engine
module _ (e : PlainEngine) (g : GoodEngine e) (n k : ℕ) (q : Registered) (p : PlainQuery) (r : query_at e n ≡ Some q) (running : remains_at e n ≡ Running p) (within : k < length q.nodes) where
  pub has_source : HasSource q (node_at q k)
  has_source =
      let goes : Goes e.machine q p = subst (AreRemains e.machine q) running (g.queries n q r) in
      source_of_running (widths_of e.machine.streams q) goes.widths e.machine q p.operators (goes.taken ++ p.answers) k goes.runs.runs within

  pub has_operator_at : HasOperatorAt e n k
  has_operator_at =
      let o : IsOperator e n k q p = record { registered = r; running = running; within = within } in
      (q, (p, record { registered = r; running = running; within = within; operator = (may_ask e g).operators n k q p o; log = (may_ask e g).logs n k q p o }))

-- A QUERY OF THIS NUMBER, if one runs there: it is registered, and has as many operators as its plan has nodes
pub runs_at : (e : PlainEngine) → GoodEngine e → (n : ℕ) (p : PlainQuery) → remains_at e n ≡ Running p → (q : Registered) × ((query_at e n ≡ Some q) × (length p.operators ≡ length q.nodes))
runs_at e g n p running =
    let within : n < length e.queries = there e.queries n running in
    let r = some_at e.machine.queries n (omega (arith, within, g.many)) in
    let goes : Goes e.machine r.0 p = subst (AreRemains e.machine r.0) running (g.queries n r.0 r.1) in
    (r.0, (r.1, goes.runs.runs.many))
  where
    there : (ks : List PlainRemains) (i : ℕ) → get_or ks i Dropped ≡ Running p → i < length ks
    there [] i h = absurd (cc)
    there (k ∷ ks) zero h = omega arith
    there (k ∷ ks) (suc i) h = let l : i < length ks = there ks i h in omega (arith, l)

    some_at : (qs : List Registered) (i : ℕ) → i < length qs → (q : Registered) × (slice_get qs i ≡ Some q)
    some_at [] i l = absurd (omega (arith, l))
    some_at (q ∷ qs) zero l = (q, refl)
    some_at (q ∷ qs) (suc i) l = some_at qs i (omega (arith, l))

module _ (e : PlainEngine) (g : GoodEngine e) (n k : ℕ) (p : PlainQuery) (running : remains_at e n ≡ Running p) (within : k < length p.operators) where
  abbrev found : (q : Registered) × ((query_at e n ≡ Some q) × (length p.operators ≡ length q.nodes))
  found = runs_at e g n p running

  is_operator : IsOperator e n k found.0 p
  is_operator = let many = found.1.1 in record { registered = found.1.0; running = running; within = omega (arith, many, within) }

  pub has_operator : HasOperator e.machine.streams p k
  has_operator = (may_ask e g).operators n k found.0 p is_operator

  pub has_slot : (q : Registered) × ((query_at e n ≡ Some q) × (k < length q.nodes))
  has_slot = (found.0, (found.1.0, is_operator.within))

-- one that has nothing to take is there
rests_running : (streams : List Stream) (k : ℕ) (remains : PlainRemains) → is_idle_in streams k remains ≡ true → (p : PlainQuery) × ((remains ≡ Running p) × (k < length p.operators))
rests_running streams k (Running p) h = by_test (nat_lt k (length p.operators))
    (λ t. (p, (refl, ltb-true k (length p.operators) t)))
    (λ f. let bad : false ≡ true = rw f at h in absurd (cc))
rests_running streams k (Broken answers upto) h = absurd (cc)
rests_running streams k Dropped h = absurd (cc)

pub resting_asked : (e : PlainEngine) → GoodEngine e → (n k : ℕ) → is_idle_at e n k ≡ true → HasOperatorAt e n k
resting_asked e g n k h =
    let r = rests_running e.machine.streams k (remains_at e n) h in
    let s = has_slot e g n k r.0 r.1.0 r.1.1 in
    has_operator_at e g n k s.0 r.0 s.1.0 r.1.0 s.1.1

pub resting_comes : (e : PlainEngine) → GoodEngine e → (n k : ℕ) (x : Slot) → is_idle_at e n k ≡ true → ((q : Registered) (p : PlainQuery) → query_at e n ≡ Some q → remains_at e n ≡ Running p → x ≡ slot_at e n q p k) → idle_slot e n k ≡ x ∷ []
resting_comes e g n k x h is =
    let r = rests_running e.machine.streams k (remains_at e n) h in
    let s = has_slot e g n k r.0 r.1.0 r.1.1 in
    let here : slot_of e n k ≡ Some x = slot_is e n k s.0 r.0 s.1.0 r.1.0 s.1.1 ∙ ap Some (sym (is s.0 r.0 s.1.0 r.1.0)) in
    rw (h, here) refl

pub resting_rests : (e : PlainEngine) → GoodEngine e → (s n k : ℕ) → IsResting e s n k → is_idle_at e n k ≡ true
resting_rests e g s n k is =
    let found = runs_at e g n is.plain is.running in
    let same : found.0 ≡ is.query = some_query (sym found.1.0 ∙ is.registered) in
    let many : length is.plain.operators ≡ length is.query.nodes = found.1.1 ∙ ap (λ (z : Registered). length z.nodes) same in
    let within : k < length is.plain.operators = omega (arith, many, is.within) in
    let inside : nat_lt k (length is.plain.operators) ≡ true = lt-ltb k (length is.plain.operators) within in
    let log = (may_ask e g).logs n k is.query is.plain (record { registered = is.registered; running = is.running; within = is.within }) in
    let nothing : is_none (ready (operator_at is.plain.operators k) (log_of e.machine.streams is.plain k)) ≡ true =
    ap (λ x. is_none (ready (operator_at is.plain.operators k) x)) log ∙ ap is_none is.empty in
    ap (is_idle_in e.machine.streams k) is.running ∙ ap₂ (λ a b. a && b) inside nothing

pub remains_looked : (ks vs : List Remains) (n : ℕ) (k : Remains) → vs ≡ ks → true ≡ nat_lt n (length vs) → k ≡ get_or vs n k → get_or (map remains_of ks) n Dropped ≡ remains_of k
remains_looked ks vs n k same within is = ap (λ z. get_or (map remains_of z) n Dropped) (sym same) ∙ get_or-map remains_of vs n k Dropped (ltb-true n (length vs) (sym within)) ∙ ap remains_of (sym is)

-- TOLD: the next of the slots
pub told_next : (e : PlainEngine) (ss : List Slot) (k : ℕ) (s : Slot) (slots : List Slot) → k < length ss → s ≡ get_or ss k s → with_updates e (drop k ss) slots ≡ with_updates e (drop (k + 1) ss) (with_update e s slots)
told_next e ss k s slots lt is =
    let one : suc k ≡ k + 1 = omega arith in
    ap (λ z. with_updates e z slots) (drop-cons ss k s lt ∙ ap (λ x. x ∷ drop (suc k) ss) (sym is) ∙ ap (λ i. s ∷ drop i ss) one)

pub told_last : (e : PlainEngine) (ss : List Slot) (k : ℕ) (slots : List Slot) → length ss ≤ k → with_updates e (drop k ss) slots ≡ slots
told_last e ss k slots l = ap (λ z. with_updates e z slots) (drop_all k ss l)

pub all_next : (P : Slot → Type 0) (ss : List Slot) (k : ℕ) (s : Slot) → k < length ss → s ≡ get_or ss k s → AllByRecursion P (drop k ss) → P s × AllByRecursion P (drop (k + 1) ss)
all_next P ss k s lt is h =
    let one : suc k ≡ k + 1 = omega arith in
    subst (AllByRecursion P) (drop-cons ss k s lt ∙ ap (λ x. x ∷ drop (suc k) ss) (sym is) ∙ ap (λ i. s ∷ drop i ss) one) h

-- other slots change no operator
pub asked_over : (s : EngineState) (slots : List Slot) (n k : ℕ) → HasOperatorAt (engine_in s) n k → HasOperatorAt (engine_in (with_slots s slots)) n k
asked_over s slots n k h =
    let is = h.1.1 in
    (h.0, (h.1.0, record { registered = is.registered; running = is.running; within = is.within; operator = is.operator; log = is.log }))

-- the state after one slot more is told
pub told_over : (s0 s s2 : EngineState) (slot : Slot) → s ≡ with_slots s0 s.slots → s2 ≡ with_slots s (with_update (engine_in s) slot s.slots) → s2 ≡ with_slots s0 (with_update (engine_in s0) slot s.slots)
told_over s0 s s2 slot same tells = tells ∙ ap (λ (z : EngineState). with_slots z (with_update (engine_in z) slot s.slots)) same
