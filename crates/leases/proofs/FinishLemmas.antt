-- A turn that comes back, over the engine as a plain value.
use Rattle.std.proofs.Common.{◌≡◌, ◌≢◌, ◌<◌, ◌≤◌, ◌+◌, ℕ, inl, inr, List, ◌++◌, length, get_or, sym, ap, ◌∙◌, subst, arith}
use Rattle.std.proofs.lemmas.List.FromFn.{get_or-map-range_with_len}
use Rattle.std.proofs.lemmas.Option.{slice_get_within}
use Rattle.values.specs.Row.{Row}
use Rattle.column.specs.declared.batch.Side.TheVariants.{Left}
use Rattle.op_queue.specs.Entries.{Entry}
use Rattle.turn.specs.Finished.{IsDone}
use Rattle.turn.specs.Turns.{Answered, change_at, outs_at, outs_in}
use Rattle.turn.specs.declared.parts.Parts.{Parts}
use Rattle.operators.specs.Operators.{IsFed, IsFinished}
use Rattle.operators.specs.Ready.{PlainOperator}
use Rattle.operators.specs.States.{near_of}
use Rattle.physical_plans.specs.Wiring.{wire_from}
use Rattle.physical_plans.specs.declared.wiring.Wire.{Wire}
use Rattle.reference.specs.Machine.{Registered}
use Rattle.laws_dataflow.specs.Roots.{below_root}
use Rattle.laws_queries.specs.Laws.{RootsRun, TurnsRun}
use Rattle.laws_queries.specs.Machines.{widths_of}
use Rattle.laws_queries.specs.Queries.{IsTurned, change_at_first}
use Rattle.laws_queries.specs.Plain.{PlainQuery, log_at, operator_at, stream_log}
use Rattle.laws_queries.specs.Steps.{outs_at_first}
use Rattle.laws_queries.proofs.NodeLemmas.{roots_run, turns_run}
use Rattle.laws_queries.proofs.WireLemmas.{Wired, wired}
use Rattle.query_runtime.specs.Turns.{CanFinish, CanPut, HasAnswered, HasFed, HasFinished, HasPut, log_of, wire_at}
use Rattle.run_queue.specs.declared.slots.Slot.{Slot}
use Rattle.laws_engine.specs.Asks.{IsOperator, MayAsk}
use Rattle.laws_engine.specs.Calls.{IsAnsweredTurn, IsFinishedTurn, IsOf, answered, finished, given_back}
use Rattle.laws_engine.specs.Engines.{Lease, PlainEngine, Running, remains_at, slot_at}
use Rattle.laws_engine.specs.Good.{AreRemains, Goes, GoodEngine, IsLease}
use Rattle.laws_engine.specs.Histories.{ComesBack}
use Rattle.laws_engine.proofs.AskLemmas.{may_ask}
use Rattle.laws_engine.proofs.BackLemmas.{remains_here, same_plain}
use Rattle.laws_engine.proofs.FinishLemmas.{query_bounded}
use Rattle.leases.specs.Applied.{HasTaken, HasWiredOperators, IsApplied, IsOutAs, IsUpdated, MayApply, MayApplyIn, with_remains, without_turn}
use Rattle.leases.specs.Asked.{HasOperatorAt, IsAt}
use Rattle.leases.specs.Turns.{IsOut, lease_of_parts}

-- THE EXCERPT of a turn that is out is the one of its operator's state
lease_near : (e : PlainEngine) (l : Lease) (q : Registered) (p : PlainQuery) → IsLease e l → IsOf e l q p → l.excerpt ≡ near_of (operator_at p.operators l.operator).state l.side l.item
lease_near e l q p is of = is.near ∙ ap (λ z. near_of (operator_at z.operators l.operator).state l.side l.item) (same_plain (sym is.running ∙ of.running))

-- fed by this wire, which leads on from the operator k
record FedBy (w : Wire) (k : ℕ) (es : List (Entry Row)) (os os2 : List PlainOperator) : Type 0 where
  pub fed : IsFed (operator_at os w.to) w.side es (operator_at os2 w.to)
  pub others : (j : ℕ) → j ≢ k → j ≢ w.to → operator_at os2 j ≡ operator_at os j

-- a slot more or less, and an operator stands where it stood
pub at_slots : (e : PlainEngine) (slots : List Slot) (n k : ℕ) (q : Registered) (p : PlainQuery) → IsAt e n k q p → IsAt (record e { slots = slots }) n k q p
at_slots e slots n k q p at = record { registered = at.registered; running = at.running; within = at.within; operator = at.operator; log = at.log }

-- A TURN THAT IS OUT of a good engine
module _ (e : PlainEngine) (d : Lease) (q : Registered) (p : PlainQuery) (g : GoodEngine e) (of : IsOf e d q p) where
  -- the engine may ask of its running queries what it does
  asks : MayAsk e
  asks = may_ask e g

  operator : (j : ℕ) → j < length q.nodes → IsOperator e d.query j q p
  operator j lt = record { registered = of.registered; running = of.running; within = lt }

  goes : Goes e.machine q p
  goes = subst (AreRemains e.machine q) of.running (g.queries d.query q of.registered)

  many : length p.operators ≡ length q.nodes
  many = goes.runs.runs.many

  -- THE OPERATORS of its query
  pub is_at : (j : ℕ) → j < length q.nodes → IsAt e d.query j q p
  is_at j lt =
      record { registered = of.registered; running = of.running; within = lt; operator = asks.operators d.query j q p (operator j lt); log = asks.logs d.query j q p (operator j lt) }

  wire_is : (j : ℕ) → j < length q.nodes → wire_at p j ≡ wire_from 0 q.nodes j
  wire_is j lt =
      let d : Wire = record { to = length p.wires; side = Left } in
      let z : 0 + j ≡ j = omega arith in
      ap (λ ws. get_or ws j d) goes.runs.wires ∙ get_or-map-range_with_len (wire_from 0 q.nodes) 0 (length q.nodes) j j d lt z

  pub to_within : (j : ℕ) → j < below_root q.nodes → (wire_at p j).to < length q.nodes
  to_within j lt =
      let w : Wired q j = wired (widths_of e.machine.streams q) e.machine q goes.runs.runs.stands j lt in
      let here : j < length q.nodes = omega (arith, lt) in
      let to : (wire_at p j).to ≡ (wire_from 0 q.nodes j).to = ap (λ (x : Wire). x.to) (wire_is j here) in
      omega (arith, to, w.within, here)

  pub to_later : (j : ℕ) → j < below_root q.nodes → j < (wire_at p j).to
  to_later j lt =
      let w : Wired q j = wired (widths_of e.machine.streams q) e.machine q goes.runs.runs.stands j lt in
      let here : j < length q.nodes = omega (arith, lt) in
      let to : (wire_at p j).to ≡ (wire_from 0 q.nodes j).to = ap (λ (x : Wire). x.to) (wire_is j here) in
      omega (arith, to, w.later)

  -- below the root, or at it, by their number
  pub below_of : d.operator + 1 < length p.operators → d.operator < below_root q.nodes
  below_of lt = omega (arith, lt, many)

  pub root_of : length p.operators ≤ d.operator + 1 → d.operator ≡ below_root q.nodes
  root_of le = let lt : d.operator < length q.nodes = of.within in omega (arith, le, lt, many)

  pub wired_operators : HasWiredOperators e d.query
  wired_operators j p2 running lt =
      let same : p ≡ p2 = same_plain (sym of.running ∙ running) in
      let below : j + 1 < length p.operators → j < below_root q.nodes = λ h. omega (arith, h, many) in (
        q,
        (
          p,
          is_at (wire_at p2 j).to
              (subst (λ z. j + 1 < length z.operators → (wire_at z j).to < length q.nodes) same (λ h. to_within j (below h)) lt),
        ),
      )

  -- AND WHEN IT HAS
  module _ (p2 : PlainQuery) (a : HasTaken e.machine.streams p d p2) where
    at_log : IsFinished (operator_at p.operators d.operator) (log_at e.machine q d.operator) d.side d.item (change_at_first (operator_at p.operators d.operator) d.side d.item)
        (operator_at p2.operators d.operator)
    at_log =
        subst (λ l. IsFinished (operator_at p.operators d.operator) l d.side d.item (change_at_first (operator_at p.operators d.operator) d.side d.item) (operator_at p2.operators d.operator))
        (asks.logs d.query d.operator q p (operator d.operator of.within))
        a.finished.finished

    turned : (outs : List (Entry Row)) → HasFed p d.operator outs p2 → IsTurned e.machine q d.operator d.side d.item outs p.operators p2.operators
    turned outs put =
        let t : FedBy (wire_from 0 q.nodes d.operator) d.operator outs p.operators p2.operators =
        subst (λ w. FedBy w d.operator outs p.operators p2.operators) (wire_is d.operator of.within) (record { fed = put.fed; others = put.others }) in
        record { many = a.finished.many; finished = at_log; fed = t.fed; others = t.others }

    -- below the root
    finished_turn : d.operator < below_root q.nodes → IsFinishedTurn e d q p p2
    finished_turn lt =
        let turns : TurnsRun (widths_of e.machine.streams q) goes.widths e.machine q = turns_run (widths_of e.machine.streams q) goes.widths e.machine q (query_bounded e g d.query q of.registered goes.lives) in
        let outs = turns.puts p.operators (goes.taken ++ p.answers) d.operator d.side d.item goes.runs.runs lt in
        let fed : HasFed p d.operator outs.0 p2 = subst (λ o. HasPut p d.operator o p2) outs.1 a.put in
        record {
          of = of;
          below = lt;
          outs = outs.0;
          puts = outs.1;
          turned = turned outs.0 fed;
          wires = a.finished.wires;
          sources = a.finished.sources;
          answers = fed.answers;
        }

    -- at the root
    answered_turn : d.operator ≡ below_root q.nodes → IsAnsweredTurn e d q p p2
    answered_turn at =
        let roots : RootsRun (widths_of e.machine.streams q) goes.widths e.machine q = roots_run (widths_of e.machine.streams q) goes.widths e.machine q (query_bounded e g d.query q of.registered goes.lives) in
        let gives : (rows : List (ℕ × Row)) × (outs_at_first (operator_at p.operators d.operator) d.side d.item ≡ Answered rows) =
        subst (λ n. (rows : List (ℕ × Row)) × (outs_at_first (operator_at p.operators n) d.side d.item ≡ Answered rows)) (sym at) (roots.gives p.operators (goes.taken ++ p.answers) d.side d.item goes.runs.runs) in
        let gave : HasAnswered p d.operator gives.0 p2 = subst (λ o. HasPut p d.operator o p2) gives.1 a.put in
        record {
          of = of;
          root = at;
          rows = gives.0;
          gives = gives.1;
          turned = record {
            many = a.finished.many;
            finished = subst (λ n. IsFinished (operator_at p.operators n) (log_at e.machine q n) d.side d.item (change_at_first (operator_at p.operators n) d.side d.item) (operator_at p2.operators n)) at at_log;
            others = λ j ne. gave.others j (λ same. ne (same ∙ at));
          };
          wires = a.finished.wires;
          sources = a.finished.sources;
          answers = gave.answers;
        }

    -- ITS OPERATORS stand where they stood
    here : remains_at (given_back e d p2) d.query ≡ Running p2
    here = remains_here e d.query (Running p2) (omega (arith, g.many, slice_get_within e.machine.queries d.query q of.registered))

    back_at : (j : ℕ) → j < length q.nodes → IsAt (given_back e d p2) d.query j q p2
    back_at j lt =
        let was = is_at j lt in
        record {
          registered = of.registered;
          running = here;
          within = lt;
          operator = record {
            operator = omega (arith, was.operator.operator, a.finished.many);
            wire = subst (λ (ws : List Wire). j < length ws) (sym a.finished.wires) was.operator.wire;
            source = subst (λ (ss : List ℕ). j < length ss) (sym a.finished.sources) was.operator.source;
            stream = subst (λ (ss : List ℕ). get_or ss j 0 < length e.machine.streams) (sym a.finished.sources) was.operator.stream;
          };
          log = ap (λ (ss : List ℕ). stream_log e.machine.streams (get_or ss j 0)) a.finished.sources ∙ was.log;
        }

    -- THE SLOTS that are updated: that of the operator
    pub ended : (e1 e2 : PlainEngine) → e1 ≡ with_remains e d.query (Running p2) → e2 ≡ without_turn e1 d.number → e2 ≡ given_back e d p2
    ended e1 e2 a b = b ∙ ap (λ z. without_turn z d.number) a

    module _ (e2 : PlainEngine) (s : Slot) (back : e2 ≡ given_back e d p2) (is : s ≡ slot_at e d.query q p d.operator) where
      pub may_update : HasOperatorAt e2 s.query s.operator
      may_update =
          subst (λ z. HasOperatorAt z s.query s.operator) (sym back)
          (subst (λ z. HasOperatorAt (given_back e d p2) z.query z.operator) (sym is) (q, (p2, back_at d.operator of.within)))

      pub told : (e3 : PlainEngine) → IsUpdated e2 s e3 → e3 ≡ answered e d q p p2
      told e3 t =
          let r : IsUpdated (given_back e d p2) (slot_at e d.query q p d.operator) e3 =
          subst (λ z. IsUpdated z (slot_at e d.query q p d.operator) e3) back (subst (λ z. IsUpdated e2 z e3) is t) in
          r q p2 of.registered here

    -- and that of the one that it feeds
    module _ (e3 : PlainEngine) (s : Slot) (back : e3 ≡ answered e d q p p2) (is : s ≡ slot_at e d.query q p (wire_at p d.operator).to) where
      pub may_update_above : d.operator + 1 < length p.operators → HasOperatorAt e3 s.query s.operator
      may_update_above lt =
          let at : IsAt (answered e d q p p2) d.query (wire_at p d.operator).to q p2 =
          at_slots (given_back e d p2) (answered e d q p p2).slots d.query (wire_at p d.operator).to q p2
          (back_at (wire_at p d.operator).to (to_within d.operator (below_of lt))) in
          subst (λ z. HasOperatorAt z s.query s.operator) (sym back)
          (subst (λ z. HasOperatorAt (answered e d q p p2) z.query z.operator) (sym is) (q, (p2, at)))

      pub told_above : (e4 : PlainEngine) → IsUpdated e3 s e4 → e4 ≡ finished e d q p p2
      told_above e4 t =
          let at : s ≡ slot_at e d.query q p (wire_from 0 q.nodes d.operator).to = is ∙ ap (λ (w : Wire). slot_at e d.query q p w.to) (wire_is d.operator of.within) in
          let r : IsUpdated (answered e d q p p2) (slot_at e d.query q p (wire_from 0 q.nodes d.operator).to) e4 =
          subst (λ z. IsUpdated z (slot_at e d.query q p (wire_from 0 q.nodes d.operator).to) e4) back (subst (λ z. IsUpdated e3 z e4) at t) in
          r q p2 of.registered here

    -- SO IT HAS COME BACK
    pub comes_back_below : (e4 : PlainEngine) → d.operator + 1 < length p.operators → e4 ≡ finished e d q p p2 → ComesBack e d q p p2 e4
    comes_back_below e4 lt is = inl (finished_turn (below_of lt), is)

    pub comes_back_root : (e4 : PlainEngine) → length p.operators ≤ d.operator + 1 → e4 ≡ answered e d q p p2 → ComesBack e d q p p2 e4
    comes_back_root e4 le is = inr (answered_turn (root_of le), is)

-- A TURN THAT WAS RUN is, by its lease, one that is out
module _ (e : PlainEngine) (d : Parts) (q : Registered) (p : PlainQuery) (g : GoodEngine e) (out : IsOut e d q p) where
  pub out_as : IsOutAs e (lease_of_parts d) q p
  out_as = record { out = out.out; of = out.of }

  -- WHAT THE TURN MADE is what the item at its operator's front makes
  module _ (done : IsDone d) where
    near_is : d.near ≡ near_of (operator_at p.operators d.node.operator).state d.node.side d.item
    near_is = lease_near e (lease_of_parts d) q p (g.leases (lease_of_parts d) out.out) out.of

    outs_are : outs_in d.outputs ≡ outs_at_first (operator_at p.operators d.node.operator) d.node.side d.item
    outs_are =
        done.outputs ∙ ap (λ z. outs_at z d.node.side d.item d.near) out.kind
        ∙ ap (outs_at (operator_at p.operators d.node.operator).kind d.node.side d.item) near_is

    change_is : d.change ≡ change_at_first (operator_at p.operators d.node.operator) d.node.side d.item
    change_is = done.change ∙ ap (λ z. change_at z d.item d.near) out.kind ∙ ap (change_at (operator_at p.operators d.node.operator).kind d.item) near_is

    -- so its query may take it
    may_apply : MayApply e.machine.streams p d
    may_apply = record {
      here = (is_at e (lease_of_parts d) q p g out.of d.node.operator out.of.within).operator;
      may = subst (CanFinish (operator_at p.operators d.node.operator) (log_of e.machine.streams p d.node.operator) d.node.side d.item) (sym change_is) ((may_ask e g).finishes (lease_of_parts d) q p out.out out.of);
      puts = subst (λ c. CanPut e.machine.streams p d.node.operator d.node.side d.item c (outs_in d.outputs)) (sym change_is)
          (subst (CanPut e.machine.streams p d.node.operator d.node.side d.item (change_at_first (operator_at p.operators d.node.operator) d.node.side d.item)) (sym outs_are)
          ((may_ask e g).puts (lease_of_parts d) q p out.out out.of));
    }

    pub may_apply_in : MayApplyIn e d
    may_apply_in = (p, (out.of.running, may_apply))

    -- and when it has, it has taken the item
    pub taken : (p2 : PlainQuery) → IsApplied e.machine.streams p d p2 → HasTaken e.machine.streams p (lease_of_parts d) p2
    taken p2 a = record {
      finished = subst (λ c. HasFinished e.machine.streams p d.node.operator d.node.side d.item c p2) change_is a.finished;
      put = subst (λ o. HasPut p d.node.operator o p2) outs_are a.put;
    }
