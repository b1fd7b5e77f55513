-- A query runs on through the turns of its code.
use Rattle.std.proofs.Common.{◌≡◌, ◌≢◌, ◌∙◌, ℕ, ◌-◌, ◌+◌, ◌<◌, Bool, true, false, cond, ◌⊎◌, ⊎_elim, Option, Some, None, List, [], ◌∷◌, ◌++◌, length, min, take, drop, get_or, sym, ap, refl, subst, arith, append_assoc}
use Rattle.std.specs.Option.{option_map, unwrap_or}
use Rattle.std.proofs.lemmas.List.{get_or-map, length-map, take-append-drop}
use Rattle.std.proofs.lemmas.List.FromFn.{get_or-map-range_with_len, length-map-range_with_len}
use Rattle.values.specs.Row.{Row}
use Rattle.column.specs.declared.batch.Side.{Side}
use Rattle.column.specs.declared.batch.Side.TheVariants.{Left, Right}
use Rattle.op_queue.specs.Entries.{Entry, front_of}
use Rattle.op_queue.specs.Logs.{Closed}
use Rattle.op_queue.specs.declared.item.Item.{Item}
use Rattle.turn.specs.Turns.{Put, Answered}
use Rattle.turn.specs.declared.kinds.Kind.TheVariants as kind
use Rattle.operators.specs.Inboxes.{IsInboxWithin}
use Rattle.operators.specs.Operators.{IsFed, IsFinished}
use Rattle.operators.specs.Runs.{is_root}
use Rattle.operators.specs.Ready.{PlainOperator, first_ready, front_instant, inbox_of, ready, ready_at, usable, waiting}
use Rattle.physical_plans.specs.Wiring.{wire_from}
use Rattle.physical_plans.specs.declared.wiring.Wire.{Wire}
use Rattle.plan.specs.Nodes as plan
use Rattle.reference.specs.Machine.{Machine, Registered}
use Rattle.laws_dataflow.specs.Roots.{below_root}
use Rattle.laws_queries.specs.Laws.{RootsRun, TurnsRun}
use Rattle.laws_queries.specs.Queries.{HasInboxes, IsAnswered, IsPlainQuery, IsRunning, IsTurned}
use Rattle.laws_queries.specs.Queries.{MayFeed, MayFinish, change_at_first}
use Rattle.laws_queries.specs.Plain.{PlainQuery, log_at, node_at, operator_at, source_of, stream_log}
use Rattle.laws_queries.specs.Rooms.{IsBounded}
use Rattle.laws_queries.specs.Steps.{IsFirst, outs_at_first}
use Rattle.laws_queries.proofs.NodeLemmas.{roots_run, turns_run}
use Rattle.laws_queries.proofs.QueueLemmas.{inbox_within}
use Rattle.laws_queries.proofs.WireLemmas.{Wired, wired}
use Rattle.query_runtime.specs.Runs.{CanRun, LeadsOn}
use Rattle.query_runtime.specs.Turns as took
use Rattle.query_runtime.specs.Turns.{CanFeed, CanFinish, CanLease, CanPut, HasAnswered, HasFed, HasFinished, HasOperator, HasPut, handed_out, log_of, source_at, wire_at}

-- WHAT IS READY has something on a side that can be used
some_waits : (es : List (Entry Row)) (at : ℕ) → option_map front_instant (front_of es) ≡ Some at → 0 < length es
some_waits [] at e = absurd (cc)
some_waits (x ∷ es) at e = omega arith

record Usable (o : PlainOperator) (log : Closed) (side : Side) : Type 0 where
  pub usable : usable o.state side ≡ true
  pub waits : 0 < length (waiting o log side)

side_ready : (o : PlainOperator) (log : Closed) (side : Side) (at : ℕ) (b : Bool) → usable o.state side ≡ b → ready_at o log side ≡ Some at → Usable o log side
side_ready o log side at true u e =
    record { usable = u; waits = some_waits (waiting o log side) at (sym (ap (λ z. cond z (option_map front_instant (front_of (waiting o log side))) None) u) ∙ e) }
side_ready o log side at false u e =
    let none : None ≡ Some at = sym (ap (λ z. cond z (option_map front_instant (front_of (waiting o log side))) None) u) ∙ e in
    absurd (cc)

side_of : (t at : ℕ) (s side : Side) → ◌≡◌ {A = Option (Side × ℕ)} (Some (s, t)) (Some (side, at)) → s ≡ side
side_of t at s side e = ap (λ (x : Option (Side × ℕ)). (unwrap_or x (s, t)).0) e

ready_first : (o : PlainOperator) (log : Closed) (side : Side) (at : ℕ) (a b : Option ℕ) → ready_at o log Left ≡ a → ready_at o log Right ≡ b → first_ready a b ≡ Some (side, at) → Usable o log side
ready_first o log side at (Some t) b ea eb e = subst (Usable o log) (side_of t at Left side e) (side_ready o log Left t (usable o.state Left) refl ea)
ready_first o log side at None (Some t) ea eb e = subst (Usable o log) (side_of t at Right side e) (side_ready o log Right t (usable o.state Right) refl eb)
ready_first o log side at None None ea eb e = absurd (cc)

ready_usable : (o : PlainOperator) (log : Closed) (side : Side) (at : ℕ) → ready o log ≡ Some (side, at) → Usable o log side
ready_usable o log side at e = ready_first o log side at (ready_at o log Left) (ready_at o log Right) refl refl e

-- A TURN MAY COME BACK
can_finish : (o : PlainOperator) (log : Closed) (side : Side) (i : Item) → MayFinish o log side i → CanFinish o log side i (change_at_first o side i)
can_finish o log side i h = record { waits = h.waits; within = h.within; takes = h.may.takes }

-- fed by this wire, which leads on from the operator k
record FedBy (w : Wire) (k : ℕ) (es : List (Entry Row)) (os os2 : List PlainOperator) : Type 0 where
  pub fed : IsFed (operator_at os w.to) w.side es (operator_at os2 w.to)
  pub others : (j : ℕ) → j ≢ k → j ≢ w.to → operator_at os2 j ≡ operator_at os j

-- THE WIRES AND SOURCES of a plain query are those of the plan
by_number : {A : Type 0} (k n : ℕ) → k < n → (k < n - 1 → A) → (k ≡ n - 1 → A) → A
by_number k n lt f g = ⊎_elim f g (let d : (k < n - 1) ⊎ (k ≡ n - 1) = grind arith in d)

module _ (vs ws : List ℕ) (m : Machine) (q : Registered) (turns : TurnsRun vs ws m q) (roots : RootsRun vs ws m q) (taken : List (ℕ × Row)) (p : PlainQuery) (h : IsPlainQuery vs ws m q taken p) (k : ℕ) (kc : k < length q.nodes) where
  wire_is : wire_at p k ≡ wire_from 0 q.nodes k
  wire_is =
      let d : Wire = record { to = length p.wires; side = Left } in
      let z : 0 + k ≡ k = omega arith in
      ap (λ ws. get_or ws k d) h.wires ∙ get_or-map-range_with_len (wire_from 0 q.nodes) 0 (length q.nodes) k k d kc z

  source_is : source_at p k ≡ source_of q (node_at q k)
  source_is = ap (λ ss. get_or ss k 0) h.sources ∙ get_or-map (source_of q) q.nodes k (plan.Window 0) 0 kc

  log_is : log_of m.streams p k ≡ log_at m q k
  log_is = ap (stream_log m.streams) source_is

  many : length p.operators ≡ length q.nodes
  many = h.runs.many

  pub has_operator : source_of q (node_at q k) < length m.streams → HasOperator m.streams p k
  has_operator s = record {
    operator = omega (arith, kc, many);
    wire = let n : length p.wires ≡ length q.nodes = ap length h.wires ∙ length-map-range_with_len (wire_from 0 q.nodes) 0 (length q.nodes) in omega (arith, kc, n);
    source = let n : length p.sources ≡ length q.nodes = ap length h.sources ∙ length-map q.nodes (source_of q) in omega (arith, kc, n);
    stream = subst (λ n. n < length m.streams) (sym source_is) s;
  }

  -- the item that stands first may be taken
  may_finish : (side : Side) (i : Item) → IsFirst (operator_at p.operators k) (log_at m q k) side i → MayFinish (operator_at p.operators k) (log_at m q k) side i
  may_finish side i f = by_number k (length q.nodes) kc
      (λ lt. turns.may p.operators (taken ++ p.answers) k side i h.runs lt f)
      (λ e. subst (λ n. IsFirst (operator_at p.operators n) (log_at m q n) side i → MayFinish (operator_at p.operators n) (log_at m q n) side i) (sym e) (roots.may p.operators (taken ++ p.answers) side i h.runs) f)

  may : (side : Side) (i : Item) → IsFirst (operator_at p.operators k) (log_of m.streams p k) side i → MayFinish (operator_at p.operators k) (log_of m.streams p k) side i
  may side i = subst (λ l. IsFirst (operator_at p.operators k) l side i → MayFinish (operator_at p.operators k) l side i) (sym log_is) (may_finish side i)

  pub can_lease : (side : Side) (at rows : ℕ) → ready (operator_at p.operators k) (log_of m.streams p k) ≡ Some (side, at) → 0 < rows → CanLease (operator_at p.operators k) (log_of m.streams p k) side rows
  can_lease side at rows e some =
      let u = ready_usable (operator_at p.operators k) (log_of m.streams p k) side at e in
      record { usable = u.usable; waits = u.waits; some = some; may = may side }

  pub can_come_back : (side : Side) (i : Item) → IsFirst (operator_at p.operators k) (log_of m.streams p k) side i → CanFinish (operator_at p.operators k) (log_of m.streams p k) side i (change_at_first (operator_at p.operators k) side i)
  can_come_back side i f = can_finish (operator_at p.operators k) (log_of m.streams p k) side i (may side i f)

  module _ (side : Side) (i : Item) (f : IsFirst (operator_at p.operators k) (log_of m.streams p k) side i) where
    first : IsFirst (operator_at p.operators k) (log_at m q k) side i
    first = subst (λ l. IsFirst (operator_at p.operators k) l side i) log_is f

    can_feed : (lt : k < below_root q.nodes) (outs : List (Entry Row)) → outs_at_first (operator_at p.operators k) side i ≡ Put outs → CanFeed m.streams p k side i (change_at_first (operator_at p.operators k) side i) outs
    can_feed lt outs e =
        let w : Wired q k = wired vs m q h.runs.stands k lt in
        let to : (wire_at p k).to ≡ (wire_from 0 q.nodes k).to = ap (λ (x : Wire). x.to) wire_is in
        record {
          here = omega (arith, to, w.within, many, kc);
          another = λ same. omega (arith, to, w.later, same);
          may = λ o2 done.
              subst (λ (x : Wire). MayFeed (operator_at p.operators x.to) x.side outs) (sym wire_is)
              (turns.may_feed p.operators (taken ++ p.answers) k side i outs o2 h.runs lt first e
              (subst (λ l. IsFinished (operator_at p.operators k) l side i (change_at_first (operator_at p.operators k) side i) o2) log_is done));
        }

    can_put_inner : k < below_root q.nodes → CanPut m.streams p k side i (change_at_first (operator_at p.operators k) side i) (outs_at_first (operator_at p.operators k) side i)
    can_put_inner lt =
        let g = turns.puts p.operators (taken ++ p.answers) k side i h.runs lt in
        subst (CanPut m.streams p k side i (change_at_first (operator_at p.operators k) side i)) (sym g.1) (can_feed lt g.0 g.1)

    root_gives : k ≡ below_root q.nodes → (answers : List (ℕ × Row)) × (outs_at_first (operator_at p.operators k) side i ≡ Answered answers)
    root_gives e = subst (λ n. (answers : List (ℕ × Row)) × (outs_at_first (operator_at p.operators n) side i ≡ Answered answers)) (sym e) (roots.gives p.operators (taken ++ p.answers) side i h.runs)

    can_put_root : k ≡ below_root q.nodes → CanPut m.streams p k side i (change_at_first (operator_at p.operators k) side i) (outs_at_first (operator_at p.operators k) side i)
    can_put_root e =
        let g = root_gives e in
        subst (CanPut m.streams p k side i (change_at_first (operator_at p.operators k) side i)) (sym g.1) tt

    pub can_put : CanPut m.streams p k side i (change_at_first (operator_at p.operators k) side i) (outs_at_first (operator_at p.operators k) side i)
    can_put = by_number k (length q.nodes) kc can_put_inner can_put_root

    module _ (p2 : PlainQuery) (done : HasFinished m.streams p k side i (change_at_first (operator_at p.operators k) side i) p2) where
      at_log : IsFinished (operator_at p.operators k) (log_at m q k) side i (change_at_first (operator_at p.operators k) side i) (operator_at p2.operators k)
      at_log = subst (λ l. IsFinished (operator_at p.operators k) l side i (change_at_first (operator_at p.operators k) side i) (operator_at p2.operators k)) log_is done.finished

      runs_on : IsRunning vs ws m q p2.operators (taken ++ p2.answers) → IsPlainQuery vs ws m q taken p2
      runs_on r = record { wires = done.wires ∙ h.wires; sources = done.sources ∙ h.sources; runs = r }

      turned : (outs : List (Entry Row)) → HasFed p k outs p2 → IsTurned m q k side i outs p.operators p2.operators
      turned outs put =
          let t : FedBy (wire_from 0 q.nodes k) k outs p.operators p2.operators = subst (λ w. FedBy w k outs p.operators p2.operators) wire_is (record { fed = put.fed; others = put.others }) in
          record { many = done.many; finished = at_log; fed = t.fed; others = t.others }

      runs_inner : k < below_root q.nodes → HasPut p k (outs_at_first (operator_at p.operators k) side i) p2 → IsPlainQuery vs ws m q taken p2
      runs_inner lt put =
          let g = turns.puts p.operators (taken ++ p.answers) k side i h.runs lt in
          let fed : HasFed p k g.0 p2 = subst (λ o. HasPut p k o p2) g.1 put in
          runs_on (subst (λ x. IsRunning vs ws m q p2.operators (taken ++ x)) (sym fed.answers)
          (turns.runs p.operators p2.operators (taken ++ p.answers) k side i g.0 h.runs lt first g.1 (turned g.0 fed)))

      runs_root : k ≡ below_root q.nodes → HasPut p k (outs_at_first (operator_at p.operators k) side i) p2 → IsPlainQuery vs ws m q taken p2
      runs_root e put =
          let g = root_gives e in
          let gave : HasAnswered p k g.0 p2 = subst (λ o. HasPut p k o p2) g.1 put in
          let back : (taken ++ p.answers) ++ g.0 ≡ taken ++ p2.answers = append_assoc taken p.answers g.0 ∙ sym (ap (λ x. taken ++ x) gave.answers) in
          let answered : IsAnswered m q side i p.operators p2.operators = record {
            many = done.many;
            finished = subst (λ n. IsFinished (operator_at p.operators n) (log_at m q n) side i (change_at_first (operator_at p.operators n) side i) (operator_at p2.operators n)) e at_log;
            others = λ j ne. gave.others j (λ same. ne (same ∙ e));
          } in
          runs_on (subst (IsRunning vs ws m q p2.operators) back
          (roots.runs p.operators p2.operators (taken ++ p.answers) side i g.0 h.runs
          (subst (λ n. IsFirst (operator_at p.operators n) (log_at m q n) side i) e first)
          (subst (λ n. outs_at_first (operator_at p.operators n) side i ≡ Answered g.0) e g.1)
          answered))

      pub runs : HasPut p k (outs_at_first (operator_at p.operators k) side i) p2 → IsPlainQuery vs ws m q taken p2
      runs put = by_number k (length q.nodes) kc (λ lt. runs_inner lt put) (λ e. runs_root e put)

  -- A TURN MAY BE RUN IN PLACE
  inboxes : HasInboxes q (log_at m q k) (node_at q k) (operator_at p.operators k)
  inboxes = by_number k (length q.nodes) kc
      (λ lt. (h.runs.inner k lt).inboxes)
      (λ e. subst (λ n. HasInboxes q (log_at m q n) (node_at q n) (operator_at p.operators n)) (sym e) h.runs.last.inboxes)

  within : (side : Side) → IsInboxWithin (inbox_of (operator_at p.operators k) side) (log_of m.streams p k)
  within side = subst (λ l. IsInboxWithin (inbox_of (operator_at p.operators k) side) l) (sym log_is) (inbox_within q (log_at m q k) (node_at q k) (operator_at p.operators k) side inboxes)

  leads_inner : k < below_root q.nodes → LeadsOn p k
  leads_inner lt =
      let w : Wired q k = wired vs m q h.runs.stands k lt in
      let to : (wire_at p k).to ≡ (wire_from 0 q.nodes k).to = ap (λ (x : Wire). x.to) wire_is in
      record { later = omega (arith, to, w.later); within = omega (arith, to, w.within, many, kc) }

  leads : is_root (operator_at p.operators k).kind ≡ false → LeadsOn p k
  leads below = by_number k (length q.nodes) kc leads_inner
      (λ e.
      let is : (operator_at p.operators k).kind ≡ kind.ToStream = ap (λ n. (operator_at p.operators n).kind) e ∙ h.runs.last.runs.kind in
      let bad : true ≡ false = sym (ap is_root is) ∙ below in
      absurd (cc))

  pub can_run : (side : Side) (at rows : ℕ) → ready (operator_at p.operators k) (log_of m.streams p k) ≡ Some (side, at) → 0 < rows → CanRun m.streams p k side rows
  can_run side at rows e some = record { lease = can_lease side at rows e some; within = within side; leads = leads; puts = λ i f. can_put side i f }

-- ANSWERS THAT WERE TAKEN no longer wait
still_runs : (vs ws : List ℕ) (m : Machine) (q : Registered) (before : List (ℕ × Row)) (p : PlainQuery) (limit : ℕ) → IsPlainQuery vs ws m q before p → IsPlainQuery vs ws m q (before ++ took.taken limit p.answers) (handed_out limit p)
still_runs vs ws m q before p limit h =
    let count : ℕ = min limit (length p.answers) in
    let parts : (before ++ take count p.answers) ++ drop count p.answers ≡ before ++ p.answers = append_assoc before (take count p.answers) (drop count p.answers) ∙ ap (λ x. before ++ x) (take-append-drop count p.answers) in
    record { wires = h.wires; sources = h.sources; runs = subst (IsRunning vs ws m q p.operators) (sym parts) h.runs }

-- OF AN OPERATOR of a query that runs, of which some answers were taken
pub record PlainQueriesRun (vs ws : List ℕ) (m : Machine) (q : Registered) : Type 0 where
  -- it stands in the query where its stream stands in the machine
  pub operators : (before : List (ℕ × Row)) (p : PlainQuery) (k : ℕ) → IsPlainQuery vs ws m q before p → k < length q.nodes → source_of q (node_at q k) < length m.streams → HasOperator m.streams p k
  -- where it is ready, it may be leased
  pub leases : (before : List (ℕ × Row)) (p : PlainQuery) (k : ℕ) (side : Side) (at rows : ℕ) → IsPlainQuery vs ws m q before p → k < length q.nodes
      → ready (operator_at p.operators k) (log_of m.streams p k) ≡ Some (side, at) → 0 < rows → CanLease (operator_at p.operators k) (log_of m.streams p k) side rows
  -- or run its turn in place
  pub in_place : (before : List (ℕ × Row)) (p : PlainQuery) (k : ℕ) (side : Side) (at rows : ℕ) → IsPlainQuery vs ws m q before p → k < length q.nodes
      → ready (operator_at p.operators k) (log_of m.streams p k) ≡ Some (side, at) → 0 < rows → CanRun m.streams p k side rows
  -- a turn with the item that stands first may come back
  pub finishes : (before : List (ℕ × Row)) (p : PlainQuery) (k : ℕ) (side : Side) (i : Item) → IsPlainQuery vs ws m q before p → k < length q.nodes
      → IsFirst (operator_at p.operators k) (log_of m.streams p k) side i → CanFinish (operator_at p.operators k) (log_of m.streams p k) side i (change_at_first (operator_at p.operators k) side i)
  -- and what it puts out may go on
  pub puts : (before : List (ℕ × Row)) (p : PlainQuery) (k : ℕ) (side : Side) (i : Item) → IsPlainQuery vs ws m q before p → k < length q.nodes
      → IsFirst (operator_at p.operators k) (log_of m.streams p k) side i
      → CanPut m.streams p k side i (change_at_first (operator_at p.operators k) side i) (outs_at_first (operator_at p.operators k) side i)
  -- and then the query runs on
  pub runs : (before : List (ℕ × Row)) (p p2 : PlainQuery) (k : ℕ) (side : Side) (i : Item) → IsPlainQuery vs ws m q before p → k < length q.nodes
      → IsFirst (operator_at p.operators k) (log_of m.streams p k) side i
      → HasFinished m.streams p k side i (change_at_first (operator_at p.operators k) side i) p2 → HasPut p k (outs_at_first (operator_at p.operators k) side i) p2 → IsPlainQuery vs ws m q before p2
  -- it also runs on when answers were taken
  pub takes : (before : List (ℕ × Row)) (p : PlainQuery) (limit : ℕ) → IsPlainQuery vs ws m q before p → IsPlainQuery vs ws m q (before ++ took.taken limit p.answers) (handed_out limit p)

run_of : (vs ws : List ℕ) (m : Machine) (q : Registered) → TurnsRun vs ws m q → RootsRun vs ws m q → PlainQueriesRun vs ws m q
run_of vs ws m q turns roots = record {
  operators = λ taken p k h kc s. has_operator vs ws m q turns roots taken p h k kc s;
  leases = λ taken p k side at rows h kc e some. can_lease vs ws m q turns roots taken p h k kc side at rows e some;
  in_place = λ taken p k side at rows h kc e some. can_run vs ws m q turns roots taken p h k kc side at rows e some;
  finishes = λ taken p k side i h kc f. can_come_back vs ws m q turns roots taken p h k kc side i f;
  puts = λ taken p k side i h kc f. can_put vs ws m q turns roots taken p h k kc side i f;
  runs = λ taken p p2 k side i h kc f done put. runs vs ws m q turns roots taken p h k kc side i f p2 done put;
  takes = still_runs vs ws m q;
}

-- each operator that is ready may be leased; a turn with what stands first at an operator may come back, and what it puts out may go on; and then the query runs on
pub plain_queries_run : (vs ws : List ℕ) (m : Machine) (q : Registered) → IsBounded vs m q → PlainQueriesRun vs ws m q
plain_queries_run vs ws m q h = run_of vs ws m q (turns_run vs ws m q h) (roots_run vs ws m q h)
