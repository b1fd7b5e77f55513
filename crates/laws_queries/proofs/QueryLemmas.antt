-- A running query after turns of its operators.
use Rattle.std.proofs.Common.{◌≡◌, ◌≢◌, ℕ, ◌-◌, ◌<◌, ◌==◌, true, cond, ◌⊎◌, ⊎_elim, List, ◌++◌, length, refl, sym, ap, ◌∙◌, subst, subst₂, arith, eq-eqb}
use Rattle.std.proofs.lemmas.Bool.{ne_eqb}
use Rattle.values.specs.Row.{Row}
use Rattle.values.specs.Answers.{StreamOperator}
use Rattle.column.specs.declared.batch.Side.{Side}
use Rattle.column.specs.declared.batch.Side.TheVariants.{Left, Right}
use Rattle.op_queue.specs.Entries.{Entry}
use Rattle.op_queue.specs.Paths.{Leads}
use Rattle.op_queue.specs.declared.item.Item.{Item}
use Rattle.op_queue.proofs.PathLemmas.{Leads-append, Leads-forward, Leads-values}
use Rattle.op_queue.specs.Signed.{Same}
use Rattle.op_queue.proofs.SignedLemmas.{Same-refl}
use Rattle.to_stream.specs.Turns as root
use Rattle.turn.specs.Turns.{Put}
use Rattle.operators.specs.Inboxes.{is_fed}
use Rattle.operators.specs.Operators.{IsFed, IsFinished}
use Rattle.operators.specs.Ready.{PlainOperator, inbox_of}
use Rattle.physical_plans.specs.Wiring.{wire_from}
use Rattle.plan.specs.Nodes as plan
use Rattle.reference.specs.Machine.{Machine, Registered}
use Rattle.laws_dataflow.specs.Laws.{IsGood, TurnsKeep}
use Rattle.laws_dataflow.specs.Nets.{Cell, at_window, at_unary, at_join, Turn, Feeds, Planned, Laid, cell_next, cell_shown, input_of, left_of, right_of}
use Rattle.laws_dataflow.specs.Operators.{net_of}
use Rattle.laws_dataflow.specs.Plans.{consumer_of, least_of, value_of, world_of}
use Rattle.laws_dataflow.specs.Roots.{below_root}
use Rattle.laws_dataflow.specs.Queries.{GoodRoot}
use Rattle.laws_dataflow.proofs.AnswerLemmas.{query_laid, query_planned, shaped, turns_keep}
use Rattle.laws_dataflow.proofs.PlanLemmas.{Shaped}
use Rattle.laws_dataflow.proofs.KeptLemmas.{LastKept, last_kept}
use Rattle.laws_dataflow.proofs.TurnLemmas.{TurnKept, turn_kept}
use Rattle.laws_queries.specs.Widths.{AreEntries, width_at}
use Rattle.laws_queries.specs.Counts.{StaysWithin, count, most_rows}
use Rattle.laws_queries.specs.Steps.{IsFirst, MayLaw, Stands, StepLaw, StepMade, outs_at_first}
use Rattle.laws_queries.specs.Rooms.{PlanHasRoom}
use Rattle.laws_queries.specs.Queries.{IsRunning, IsTurned, change_at_first, MayFeed, MayFinish}
use Rattle.laws_queries.specs.Queries.{RunsAt, RunsAtRoot}
use Rattle.laws_queries.specs.Plain.{log_at, node_at, operator_at}
use Rattle.laws_queries.proofs.FedLemmas.{fed_on, feeds_on, few_fed, forward_fed, forward_on, left_more, runs_fed, wide_fed}
use Rattle.laws_queries.proofs.FeedLemmas.{few_append, wide_append}
use Rattle.laws_queries.proofs.KindLemmas.{Puts, runs_belongs, runs_puts}
use Rattle.laws_queries.proofs.QueueLemmas.{fed_side, first_waits, inbox_within, inboxes_fed, inboxes_finished}
use Rattle.laws_queries.proofs.WireLemmas.{TakesAt, Wired, at_most, wired}

same_number : (a b : ℕ) → (a ≡ b) ⊎ (a ≢ b)
same_number a b = grind arith

-- ALL CELLS, of which one is another
put_at : ℕ → Cell → (ℕ → Cell) → ℕ → Cell
put_at k c f j = cond (j == k) c (f j)

put_here : (k : ℕ) (c : Cell) (f : ℕ → Cell) → put_at k c f k ≡ c
unfolding put_at
put_here k c f = ap (λ b. cond b c (f k)) (eq-eqb k k refl)

put_there : (k : ℕ) (c : Cell) (f : ℕ → Cell) (j : ℕ) → j ≢ k → put_at k c f j ≡ f j
unfolding put_at
put_there k c f j ne = ap (λ b. cond b c (f j)) (ne_eqb j k ne)

-- WHAT THE ROOT HAS TAKEN is as many rows as before where its queue and what the operator below it has put out are
pub same_count : (v u : ℕ → List Row) (b b2 c c2 : List Row) (n n2 m m2 : ℕ) (q : List (Entry Row)) → Leads v b n q c m → Leads u b2 n2 q c2 m2 → c2 ≡ c → count b ≡ count b2
same_count v u b b2 c c2 n n2 m m2 q l k e =
    let f : count c2 ≡ count c = ap count e in
    omega (arith, l.turns.adds.weighs (λ x. 1), k.turns.adds.weighs (λ x. 1), f)

-- an operator that is fed has put out what it had, and stands where it stood
fed_shown : (side : Side) (outs : List (Entry Row)) (c : Cell) → (cell_shown (fed_on side outs c) ≡ cell_shown c) × (cell_next (fed_on side outs c) ≡ cell_next c)
fed_shown side outs (at_window h e b q n) = (refl, refl)
fed_shown side outs (at_unary q t b n) = (refl, refl)
fed_shown Left outs (at_join q r l m b n x y) = (refl, refl)
fed_shown Right outs (at_join q r l m b n x y) = (refl, refl)

-- the root, with what the last operator below it puts out
root_gains : (first start : ℕ) (earlier : List (ℕ × Row)) (v : ℕ → List Row) (s : root.State) (q outs : List (Entry Row)) (b b2 : List Row) (n n2 : ℕ) (given : List (ℕ × Row)) → Leads v b n outs b2 n2 → (g : GoodRoot first start earlier v s q b n given)
    → (h : GoodRoot first start earlier v s (q ++ outs) b2 n2 given) × (h.whole ≡ g.whole)
root_gains first start earlier v s q outs b b2 n n2 given l g =
    (record { whole = g.whole; last = g.last; opens = g.opens; edge = Leads-append g.edge l; began = g.began; going = g.going; mark = g.mark; stands = g.stands; last_is = g.last_is; given_is = g.given_is }, refl)

module _ (ws : List ℕ) (m : Machine) (q : Registered) where
  -- only the number of the rows that the root has taken is kept of them
  pub root_same : (o : PlainOperator) (s : root.State) (queue : List (Entry Row)) (whole whole2 : List Row) → count whole ≡ count whole2 → RunsAtRoot ws m q o s queue whole → RunsAtRoot ws m q o s queue whole2
  root_same o s queue whole whole2 e l =
      record { runs = l.runs; operator = l.operator; wide = l.wide; few = subst (λ n. StaysWithin (most_rows q.nodes (below_root q.nodes - 1)) n queue) e l.few; inboxes = l.inboxes }

  -- the root is fed
  pub root_fed : (k j : ℕ) (op : StreamOperator) (side : Side) (outs : List (Entry Row)) (o o2 : PlainOperator) (s : root.State) (queue : List (Entry Row)) (whole : List Row) → node_at q (below_root q.nodes) ≡ plan.ToStream j op
      → TakesAt k (node_at q (below_root q.nodes)) side → IsFed o side outs o2 → AreEntries (width_at ws (below_root q.nodes - 1)) outs → StaysWithin (most_rows q.nodes (below_root q.nodes - 1)) (count whole) (queue ++ outs)
      → RunsAtRoot ws m q o s queue whole → RunsAtRoot ws m q o2 s (queue ++ outs) whole
  root_fed k j op side outs o o2 s queue whole is takes f wide few l =
      let t : TakesAt k (plan.ToStream j op) side = subst (λ n. TakesAt k n side) is takes in
      record {
        runs = record {
          kind = f.kind ∙ l.runs.kind;
          state = f.state ∙ l.runs.state;
          queue = ap (λ x. x ++ outs) l.runs.queue ∙ sym (left_more o o2 side outs (log_at m q (below_root q.nodes)) t.1 f (fed_side q (log_at m q (below_root q.nodes)) k (node_at q (below_root q.nodes)) o side takes l.inboxes));
        };
        operator = l.operator;
        wide = wide_append (width_at ws (below_root q.nodes - 1)) queue outs l.wide wide;
        few = few;
        inboxes = inboxes_fed q (log_at m q (below_root q.nodes)) k (node_at q (below_root q.nodes)) o o2 side outs takes f l.inboxes;
      }

module _ (vs ws : List ℕ) (m : Machine) (q : Registered) (may : (node : plan.Node) → MayLaw node) (steps : (node : plan.Node) → StepLaw node) (rooms : PlanHasRoom m q) (os : List PlainOperator) (given : List (ℕ × Row)) (r : IsRunning vs ws m q os given) where
  stands_at : (k : ℕ) → k < below_root q.nodes
      → Stands (world_of m q) ws q.nodes k (node_at q k) (operator_at os k) (log_at m q k) (r.cells k) (input_of (value_of m q) r.cells (left_of (net_of q.nodes k))) (input_of (value_of m q) r.cells (right_of (net_of q.nodes k)))
  stands_at k kc = let a : RunsAt ws m q k (operator_at os k) (r.cells k) = r.inner k kc in record { runs = a.runs; wide = a.wide; few = a.few; good = r.good.good k kc; room = rooms r.cells k kc }

  -- THE ITEM THAT STANDS FIRST may be taken
  pub turn_may : (k : ℕ) (side : Side) (i : Item) → k < below_root q.nodes → IsFirst (operator_at os k) (log_at m q k) side i → MayFinish (operator_at os k) (log_at m q k) side i
  turn_may k side i kc first =
      let a : RunsAt ws m q k (operator_at os k) (r.cells k) = r.inner k kc in
      record {
        belongs = runs_belongs (world_of m q) (width_at ws k) (node_at q k) (operator_at os k) (log_at m q k) (r.cells k) a.runs;
        may = may (node_at q k) (world_of m q) ws q.nodes k (operator_at os k) (log_at m q k) (r.cells k) _ _ side i (stands_at k kc) first;
        waits = first_waits (operator_at os k) (log_at m q k) side i first;
        within = inbox_within q (log_at m q k) (node_at q k) (operator_at os k) side a.inboxes;
      }

  -- and its turn puts out entries for another operator
  pub turn_puts : (k : ℕ) (side : Side) (i : Item) → k < below_root q.nodes → (outs : List (Entry Row)) × (outs_at_first (operator_at os k) side i ≡ Put outs)
  turn_puts k side i kc =
      let p : Puts (operator_at os k).kind side i _ = runs_puts (world_of m q) (width_at ws k) (node_at q k) (operator_at os k) (log_at m q k) (r.cells k) side i (r.inner k kc).runs in
      (p.outs, p.is)

  -- ITS OUTPUTS may be fed to the operator to which they go
  module _ (k : ℕ) (side : Side) (i : Item) (outs : List (Entry Row)) (o2 : PlainOperator) (kc : k < below_root q.nodes) (first : IsFirst (operator_at os k) (log_at m q k) side i)
      (puts : outs_at_first (operator_at os k) side i ≡ Put outs) (f : IsFinished (operator_at os k) (log_at m q k) side i (change_at_first (operator_at os k) side i) o2) where
    outs_lead : (b : List Row) × (n : ℕ) × Leads (value_of m q k) (cell_shown (r.cells k)) (cell_next (r.cells k)) outs b n
    outs_lead =
        let planned : Planned (world_of m q) (net_of q.nodes) (below_root q.nodes) (value_of m q) (least_of m q) = query_planned vs m q r.stands.plan r.stands.wide in
        let made : StepMade (world_of m q) ws q.nodes k (node_at q k) (r.cells k) outs o2 (log_at m q k) = steps (node_at q k) (world_of m q) ws q.nodes k (operator_at os k) o2 (log_at m q k) (r.cells k) _ _ side i outs (stands_at k kc) first puts f in
        let kept : TurnKept (world_of m q) (net_of q.nodes k) (r.cells k) outs made.cell (input_of (value_of m q) r.cells (left_of (net_of q.nodes k))) (input_of (value_of m q) r.cells (right_of (net_of q.nodes k))) =
        turn_kept (world_of m q) (net_of q.nodes k) (r.cells k) made.cell outs _ _ (planned.lawful k kc) made.turn (r.good.good k kc) in
        (cell_shown made.cell, cell_next made.cell, Leads-values (λ t a b. subst (λ z. Same z (value_of m q k t)) (planned.value k r.cells kc t) (Same-refl (value_of m q k t))) kept.path)

    pub turn_may_feed : MayFeed (operator_at os (wire_from 0 q.nodes k).to) (wire_from 0 q.nodes k).side outs
    turn_may_feed =
        let wire : Wired q k = wired vs m q r.stands k kc in
        let to : ℕ = (wire_from 0 q.nodes k).to in
        let feeds : Side = (wire_from 0 q.nodes k).side in
        at_most to (below_root q.nodes) wire.within
        (λ tc.
        let a : RunsAt ws m q to (operator_at os to) (r.cells to) = r.inner to tc in
        let fed : is_fed (inbox_of (operator_at os to) feeds) ≡ true = fed_side q (log_at m q to) k (node_at q to) (operator_at os to) feeds wire.takes a.inboxes in
        record { fed = fed; forward = forward_fed (world_of m q) (width_at ws to) k (node_at q to) feeds outs (operator_at os to) (log_at m q to) (r.cells to) (input_of (value_of m q) r.cells) outs_lead.0 outs_lead.1 wire.takes fed outs_lead.2 a.runs (r.good.good to tc) })
        (λ e.
        let laid : Laid (net_of q.nodes) (below_root q.nodes) (consumer_of q.nodes) = query_laid vs m q r.stands.plan r.stands.wide in
        let sh : Shaped (world_of m q).closed q.meaning q.nodes = shaped vs m q r.stands.plan r.stands.wide in
        let top : k ≡ below_root q.nodes - 1 = omega (arith, laid.final k kc (sym wire.consumer ∙ e)) in
        let root : ℕ = below_root q.nodes in
        let o : PlainOperator = operator_at os root in
        let takes : TakesAt k (node_at q root) feeds = subst (λ z. TakesAt k (node_at q z) feeds) e wire.takes in
        let on_left : TakesAt k (plan.ToStream (length q.nodes - 2) q.meaning.operator) feeds = subst (λ n. TakesAt k n feeds) sh.root takes in
        let fed : is_fed (inbox_of o feeds) ≡ true = fed_side q (log_at m q root) k (node_at q root) o feeds takes r.last.inboxes in
        let path : Leads (value_of m q (root - 1)) (cell_shown (r.cells (root - 1))) (cell_next (r.cells (root - 1))) outs outs_lead.0 outs_lead.1 =
        subst (λ z. Leads (value_of m q z) (cell_shown (r.cells z)) (cell_next (r.cells z)) outs outs_lead.0 outs_lead.1) top outs_lead.2 in
        subst (λ z. MayFeed (operator_at os z) feeds outs) (sym e)
        (record { fed = fed; forward = forward_on o (log_at m q root) feeds Left r.queue outs on_left.1 r.last.runs.queue fed (Leads-forward (Leads-append r.good.root.edge path)) }))

  -- A FINISHED TURN of an operator below the root, whose outputs go to another operator or to the root
  module _ (os2 : List PlainOperator) (k : ℕ) (side : Side) (i : Item) (outs : List (Entry Row)) (kc : k < below_root q.nodes) (first : IsFirst (operator_at os k) (log_at m q k) side i)
      (puts : outs_at_first (operator_at os k) side i ≡ Put outs) (t : IsTurned m q k side i outs os os2) where
    -- the operator to which they go, and the side
    to : ℕ
    to = (wire_from 0 q.nodes k).to

    feeds : Side
    feeds = (wire_from 0 q.nodes k).side

    wire : Wired q k
    wire = wired vs m q r.stands k kc

    made : StepMade (world_of m q) ws q.nodes k (node_at q k) (r.cells k) outs (operator_at os2 k) (log_at m q k)
    made = steps (node_at q k) (world_of m q) ws q.nodes k (operator_at os k) (operator_at os2 k) (log_at m q k) (r.cells k) _ _ side i outs (stands_at k kc) first puts t.finished

    -- the cells after it
    cells2 : ℕ → Cell
    cells2 = put_at k made.cell (put_at to (fed_on feeds outs (r.cells to)) r.cells)

    self_is : cells2 k ≡ made.cell
    unfolding cells2
    self_is = put_here k made.cell _

    fed_is : cells2 to ≡ fed_on feeds outs (r.cells to)
    unfolding cells2 to
    fed_is = put_there k made.cell _ (wire_from 0 q.nodes k).to (λ e. omega (arith, e, wire.later)) ∙ put_here (wire_from 0 q.nodes k).to _ r.cells

    other_is : (j : ℕ) → j ≢ k → j ≢ to → cells2 j ≡ r.cells j
    unfolding cells2
    other_is j ne apart = put_there k made.cell _ j ne ∙ put_there to _ r.cells j apart

    turned : Turn (world_of m q) (net_of q.nodes k) (r.cells k) outs (cells2 k)
    turned = subst (λ c. Turn (world_of m q) (net_of q.nodes k) (r.cells k) outs c) (sym self_is) made.turn

    self_runs : RunsAt ws m q k (operator_at os2 k) (cells2 k)
    self_runs =
        subst (RunsAt ws m q k (operator_at os2 k)) (sym self_is)
        (record { runs = made.runs; wide = made.wide; few = made.few; inboxes = inboxes_finished q (log_at m q k) (node_at q k) (operator_at os k) (operator_at os2 k) side i _ t.finished (r.inner k kc).inboxes })

    other_runs : (j : ℕ) → j < below_root q.nodes → j ≢ k → j ≢ to → RunsAt ws m q j (operator_at os2 j) (cells2 j)
    unfolding to
    other_runs j jc ne apart = subst₂ (λ o c. RunsAt ws m q j o c) (sym (t.others j ne apart)) (sym (other_is j ne apart)) (r.inner j jc)

    -- to another operator below the root
    fed_runs : to < below_root q.nodes → RunsAt ws m q to (operator_at os2 to) (cells2 to)
    unfolding to feeds
    fed_runs tc =
        let a : RunsAt ws m q to (operator_at os to) (r.cells to) = r.inner to tc in
        let in_fed : is_fed (inbox_of (operator_at os to) feeds) ≡ true = fed_side q (log_at m q to) k (node_at q to) (operator_at os to) feeds wire.takes a.inboxes in
        subst (RunsAt ws m q to (operator_at os2 to)) (sym fed_is)
        (record {
          runs = runs_fed (world_of m q) (width_at ws to) k (node_at q to) feeds outs (operator_at os to) (operator_at os2 to) (log_at m q to) (r.cells to) wire.takes t.fed in_fed a.runs;
          wide = wide_fed ws k outs made.outs_wide to (node_at q to) feeds (operator_at os to) (operator_at os2 to) (r.cells to) wire.takes t.fed a.wide;
          few = few_fed (world_of m q) q.nodes k outs (input_of (value_of m q) r.cells) made.outs_few (node_at q to) feeds (r.cells to) wire.takes (r.good.good to tc) a.few;
          inboxes = inboxes_fed q (log_at m q to) k (node_at q to) (operator_at os to) (operator_at os2 to) feeds outs wire.takes t.fed a.inboxes;
        })

    fed_net : to < below_root q.nodes → Feeds k outs (net_of q.nodes to) (r.cells to) (cells2 to)
    unfolding to feeds
    fed_net tc = subst (Feeds k outs (net_of q.nodes to) (r.cells to)) (sym fed_is) (feeds_on (world_of m q) k (node_at q to) feeds outs (r.cells to) _ _ wire.takes (r.good.good to tc))

    -- the operator below the root has put out what it had
    top_shown : to < below_root q.nodes → cell_shown (cells2 (below_root q.nodes - 1)) ≡ cell_shown (r.cells (below_root q.nodes - 1))
    unfolding to
    top_shown tc = ⊎_elim
        (λ e. subst (λ z. cell_shown (cells2 z) ≡ cell_shown (r.cells z)) (sym e) (ap cell_shown fed_is ∙ (fed_shown feeds outs (r.cells to)).0))
        (λ ne. ap cell_shown (other_is (below_root q.nodes - 1) (λ e. omega (arith, e, wire.later, tc)) ne))
        (same_number (below_root q.nodes - 1) to)

    inner_runs : to < below_root q.nodes → IsRunning vs ws m q os2 given
    unfolding to
    inner_runs tc =
        let turns : TurnsKeep m q = turns_keep vs m q r.stands.plan r.stands.wide in
        let good2 : IsGood m q cells2 r.held r.queue given = turns.inner r.cells cells2 r.held r.queue given k outs kc (subst (λ z. z < below_root q.nodes) wire.consumer tc) turned
        (subst (λ z. Feeds k outs (net_of q.nodes z) (r.cells z) (cells2 z)) wire.consumer (fed_net tc)) (λ j jc ne apart. other_is j ne (λ e. apart (e ∙ wire.consumer))) r.good in
        record {
          stands = r.stands;
          many = t.many ∙ r.many;
          cells = cells2;
          held = r.held;
          queue = r.queue;
          good = good2;
          inner = λ j jc. ⊎_elim
              (λ e. subst (λ z. RunsAt ws m q z (operator_at os2 z) (cells2 z)) (sym e) self_runs)
              (λ ne. ⊎_elim (λ e. subst (λ z. RunsAt ws m q z (operator_at os2 z) (cells2 z)) (sym e) (fed_runs tc)) (λ apart. other_runs j jc ne apart) (same_number j to))
              (same_number j k);
          last = subst (λ o. RunsAtRoot ws m q o r.held r.queue good2.root.whole) (sym (t.others (below_root q.nodes) (λ e. omega (arith, e, kc)) (λ e. omega (arith, e, tc))))
              (root_same ws m q _ r.held r.queue _ _ (same_count _ _ _ _ _ _ _ _ _ _ r.queue r.good.root.edge good2.root.edge (top_shown tc)) r.last);
        }

    last_runs : to ≡ below_root q.nodes → IsRunning vs ws m q os2 given
    unfolding to feeds
    last_runs e =
        let laid : Laid (net_of q.nodes) (below_root q.nodes) (consumer_of q.nodes) = query_laid vs m q r.stands.plan r.stands.wide in
        let planned : Planned (world_of m q) (net_of q.nodes) (below_root q.nodes) (value_of m q) (least_of m q) = query_planned vs m q r.stands.plan r.stands.wide in
        let sh : Shaped (world_of m q).closed q.meaning q.nodes = shaped vs m q r.stands.plan r.stands.wide in
        let top : k ≡ below_root q.nodes - 1 = omega (arith, laid.final k kc (sym wire.consumer ∙ e)) in
        let kept : LastKept (world_of m q) (net_of q.nodes) (value_of m q) cells2 (below_root q.nodes) (value_of m q k) (r.cells k) outs (cells2 k) =
        last_kept (world_of m q) (net_of q.nodes) (value_of m q) r.cells cells2 k outs (below_root q.nodes) planned.rises r.good.good kc (planned.lawful k kc) (planned.value k r.cells kc) turned
        (λ j jc ne. other_is j ne (λ z. omega (arith, z, e, jc))) (λ j jc. laid.apart k j kc jc (λ z. omega (arith, z, e, jc, wire.consumer))) in
        let path : Leads (value_of m q (below_root q.nodes - 1)) (cell_shown (r.cells (below_root q.nodes - 1))) (cell_next (r.cells (below_root q.nodes - 1))) outs (cell_shown (cells2 (below_root q.nodes - 1))) (cell_next (cells2 (below_root q.nodes - 1))) =
        subst (λ z. Leads (value_of m q z) (cell_shown (r.cells z)) (cell_next (r.cells z)) outs (cell_shown (cells2 z)) (cell_next (cells2 z))) top kept.path in
        let few : StaysWithin (most_rows q.nodes (below_root q.nodes - 1)) (count (cell_shown (r.cells (below_root q.nodes - 1)))) outs =
        subst (λ z. StaysWithin (most_rows q.nodes z) (count (cell_shown (r.cells z))) outs) top made.outs_few in
        let wide : AreEntries (width_at ws (below_root q.nodes - 1)) outs = subst (λ z. AreEntries (width_at ws z) outs) top made.outs_wide in
        let root2 : (h : GoodRoot q.first q.start q.earlier (value_of m q (below_root q.nodes - 1)) r.held (r.queue ++ outs) (cell_shown (cells2 (below_root q.nodes - 1))) (cell_next (cells2 (below_root q.nodes - 1))) given) × (h.whole ≡ r.good.root.whole) =
        root_gains q.first q.start q.earlier (value_of m q (below_root q.nodes - 1)) r.held r.queue outs _ _ _ _ given path r.good.root in
        let fed : IsFed (operator_at os (below_root q.nodes)) feeds outs (operator_at os2 (below_root q.nodes)) = subst (λ z. IsFed (operator_at os z) feeds outs (operator_at os2 z)) e t.fed in
        let takes : TakesAt k (node_at q (below_root q.nodes)) feeds = subst (λ z. TakesAt k (node_at q z) feeds) e wire.takes in
        record {
          stands = r.stands;
          many = t.many ∙ r.many;
          cells = cells2;
          held = r.held;
          queue = r.queue ++ outs;
          good = record { good = kept.good; root = root2.0 };
          inner = λ j jc. ⊎_elim
              (λ z. subst (λ x. RunsAt ws m q x (operator_at os2 x) (cells2 x)) (sym z) self_runs)
              (λ ne. other_runs j jc ne (λ z. omega (arith, z, e, jc)))
              (same_number j k);
          last = subst (λ w. RunsAtRoot ws m q (operator_at os2 (below_root q.nodes)) r.held (r.queue ++ outs) w) (sym root2.1)
              (root_fed ws m q k _ q.meaning.operator feeds outs _ _ r.held r.queue _ sh.root takes fed wide (few_append _ _ _ _ _ _ r.queue outs r.good.root.edge r.last.few few) r.last);
        }

    pub turn_runs : IsRunning vs ws m q os2 given
    unfolding to
    turn_runs = at_most to (below_root q.nodes) wire.within inner_runs last_runs
