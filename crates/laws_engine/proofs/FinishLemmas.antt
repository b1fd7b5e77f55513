-- A finished turn leaves an engine good.
use Rattle.std.proofs.Common.{◌≡◌, false, ◌≢◌, ℕ, ◌<◌, ◌++◌, ◌==◌, nat_lt, true, cond, inl, inr, ◌⊎◌, ⊎_elim, Option, Some, None, List, length, set, refl, sym, ap, ◌∙◌, subst, arith, eqb-true, eq-eqb}
use Rattle.std.proofs.lemmas.List.{append_assoc, set-get_or}
use Rattle.std.proofs.lemmas.Option.{get_or_from_slice_get, slice_get_within}
use Rattle.values.specs.Row.{Row}
use Rattle.column.specs.declared.batch.Side.{Side}
use Rattle.column.specs.declared.batch.Side.TheVariants.{Left, Right}
use Rattle.op_queue.specs.Entries.{Entry}
use Rattle.op_queue.specs.Items.{entries_of}
use Rattle.op_queue.specs.Logs.{Closed}
use Rattle.op_queue.specs.declared.item.Item.{Item}
use Rattle.turn.specs.Turns.{Answered}
use Rattle.operators.specs.Inboxes.{is_fed, queued}
use Rattle.operators.specs.Operators.{IsFed}
use Rattle.operators.specs.Ready.{PlainOperator, entries_in, inbox_of, usable, waiting}
use Rattle.operators.specs.declared.inboxes.Inbox.{Inbox}
use Rattle.operators.specs.declared.inboxes.Inbox.TheVariants.{First, Between}
use Rattle.physical_plans.specs.Wiring.{wire_from}
use Rattle.plan.proofs.Lists.{by_test}
use Rattle.reference.specs.Machine.{Registered}
use Rattle.laws_dataflow.specs.Roots.{below_root}
use Rattle.laws_queries.specs.Laws.{RootsRun, TurnsRun}
use Rattle.laws_queries.specs.Machines.{IsQuery, widths_of}
use Rattle.laws_queries.specs.Queries.{IsRunning, MayFeed}
use Rattle.laws_queries.specs.Plain.{PlainQuery, log_at, operator_at}
use Rattle.laws_queries.specs.Rooms.{IsBounded}
use Rattle.laws_queries.specs.Steps.{IsFirst, outs_at_first}
use Rattle.laws_queries.proofs.MachineCounts.{keeps_limit, queries_stand}
use Rattle.laws_queries.proofs.NodeLemmas.{roots_run, turns_run}
use Rattle.laws_queries.proofs.WireLemmas.{Wired, wired}
use Rattle.run_queue.specs.declared.slots.Slot.{Slot}
use Rattle.laws_engine.specs.Engines.{Dropped, Lease, PlainEngine, Running, next_at, query_at}
use Rattle.laws_engine.specs.Engines.{remains_at, slot_at}
use Rattle.laws_engine.specs.Good.{AreRemains, Goes, GoodEngine, HasSlots, IsIn, IsLease, slot_in, slot_of}
use Rattle.laws_engine.specs.Calls.{IsAnsweredTurn, IsFinishedTurn, IsOf, abandoned, answered, finished, given_back, others, slot_updated}
use Rattle.laws_engine.proofs.BackLemmas.{FirstStays, back_good, numbered, remains_here, remains_there, same_leased, same_plain, same_query, stays_same}
use Rattle.laws_engine.proofs.PromiseLemmas.{slot_is}
use Rattle.laws_engine.proofs.SlotLemmas.{changed_slots, numbers}
use Rattle.laws_engine.proofs.TableLemmas.{running_slot, same_slot_at, same_slot_in, updated, updated_here, updated_numbered, updated_there}

-- THE ITEM of a turn stands first on its side
pub lease_first : (e : PlainEngine) (l : Lease) (q : Registered) (p : PlainQuery) → IsLease e l → IsOf e l q p → IsFirst (operator_at p.operators l.operator) (log_at e.machine q l.operator) l.side l.item
lease_first e l q p is of =
    subst (λ z. IsFirst (operator_at z.operators l.operator) (log_at e.machine q l.operator) l.side l.item) (same_plain (sym is.running ∙ of.running))
    (subst (λ z. IsFirst (operator_at is.plain.operators l.operator) (log_at e.machine z l.operator) l.side l.item) (same_query (sym is.registered ∙ of.registered)) is.first)

-- WHAT IS FED stands behind what waits
queued_is : (i : Inbox) (log : Closed) → is_fed i ≡ true → entries_in i log ≡ queued i
queued_is (First c) log h = absurd (cc)
queued_is (Between w) log h = refl

more : (o o2 : PlainOperator) (side : Side) (outs : List (Entry Row)) (log : Closed) → IsFed o side outs o2 → is_fed (inbox_of o side) ≡ true → waiting o2 log side ≡ waiting o log side ++ outs
more o o2 side outs log f h = queued_is (inbox_of o2 side) log (f.fed ∙ h) ∙ f.queued ∙ ap (λ z. z ++ outs) (sym (queued_is (inbox_of o side) log h))

first_more : (o o2 : PlainOperator) (log : Closed) (side : Side) (i : Item) (outs : List (Entry Row)) → o2.state ≡ o.state → waiting o2 log side ≡ waiting o log side ++ outs → IsFirst o log side i → IsFirst o2 log side i
first_more o o2 log side i outs s w f = record {
  rest = f.rest ++ outs;
  some = f.some;
  few = f.few;
  is = w ∙ ap (λ z. z ++ outs) f.is ∙ append_assoc (entries_of i) f.rest outs;
  usable = ap (λ z. usable z side) s ∙ f.usable;
}

first_same : (o o2 : PlainOperator) (log : Closed) (side : Side) (i : Item) → o2.state ≡ o.state → inbox_of o2 side ≡ inbox_of o side → IsFirst o log side i → IsFirst o2 log side i
first_same o o2 log side i s w f = record { rest = f.rest; some = f.some; few = f.few; is = ap (λ z. entries_in z log) w ∙ f.is; usable = ap (λ z. usable z side) s ∙ f.usable }

fed_stays : (o o2 : PlainOperator) (side : Side) (outs : List (Entry Row)) (log : Closed) → IsFed o side outs o2 → is_fed (inbox_of o side) ≡ true → FirstStays o o2 log
fed_stays o o2 side outs log f h = record { state = f.state; first = λ s i. by_sides side s f h i } where
  by_sides : (a s : Side) → IsFed o a outs o2 → is_fed (inbox_of o a) ≡ true → (i : Item) → IsFirst o log s i → IsFirst o2 log s i
  by_sides Left Left f h i = first_more o o2 log Left i outs f.state (more o o2 Left outs log f h)
  by_sides Left Right f h i = first_same o o2 log Right i f.state f.other
  by_sides Right Left f h i = first_same o o2 log Left i f.state f.other
  by_sides Right Right f h i = first_more o o2 log Right i outs f.state (more o o2 Right outs log f h)

-- A QUERY of a good engine that was not dropped is bounded
pub query_bounded : (e : PlainEngine) → GoodEngine e → (n : ℕ) (q : Registered) → query_at e n ≡ Some q → q.is_dropped ≡ false → IsBounded (widths_of e.machine.streams q) e.machine q
query_bounded e g n q r live =
    let st = queries_stand e.machine g.machine in
    st.bounded q (subst (IsQuery e.machine.streams) (get_or_from_slice_get e.machine.queries n q q r) (st.each n q (slice_get_within e.machine.queries n q r))) (keeps_limit e.machine g.machine n q r live)

-- THE SLOTS after operators of one query have changed
module _ (e : PlainEngine) (l : Lease) (q : Registered) (p p2 : PlainQuery) (g : GoodEngine e) (out : IsIn e.leases l) (of : IsOf e l q p) where
  e2 : PlainEngine
  e2 = given_back e l p2

  here : remains_at e2 l.query ≡ Running p2
  unfolding e2
  here = remains_here e l.query (Running p2) (omega (arith, g.many, slice_get_within e.machine.queries l.query q of.registered))

  -- of another query
  other_query : (n k : ℕ) → n ≢ l.query → slot_of e2 n k ≡ slot_of e n k
  unfolding e2
  other_query n k ne =
      ap (slot_in (given_back e l p2) n k (query_at e n)) (remains_there e l.query n (Running p2) ne)
      ∙ same_slot_in e (set e.queries l.query (Running p2)) (others l.number e.leases) e.next e.slots n k (same_leased e.leases l n k g.apart out (inl ne)) (query_at e n) (remains_at e n)

  -- of another operator that is as it was
  other_slot : (k : ℕ) → k ≢ l.operator → operator_at p2.operators k ≡ operator_at p.operators k → slot_of e2 l.query k ≡ slot_of e l.query k
  unfolding e2
  other_slot k ne o =
      running_slot (given_back e l p2) l.query k q p2 of.registered here
      ∙ ap (λ s. cond (nat_lt k (length q.nodes)) (Some s) None)
      (same_slot_at e (set e.queries l.query (Running p2)) (others l.number e.leases) e.next e.slots l.query k (same_leased e.leases l l.query k g.apart out (inr ne)) q p p2 o)
      ∙ sym (running_slot e l.query k q p of.registered of.running)

  slot_here : (k : ℕ) → k < length q.nodes → slot_of e2 l.query k ≡ Some (slot_at e2 l.query q p2 k)
  unfolding e2
  slot_here k within = slot_is (given_back e l p2) l.query k q p2 of.registered here within

  same_by : (n k : ℕ) → (n ≢ l.query) ⊎ (k ≢ l.operator) → (n ≡ l.query → operator_at p2.operators k ≡ operator_at p.operators k) → slot_of e2 n k ≡ slot_of e n k
  same_by n k ne o = by_test (n == l.query)
      (λ t. let same : n ≡ l.query = eqb-true n l.query t in
      let far : k ≢ l.operator = ⊎_elim (λ d. absurd (d same)) (λ d. d) ne in
      subst (λ z. slot_of e2 z k ≡ slot_of e z k) (sym same) (other_slot k far (o same)))
      (λ f. other_query n k (λ z. absurd (let h : (n == l.query) ≡ true = eq-eqb n l.query z in cc)))

  -- one of them
  pub one_slot : ((k : ℕ) → k ≢ l.operator → operator_at p2.operators k ≡ operator_at p.operators k) → HasSlots (slot_of (given_back e l p2)) (slot_updated e (given_back e l p2) l.query q p p2 l.operator e.slots)
  unfolding e2
  one_slot o = changed_slots (slot_of e) (slot_of (given_back e l p2)) e.slots (slot_at e l.query q p l.operator) (next_at (given_back e l p2) l.query q p2 l.operator) g.slots (numbered e)
      (slot_is e l.query l.operator q p of.registered of.running of.within) (slot_here l.operator of.within)
      (λ n k ne. same_by n k ne (λ same. o k (⊎_elim (λ d. absurd (d same)) (λ d. d) ne)))

  -- and the one that it feeds
  pub two_slots : (to : ℕ) → to < length q.nodes → to ≢ l.operator → ((k : ℕ) → k ≢ l.operator → k ≢ to → operator_at p2.operators k ≡ operator_at p.operators k)
      → HasSlots (slot_of (given_back e l p2)) (slot_updated e (given_back e l p2) l.query q p p2 to (slot_updated e (given_back e l p2) l.query q p p2 l.operator e.slots))
  unfolding e2
  two_slots to within apart o =
      let new : Slot = slot_at (given_back e l p2) l.query q p2 l.operator in
      let table : ℕ → ℕ → Option Slot = updated (slot_of e) l.query l.operator new in
      let one : HasSlots table (slot_updated e (given_back e l p2) l.query q p p2 l.operator e.slots) =
      changed_slots (slot_of e) table e.slots (slot_at e l.query q p l.operator) (next_at (given_back e l p2) l.query q p2 l.operator) g.slots (numbered e)
      (slot_is e l.query l.operator q p of.registered of.running of.within) (updated_here (slot_of e) l.query l.operator new) (λ n k ne. updated_there (slot_of e) l.query l.operator new n k ne) in
      changed_slots table (slot_of (given_back e l p2)) (slot_updated e (given_back e l p2) l.query q p p2 l.operator e.slots) (slot_at e l.query q p to) (next_at (given_back e l p2) l.query q p2 to) one
      (updated_numbered (slot_of e) l.query l.operator new refl refl (numbered e))
      (updated_there (slot_of e) l.query l.operator new l.query to (inr apart) ∙ slot_is e l.query to q p of.registered of.running within) (slot_here to within)
      (λ n k ne. ⊎_elim
      (λ at. ap (λ z. slot_of (given_back e l p2) z k) at.0 ∙ ap (slot_of (given_back e l p2) l.query) at.1 ∙ slot_here l.operator of.within
      ∙ sym (ap (λ z. table z k) at.0 ∙ ap (table l.query) at.1 ∙ updated_here (slot_of e) l.query l.operator new))
      (λ far. same_by n k far (λ same. o k (⊎_elim (λ d. absurd (d same)) (λ d. d) far) (⊎_elim (λ d. absurd (d same)) (λ d. d) ne)) ∙ sym (updated_there (slot_of e) l.query l.operator new n k far))
      (numbers n k l.query l.operator))

-- A FINISHED TURN below the root
pub finish_good : (e : PlainEngine) (l : Lease) (q : Registered) (p p2 : PlainQuery) → GoodEngine e → IsIn e.leases l → IsFinishedTurn e l q p p2 → GoodEngine (finished e l q p p2)
finish_good e l q p p2 g out t =
    let goes : Goes e.machine q p = subst (AreRemains e.machine q) t.of.running (g.queries l.query q t.of.registered) in
    let first = lease_first e l q p (g.leases l out) t.of in
    let turns : TurnsRun (widths_of e.machine.streams q) goes.widths e.machine q = turns_run (widths_of e.machine.streams q) goes.widths e.machine q (query_bounded e g l.query q t.of.registered goes.lives) in
    let fed : MayFeed (operator_at p.operators (wire_from 0 q.nodes l.operator).to) (wire_from 0 q.nodes l.operator).side t.outs =
    turns.may_feed p.operators (goes.taken ++ p.answers) l.operator l.side l.item t.outs (operator_at p2.operators l.operator) goes.runs.runs t.below first t.puts t.turned.finished in
    let w : Wired q l.operator = wired (widths_of e.machine.streams q) e.machine q goes.runs.runs.stands l.operator t.below in
    let many : below_root q.nodes < length q.nodes = omega (arith, t.below) in
    let goes2 : Goes e.machine q p2 = record {
      lives = goes.lives;
      widths = goes.widths;
      sources = goes.sources;
      taken = goes.taken;
      counted = goes.counted;
      runs = record {
        wires = t.wires ∙ goes.runs.wires;
        sources = t.sources ∙ goes.runs.sources;
        runs = subst (λ z. IsRunning (widths_of e.machine.streams q) goes.widths e.machine q p2.operators (goes.taken ++ z)) (sym t.answers)
            (turns.runs p.operators p2.operators (goes.taken ++ p.answers) l.operator l.side l.item t.outs goes.runs.runs t.below first t.puts t.turned);
      };
    } in
    back_good e l q p p2 g out t.of goes2
    (λ j ne. by_test (j == (wire_from 0 q.nodes l.operator).to)
    (λ b. let same : j ≡ (wire_from 0 q.nodes l.operator).to = eqb-true j _ b in
    subst (λ z. FirstStays (operator_at p.operators z) (operator_at p2.operators z) (log_at e.machine q j)) (sym same)
    (fed_stays (operator_at p.operators (wire_from 0 q.nodes l.operator).to) (operator_at p2.operators (wire_from 0 q.nodes l.operator).to) (wire_from 0 q.nodes l.operator).side t.outs (log_at e.machine q j) t.turned.fed fed.fed))
    (λ f. stays_same (operator_at p.operators j) (operator_at p2.operators j) (log_at e.machine q j) (t.turned.others j ne (λ z. absurd (let h : (j == (wire_from 0 q.nodes l.operator).to) ≡ true = eq-eqb j _ z in cc)))))
    _
    (two_slots e l q p p2 g out t.of (wire_from 0 q.nodes l.operator).to (omega (arith, w.within, many)) (λ z. absurd (omega (arith, w.later, z))) (λ k ne far. t.turned.others k ne far))

-- A FINISHED TURN of the root
pub answer_good : (e : PlainEngine) (l : Lease) (q : Registered) (p p2 : PlainQuery) → GoodEngine e → IsIn e.leases l → IsAnsweredTurn e l q p p2 → GoodEngine (answered e l q p p2)
answer_good e l q p p2 g out t =
    let goes : Goes e.machine q p = subst (AreRemains e.machine q) t.of.running (g.queries l.query q t.of.registered) in
    let first0 = lease_first e l q p (g.leases l out) t.of in
    let root : ℕ = below_root q.nodes in
    let first : IsFirst (operator_at p.operators root) (log_at e.machine q root) l.side l.item = subst (λ k. IsFirst (operator_at p.operators k) (log_at e.machine q k) l.side l.item) t.root first0 in
    let gives : outs_at_first (operator_at p.operators root) l.side l.item ≡ Answered t.rows = ap (λ k. outs_at_first (operator_at p.operators k) l.side l.item) (sym t.root) ∙ t.gives in
    let roots : RootsRun (widths_of e.machine.streams q) goes.widths e.machine q = roots_run (widths_of e.machine.streams q) goes.widths e.machine q (query_bounded e g l.query q t.of.registered goes.lives) in
    let goes2 : Goes e.machine q p2 = record {
      lives = goes.lives;
      widths = goes.widths;
      sources = goes.sources;
      taken = goes.taken;
      counted = goes.counted;
      runs = record {
        wires = t.wires ∙ goes.runs.wires;
        sources = t.sources ∙ goes.runs.sources;
        runs = subst (λ z. IsRunning (widths_of e.machine.streams q) goes.widths e.machine q p2.operators z) (append_assoc goes.taken p.answers t.rows ∙ ap (λ z. goes.taken ++ z) (sym t.answers))
            (roots.runs p.operators p2.operators (goes.taken ++ p.answers) l.side l.item t.rows goes.runs.runs first gives t.turned);
      };
    } in
    let unchanged : (k : ℕ) → k ≢ l.operator → operator_at p2.operators k ≡ operator_at p.operators k = λ k ne. t.turned.others k (λ z. ne (z ∙ sym t.root)) in
    back_good e l q p p2 g out t.of goes2 (λ j ne. stays_same (operator_at p.operators j) (operator_at p2.operators j) (log_at e.machine q j) (unchanged j ne)) _ (one_slot e l q p p2 g out t.of unchanged)

-- AN ABANDONED TURN
pub abandon_good : (e : PlainEngine) (l : Lease) (q : Registered) (p : PlainQuery) → GoodEngine e → IsIn e.leases l → IsOf e l q p → GoodEngine (abandoned e l q p)
abandon_good e l q p g out of =
    let goes : Goes e.machine q p = subst (AreRemains e.machine q) of.running (g.queries l.query q of.registered) in
    let same : set e.queries l.query (Running p) ≡ e.queries = ap (set e.queries l.query) (sym of.running) ∙ set-get_or e.queries l.query Dropped in
    let good : GoodEngine (answered e l q p p) =
    back_good e l q p p g out of goes (λ j ne. stays_same (operator_at p.operators j) (operator_at p.operators j) (log_at e.machine q j) refl) _ (one_slot e l q p p g out of (λ k ne. refl)) in
    subst (λ z. GoodEngine (record {
      machine = e.machine;
      queries = z;
      leases = others l.number e.leases;
      next = e.next;
      slots = slot_updated e (record { machine = e.machine; queries = z; leases = others l.number e.leases; next = e.next; slots = e.slots }) l.query q p p l.operator e.slots;
    })) same good
