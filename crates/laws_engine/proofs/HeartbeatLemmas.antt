-- A heartbeat leaves an engine good: what waits for the windows over its stream gains what it closes.
use Rattle.std.proofs.Common.{◌≡◌, ◌≢◌, ℕ, ℤ, suc, ◌+◌, ◌-◌, ◌<◌, ◌≤◌, ◌++◌, ◌==◌, Bool, true, false, cond, inl, inr, ◌⊎◌, ⊎_elim, Option, Some, None, List, [], ◌∷◌, get_or, length, nat_lt, refl, sym, ap, ap₂, ◌∙◌, subst, arith, append-nil, eq-eqb}
use Rattle.std.specs.Prelude.{slice_get}
use Rattle.std.specs.Option.{option_map, option_map_or}
use Rattle.std.proofs.lemmas.Bool.{cases_lt}
use Rattle.values.specs.Row.{Row}
use Rattle.column.specs.declared.batch.Side.{Side}
use Rattle.column.specs.declared.batch.Side.TheVariants.{Left, Right}
use Rattle.op_queue.specs.Entries.{Entry, front_of}
use Rattle.op_queue.specs.Logs.{Closed}
use Rattle.operators.specs.Inboxes.{is_fed}
use Rattle.operators.specs.Ready.{PlainOperator, entries_in, first_ready, front_instant, ready, usable, waiting}
use Rattle.operators.specs.declared.inboxes.Inbox.{Inbox}
use Rattle.operators.proofs.InboxLemmas.{entries_fed}
use Rattle.plan.specs.Nodes as plan
use Rattle.plan.specs.Nodes.{Window, Select, Join, Project, Group, Distinct, ToStream}
use Rattle.reference.specs.Commands.{Heartbeat, change, closed_to, first_fault}
use Rattle.reference.specs.Machine.{Machine, Registered}
use Rattle.stream_store.specs.Closing.{closed_of}
use Rattle.stream_store.specs.Gains.{QueuesGain}
use Rattle.stream_store.specs.Stored.{IsByArrival}
use Rattle.laws_dataflow.specs.Roots.{below_root}
use Rattle.laws_queries.specs.Machines.{widths_of}
use Rattle.laws_queries.specs.Queries.{HasInboxes, IsRunning, elements_at}
use Rattle.laws_queries.specs.Plain.{PlainQuery, log_at, no_log, node_at, operator_at, place_of, source_of, stream_log}
use Rattle.laws_queries.proofs.AppendLemmas.{accepted_later}
use Rattle.laws_queries.proofs.BeatLemmas.{change_there, place_beat}
use Rattle.laws_queries.proofs.LeaseLemmas.{leases_stand_first}
use Rattle.laws_queries.proofs.MachineCounts.{machines_stand}
use Rattle.laws_queries.proofs.RowLemmas.{rows_stand}
use Rattle.run_queue.specs.Slots.{slot}
use Rattle.run_queue.specs.declared.slots.Slot.{Slot}
use Rattle.laws_engine.specs.Engines.{Broken, Dropped, Lease, PlainEngine, PlainRemains, Running}
use Rattle.laws_engine.specs.Engines.{is_leased, next_at, query_at, remains_at, slope_at, slot_at}
use Rattle.laws_engine.specs.Good.{AreRemains, Goes, GoodEngine, HasSlots, IsLease, slot_in, slot_of}
use Rattle.laws_engine.specs.Calls.{IsHeartbeat, closed_over, heartbeat_taken, is_reading, queries_updated, query_updated, slot_updated, windows_updated}
use Rattle.laws_engine.proofs.BackLemmas.{numbered}
use Rattle.laws_engine.proofs.PromiseLemmas.{slot_is}
use Rattle.laws_engine.proofs.SlotLemmas.{AreNumbered, changed_slots, numbers}
use Rattle.laws_engine.proofs.StreamLemmas.{heartbeat_remains}
use Rattle.laws_engine.proofs.TableLemmas.{updated, updated_here, updated_numbered, updated_there}
use Rattle.laws_engine.proofs.TakeLemmas.{equal_slots}

-- THE SLOTS of two engines, updated from the first operator of the first query on to the operator k of the query n
abbrev Before : ℕ → ℕ → ℕ → ℕ → Type 0
Before n k i j = (i < n) ⊎ ((i ≡ n) × (j < k))

abbrev Behind : ℕ → ℕ → ℕ → ℕ → Type 0
Behind n k i j = (n < i) ⊎ ((i ≡ n) × (k ≤ j))

record Partly (e e2 : PlainEngine) (n k : ℕ) (slots : List Slot) : Type 0 where
  table : ℕ → ℕ → Option Slot
  named : AreNumbered table
  has : HasSlots table slots
  before : (i j : ℕ) → Before n k i j → table i j ≡ slot_of e2 i j
  behind : (i j : ℕ) → Behind n k i j → table i j ≡ slot_of e i j

none_before : (i j : ℕ) → Before 0 0 i j → ⊥
none_before i j (inl l) = omega (arith, l)
none_before i j (inr h) = let l : j < 0 = h.1 in omega (arith, l)

at_start : (e e2 : PlainEngine) → HasSlots (slot_of e) e.slots → Partly e e2 0 0 e.slots
at_start e e2 h = record { table = slot_of e; named = numbered e; has = h; before = λ i j b. absurd (none_before i j b); behind = λ i j b. refl }

-- an operator whose slot is as it was
before_next : (n k i j : ℕ) → Before n (suc k) i j → Before n k i j ⊎ ((i ≡ n) × (j ≡ k))
before_next n k i j (inl l) = inl (inl l)
before_next n k i j (inr h) = let l : j < suc k = h.1 in ⊎_elim (λ b. inl (inr (h.0, b))) (λ b. inr (h.0, omega (arith, l, b))) (cases_lt j k)

behind_next : (n k i j : ℕ) → Behind n (suc k) i j → Behind n k i j × ((i ≢ n) ⊎ (j ≢ k))
behind_next n k i j (inl l) = (inl l, inl (λ e. omega (arith, l, e)))
behind_next n k i j (inr h) = let l : suc k ≤ j = h.1 in (inr (h.0, omega (arith, l)), inr (λ e. omega (arith, l, e)))

told_same : (e e2 : PlainEngine) (n k : ℕ) (slots : List Slot) → Partly e e2 n k slots → slot_of e2 n k ≡ slot_of e n k → Partly e e2 n (suc k) slots
told_same e e2 n k slots p same = record {
  table = p.table;
  named = p.named;
  has = p.has;
  before = λ i j b. ⊎_elim (λ c. p.before i j c)
      (λ at. ap (λ z. p.table z j) at.0 ∙ ap (p.table n) at.1 ∙ p.behind n k (inr (refl, omega arith)) ∙ sym same ∙ sym (ap (λ z. slot_of e2 z j) at.0 ∙ ap (slot_of e2 n) at.1)) (before_next n k i j b);
  behind = λ i j b. p.behind i j (behind_next n k i j b).0;
}

-- an operator whose slot is updated
one_updated : (e e2 : PlainEngine) (n k : ℕ) (q : Registered) (p : PlainQuery) (slots : List Slot) → Partly e e2 n k slots → query_at e n ≡ Some q → remains_at e n ≡ Running p → query_at e2 n ≡ Some q → remains_at e2 n ≡ Running p
    → k < length q.nodes → Partly e e2 n (suc k) (slot_updated e e2 n q p p k slots)
one_updated e e2 n k q p slots part r remains r2 remains2 within =
    let new : Slot = slot_at e2 n q p k in
    let told : ℕ → ℕ → Option Slot = updated part.table n k new in
    record {
      table = told;
      named = updated_numbered part.table n k new refl refl part.named;
      has = changed_slots part.table told slots (slot_at e n q p k) (next_at e2 n q p k) part.has part.named
          (part.behind n k (inr (refl, omega arith)) ∙ slot_is e n k q p r remains within) (updated_here part.table n k new) (λ i j ne. updated_there part.table n k new i j ne);
      before = λ i j b. ⊎_elim
          (λ at. ap (λ z. told z j) at.0 ∙ ap (told n) at.1 ∙ updated_here part.table n k new ∙ sym (slot_is e2 n k q p r2 remains2 within) ∙ sym (ap (λ z. slot_of e2 z j) at.0 ∙ ap (slot_of e2 n) at.1))
          (λ ne. updated_there part.table n k new i j ne ∙ part.before i j (⊎_elim (λ c. c) (λ at. absurd (⊎_elim (λ d. d at.0) (λ d. d at.1) ne)) (before_next n k i j b)))
          (numbers i j n k);
      behind = λ i j b. let c = behind_next n k i j b in updated_there part.table n k new i j c.1 ∙ part.behind i j c.0;
    }

-- the other operators of a query
before_query : (n k i j : ℕ) → Before (suc n) 0 i j → Before n k i j ⊎ ((i ≡ n) × (k ≤ j))
before_query n k i j (inl l) = ⊎_elim (λ b. inl (inl b)) (λ b. let at : i ≡ n = omega (arith, l, b) in ⊎_elim (λ c. inl (inr (at, c))) (λ c. inr (at, c)) (cases_lt j k)) (cases_lt i n)
before_query n k i j (inr h) = let l : j < 0 = h.1 in absurd (omega (arith, l))

behind_query : (n k i j : ℕ) → Behind (suc n) 0 i j → Behind n k i j
behind_query n k i j (inl l) = inl (omega (arith, l))
behind_query n k i j (inr h) = let is : i ≡ suc n = h.0 in inl (omega (arith, is))

told_query : (e e2 : PlainEngine) (n k : ℕ) (slots : List Slot) → Partly e e2 n k slots → ((j : ℕ) → k ≤ j → slot_of e2 n j ≡ slot_of e n j) → Partly e e2 (suc n) 0 slots
told_query e e2 n k slots p same = record {
  table = p.table;
  named = p.named;
  has = p.has;
  before = λ i j b. ⊎_elim (λ c. p.before i j c)
      (λ at. p.behind i j (inr at) ∙ subst (λ z. slot_of e z j ≡ slot_of e2 z j) (sym at.0) (sym (same j at.1))) (before_query n k i j b);
  behind = λ i j b. p.behind i j (behind_query n k i j b);
}

at_end : (e e2 : PlainEngine) (n : ℕ) (slots : List Slot) → Partly e e2 n 0 slots → ((i j : ℕ) → n ≤ i → slot_of e2 i j ≡ slot_of e i j) → HasSlots (slot_of e2) slots
at_end e e2 n slots p same = equal_slots p.table (slot_of e2) slots
    (λ i j. ⊎_elim (λ l. sym (p.before i j (inl l)))
    (λ l. same i j l ∙ sym (p.behind i j (⊎_elim (λ b. inl b) (λ b. inr (omega (arith, l, b), omega arith)) (cases_lt n i)))) (cases_lt i n)) p.has

-- WHAT WAITS for an operator of a running query
inboxes_of : (vs ws : List ℕ) (m : Machine) (q : Registered) (os : List PlainOperator) (given : List (ℕ × Row)) (k : ℕ) → IsRunning vs ws m q os given → k < length q.nodes → HasInboxes q (log_at m q k) (node_at q k) (operator_at os k)
inboxes_of vs ws m q os given k r within = ⊎_elim
    (λ l. (r.inner k l).inboxes)
    (λ l. let root : k ≡ below_root q.nodes = omega (arith, l, within) in subst (λ z. HasInboxes q (log_at m q z) (node_at q z) (operator_at os z)) (sym root) r.last.inboxes)
    (cases_lt k (below_root q.nodes))

fed_more : (i : Inbox) (log log2 : Closed) → is_fed i ≡ true → entries_in i log2 ≡ entries_in i log ++ []
fed_more i log log2 h = entries_fed i log2 h ∙ sym (entries_fed i log h) ∙ sym (append-nil (entries_in i log))

fed_same : (i : Inbox) (log log2 : Closed) → is_fed i ≡ true → entries_in i log2 ≡ entries_in i log
fed_same i log log2 h = entries_fed i log2 h ∙ sym (entries_fed i log h)

ready_by : (o : PlainOperator) (log log2 : Closed) → entries_in o.left log2 ≡ entries_in o.left log → entries_in o.right log2 ≡ entries_in o.right log → ready o log2 ≡ ready o log
ready_by o log log2 l r = ap₂ first_ready (ap (λ es. cond (usable o.state Left) (option_map front_instant (front_of es)) None) l) (ap (λ es. cond (usable o.state Right) (option_map front_instant (front_of es)) None) r)

-- A HEARTBEAT
module _ (m : Machine) (s : ℕ) (at : ℤ) (accepted : first_fault m (Heartbeat s at) ≡ None) (queues : QueuesGain (slice_get m.streams s) at) (arrival : (n : ℕ) → IsByArrival (elements_at m.streams n)) (q : Registered) where
  pub left_more : (node : plan.Node) (o : PlainOperator) → HasInboxes q (stream_log m.streams (source_of q node)) node o
      → (more : List (Entry Row)) × (entries_in o.left (stream_log (change s (closed_to at) m.streams) (source_of q node)) ≡ entries_in o.left (stream_log m.streams (source_of q node)) ++ more)
  left_more (Window j) o h =
      let b = place_beat m.streams s at queues (accepted_later m s at accepted) arrival q.first (place_of q j) in
      (b.more, (b.gains o.left h.left.1 h.left.2).0)
  left_more (Select j cs) o h = ([], fed_more o.left _ _ h.left)
  left_more (Join i j ks) o h = ([], fed_more o.left _ _ h.left)
  left_more (Project j columns) o h = ([], fed_more o.left _ _ h.left)
  left_more (Group j by items) o h = ([], fed_more o.left _ _ h.left)
  left_more (Distinct j) o h = ([], fed_more o.left _ _ h.left)
  left_more (ToStream j op) o h = ([], fed_more o.left _ _ h.left)

  side_more : (node : plan.Node) (o : PlainOperator) (side : Side) → HasInboxes q (stream_log m.streams (source_of q node)) node o
      → (more : List (Entry Row)) × (waiting o (stream_log (change s (closed_to at) m.streams) (source_of q node)) side ≡ waiting o (stream_log m.streams (source_of q node)) side ++ more)
  side_more node o Left h = left_more node o h
  side_more node o Right h = ([], fed_more o.right _ _ h.right)

  other_log : (i : ℕ) → i ≢ s → stream_log (change s (closed_to at) m.streams) i ≡ stream_log m.streams i
  other_log i ne = ap (λ o. option_map_or closed_of o no_log) (change_there (closed_to at) s i m.streams ne)

  -- an operator that does not read the stream is as ready as it was
  quiet : (node : plan.Node) (o : PlainOperator) → HasInboxes q (stream_log m.streams (source_of q node)) node o → is_reading q s node ≡ false
      → ready o (stream_log (change s (closed_to at) m.streams) (source_of q node)) ≡ ready o (stream_log m.streams (source_of q node))
  quiet (Window j) o h away = ap (ready o) (other_log (place_of q j).stream (λ e. absurd (let t : ((place_of q j).stream == s) ≡ true = eq-eqb (place_of q j).stream s e in let bad : true ≡ false = sym t ∙ away in cc)))
  quiet (Select j cs) o h away = ready_by o _ _ (fed_same o.left _ _ h.left) (fed_same o.right _ _ h.right)
  quiet (Join i j ks) o h away = ready_by o _ _ (fed_same o.left _ _ h.left) (fed_same o.right _ _ h.right)
  quiet (Project j columns) o h away = ready_by o _ _ (fed_same o.left _ _ h.left) (fed_same o.right _ _ h.right)
  quiet (Group j by items) o h away = ready_by o _ _ (fed_same o.left _ _ h.left) (fed_same o.right _ _ h.right)
  quiet (Distinct j) o h away = ready_by o _ _ (fed_same o.left _ _ h.left) (fed_same o.right _ _ h.right)
  quiet (ToStream j op) o h away = ready_by o _ _ (fed_same o.left _ _ h.left) (fed_same o.right _ _ h.right)

module _ (e : PlainEngine) (s : ℕ) (at : ℤ) (g : GoodEngine e) (h : IsHeartbeat e s at) where
  pub arrivals : (ws : List ℕ) (q : Registered) (p : PlainQuery) → Goes e.machine q p → (n : ℕ) → IsByArrival (elements_at e.machine.streams n)
  arrivals ws q p goes = (rows_stand.reads goes.widths e.machine q g.rows g.machine goes.sources).arrival

  pub goes_at : (n : ℕ) (q : Registered) (p : PlainQuery) → query_at e n ≡ Some q → remains_at e n ≡ Running p → Goes e.machine q p
  goes_at n q p r remains = subst (AreRemains e.machine q) remains (g.queries n q r)

  pub inboxes : (n k : ℕ) (q : Registered) (p : PlainQuery) → query_at e n ≡ Some q → remains_at e n ≡ Running p → k < length q.nodes → HasInboxes q (log_at e.machine q k) (node_at q k) (operator_at p.operators k)
  inboxes n k q p r remains within = let goes = goes_at n q p r remains in inboxes_of (widths_of e.machine.streams q) goes.widths e.machine q p.operators (goes.taken ++ p.answers) k goes.runs.runs within

  heartbeat_lease : (slots : List Slot) (a : Lease) → IsLease e a → IsLease (record (closed_over e s at) { slots = slots }) a
  heartbeat_lease slots a is =
      let goes = goes_at a.query is.query is.plain is.registered is.running in
      let m = side_more e.machine s at h.accepted h.queues (arrivals [] is.query is.plain goes) is.query (node_at is.query a.operator) (operator_at is.plain.operators a.operator) a.side
      (inboxes a.query a.operator is.query is.plain is.registered is.running is.within) in
      record {
        numbered = is.numbered;
        query = is.query;
        registered = is.registered;
        plain = is.plain;
        running = is.running;
        within = is.within;
        first = leases_stand_first.stays (operator_at is.plain.operators a.operator) (operator_at is.plain.operators a.operator) (log_at e.machine is.query a.operator) (log_at (closed_over e s at).machine is.query a.operator) a.side a.item m.0 refl m.1 is.first;
        near = is.near;
      }

  -- slots of no operator
  pub beyond_in : (n k : ℕ) (q : Registered) (remains : PlainRemains) → length q.nodes ≤ k → slot_in (closed_over e s at) n k (Some q) remains ≡ slot_in e n k (Some q) remains
  beyond_in n k q (Running p) l = let f : nat_lt k (length q.nodes) ≡ false = not_less k (length q.nodes) l in rw f refl where
    not_less : (a b : ℕ) → b ≤ a → nat_lt a b ≡ false
    not_less a b l = grind (arith, l)
  beyond_in n k q (Broken answers upto) l = refl
  beyond_in n k q Dropped l = refl

  pub quiet_slot : (n k : ℕ) (q : Registered) (p : PlainQuery) → query_at e n ≡ Some q → remains_at e n ≡ Running p → k < length q.nodes → is_reading q s (node_at q k) ≡ false → slot_of (closed_over e s at) n k ≡ slot_of e n k
  quiet_slot n k q p r remains within away =
      let goes = goes_at n q p r remains in
      slot_is (closed_over e s at) n k q p r remains within
      ∙ ap (λ x. Some (slot (slope_at q k) (cond (is_leased e n k) None x) n k))
      (quiet e.machine s at h.accepted h.queues (arrivals [] q p goes) q (node_at q k) (operator_at p.operators k) (inboxes n k q p r remains within) away)
      ∙ sym (slot_is e n k q p r remains within)

  -- the operators of one query from the number k on
  windows_told : (n k : ℕ) (q : Registered) (p : PlainQuery) (nodes : List plan.Node) (slots : List Slot) → query_at e n ≡ Some q → remains_at e n ≡ Running p
      → ((i : ℕ) → get_or nodes i (Window 0) ≡ node_at q (k + i)) → k + length nodes ≡ length q.nodes → Partly e (closed_over e s at) n k slots
      → Partly e (closed_over e s at) (suc n) 0 (windows_updated e (closed_over e s at) s n q p k nodes slots)
  windows_told n k q p [] slots r remains each many part = told_query e (closed_over e s at) n k slots part
      (λ j l. ap (λ z. slot_in (closed_over e s at) n j z (remains_at e n)) r ∙ beyond_in n j q (remains_at e n) (omega (arith, l, many)) ∙ sym (ap (λ z. slot_in e n j z (remains_at e n)) r))
  windows_told n k q p (node ∷ nodes) slots r remains each many part =
      windows_told n (suc k) q p nodes (cond (is_reading q s node) (slot_updated e (closed_over e s at) n q p p k slots) slots) r remains
      (λ i. each (suc i) ∙ ap (node_at q) (omega arith)) (omega (arith, many)) (one (is_reading q s node) refl) where
        here : node ≡ node_at q k
        here = each 0 ∙ ap (node_at q) (omega arith)

        within : k < length q.nodes
        within = omega (arith, many)

        one : (b : Bool) → is_reading q s node ≡ b → Partly e (closed_over e s at) n (suc k) (cond b (slot_updated e (closed_over e s at) n q p p k slots) slots)
        one true is = one_updated e (closed_over e s at) n k q p slots part r remains r remains within
        one false is = told_same e (closed_over e s at) n k slots part (quiet_slot n k q p r remains within (sym (ap (is_reading q s) here) ∙ is))

  query_told : (n : ℕ) (q : Registered) (remains : PlainRemains) (slots : List Slot) → query_at e n ≡ Some q → remains_at e n ≡ remains → Partly e (closed_over e s at) n 0 slots
      → Partly e (closed_over e s at) (suc n) 0 (query_updated e (closed_over e s at) s n q remains slots)
  query_told n q (Running p) slots r remains part = windows_told n 0 q p q.nodes slots r remains (λ i. ap (node_at q) (omega arith)) (omega arith) part
  query_told n q (Broken answers upto) slots r remains part = told_query e (closed_over e s at) n 0 slots part
      (λ j l. ap (slot_in (closed_over e s at) n j (query_at e n)) remains ∙ silent j (query_at e n) ∙ sym (ap (slot_in e n j (query_at e n)) remains)) where
        silent : (j : ℕ) (o : Option Registered) → slot_in (closed_over e s at) n j o (Broken answers upto) ≡ slot_in e n j o (Broken answers upto)
        silent j None = refl
        silent j (Some x) = refl
  query_told n q Dropped slots r remains part = told_query e (closed_over e s at) n 0 slots part
      (λ j l. ap (slot_in (closed_over e s at) n j (query_at e n)) remains ∙ silent j (query_at e n) ∙ sym (ap (slot_in e n j (query_at e n)) remains)) where
        silent : (j : ℕ) (o : Option Registered) → slot_in (closed_over e s at) n j o Dropped ≡ slot_in e n j o Dropped
        silent j None = refl
        silent j (Some x) = refl

  queries_told : (n : ℕ) (qs : List Registered) (slots : List Slot) → ((i : ℕ) → slice_get qs i ≡ query_at e (n + i)) → Partly e (closed_over e s at) n 0 slots
      → HasSlots (slot_of (closed_over e s at)) (queries_updated e (closed_over e s at) s n qs slots)
  queries_told n [] slots each part = at_end e (closed_over e s at) n slots part
      (λ i j l. let none : query_at e i ≡ None = ap (query_at e) (omega (arith, l)) ∙ sym (each (i - n)) in
      ap (λ z. slot_in (closed_over e s at) i j z (remains_at e i)) none ∙ sym (ap (λ z. slot_in e i j z (remains_at e i)) none))
  queries_told n (q ∷ qs) slots each part =
      queries_told (suc n) qs (query_updated e (closed_over e s at) s n q (remains_at e n) slots) (λ i. each (suc i) ∙ ap (query_at e) (omega arith))
      (query_told n q (remains_at e n) slots (ap (query_at e) (omega arith) ∙ sym (each 0)) refl part)

  pub heartbeat_good : GoodEngine (heartbeat_taken e s at)
  heartbeat_good = record {
    machine = machines_stand.goes_on e.machine (Heartbeat s at) 0 h.accepted g.machine;
    rows = rows_stand.goes_on e.machine (Heartbeat s at) 0 h.accepted g.rows;
    many = g.many;
    queries = λ n q r. heartbeat_remains e.machine s at h.accepted q (remains_at e n) g.machine g.rows h.queues (g.queries n q r);
    leases = λ a i. heartbeat_lease _ a (g.leases a i);
    apart = g.apart;
    slots = queries_told 0 e.machine.queries e.slots (λ i. ap (query_at e) (omega arith)) (at_start e (closed_over e s at) g.slots);
  }
