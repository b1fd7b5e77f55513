-- A declaration leaves an engine good: its queries read streams that were there.
use Rattle.std.proofs.Common.{◌≡◌, ℕ, ℤ, zero, suc, nat_abs, ◌-◌, ◌<◌, ◌++◌, cond, min, nat_lt, ⊎_elim, Option, Some, None, unwrap_or, List, [], ◌∷◌, length, map, refl, sym, ap, ap₂, ◌∙◌, subst, subst₂, arith}
use Rattle.std.specs.Prelude.{slice_get}
use Rattle.std.specs.List.{AllByRecursion, reduce}
use Rattle.std.specs.Option.{option_map_or}
use Rattle.std.proofs.lemmas.Bool.{cases_lt}
use Rattle.std.proofs.lemmas.List.{get_or_past, length-map}
use Rattle.values.specs.Row.{Row}
use Rattle.values.specs.Window.{input_of}
use Rattle.values.specs.Answers.{shown_at}
use Rattle.operators.specs.Ready.{PlainOperator, ready}
use Rattle.plan.specs.Nodes as plan
use Rattle.plan.specs.Nodes.{Window, Select, Join, Project, Group, Distinct, ToStream}
use Rattle.plan.specs.Scope.{Tables}
use Rattle.plan.proofs.Lists.{each-weaken, each_at}
use Rattle.reference.specs.Commands.{Declare, first_fault}
use Rattle.reference.specs.Machine.{Machine, Place, Registered, Stream, answers_from, closed_answers, opens}
use Rattle.stream_store.specs.Closing.{closed_of}
use Rattle.laws_dataflow.specs.Laws.{IsGood}
use Rattle.laws_dataflow.specs.Nets.{Cell}
use Rattle.laws_dataflow.specs.Operators.{net_of}
use Rattle.laws_dataflow.specs.Plans.{comes, inputs_of, value_in, world_by, world_of}
use Rattle.laws_dataflow.specs.Roots.{below_root}
use Rattle.laws_dataflow.specs.Queries.{GoodQuery}
use Rattle.laws_queries.specs.Counts.{AreFew, StaysWithin, most_rows}
use Rattle.laws_queries.specs.Machines.{IsQuery, columns_of, widths_of}
use Rattle.laws_queries.specs.Queries.{HasInboxes, IsRunning, RunsAt}
use Rattle.laws_queries.specs.Plain.{log_at, no_log, node_at, operator_at, place_of, source_of}
use Rattle.laws_queries.specs.Runs.{Runs, RunsRoot}
use Rattle.laws_queries.specs.Steps.{IsFirst}
use Rattle.laws_queries.specs.Widths.{width_at}
use Rattle.laws_queries.proofs.MachineCounts.{machines_stand}
use Rattle.laws_queries.proofs.QueryLemmas.{same_count}
use Rattle.laws_queries.proofs.RowLemmas.{rows_stand}
use Rattle.run_queue.specs.Slots.{slot}
use Rattle.laws_engine.specs.Engines.{Broken, Dropped, HasGiven, Lease, PlainEngine, PlainRemains}
use Rattle.laws_engine.specs.Engines.{Running, is_leased, query_at, remains_at, slope_at}
use Rattle.laws_engine.specs.Good.{AreRemains, GoodEngine, IsLease, slot_in, slot_of}
use Rattle.laws_engine.specs.Calls.{declared}
use Rattle.laws_engine.proofs.AppendedLemmas.{is_query}
use Rattle.laws_engine.proofs.TakeLemmas.{equal_slots}

-- STREAMS that were there
left_stream : (ss ts : List Stream) (i : ℕ) → i < length ss → slice_get (ss ++ ts) i ≡ slice_get ss i
left_stream [] ts i h = absurd (omega (arith, h))
left_stream (s ∷ ss) ts zero h = refl
left_stream (s ∷ ss) ts (suc i) h = left_stream ss ts i (omega (arith, h))

map_each : {A : Type 0} (f g : Place → A) (ps : List Place) → AllByRecursion (λ p. f p ≡ g p) ps → map f ps ≡ map g ps
map_each f g [] h = refl
map_each f g (p ∷ ps) h = ap₂ (λ y ys. y ∷ ys) h.0 (map_each f g ps h.1)

module _ (m : Machine) (ts : List Stream) (q : Registered) (is : IsQuery m.streams q) where
  by_stream : {A : Type 0} (f : Option Stream → Place → A) → map (λ p. f (slice_get (m.streams ++ ts) p.stream) p) q.places ≡ map (λ p. f (slice_get m.streams p.stream) p) q.places
  by_stream f = map_each _ _ q.places (each-weaken (λ (p : Place). p.stream < length m.streams) (λ p. f (slice_get (m.streams ++ ts) p.stream) p ≡ f (slice_get m.streams p.stream) p)
      (λ p l. ap (λ o. f o p) (left_stream m.streams ts p.stream l)) q.places is.known)

  inputs_left : inputs_of (record m { streams = m.streams ++ ts }) q ≡ inputs_of m q
  inputs_left = by_stream (λ o p. option_map_or (λ s. input_of p.arrivals q.first s.elements) o [])

  opens_left : opens (m.streams ++ ts) q.places ≡ opens m.streams q.places
  opens_left = by_stream (λ o p. option_map_or (λ s. s.first_open) o 0)

  comes_left : comes (m.streams ++ ts) q.places ≡ comes m.streams q.places
  comes_left = by_stream (λ o p. option_map_or (λ s. s.arrivals) o 0 - p.arrivals)

  widths_left : widths_of (m.streams ++ ts) q ≡ widths_of m.streams q
  widths_left = by_stream (λ o p. option_map_or (λ s. length s.columns) o 0)

  some_places : 0 < length q.places
  some_places = omega (arith, is.plan.some, length-map q.places (λ (p : Place). columns_of m.streams p.stream))

  source_there : (j : ℕ) → (place_of q j).stream < length m.streams
  source_there j = ⊎_elim
      (λ l. each_at (λ (p : Place). p.stream < length m.streams) q.places j (record { stream = 0; arrivals = 0 }) l is.known)
      (λ l. let first : (place_of q 0).stream < length m.streams = each_at (λ (p : Place). p.stream < length m.streams) q.places 0 (record { stream = 0; arrivals = 0 }) some_places is.known in
      let none : place_of q j ≡ record { stream = 0; arrivals = 0 } = get_or_past q.places j (record { stream = 0; arrivals = 0 }) l in
      subst (λ p. p.stream < length m.streams) (sym none) (omega (arith, first)))
      (cases_lt j (length q.places))

  node_there : (node : plan.Node) → source_of q node < length m.streams
  node_there (Window j) = source_there j
  node_there (Select j cs) = source_there 0
  node_there (Join i j ks) = source_there 0
  node_there (Project j columns) = source_there 0
  node_there (Group j by items) = source_there 0
  node_there (Distinct j) = source_there 0
  node_there (ToStream j op) = source_there 0

  pub logs_left : (k : ℕ) → log_at (record m { streams = m.streams ++ ts }) q k ≡ log_at m q k
  logs_left k = ap (λ o. option_map_or closed_of o no_log) (left_stream m.streams ts (source_of q (node_at q k)) (node_there (node_at q k)))

  closed_left : closed_answers (record m { streams = m.streams ++ ts }) q ≡ closed_answers m q
  closed_left = ap₂ (λ os es. q.earlier ++ answers_from q.meaning q.first q.start (unwrap_or (reduce min os) 0) es) opens_left inputs_left

  inner_left : (ws : List ℕ) (k : ℕ) (o : PlainOperator) (c : Cell) → RunsAt ws m q k o c → RunsAt ws (record m { streams = m.streams ++ ts }) q k o c
  inner_left ws k o c r = record {
    runs = subst (λ g. Runs (world_of (record m { streams = m.streams ++ ts }) q) (width_at ws k) (node_at q k) o g c) (sym (logs_left k))
        (subst (λ cs. Runs (world_by q.first q.meaning.windows (inputs_of (record m { streams = m.streams ++ ts }) q) (opens (m.streams ++ ts) q.places) cs) (width_at ws k) (node_at q k) o (log_at m q k) c) (sym comes_left)
        (subst₂ (λ es os. Runs (world_by q.first q.meaning.windows es os (comes m.streams q.places)) (width_at ws k) (node_at q k) o (log_at m q k) c) (sym inputs_left) (sym opens_left) r.runs));
    wide = r.wide;
    few = subst (λ cs. AreFew (world_by q.first q.meaning.windows (inputs_of (record m { streams = m.streams ++ ts }) q) (opens (m.streams ++ ts) q.places) cs) q.nodes (node_at q k) c) (sym comes_left)
        (subst₂ (λ es os. AreFew (world_by q.first q.meaning.windows es os (comes m.streams q.places)) q.nodes (node_at q k) c) (sym inputs_left) (sym opens_left) r.few);
    inboxes = subst (λ g. HasInboxes q g (node_at q k) o) (sym (logs_left k)) r.inboxes;
  }

  runs_left : (vs ws : List ℕ) (os : List PlainOperator) (given : List (ℕ × Row)) → IsRunning vs ws m q os given → IsRunning vs ws (record m { streams = m.streams ++ ts }) q os given
  runs_left vs ws os given r =
      let good2 : IsGood (record m { streams = m.streams ++ ts }) q r.cells r.held r.queue given =
      subst (λ cs. GoodQuery (world_by q.first q.meaning.windows (inputs_of (record m { streams = m.streams ++ ts }) q) (opens (m.streams ++ ts) q.places) cs) (net_of q.nodes) (below_root q.nodes) (value_in q.nodes (λ t. shown_at q.first q.meaning.windows t (inputs_of (record m { streams = m.streams ++ ts }) q))) q.start q.earlier r.cells r.held r.queue given) (sym comes_left)
      (subst₂ (λ es us. GoodQuery (world_by q.first q.meaning.windows es us (comes m.streams q.places)) (net_of q.nodes) (below_root q.nodes) (value_in q.nodes (λ t. shown_at q.first q.meaning.windows t es)) q.start q.earlier r.cells r.held r.queue given)
      (sym inputs_left) (sym opens_left) r.good) in
      let root : ℕ = below_root q.nodes in
      record {
        stands = record {
          plan = r.stands.plan;
          wide = record { places = r.stands.wide.places; tables = λ t. subst (λ es. Tables vs (shown_at q.first q.meaning.windows t es)) (sym inputs_left) (r.stands.wide.tables t) };
        };
        many = r.many;
        cells = r.cells;
        held = r.held;
        queue = r.queue;
        good = good2;
        inner = λ k kc. inner_left ws k (operator_at os k) (r.cells k) (r.inner k kc);
        last = record {
          runs = subst (λ g. RunsRoot (operator_at os root) g r.held r.queue) (sym (logs_left root)) r.last.runs;
          operator = r.last.operator;
          wide = r.last.wide;
          few = subst (λ x. StaysWithin (most_rows q.nodes (root - 1)) x r.queue) (same_count _ _ _ _ _ _ _ _ _ _ r.queue r.good.root.edge good2.root.edge refl) r.last.few;
          inboxes = subst (λ g. HasInboxes q g (node_at q root) (operator_at os root)) (sym (logs_left root)) r.last.inboxes;
        };
      }

  given_left : (waiting : List (ℕ × Row)) → HasGiven m q waiting → HasGiven (record m { streams = m.streams ++ ts }) q waiting
  given_left waiting g = record { taken = g.taken; counted = g.counted; rest = g.rest; begins = closed_left ∙ g.begins }

  pub remains_left : (remains : PlainRemains) → AreRemains m q remains → AreRemains (record m { streams = m.streams ++ ts }) q remains
  remains_left (Running p) g = record {
    lives = g.lives;
    widths = g.widths;
    sources = λ k s kc e. g.sources k s kc e ∙ sym (ap (λ o. option_map_or (λ t. length t.columns) o 0) (left_stream m.streams ts (place_of q s).stream (source_there s)));
    taken = g.taken;
    counted = g.counted;
    runs = record {
      wires = g.runs.wires;
      sources = g.runs.sources;
      runs = subst (λ vs. IsRunning vs g.widths (record m { streams = m.streams ++ ts }) q p.operators (g.taken ++ p.answers)) (sym widths_left)
          (runs_left (widths_of m.streams q) g.widths p.operators (g.taken ++ p.answers) g.runs.runs);
    };
  }
  remains_left (Broken answers upto) g = given_left answers g
  remains_left Dropped g = given_left [] g

-- A DECLARATION
module _ (e : PlainEngine) (name : List ℕ) (columns : List (List ℕ)) (start : ℤ) (g : GoodEngine e) (accepted : first_fault e.machine (Declare name columns start) ≡ None) where
  declared_lease : (a : Lease) → IsLease e a → IsLease (declared e name columns start) a
  declared_lease a is = record {
    numbered = is.numbered;
    query = is.query;
    registered = is.registered;
    plain = is.plain;
    running = is.running;
    within = is.within;
    first = subst (λ z. IsFirst (operator_at is.plain.operators a.operator) z a.side a.item)
        (sym (logs_left e.machine (record { name = name; columns = columns; elements = []; arrivals = 0; first_open = nat_abs start } ∷ []) is.query (is_query e g a.query is.query is.registered) a.operator)) is.first;
    near = is.near;
  }

  declared_slot : (n k : ℕ) (o : Option Registered) (remains : PlainRemains) → query_at e n ≡ o → slot_in (declared e name columns start) n k o remains ≡ slot_in e n k o remains
  declared_slot n k None remains r = refl
  declared_slot n k (Some q) (Running p) r =
      ap (λ x. cond (nat_lt k (length q.nodes)) (Some (slot (slope_at q k) (cond (is_leased e n k) None (ready (operator_at p.operators k) x)) n k)) None)
      (logs_left e.machine (record { name = name; columns = columns; elements = []; arrivals = 0; first_open = nat_abs start } ∷ []) q (is_query e g n q r) k)
  declared_slot n k (Some q) (Broken answers upto) r = refl
  declared_slot n k (Some q) Dropped r = refl

  pub declare_good : GoodEngine (declared e name columns start)
  declare_good = record {
    machine = machines_stand.goes_on e.machine (Declare name columns start) 0 accepted g.machine;
    rows = rows_stand.goes_on e.machine (Declare name columns start) 0 accepted g.rows;
    many = g.many;
    queries = λ n q r. remains_left e.machine (record { name = name; columns = columns; elements = []; arrivals = 0; first_open = nat_abs start } ∷ []) q (is_query e g n q r) (remains_at e n) (g.queries n q r);
    leases = λ a i. declared_lease a (g.leases a i);
    apart = g.apart;
    slots = equal_slots (slot_of e) (slot_of (declared e name columns start)) e.slots (λ n k. declared_slot n k (query_at e n) (remains_at e n) refl) g.slots;
  }
