-- A running query after a heartbeat.
use Rattle.std.proofs.Common.{◌≡◌, ℕ, ℤ, ◌-◌, ◌<◌, ◌≤◌, true, max, ⊎_elim, Option, Some, None, List, [], ◌++◌, length, get_or, refl, sym, ap, ◌∙◌, subst, subst₂, arith, length-append}
use Rattle.std.specs.List.{AllByRecursion}
use Rattle.std.specs.Prelude.{slice_get}
use Rattle.std.specs.Option.{option_map_or}
use Rattle.std.proofs.lemmas.Bool.{cases_lt}
use Rattle.std.proofs.lemmas.List.{get_or-map, get_or_past, length-map}
use Rattle.values.specs.Row.{Row}
use Rattle.values.specs.Perm.{Perm, same}
use Rattle.values.specs.Window.{Element}
use Rattle.values.specs.Answers.{StreamOperator, shown_at}
use Rattle.op_queue.specs.Entries.{Entry}
use Rattle.op_queue.specs.Logs.{Closed}
use Rattle.windows.specs.Laws.{IsRising}
use Rattle.operators.specs.Inboxes.{IsInboxWithin, is_fed}
use Rattle.operators.specs.Ready.{PlainOperator, entries_in}
use Rattle.operators.specs.declared.inboxes.Inbox.{Inbox}
use Rattle.operators.proofs.InboxLemmas.{entries_fed}
use Rattle.plan.specs.Nodes as plan
use Rattle.plan.specs.Nodes.{Window, Select, Join, Project, Group, Distinct, ToStream}
use Rattle.plan.specs.Scope.{Tables}
use Rattle.reference.specs.Commands.{Heartbeat, after}
use Rattle.reference.specs.Machine.{Machine, Place, Registered, Stream, input_at, opens}
use Rattle.stream_store.specs.Closing.{closed_of}
use Rattle.stream_store.specs.Gains.{QueuesGain}
use Rattle.laws_dataflow.specs.Laws as nets
use Rattle.laws_dataflow.specs.Laws.{IsGood}
use Rattle.laws_dataflow.specs.Windows.{AreBelow, Brings, opened}
use Rattle.laws_dataflow.specs.Worlds.{Beat, fed_cell}
use Rattle.laws_dataflow.specs.Nets.{Node, window, unary, join, World, Cell, at_window, at_unary, at_join, cell_shown}
use Rattle.laws_dataflow.specs.Operators.{net_of, node_of}
use Rattle.laws_dataflow.specs.Plans.{comes, inputs_of, world_of}
use Rattle.laws_dataflow.specs.Roots.{below_root}
use Rattle.laws_dataflow.proofs.MachineLemmas.{heartbeat_comes, heartbeat_inputs, machine_beats}
use Rattle.laws_dataflow.proofs.AnswerLemmas.{shaped}
use Rattle.laws_dataflow.proofs.PlanLemmas.{Shaped}
use Rattle.laws_queries.specs.Runs.{Runs, RunsWindow}
use Rattle.laws_queries.specs.Widths.{AreEntries, IsRow, IsWide, width_at}
use Rattle.laws_queries.specs.Counts.{AreFew, AreWindowRowsFew, StaysWithin, most_rows, source_rows}
use Rattle.laws_queries.specs.Queries.{HasInboxes, IsLeftInbox, IsRunning, Reads, ReadsRows, RunsAt}
use Rattle.laws_queries.specs.Queries.{elements_at}
use Rattle.laws_queries.specs.Plain.{log_at, no_log, node_at, operator_at, place_of, source_of, stream_log}
use Rattle.laws_queries.proofs.BeatLemmas.{IsLaterIn, PlaceBeat, place_beat}
use Rattle.laws_queries.proofs.ClosingLemmas.{perm_length}
use Rattle.laws_queries.proofs.FeedLemmas.{wide_append}
use Rattle.laws_queries.proofs.QueryLemmas.{same_count}

-- SOURCES by their numbers
until_of : (o : Option Stream) → option_map_or (λ s. s.first_open) o 0 ≡ (option_map_or closed_of o no_log).until
until_of None = refl
until_of (Some s) = refl

pub closed_at_source : (m : Machine) (q : Registered) (s : ℕ) → s < length q.places → (world_of m q).closed s ≡ max q.first (stream_log m.streams (place_of q s).stream).until
closed_at_source m q s h =
    ap (max q.first) (get_or-map (λ (p : Place). option_map_or (λ t. t.first_open) (slice_get m.streams p.stream) 0) q.places s (record { stream = 0; arrivals = 0 }) 0 h
    ∙ until_of (slice_get m.streams (place_of q s).stream))

pub input_at_source : (m : Machine) (q : Registered) (s : ℕ) → s < length q.places → (world_of m q).inputs s ≡ input_at m.streams q.first (place_of q s)
input_at_source m q s h = get_or-map (input_at m.streams q.first) q.places s (record { stream = 0; arrivals = 0 }) [] h

closed_beyond : (m : Machine) (q : Registered) (s : ℕ) → length q.places ≤ s → (world_of m q).closed s ≡ max q.first 0
closed_beyond m q s h = ap (max q.first) (get_or_past (opens m.streams q.places) s 0 (omega (arith, h, length-map q.places (λ (p : Place). option_map_or (λ t. t.first_open) (slice_get m.streams p.stream) 0))))

-- what a heartbeat is for the source s
record SourceBeat (m m2 : Machine) (q : Registered) (s : ℕ) : Type 0 where
  fresh : List Element
  more : List (Entry Row)
  brings : Brings ((world_of m q).closed s) more fresh ((world_of m2 q).closed s)
  rising : IsRising fresh
  below : AreBelow ((world_of m2 q).closed s) fresh
  parted : Perm (opened ((world_of m q).closed s) ((world_of m q).inputs s)) (fresh ++ opened ((world_of m2 q).closed s) ((world_of m q).inputs s))
  gains : s < length q.places → (i : Inbox) → Reads (place_of q s).arrivals q.first (stream_log m.streams (place_of q s).stream) i → IsInboxWithin i (stream_log m.streams (place_of q s).stream)
      → (entries_in i (stream_log m2.streams (place_of q s).stream) ≡ entries_in i (stream_log m.streams (place_of q s).stream) ++ more)
      × Reads (place_of q s).arrivals q.first (stream_log m2.streams (place_of q s).stream) i × IsInboxWithin i (stream_log m2.streams (place_of q s).stream)
  wide : s < length q.places → (w : ℕ) → AllByRecursion (λ e. IsRow w e.row) (elements_at m.streams (place_of q s).stream) → AreEntries w more

beat_of : (m m2 : Machine) (q : Registered) (s : ℕ) → s < length q.places → PlaceBeat (place_of q s).arrivals q.first (stream_log m.streams (place_of q s).stream) (stream_log m2.streams (place_of q s).stream) (input_at m.streams q.first (place_of q s)) (elements_at m.streams (place_of q s).stream)
    → SourceBeat m m2 q s
beat_of m m2 q s h b =
    let c : (world_of m q).closed s ≡ max q.first (stream_log m.streams (place_of q s).stream).until = closed_at_source m q s h in
    let d : (world_of m2 q).closed s ≡ max q.first (stream_log m2.streams (place_of q s).stream).until = closed_at_source m2 q s h in
    let i : (world_of m q).inputs s ≡ input_at m.streams q.first (place_of q s) = input_at_source m q s h in
    record {
      fresh = b.fresh;
      more = b.more;
      brings = subst₂ (λ x y. Brings x b.more b.fresh y) (sym c) (sym d) b.brings;
      rising = b.rising;
      below = subst (λ y. AreBelow y b.fresh) (sym d) b.below;
      parted = subst (λ l. Perm (opened ((world_of m q).closed s) l) (b.fresh ++ opened ((world_of m2 q).closed s) l)) (sym i)
          (subst₂ (λ x y. Perm (opened x (input_at m.streams q.first (place_of q s))) (b.fresh ++ opened y (input_at m.streams q.first (place_of q s)))) (sym c) (sym d) b.parted);
      gains = λ z. b.gains;
      wide = λ z. b.wide;
    }

no_beat : (m m2 : Machine) (q : Registered) (s : ℕ) → length q.places ≤ s → SourceBeat m m2 q s
no_beat m m2 q s h =
    let e : (world_of m2 q).closed s ≡ (world_of m q).closed s = closed_beyond m2 q s h ∙ sym (closed_beyond m q s h) in
    record {
      fresh = [];
      more = [];
      brings = sym e;
      rising = tt;
      below = tt;
      parted = subst (λ x. Perm (opened ((world_of m q).closed s) ((world_of m q).inputs s)) (opened x ((world_of m q).inputs s))) (sym e) (same (opened ((world_of m q).closed s) ((world_of m q).inputs s)));
      gains = λ z. absurd (omega (arith, z, h));
      wide = λ z. absurd (omega (arith, z, h));
    }

-- THE OPERATORS
-- a fed inbox is the same over every log
pub relog : (i : Inbox) (log log2 : Closed) → is_fed i ≡ true → entries_in i log ≡ entries_in i log2
relog i log log2 h = entries_fed i log h ∙ sym (entries_fed i log2 h)

-- what waits for an operator before and after
abbrev pub Gains : (ℕ → List (Entry Row)) → plan.Node → PlainOperator → Closed → Closed → Type 0
Gains more (Window s) o log log2 = entries_in o.left log2 ≡ entries_in o.left log ++ more s
Gains more (Select j cs) o log log2 = is_fed o.left ≡ true
Gains more (Join j k ks) o log log2 = (is_fed o.left ≡ true) × (is_fed o.right ≡ true)
Gains more (Project j columns) o log log2 = is_fed o.left ≡ true
Gains more (Group j by items) o log log2 = is_fed o.left ≡ true
Gains more (Distinct j) o log log2 = is_fed o.left ≡ true
Gains more (ToStream j op) o log log2 = is_fed o.left ≡ true

module _ (w w2 : World) (first : w2.first ≡ w.first) (windows : (s : ℕ) → w2.windows s ≡ w.windows s) (fresh : ℕ → List Element) (more : ℕ → List (Entry Row)) where
  pub runs_beat : (width : ℕ) (node : plan.Node) (o : PlainOperator) (log log2 : Closed) (c : Cell) → Gains more node o log log2 → Runs w width node o log c → Runs w2 width node o log2 (fed_cell fresh more (node_of node) c)
  runs_beat width (Window s) o log log2 (at_window h e b q n) g r =
      subst₂ (λ f t. RunsWindow f t o log2 h b (q ++ more s) n) (sym first) (sym (windows s)) (record { kind = r.kind; stands = r.stands; shows = r.shows; queue = ap (λ x. x ++ more s) r.queue ∙ sym g })
  runs_beat width (Window s) o log log2 (at_unary q t b n) g r = absurd r
  runs_beat width (Window s) o log log2 (at_join q u l m b n x y) g r = absurd r
  runs_beat width (Select j cs) o log log2 (at_window h e b q n) g r = absurd r
  runs_beat width (Select j cs) o log log2 (at_unary q t b n) g r = record { steps = r.steps; kind = r.kind; state = r.state; tell = r.tell; queue = r.queue ∙ relog o.left log log2 g }
  runs_beat width (Select j cs) o log log2 (at_join q u l m b n x y) g r = absurd r
  runs_beat width (Project j columns) o log log2 (at_window h e b q n) g r = absurd r
  runs_beat width (Project j columns) o log log2 (at_unary q t b n) g r = record { places = r.places; kind = r.kind; state = r.state; listed = r.listed; queue = r.queue ∙ relog o.left log log2 g }
  runs_beat width (Project j columns) o log log2 (at_join q u l m b n x y) g r = absurd r
  runs_beat width (Group j by items) o log log2 (at_window h e b q n) g r = absurd r
  runs_beat width (Group j by items) o log log2 (at_unary q t b n) g r = record { held = r.held; kind = r.kind; state = r.state; keyed = r.keyed; listed = r.listed; stands = r.stands; few = r.few; queue = r.queue ∙ relog o.left log log2 g }
  runs_beat width (Group j by items) o log log2 (at_join q u l m b n x y) g r = absurd r
  runs_beat width (Distinct j) o log log2 (at_window h e b q n) g r = absurd r
  runs_beat width (Distinct j) o log log2 (at_unary q t b n) g r = record { held = r.held; kind = r.kind; state = r.state; all = r.all; some = r.some; stands = r.stands; few = r.few; queue = r.queue ∙ relog o.left log log2 g }
  runs_beat width (Distinct j) o log log2 (at_join q u l m b n x y) g r = absurd r
  runs_beat width (Join j k ks) o log log2 (at_window h e b q n) g r = absurd r
  runs_beat width (Join j k ks) o log log2 (at_unary q t b n) g r = absurd r
  runs_beat width (Join j k ks) o log log2 (at_join q u l m b n x y) g r = record {
    held = r.held;
    kind = r.kind;
    state = r.state;
    meets = r.meets;
    stands = r.stands;
    left_ticked = r.left_ticked;
    right_ticked = r.right_ticked;
    left_queue = r.left_queue ∙ relog o.left log log2 g.0;
    right_queue = r.right_queue ∙ relog o.right log log2 g.1;
  }
  runs_beat width (ToStream j op) o log log2 c g r = absurd r

  few_beat : (ns : List plan.Node) (node : plan.Node) (c : Cell) → ((s : ℕ) → w2.came s ≡ w.came s) → ((s : ℕ) → w2.inputs s ≡ w.inputs s) → ((s : ℕ) → Perm (opened (w.closed s) (w.inputs s)) (fresh s ++ opened (w2.closed s) (w.inputs s))) → AreFew w ns node c → AreFew w2 ns node (fed_cell fresh more (node_of node) c)
  few_beat ns (Window s) (at_window h e b q n) came same_inputs parted r =
      let i : length (fresh s ++ opened (w2.closed s) (w.inputs s)) ≡ length (opened (w.closed s) (w.inputs s)) = sym (perm_length _ _ (parted s)) in
      subst₂ (λ t l. AreWindowRowsFew (source_rows ns) (w2.closed s) t l h (e ++ fresh s)) (sym (came s)) (sym (same_inputs s))
      (record { few = omega (arith, r.few, i, length-append (fresh s) (opened (w2.closed s) (w.inputs s)), length-append e (fresh s)); stream = r.stream })
  few_beat ns (Window s) (at_unary q t b n) came same_inputs parted r = absurd r
  few_beat ns (Window s) (at_join q u l m b n x y) came same_inputs parted r = absurd r
  few_beat ns (Select j cs) (at_window h e b q n) came same_inputs parted r = absurd r
  few_beat ns (Select j cs) (at_unary q t b n) came same_inputs parted r = r
  few_beat ns (Select j cs) (at_join q u l m b n x y) came same_inputs parted r = absurd r
  few_beat ns (Project j columns) (at_window h e b q n) came same_inputs parted r = absurd r
  few_beat ns (Project j columns) (at_unary q t b n) came same_inputs parted r = r
  few_beat ns (Project j columns) (at_join q u l m b n x y) came same_inputs parted r = absurd r
  few_beat ns (Group j by items) (at_window h e b q n) came same_inputs parted r = absurd r
  few_beat ns (Group j by items) (at_unary q t b n) came same_inputs parted r = r
  few_beat ns (Group j by items) (at_join q u l m b n x y) came same_inputs parted r = absurd r
  few_beat ns (Distinct j) (at_window h e b q n) came same_inputs parted r = absurd r
  few_beat ns (Distinct j) (at_unary q t b n) came same_inputs parted r = r
  few_beat ns (Distinct j) (at_join q u l m b n x y) came same_inputs parted r = absurd r
  few_beat ns (Join j k ks) (at_window h e b q n) came same_inputs parted r = absurd r
  few_beat ns (Join j k ks) (at_unary q t b n) came same_inputs parted r = absurd r
  few_beat ns (Join j k ks) (at_join q u l m b n x y) came same_inputs parted r = r
  few_beat ns (ToStream j op) c came same_inputs parted r = absurd r

wide_beat : (fresh : ℕ → List Element) (more : ℕ → List (Entry Row)) (ws : List ℕ) (k : ℕ) (node : plan.Node) (o : PlainOperator) (c : Cell) → ((s : ℕ) → node ≡ Window s → AreEntries (width_at ws k) (more s)) → IsWide ws k node o c → IsWide ws k node o (fed_cell fresh more (node_of node) c)
wide_beat fresh more ws k (Window s) o (at_window h e b q n) wide r = record { state = r.state; some = r.some; side = record { taken = r.side.taken; queue = wide_append (width_at ws k) q (more s) r.side.queue (wide s refl) } }
wide_beat fresh more ws k (Window s) o (at_unary q t b n) wide r = absurd r
wide_beat fresh more ws k (Window s) o (at_join q u l m b n x y) wide r = absurd r
wide_beat fresh more ws k (Select j cs) o (at_window h e b q n) wide r = absurd r
wide_beat fresh more ws k (Select j cs) o (at_unary q t b n) wide r = r
wide_beat fresh more ws k (Select j cs) o (at_join q u l m b n x y) wide r = absurd r
wide_beat fresh more ws k (Project j columns) o (at_window h e b q n) wide r = absurd r
wide_beat fresh more ws k (Project j columns) o (at_unary q t b n) wide r = r
wide_beat fresh more ws k (Project j columns) o (at_join q u l m b n x y) wide r = absurd r
wide_beat fresh more ws k (Group j by items) o (at_window h e b q n) wide r = absurd r
wide_beat fresh more ws k (Group j by items) o (at_unary q t b n) wide r = r
wide_beat fresh more ws k (Group j by items) o (at_join q u l m b n x y) wide r = absurd r
wide_beat fresh more ws k (Distinct j) o (at_window h e b q n) wide r = absurd r
wide_beat fresh more ws k (Distinct j) o (at_unary q t b n) wide r = r
wide_beat fresh more ws k (Distinct j) o (at_join q u l m b n x y) wide r = absurd r
wide_beat fresh more ws k (Join i j ks) o (at_window h e b q n) wide r = absurd r
wide_beat fresh more ws k (Join i j ks) o (at_unary q t b n) wide r = absurd r
wide_beat fresh more ws k (Join i j ks) o (at_join q u l m b n x y) wide r = r
wide_beat fresh more ws k (ToStream j op) o c wide r = absurd r

-- what waits for them gains what the sources' streams close
left_gains : (m m2 : Machine) (q : Registered) (beat : (s : ℕ) → SourceBeat m m2 q s) (k : ℕ) (node : plan.Node) (i : Inbox) → node_at q k ≡ node → IsLeftInbox q (stream_log m.streams (source_of q node)) node i → IsLeftInbox q (stream_log m2.streams (source_of q node)) node i
left_gains m m2 q beat k (Window s) i e h = let g = (beat s).gains h.0 i h.1 h.2 in (h.0, g.1, g.2)
left_gains m m2 q beat k (Select j cs) i e h = h
left_gains m m2 q beat k (Join j l ks) i e h = h
left_gains m m2 q beat k (Project j columns) i e h = h
left_gains m m2 q beat k (Group j by items) i e h = h
left_gains m m2 q beat k (Distinct j) i e h = h
left_gains m m2 q beat k (ToStream j op) i e h = h

inbox_gains : (m m2 : Machine) (q : Registered) (beat : (s : ℕ) → SourceBeat m m2 q s) (node : plan.Node) (o : PlainOperator) → HasInboxes q (stream_log m.streams (source_of q node)) node o
    → Gains (λ s. (beat s).more) node o (stream_log m.streams (source_of q node)) (stream_log m2.streams (source_of q node))
inbox_gains m m2 q beat (Window s) o h = ((beat s).gains h.left.0 o.left h.left.1 h.left.2).0
inbox_gains m m2 q beat (Select j cs) o h = h.left
inbox_gains m m2 q beat (Join j l ks) o h = (h.left, h.right)
inbox_gains m m2 q beat (Project j columns) o h = h.left
inbox_gains m m2 q beat (Group j by items) o h = h.left
inbox_gains m m2 q beat (Distinct j) o h = h.left
inbox_gains m m2 q beat (ToStream j op) o h = h.left

source_in : (q : Registered) (log : Closed) (node : plan.Node) (i : Inbox) (s : ℕ) → node ≡ Window s → IsLeftInbox q log node i → s < length q.places
source_in q log node i s e h = (subst (λ n. IsLeftInbox q log n i) e h).0

fed_shown : (fresh : ℕ → List Element) (more : ℕ → List (Entry Row)) (node : Node) (c : Cell) → cell_shown (fed_cell fresh more node c) ≡ cell_shown c
fed_shown fresh more (window x) (at_window h e b q n) = refl
fed_shown fresh more (window x) (at_unary q t b n) = refl
fed_shown fresh more (window x) (at_join q u l m b n x2 y) = refl
fed_shown fresh more (unary f x) c = refl
fed_shown fresh more (join f x y) c = refl

-- A HEARTBEAT
module _ (vs ws : List ℕ) (m : Machine) (q : Registered) (n : ℕ) (at : ℤ) (queues : QueuesGain (slice_get m.streams n) at) (later : IsLaterIn (slice_get m.streams n) at) (reads : ReadsRows ws m q) where
  m2 : Machine
  m2 = after m (Heartbeat n at) 0

  source_beat : (s : ℕ) → SourceBeat m m2 q s
  unfolding m2
  source_beat s = ⊎_elim
      (λ h. beat_of m (after m (Heartbeat n at) 0) q s h (place_beat m.streams n at queues later reads.arrival q.first (place_of q s)))
      (λ h. no_beat m (after m (Heartbeat n at) 0) q s h)
      (cases_lt s (length q.places))

  same_inputs : inputs_of m2 q ≡ inputs_of m q
  unfolding m2
  same_inputs = heartbeat_inputs m q n at

  same_comes : comes m2.streams q.places ≡ comes m.streams q.places
  unfolding m2
  same_comes = heartbeat_comes m q n at

  beat : Beat (world_of m q) (world_of m2 q).closed (λ s. (source_beat s).fresh) (λ s. (source_beat s).more)
  beat = record { brings = λ s. (source_beat s).brings; rising = λ s. (source_beat s).rising; below = λ s. (source_beat s).below; parted = λ s. (source_beat s).parted }

  stands2 : nets.Stands vs m q → nets.Stands vs m2 q
  stands2 h = record {
    plan = h.plan;
    wide = record { places = h.wide.places; tables = λ t. subst (λ is. Tables vs (shown_at q.first q.meaning.windows t is)) (sym same_inputs) (h.wide.tables t) };
  }

  inner_beats : (k : ℕ) (o : PlainOperator) (c : Cell) → k < below_root q.nodes → RunsAt ws m q k o c → RunsAt ws m2 q k o (fed_cell (λ s. (source_beat s).fresh) (λ s. (source_beat s).more) (net_of q.nodes k) c)
  inner_beats k o c kc r = record {
    runs = runs_beat (world_of m q) (world_of m2 q) refl (λ s. refl) (λ s. (source_beat s).fresh) (λ s. (source_beat s).more) (width_at ws k) (node_at q k) o (log_at m q k) (log_at m2 q k) c (inbox_gains m m2 q source_beat (node_at q k) o r.inboxes) r.runs;
    wide = wide_beat (λ s. (source_beat s).fresh) (λ s. (source_beat s).more) ws k (node_at q k) o c
        (λ s e. (source_beat s).wide (source_in q (log_at m q k) (node_at q k) o.left s e r.inboxes.left) (width_at ws k) (reads.wide k s kc e)) r.wide;
    few = few_beat (world_of m q) (world_of m2 q) refl (λ s. refl) (λ s. (source_beat s).fresh) (λ s. (source_beat s).more) q.nodes (node_at q k) c (λ s. ap (λ l. get_or l s 0) same_comes) (λ s. ap (λ l. get_or l s []) same_inputs) (λ s. (source_beat s).parted) r.few;
    inboxes = record { left = left_gains m m2 q source_beat k (node_at q k) o.left refl r.inboxes.left; right = r.inboxes.right };
  }

  root_fed : (o : PlainOperator) (log : Closed) (node : plan.Node) (j : ℕ) (op : StreamOperator) → node ≡ ToStream j op → HasInboxes q log node o → is_fed o.left ≡ true
  root_fed o log node j op e h = subst (λ x. IsLeftInbox q log x o.left) e h.left

  pub heartbeat_runs : (os : List PlainOperator) (given : List (ℕ × Row)) → IsRunning vs ws m q os given → IsRunning vs ws (after m (Heartbeat n at) 0) q os given
  unfolding m2
  heartbeat_runs os given r =
      let sh : Shaped (world_of m q).closed q.meaning q.nodes = shaped vs m q r.stands.plan r.stands.wide in
      let cells2 : ℕ → Cell = λ k. fed_cell (λ s. (source_beat s).fresh) (λ s. (source_beat s).more) (net_of q.nodes k) (r.cells k) in
      let good2 : IsGood (after m (Heartbeat n at) 0) q cells2 r.held r.queue given =
      machine_beats vs m (after m (Heartbeat n at) 0) q r.stands.plan r.stands.wide same_inputs same_comes (λ s. (source_beat s).fresh) (λ s. (source_beat s).more) beat r.cells r.held r.queue given r.good in
      let rootn : ℕ = below_root q.nodes in
      let o : PlainOperator = operator_at os rootn in
      let fed : is_fed o.left ≡ true = root_fed o (log_at m q rootn) (node_at q rootn) (length q.nodes - 2) q.meaning.operator sh.root r.last.inboxes in
      record {
        stands = stands2 r.stands;
        many = r.many;
        cells = cells2;
        held = r.held;
        queue = r.queue;
        good = good2;
        inner = λ k kc. inner_beats k (operator_at os k) (r.cells k) kc (r.inner k kc);
        last = record {
          runs = record { kind = r.last.runs.kind; state = r.last.runs.state; queue = r.last.runs.queue ∙ relog o.left (log_at m q rootn) (log_at (after m (Heartbeat n at) 0) q rootn) fed };
          operator = r.last.operator;
          wide = r.last.wide;
          few = subst (λ x. StaysWithin (most_rows q.nodes (rootn - 1)) x r.queue)
              (same_count _ _ _ _ _ _ _ _ _ _ r.queue r.good.root.edge good2.root.edge (fed_shown (λ s. (source_beat s).fresh) (λ s. (source_beat s).more) (net_of q.nodes (rootn - 1)) (r.cells (rootn - 1)))) r.last.few;
          inboxes = record { left = left_gains m (after m (Heartbeat n at) 0) q source_beat rootn (node_at q rootn) o.left refl r.last.inboxes.left; right = r.last.inboxes.right };
        };
      }
