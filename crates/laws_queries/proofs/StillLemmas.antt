-- What the operators of a query show of instants at which it has nothing to do, its cells know.
use Rattle.std.proofs.Common.{◌≡◌, ℕ, zero, suc, ◌+◌, ◌-◌, ◌<◌, ◌≤◌, inr, Bool, true, false, List, [], ◌++◌, length, refl, sym, ap, ◌∙◌, subst, subst₂, arith, true≢false}
use Rattle.values.specs.Row.{Row}
use Rattle.values.specs.Window.{Element}
use Rattle.column.specs.declared.batch.Side.TheVariants.{Left}
use Rattle.op_queue.specs.Entries.{Entry}
use Rattle.op_queue.specs.Logs.{Closed}
use Rattle.op_queue.specs.declared.item.Item.TheVariants.{Tick}
use Rattle.op_queue.specs.Paths.{Leads}
use Rattle.op_queue.proofs.PathLemmas.{Leads-empty}
use Rattle.plan.specs.Nodes as plan
use Rattle.reference.specs.Machine.{Machine, Registered}
use Rattle.to_stream.specs.Turns as root
use Rattle.operators.specs.Inboxes.{ReadsOn, is_fed}
use Rattle.operators.specs.Ready.{PlainOperator, entries_in, waiting}
use Rattle.operators.specs.declared.inboxes.Inbox.{Inbox}
use Rattle.operators.specs.declared.inboxes.Inbox.TheVariants.{First, Between}
use Rattle.operators.specs.declared.states.State.{State}
use Rattle.operators.specs.declared.states.State.TheVariants as state
use Rattle.laws_dataflow.specs.Windows.{Brings}
use Rattle.laws_dataflow.specs.Nets.{World, Node, Cell, Input, at_window, at_unary, at_join, cell_shown, cell_next, left_of, right_of, input_of, past, window, unary, join, ComesLater, Planned}
use Rattle.laws_dataflow.specs.Operators.{net_of, node_of}
use Rattle.laws_dataflow.specs.Passes.{Clears, reached, ended, ticked}
use Rattle.laws_dataflow.specs.Plans.{least_of, value_of, world_of}
use Rattle.laws_dataflow.specs.Roots.{below_root}
use Rattle.laws_dataflow.proofs.AnswerLemmas.{query_laid, query_planned, shaped}
use Rattle.laws_dataflow.proofs.PlanLemmas.{Shaped}
use Rattle.laws_dataflow.proofs.WindowLemmas.{Brings_after}
use Rattle.laws_queries.specs.Passing.{IsQuiet, LeftPasses, Passes, QueryPasses, ticks}
use Rattle.laws_queries.specs.PassingCells.{CellsPass, OperatorPasses, RootPasses, SidePasses, left_at, right_at}
use Rattle.laws_queries.specs.Queries.{HasInboxes, IsLeftInbox, IsRunning, Reads, RunsAt}
use Rattle.laws_queries.specs.Plain.{log_at, node_at, operator_at, place_of}
use Rattle.laws_queries.specs.Runs.{RunsGroup, RunsDistinct, RunsJoin, RunsProject, RunsSelect, RunsWindow}
use Rattle.laws_queries.specs.Rooms.{IsBounded, PlanHasRoom}
use Rattle.laws_queries.specs.Steps.{Stands}
use Rattle.laws_queries.proofs.PassingLemmas.{bounded_passes, window_at}
use Rattle.laws_queries.proofs.PlanCounts.{plan_has_room}

-- QUEUES
ticks_clear : (b n d : ℕ) (q : List (Entry Row)) → n + d ≡ b → Clears b n (ticks n d ++ q) q
ticks_clear b n zero q e = reached n q (omega (arith, e))
ticks_clear b n (suc d) q e = ticked n (ticks (n + 1) d ++ q) q (omega (arith, e)) (ticks_clear b (n + 1) d q (omega (arith, e)))

-- what is in front of a window's queue is of its instant
front_at : (n m d : ℕ) (q r : List (Entry Row)) (es : List Element) (c : ℕ) → 0 < d → q ≡ ticks m d ++ r → Brings n q es c → m ≡ n
front_at n m zero q r es c h e g = absurd (omega (arith, h))
front_at n m (suc d) q r es c h e g = (subst (λ z. Brings n z es c) e g).0

brought_to : (n d : ℕ) (r : List (Entry Row)) (es : List Element) (c : ℕ) → Brings n (ticks n d ++ r) es c → n + d ≤ c
brought_to n zero r es c g = omega (arith, Brings_after n r es c g)
brought_to n (suc d) r es c g = omega (arith, brought_to (n + 1) d r es c g.1)

untrue : {A : Type 0} → false ≡ true → A
untrue h = absurd (true≢false (sym h))

-- an empty queue between operators
empty_between : (b n : ℕ) (log : Closed) (i i2 : Inbox) → is_fed i ≡ true → LeftPasses b n log i i2 → (entries_in i log ≡ []) × (i2 ≡ i)
empty_between b n log (First c) i2 f p = untrue f
empty_between b n log (Between q) i2 f p = p

side_still : (b n : ℕ) (log : Closed) (i i2 : Inbox) → n ≤ b → is_fed i ≡ true → entries_in i log ≡ [] → i2 ≡ i → SidePasses b n log i i2
side_still b n log (First c) i2 le f e s = untrue f
side_still b n log (Between q) i2 le f e s = subst (SidePasses b n log (Between q)) (sym s) (record {
  clears = subst (λ z. Clears b n z z) (sym e) (ended n le);
  same = refl;
  within = tt;
  reads_on = tt;
})

at_left : (b n : ℕ) (st : State) → n < b → left_at st n ≤ b
at_left b n (state.Window s) h = omega (arith, h)
at_left b n state.Nothing h = omega (arith, h)
at_left b n (state.Join s) h = by_mark b n s.left.ticked h
  where
    by_mark : (b n : ℕ) (a : Bool) → n < b → past a n ≤ b
    by_mark b n true h = omega (arith, h)
    by_mark b n false h = omega (arith, h)
at_left b n (state.Groups s) h = omega (arith, h)
at_left b n (state.Root s) h = omega (arith, h)

at_right : (b n : ℕ) (st : State) → n < b → right_at st n ≤ b
at_right b n (state.Window s) h = omega (arith, h)
at_right b n state.Nothing h = omega (arith, h)
at_right b n (state.Join s) h = by_mark b n s.right.ticked h
  where
    by_mark : (b n : ℕ) (a : Bool) → n < b → past a n ≤ b
    by_mark b n true h = omega (arith, h)
    by_mark b n false h = omega (arith, h)
at_right b n (state.Groups s) h = omega (arith, h)
at_right b n (state.Root s) h = omega (arith, h)

past_least : (a : Bool) (n m b : ℕ) → past a n ≡ m → m < b → n < b
past_least true n m b e h = omega (arith, e, h)
past_least false n m b e h = omega (arith, e, h)

-- OPERATORS
abbrev pub ClosedTo : ℕ → World → plan.Node → Type 0
ClosedTo b w (plan.Window s) = b ≤ w.closed s
ClosedTo b w (plan.Select i cs) = Unit {0}
ClosedTo b w (plan.Join i j ks) = Unit {0}
ClosedTo b w (plan.Project i cs) = Unit {0}
ClosedTo b w (plan.Group i by items) = Unit {0}
ClosedTo b w (plan.Distinct i) = Unit {0}
ClosedTo b w (plan.ToStream i op) = Unit {0}

pub record CellPasses (b : ℕ) (w : World) (node : plan.Node) (log : Closed) (o o2 : PlainOperator) (n : ℕ) : Type 0 where
  pub before : n < b
  pub passes : OperatorPasses b n log o o2
  pub closed : ClosedTo b w node

-- an operator with empty queues
between_passes : (b : ℕ) (w : World) (node : plan.Node) (log : Closed) (o o2 : PlainOperator) (n : ℕ) → n < b → ClosedTo b w node → is_fed o.left ≡ true → is_fed o.right ≡ true → (p : Passes b log o o2) → IsQuiet n b o.state
    → CellPasses b w node log o o2 n
between_passes b w node log o o2 n lt closed fed right p quiet =
    let none : (entries_in o.left log ≡ []) × (o2.left ≡ o.left) = empty_between b p.from log o.left o2.left fed p.left in
    record {
      before = lt;
      passes = record {
        kind = p.kind;
        state = p.state;
        quiet = quiet;
        left = side_still b (left_at o.state n) log o.left o2.left (at_left b n o.state lt) fed none.0 none.1;
        right = side_still b (right_at o.state n) log o.right o2.right (at_right b n o.state lt) right p.none p.right;
      };
      closed = closed;
    }

one_before : (v : ℕ → List Row) (i bag : List Row) (n m b : ℕ) (q : List (Entry Row)) → q ≡ [] → Leads v i n q bag m → m < b → n < b
one_before v i bag n m b q e l h = let z : (n ≡ m) × _ = Leads-empty (subst (λ x. Leads v i n x bag m) e l) in omega (arith, z.0, h)

-- the inputs stand at instants before b
abbrev pub InputsBefore : ℕ → Node → Input → Input → Type 0
InputsBefore b (window k) d e = Unit {0}
InputsBefore b (unary f x) d e = d.opens < b
InputsBefore b (join f x y) d e = (d.opens < b) × (e.opens < b)

inputs_before : (b : ℕ) (v : ℕ → ℕ → List Row) (s : ℕ → Cell) (k : ℕ) (node : Node) → ComesLater node k → ((x : ℕ) → x < k → cell_next (s x) < b) → InputsBefore b node (input_of v s (left_of node)) (input_of v s (right_of node))
inputs_before b v s k (window x) l f = tt
inputs_before b v s k (unary g x) l f = f x l
inputs_before b v s k (join g x y) l f = (f x l.0, f y l.1)

module _ (b : ℕ) (w : World) (ws : List ℕ) (q : Registered) (ns : List plan.Node) (k : ℕ) (o o2 : PlainOperator) (log : Closed) (d e : Input) (p : Passes b log o o2) where
  window_cell : (s : ℕ) (h es : List Element) (out : List Row) (r : List (Entry Row)) (n : ℕ) → Stands w ws ns k (plan.Window s) o log (at_window h es out r n) d e → HasInboxes q log (plan.Window s) o → CellPasses b w (plan.Window s) log o o2 n
  window_cell s h es out r n st inboxes = here o.left refl p.left
    where
      run : RunsWindow w.first (w.windows s) o log h out r n
      run = st.runs

      here : (i : Inbox) → o.left ≡ i → LeftPasses b p.from log i o2.left → CellPasses b w (plan.Window s) log o o2 n
      here (Between u) is z = absurd (subst (λ x. Reads (place_of q s).arrivals q.first log x) is inboxes.left.1)
      here (First c) is z =
          let d : ℕ = b - p.from in
          let first : r ≡ ticks p.from d ++ entries_in o2.left log = run.queue ∙ ap (λ x. entries_in x log) is ∙ z.queue in
          let brings : Brings n r es (w.closed s) = st.good.brings in
          let at : p.from ≡ n = front_at n p.from d r (entries_in o2.left log) es (w.closed s) (omega (arith, z.before)) first brings in
          let to : n + d ≡ b = omega (arith, z.before, at) in
          let at_n : r ≡ ticks n d ++ entries_in o2.left log = subst (λ x. r ≡ ticks x d ++ entries_in o2.left log) at first in
          let closed : n + d ≤ w.closed s = brought_to n d (entries_in o2.left log) es (w.closed s) (subst (λ x. Brings n x es (w.closed s)) at_n brings) in
          let lt : n < b = omega (arith, z.before, at) in
          record {
            before = lt;
            passes = record {
              kind = p.kind;
              state = p.state;
              quiet = subst (λ x. IsQuiet x b o.state) at p.quiet;
              left = record {
                clears = subst₂ (λ x y. Clears b x y (entries_in o2.left log)) (sym (window_at w.first (w.windows s) n n o.state h run.stands)) (sym at_n ∙ run.queue) (ticks_clear b n d (entries_in o2.left log) to);
                same = z.same ∙ sym (ap is_fed is);
                within = z.within;
                reads_on = subst (λ x. ReadsOn log x o2.left) (sym is) z.reads_on;
              };
              right = side_still b (right_at o.state n) log o.right o2.right (at_right b n o.state lt) inboxes.right p.none p.right;
            };
            closed = omega (arith, closed, to);
          }

  none_left : is_fed o.left ≡ true → waiting o log Left ≡ []
  none_left fed = (empty_between b p.from log o.left o2.left fed p.left).0

  quiet_by : (n : ℕ) (st : State) → o.state ≡ st → (IsQuiet p.from b st → IsQuiet n b st) → IsQuiet n b o.state
  quiet_by n st is f = subst (IsQuiet n b) (sym is) (f (subst (IsQuiet p.from b) is p.quiet))

  cell_passes : (node : plan.Node) (c : Cell) → Stands w ws ns k node o log c d e → HasInboxes q log node o → InputsBefore b (node_of node) d e → CellPasses b w node log o o2 (cell_next c)
  cell_passes (plan.Window s) (at_window h es out r n) st inboxes before = window_cell s h es out r n st inboxes
  cell_passes (plan.Window s) (at_unary r i out n) st inboxes before = absurd st.runs
  cell_passes (plan.Window s) (at_join r u l m out n x y) st inboxes before = absurd st.runs
  cell_passes (plan.Select i cs) (at_window h es out r n) st inboxes before = absurd st.runs
  cell_passes (plan.Select i cs) (at_unary r t out n) st inboxes before =
      let run : RunsSelect cs o log r = st.runs in
      between_passes b w (plan.Select i cs) log o o2 n (one_before d.values t d.bag n d.opens b r (run.queue ∙ none_left inboxes.left) st.good.edge before) tt inboxes.left inboxes.right p (quiet_by n state.Nothing run.state (λ h. h))
  cell_passes (plan.Select i cs) (at_join r u l m out n x y) st inboxes before = absurd st.runs
  cell_passes (plan.Join i j ks) (at_window h es out r n) st inboxes before = absurd st.runs
  cell_passes (plan.Join i j ks) (at_unary r t out n) st inboxes before = absurd st.runs
  cell_passes (plan.Join i j ks) (at_join r u l m out n x y) st inboxes before =
      let run : RunsJoin ks o log r u l m x y = st.runs in
      let at : (past x n ≡ d.opens) × _ = Leads-empty (subst (λ z. Leads d.values l (past x n) z d.bag d.opens) (run.left_queue ∙ none_left inboxes.left) st.good.left_edge) in
      between_passes b w (plan.Join i j ks) log o o2 n (past_least x n d.opens b at.0 before.0) tt inboxes.left inboxes.right p (quiet_by n (state.Join run.held) run.state (λ h. h))
  cell_passes (plan.Project i cs) (at_window h es out r n) st inboxes before = absurd st.runs
  cell_passes (plan.Project i cs) (at_unary r t out n) st inboxes before =
      let run : RunsProject cs o log r = st.runs in
      between_passes b w (plan.Project i cs) log o o2 n (one_before d.values t d.bag n d.opens b r (run.queue ∙ none_left inboxes.left) st.good.edge before) tt inboxes.left inboxes.right p (quiet_by n state.Nothing run.state (λ h. h))
  cell_passes (plan.Project i cs) (at_join r u l m out n x y) st inboxes before = absurd st.runs
  cell_passes (plan.Group i by items) (at_window h es out r n) st inboxes before = absurd st.runs
  cell_passes (plan.Group i by items) (at_unary r t out n) st inboxes before =
      let run : RunsGroup by items o log r t out = st.runs in
      between_passes b w (plan.Group i by items) log o o2 n (one_before d.values t d.bag n d.opens b r (run.queue ∙ none_left inboxes.left) st.good.edge before) tt inboxes.left inboxes.right p (quiet_by n (state.Groups run.held) run.state (λ h. h))
  cell_passes (plan.Group i by items) (at_join r u l m out n x y) st inboxes before = absurd st.runs
  cell_passes (plan.Distinct i) (at_window h es out r n) st inboxes before = absurd st.runs
  cell_passes (plan.Distinct i) (at_unary r t out n) st inboxes before =
      let run : RunsDistinct (Rattle.laws_queries.specs.Widths.width_at ws k) o log r t out = st.runs in
      between_passes b w (plan.Distinct i) log o o2 n (one_before d.values t d.bag n d.opens b r (run.queue ∙ none_left inboxes.left) st.good.edge before) tt inboxes.left inboxes.right p (quiet_by n (state.Groups run.held) run.state (λ h. h))
  cell_passes (plan.Distinct i) (at_join r u l m out n x y) st inboxes before = absurd st.runs
  cell_passes (plan.ToStream i op) c st inboxes before = absurd st.runs

closed_at : (b : ℕ) (w : World) (node : plan.Node) (s : ℕ) → node ≡ plan.Window s → ClosedTo b w node → b ≤ w.closed s
closed_at b w node s e h = subst (ClosedTo b w) e h

same_root : (s t : root.State) → state.Root s ≡ state.Root t → s ≡ t
same_root s t e = cc e

-- ALL OPERATORS, one after the other
module _ (vs ws : List ℕ) (m : Machine) (q : Registered) (rooms : PlanHasRoom m q) (os os2 : List PlainOperator) (given : List (ℕ × Row)) (b : ℕ) (r : IsRunning vs ws m q os given) (h : QueryPasses m q b os os2) where
  planned : Planned (world_of m q) (net_of q.nodes) (below_root q.nodes) (value_of m q) (least_of m q)
  planned = query_planned vs m q r.stands.plan r.stands.wide

  stands_at : (k : ℕ) → k < below_root q.nodes → Stands (world_of m q) ws q.nodes k (node_at q k) (operator_at os k) (log_at m q k) (r.cells k) (input_of (value_of m q) r.cells (left_of (net_of q.nodes k))) (input_of (value_of m q) r.cells (right_of (net_of q.nodes k)))
  stands_at k kc = let a : RunsAt ws m q k (operator_at os k) (r.cells k) = r.inner k kc in record { runs = a.runs; wide = a.wide; few = a.few; good = r.good.good k kc; room = rooms r.cells k kc }

  within : (z k : ℕ) → k < z → k < below_root q.nodes → CellPasses b (world_of m q) (node_at q k) (log_at m q k) (operator_at os k) (operator_at os2 k) (cell_next (r.cells k))
  within zero k l kc = absurd (omega (arith, l))
  within (suc z) k l kc =
      cell_passes b (world_of m q) ws q q.nodes k (operator_at os k) (operator_at os2 k) (log_at m q k) _ _ (h.below k kc) (node_at q k) (r.cells k) (stands_at k kc) (r.inner k kc).inboxes
      (inputs_before b (value_of m q) r.cells k (net_of q.nodes k) (planned.rises k kc) (λ x xk. (within z x (omega (arith, xk, l)) (omega (arith, xk, kc))).before))

  at : (k : ℕ) → k < below_root q.nodes → CellPasses b (world_of m q) (node_at q k) (log_at m q k) (operator_at os k) (operator_at os2 k) (cell_next (r.cells k))
  at k kc = within (suc k) k (omega arith) kc

  abbrev top : ℕ
  top = below_root q.nodes

  some : 0 < top
  some = (query_laid vs m q r.stands.plan r.stands.wide).some

  -- the root
  plan_is : Shaped (world_of m q).closed q.meaning q.nodes
  plan_is = shaped vs m q r.stands.plan r.stands.wide

  root_fed : (node : plan.Node) → node ≡ plan.ToStream (length q.nodes - 2) q.meaning.operator → IsLeftInbox q (log_at m q top) node (operator_at os top).left → is_fed (operator_at os top).left ≡ true
  root_fed node e l = subst (λ z. IsLeftInbox q (log_at m q top) z (operator_at os top).left) e l

  fed_left : is_fed (operator_at os top).left ≡ true
  fed_left = root_fed (node_at q top) plan_is.root r.last.inboxes.left

  root_none : (waiting (operator_at os top) (log_at m q top) Left ≡ []) × ((operator_at os2 top).left ≡ (operator_at os top).left)
  root_none = empty_between b 0 (log_at m q top) (operator_at os top).left (operator_at os2 top).left fed_left h.root.left

  behind : r.good.root.opens < b
  behind = one_before (value_of m q (top - 1)) r.good.root.whole (cell_shown (r.cells (top - 1))) r.good.root.opens (cell_next (r.cells (top - 1))) b r.queue (r.last.runs.queue ∙ root_none.0) r.good.root.edge (at (top - 1) (omega (arith, some))).before

  held_is : h.root.held ≡ r.held
  held_is = same_root h.root.held r.held (sym h.root.is ∙ r.last.runs.state)

  root_passes : RootPasses b r.good.root.opens (log_at m q top) r.held (operator_at os top) (operator_at os2 top)
  root_passes = record {
    kind = h.root.kind;
    state = subst (λ s. (operator_at os2 top).state ≡ state.Root (root.ticked s (b - 1))) held_is h.root.state;
    still = subst (λ s. s.delta ≡ record { entered = []; left = [] }) held_is h.root.still;
    silent = subst (λ s. root.shown s.operator s.delta s.whole ≡ []) held_is h.root.silent;
    left = side_still b r.good.root.opens (log_at m q top) (operator_at os top).left (operator_at os2 top).left (omega (arith, behind)) fed_left root_none.0 root_none.1;
    right = ap is_fed h.root.right;
  }

  cells_pass : CellsPass vs ws m q os os2 given b r
  cells_pass = record {
    many = h.many;
    closed = λ k s kc e. closed_at b (world_of m q) (node_at q k) s e (at k kc).closed;
    each = λ k kc. inr ((at k kc).before, (at k kc).passes);
    behind = behind;
    root = root_passes;
  }

-- A QUERY THAT PASSES INSTANTS runs on
pub query_runs_on : (vs ws : List ℕ) (m : Machine) (q : Registered) → IsBounded vs m q → (os os2 : List PlainOperator) (given : List (ℕ × Row)) (b : ℕ) → IsRunning vs ws m q os given → QueryPasses m q b os os2 → IsRunning vs ws m q os2 given
query_runs_on vs ws m q bounded os os2 given b r h = bounded_passes vs ws m q bounded os os2 given b r (cells_pass vs ws m q (plan_has_room vs m q bounded) os os2 given b r h)
