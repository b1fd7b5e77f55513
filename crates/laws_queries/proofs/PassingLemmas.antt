-- Where instants go by at which a query has nothing to do, it runs on.
use Rattle.std.proofs.Common.{◌≡◌, ℕ, ◌+◌, ◌-◌, ◌<◌, ◌≤◌, ◌^◌, ◌⊎◌, ⊎_elim, Bool, false, cond, nat_lt, List, [], length, refl, sym, ap, ◌∙◌, subst, subst₂, arith, lt-ltb}
use Rattle.std.proofs.lemmas.Bool.{le-ltb}
use Rattle.values.specs.Row.{Row, row_cmp}
use Rattle.values.specs.Window.{Element, Window, window_rows}
use Rattle.values.specs.Bag.{distinct}
use Rattle.values.specs.Condition.{SourceColumn, Condition}
use Rattle.values.specs.Relation.{ListItem, Grouped}
use Rattle.column.specs.declared.batch.Side.TheVariants.{Left, Right}
use Rattle.op_queue.specs.Entries.{Entry}
use Rattle.op_queue.specs.Logs.{Closed}
use Rattle.op_queue.specs.Signed.{weigh, Same}
use Rattle.op_queue.proofs.SignedLemmas.{Same-sym, Same-trans}
use Rattle.windows.specs.Laws as laws
use Rattle.windows.specs.Laws.{PassesTicks, rows_in_order}
use Rattle.windows.proofs.WindowLaw.{passes_ticks}
use Rattle.group.specs.Groups.{grouped}
use Rattle.group.proofs.DistinctLemmas.{distinct_law}
use Rattle.plan.specs.Nodes as plan
use Rattle.plan.specs.Values.{shaped_rows}
use Rattle.reference.specs.Machine.{Machine, Registered}
use Rattle.to_stream.specs.Turns as root
use Rattle.operators.specs.Inboxes.{IsInboxWithin, ReadsOn, is_fed}
use Rattle.operators.specs.Operators.{Belongs}
use Rattle.operators.specs.Ready.{PlainOperator, waiting}
use Rattle.operators.specs.declared.inboxes.Inbox.{Inbox}
use Rattle.operators.specs.declared.inboxes.Inbox.TheVariants.{First, Between}
use Rattle.operators.specs.declared.states.State.{State}
use Rattle.operators.specs.declared.states.State.TheVariants as state
use Rattle.laws_dataflow.specs.Windows.{GoodWindow}
use Rattle.laws_dataflow.specs.Laws.{IsGood}
use Rattle.laws_dataflow.specs.Nets.{World, Cell, Input, at_window, at_unary, at_join, cell_next, left_of, right_of, input_of, past}
use Rattle.laws_dataflow.specs.Operators.{net_of, node_of, selecting, listing, grouping, once}
use Rattle.laws_dataflow.specs.Passes.{Clears, reached, ended, ticked, Passes, stays, window_passes, unary_passes, join_passes}
use Rattle.laws_dataflow.specs.Plans.{least_of, value_of, world_of}
use Rattle.laws_dataflow.specs.Roots.{below_root}
use Rattle.laws_dataflow.proofs.AnswerLemmas.{query_laid, query_planned}
use Rattle.laws_dataflow.proofs.PassLemmas.{query_passes}
use Rattle.laws_dataflow.proofs.QuietLemmas.{group_quiet, root_moved, root_silent, shows_held}
use Rattle.laws_queries.specs.Runs.{Runs, RunsGroup, RunsDistinct, RunsJoin, RunsProject, RunsSelect, RunsWindow, WindowStands, shown_by}
use Rattle.laws_queries.specs.Widths.{AreEntries, AreRows, IsBothWide, IsGroupWide, IsJoinWide, IsKindWide, IsOnceWide, IsOneWide, IsSideWide, IsStateWide, IsWide, IsWindowWide, width_at}
use Rattle.laws_queries.specs.Counts.{AreFew, StaysWithin, count, most_rows, tick_rows}
use Rattle.laws_queries.specs.Passing.{IsQuiet, passed_state}
use Rattle.laws_queries.specs.PassingCells.{CellsPass, OperatorPasses, RootPasses, left_at, right_at}
use Rattle.laws_queries.specs.Queries.{HasInboxes, IsLeftInbox, IsRunning, Reads, RunsAt}
use Rattle.laws_queries.specs.Queries.{RunsAtRoot}
use Rattle.laws_queries.specs.Plain.{log_at, node_at, operator_at, place_of}
use Rattle.laws_queries.specs.Steps.{Stands}
use Rattle.laws_queries.proofs.CountLemmas.{stays_now}

-- QUEUES
clears_entries : (w b n : ℕ) (q r : List (Entry Row)) → Clears b n q r → AreEntries w q → AreEntries w r
clears_entries w b n q r (reached k p h) a = a
clears_entries w b n q r (ended k h) a = a
clears_entries w b n q r (ticked k p s h c) a = clears_entries w b (k + 1) p r c a

pub clears_within : (most k b n : ℕ) (q r : List (Entry Row)) → Clears b n q r → StaysWithin most k q → StaysWithin most k r
clears_within most k b n q r (reached j p h) a = a
clears_within most k b n q r (ended j h) a = a
clears_within most k b n q r (ticked j p s h c) a = clears_within most k b (j + 1) p r c a.1

side_wide : (w b n : ℕ) (rows : List Row) (q r : List (Entry Row)) → Clears b n q r → IsSideWide w rows q → IsSideWide w rows r
side_wide w b n rows q r c s = record { taken = s.taken; queue = clears_entries w b n q r c s.queue }

-- THE OPERATOR has gone on, and stands for the cell that the net has then
pub record Passed (b : ℕ) (w : World) (ws : List ℕ) (ns : List plan.Node) (k : ℕ) (node : plan.Node) (o2 : PlainOperator) (log : Closed) (c c2 : Cell) : Type 0 where
  pub passes : Passes w b (node_of node) c c2
  pub runs : Runs w (width_at ws k) node o2 log c2
  pub wide : IsWide ws k node o2 c2
  pub few : AreFew w ns node c2

-- WINDOWS
record WindowPassed (first : ℕ) (win : Window) (n b : ℕ) (st : State) (held : List Element) : Type 0 where
  still : (t : ℕ) → n ≤ t → t < b → Same (shown_by st held) (window_rows first win t held)
  stands : WindowStands first win b st held
  same : passed_state st ≡ st

window_state : (first : ℕ) (win : Window) (n b : ℕ) (st : State) (held : List Element) → n ≤ b → WindowStands first win n st held → IsQuiet n b st → WindowPassed first win n b st held
window_state first win n b (state.Window s) held le h z =
    let passes : PassesTicks first n b s held = passes_ticks first s n b held le h.1 z in
    record {
      still = λ t x y. subst (λ v. Same (laws.shown_by s held) (window_rows first v t held)) (sym h.0) (passes.still t x y);
      stands = (h.0, passes.stands);
      same = refl;
    }
window_state first win n b state.Nothing held le h z = absurd h
window_state first win n b (state.Join s) held le h z = absurd h
window_state first win n b (state.Groups s) held le h z = absurd h
window_state first win n b (state.Root s) held le h z = absurd h

-- a window's sides stand where it stands
pub window_at : (first : ℕ) (win : Window) (m n : ℕ) (st : State) (held : List Element) → WindowStands first win m st held → left_at st n ≡ n
window_at first win m n (state.Window s) held h = refl
window_at first win m n state.Nothing held h = absurd h
window_at first win m n (state.Join s) held h = absurd h
window_at first win m n (state.Groups s) held h = absurd h
window_at first win m n (state.Root s) held h = absurd h

module _ (b : ℕ) (w : World) (ws : List ℕ) (ns : List plan.Node) (k : ℕ) (o o2 : PlainOperator) (log : Closed) (d e : Input) (n : ℕ) (lt : n < b) (p : OperatorPasses b n log o o2) where
  window_passed : (s : ℕ) (h es : List Element) (out : List Row) (q : List (Entry Row)) → b ≤ w.closed s → Stands w ws ns k (plan.Window s) o log (at_window h es out q n) d e
      → Passed b w ws ns k (plan.Window s) o2 log (at_window h es out q n) (at_window h es out (waiting o2 log Left) b)
  window_passed s h es out q lc st =
      let run : RunsWindow w.first (w.windows s) o log h out q n = st.runs in
      let wide : IsWindowWide (width_at ws k) o h q = st.wide in
      let good : GoodWindow w.first (w.windows s) (w.inputs s) (w.closed s) h es n q = st.good in
      let z : WindowPassed w.first (w.windows s) n b o.state h = window_state w.first (w.windows s) n b o.state h (omega (arith, lt)) run.stands p.quiet in
      let clears : Clears b n q (waiting o2 log Left) = subst₂ (λ i x. Clears b i x (waiting o2 log Left)) (window_at w.first (w.windows s) n n o.state h run.stands) (sym run.queue) p.left.clears in
      let is : o2.state ≡ o.state = p.state ∙ z.same in
      record {
        passes = window_passes s n h es out q (waiting o2 log Left) lt lc clears
            (λ t x y. subst (λ l. Same l (window_rows w.first (w.windows s) t (w.inputs s))) (sym run.shows)
            (Same-trans (z.still t x y) (Same-sym (shows_held w.first (w.windows s) (w.inputs s) (w.closed s) h es n b q (waiting o2 log Left) (omega (arith, lt)) lc clears good t x y))));
        runs = record {
          kind = subst₂ Belongs (sym p.kind) (sym is) run.kind;
          stands = subst (λ v. WindowStands w.first (w.windows s) b v h) (sym is) z.stands;
          shows = run.shows ∙ ap (λ v. shown_by v h) (sym is);
          queue = refl;
        };
        wide = record { state = subst (IsStateWide (width_at ws k)) (sym is) wide.state; some = wide.some; side = side_wide (width_at ws k) b n (rows_in_order h) q (waiting o2 log Left) clears wide.side };
        few = st.few;
      }

  -- OPERATORS WITH ONE INPUT
  one_clears : (st : State) (q : List (Entry Row)) → o.state ≡ st → left_at st n ≡ n → q ≡ waiting o log Left → Clears b n q (waiting o2 log Left)
  one_clears st q is at e = subst₂ (λ i x. Clears b i x (waiting o2 log Left)) (ap (λ v. left_at v n) is ∙ at) (sym e) p.left.clears

  one_wide : (i : ℕ) (t : List Row) (q : List (Entry Row)) → Clears b n q (waiting o2 log Left) → IsOneWide (width_at ws i) (width_at ws k) o t q → IsOneWide (width_at ws i) (width_at ws k) o2 t (waiting o2 log Left)
  one_wide i t q c h = record { kind = subst (IsKindWide (width_at ws i) (width_at ws k)) (sym p.kind) h.kind; narrow = h.narrow; side = side_wide (width_at ws i) b n t q (waiting o2 log Left) c h.side }

  select_passed : (i : ℕ) (cs : List Condition) (t out : List Row) (q : List (Entry Row)) → Stands w ws ns k (plan.Select i cs) o log (at_unary q t out n) d e
      → Passed b w ws ns k (plan.Select i cs) o2 log (at_unary q t out n) (at_unary (waiting o2 log Left) t out b)
  select_passed i cs t out q st =
      let run : RunsSelect cs o log q = st.runs in
      let clears : Clears b n q (waiting o2 log Left) = one_clears state.Nothing q run.state refl run.queue in
      record {
        passes = unary_passes (selecting cs) i n t out q (waiting o2 log Left) lt clears (st.good.shows refl);
        runs = record { steps = run.steps; kind = p.kind ∙ run.kind; state = p.state ∙ ap passed_state run.state; tell = run.tell; queue = refl };
        wide = one_wide i t q clears st.wide;
        few = clears_within (most_rows ns i) (count t) b n q (waiting o2 log Left) clears st.few;
      }

  project_passed : (i : ℕ) (columns : List SourceColumn) (t out : List Row) (q : List (Entry Row)) → Stands w ws ns k (plan.Project i columns) o log (at_unary q t out n) d e
      → Passed b w ws ns k (plan.Project i columns) o2 log (at_unary q t out n) (at_unary (waiting o2 log Left) t out b)
  project_passed i columns t out q st =
      let run : RunsProject columns o log q = st.runs in
      let clears : Clears b n q (waiting o2 log Left) = one_clears state.Nothing q run.state refl run.queue in
      record {
        passes = unary_passes (listing (Rattle.values.specs.Relation.Listed columns)) i n t out q (waiting o2 log Left) lt clears (st.good.shows refl);
        runs = record { places = run.places; kind = p.kind ∙ run.kind; state = p.state ∙ ap passed_state run.state; listed = run.listed; queue = refl };
        wide = one_wide i t q clears st.wide;
        few = clears_within (most_rows ns i) (count t) b n q (waiting o2 log Left) clears st.few;
      }

  -- GROUPS, none of which was touched
  touched_none : (s : Rattle.group.specs.Turns.GroupState) → o.state ≡ state.Groups s → s.touched ≡ []
  touched_none s is = subst (IsQuiet n b) is p.quiet

  group_passed : (i : ℕ) (by : List SourceColumn) (items : List ListItem) (t out : List Row) (q : List (Entry Row)) → Stands w ws ns k (plan.Group i by items) o log (at_unary q t out n) d e
      → Passed b w ws ns k (plan.Group i by items) o2 log (at_unary q t out n) (at_unary (waiting o2 log Left) t out b)
  group_passed i by items t out q st =
      let run : RunsGroup by items o log q t out = st.runs in
      let wide : IsGroupWide (width_at ws i) (width_at ws k) o t out q = st.wide in
      let few : StaysWithin (most_rows ns i) (count t) q × (count out ≤ Rattle.std.specs.Prelude.max 1 (tick_rows ns i)) = st.few in
      let clears : Clears b n q (waiting o2 log Left) = one_clears (state.Groups run.held) q run.state refl run.queue in
      let bound : weigh (λ x. 1) t ≤ 2 ^ 62 = omega (arith, stays_now q few.0, st.room.always i) in
      let shows : Same out (grouped run.held.group t) = group_quiet run.held out t run.stands bound (touched_none run.held run.state) in
      record {
        passes = unary_passes (grouping (Grouped by items)) i n t out q (waiting o2 log Left) lt clears (subst₂ (λ x y. Same out (shaped_rows (Grouped x y) t)) (sym run.keyed) (sym run.listed) shows);
        runs = record { held = run.held; kind = p.kind ∙ run.kind; state = p.state ∙ ap passed_state run.state; keyed = run.keyed; listed = run.listed; stands = run.stands; few = run.few; queue = refl };
        wide = record { one = one_wide i t q clears wide.one; puts = wide.puts };
        few = (clears_within (most_rows ns i) (count t) b n q (waiting o2 log Left) clears few.0, few.1);
      }

  distinct_passed : (i : ℕ) (t out : List Row) (q : List (Entry Row)) → Stands w ws ns k (plan.Distinct i) o log (at_unary q t out n) d e
      → Passed b w ws ns k (plan.Distinct i) o2 log (at_unary q t out n) (at_unary (waiting o2 log Left) t out b)
  distinct_passed i t out q st =
      let run : RunsDistinct (width_at ws k) o log q t out = st.runs in
      let wide : IsOnceWide (width_at ws i) (width_at ws k) o t out q = st.wide in
      let few : StaysWithin (most_rows ns i) (count t) q × (count out ≤ tick_rows ns i) = st.few in
      let clears : Clears b n q (waiting o2 log Left) = one_clears (state.Groups run.held) q run.state refl run.queue in
      let bound : weigh (λ x. 1) t ≤ 2 ^ 62 = omega (arith, stays_now q few.0, st.room.always i) in
      let rows : AreRows (width_at ws k) t = subst (λ c. AreRows c t) wide.same wide.group.one.side.taken in
      let once_is : grouped run.held.group t ≡ distinct row_cmp t = ap (λ h. grouped h t) run.all ∙ distinct_law (width_at ws k) t run.some (λ j x less. (rows j x less).wide) in
      let shows : Same out (distinct row_cmp t) = subst (λ l. Same out l) once_is (group_quiet run.held out t run.stands bound (touched_none run.held run.state)) in
      record {
        passes = unary_passes once i n t out q (waiting o2 log Left) lt clears shows;
        runs = record { held = run.held; kind = p.kind ∙ run.kind; state = p.state ∙ ap passed_state run.state; all = run.all; some = run.some; stands = run.stands; few = run.few; queue = refl };
        wide = record { group = record { one = one_wide i t q clears wide.group.one; puts = wide.group.puts }; same = wide.same };
        few = (clears_within (most_rows ns i) (count t) b n q (waiting o2 log Left) clears few.0, few.1);
      }

  -- JOINS: ticks of both sides go by
  join_passed : (i j : ℕ) (keys : List plan.Key) (l m out : List Row) (q r : List (Entry Row)) (x y : Bool) → Stands w ws ns k (plan.Join i j keys) o log (at_join q r l m out n x y) d e
      → Passed b w ws ns k (plan.Join i j keys) o2 log (at_join q r l m out n x y) (at_join (waiting o2 log Left) (waiting o2 log Right) l m out b false false)
  join_passed i j keys l m out q r x y st =
      let run : RunsJoin keys o log q r l m x y = st.runs in
      let wide : IsBothWide (width_at ws i) (width_at ws j) (width_at ws k) o l m q r = st.wide in
      let is : o2.state ≡ state.Join (Rattle.join.specs.Turns.with_marks run.held false false) = p.state ∙ ap passed_state run.state in
      let left : Clears b (past x n) q (waiting o2 log Left) = subst₂ (λ a z. Clears b a z (waiting o2 log Left)) (ap (λ v. left_at v n) run.state ∙ ap (λ v. past v n) run.left_ticked) (sym run.left_queue) p.left.clears in
      let right : Clears b (past y n) r (waiting o2 log Right) = subst₂ (λ a z. Clears b a z (waiting o2 log Right)) (ap (λ v. right_at v n) run.state ∙ ap (λ v. past v n) run.right_ticked) (sym run.right_queue) p.right.clears in
      let sizes : IsJoinWide (width_at ws i) (width_at ws j) (state.Join run.held) = subst (IsJoinWide (width_at ws i) (width_at ws j)) run.state wide.state in
      let few : StaysWithin (most_rows ns i) (count l) q × StaysWithin (most_rows ns j) (count m) r = st.few in
      record {
        passes = join_passes (Rattle.laws_dataflow.specs.Operators.joining keys) i j n l m out q (waiting o2 log Left) r (waiting o2 log Right) x y lt left right;
        runs = record {
          held = Rattle.join.specs.Turns.with_marks run.held false false;
          kind = p.kind ∙ run.kind;
          state = is;
          meets = run.meets;
          stands = record { left = record { rows = run.stands.left.rows; wide = run.stands.left.wide }; right = record { rows = run.stands.right.rows; wide = run.stands.right.wide } };
          left_ticked = refl;
          right_ticked = refl;
          left_queue = refl;
          right_queue = refl;
        };
        wide = record {
          state = subst (IsJoinWide (width_at ws i) (width_at ws j)) (sym is) (sizes.0, sizes.1);
          sum = wide.sum;
          narrow = wide.narrow;
          left = side_wide (width_at ws i) b (past x n) l q (waiting o2 log Left) left wide.left;
          right = side_wide (width_at ws j) b (past y n) m r (waiting o2 log Right) right wide.right;
        };
        few = (clears_within (most_rows ns i) (count l) b (past x n) q (waiting o2 log Left) left few.0, clears_within (most_rows ns j) (count m) b (past y n) r (waiting o2 log Right) right few.1);
      }

-- ANY OPERATOR below the root
abbrev pub passed_cell : ℕ → PlainOperator → Closed → Cell → Cell
passed_cell b o2 log (at_window h es out q n) = at_window h es out (waiting o2 log Left) b
passed_cell b o2 log (at_unary q t out n) = at_unary (waiting o2 log Left) t out b
passed_cell b o2 log (at_join q r l m out n x y) = at_join (waiting o2 log Left) (waiting o2 log Right) l m out b false false

operator_passed : (b : ℕ) (w : World) (ws : List ℕ) (ns : List plan.Node) (k : ℕ) (node : plan.Node) (o o2 : PlainOperator) (log : Closed) (c : Cell) (d e : Input) → cell_next c < b → ((s : ℕ) → node ≡ plan.Window s → b ≤ w.closed s)
    → OperatorPasses b (cell_next c) log o o2 → Stands w ws ns k node o log c d e → Passed b w ws ns k node o2 log c (passed_cell b o2 log c)
operator_passed b w ws ns k (plan.Window s) o o2 log (at_window h es out q n) d e lt cl p st = window_passed b w ws ns k o o2 log d e n lt p s h es out q (cl s refl) st
operator_passed b w ws ns k (plan.Window s) o o2 log (at_unary q t out n) d e lt cl p st = absurd st.runs
operator_passed b w ws ns k (plan.Window s) o o2 log (at_join q r l m out n x y) d e lt cl p st = absurd st.runs
operator_passed b w ws ns k (plan.Select i cs) o o2 log (at_window h es out q n) d e lt cl p st = absurd st.runs
operator_passed b w ws ns k (plan.Select i cs) o o2 log (at_unary q t out n) d e lt cl p st = select_passed b w ws ns k o o2 log d e n lt p i cs t out q st
operator_passed b w ws ns k (plan.Select i cs) o o2 log (at_join q r l m out n x y) d e lt cl p st = absurd st.runs
operator_passed b w ws ns k (plan.Join i j ks) o o2 log (at_window h es out q n) d e lt cl p st = absurd st.runs
operator_passed b w ws ns k (plan.Join i j ks) o o2 log (at_unary q t out n) d e lt cl p st = absurd st.runs
operator_passed b w ws ns k (plan.Join i j ks) o o2 log (at_join q r l m out n x y) d e lt cl p st = join_passed b w ws ns k o o2 log d e n lt p i j ks l m out q r x y st
operator_passed b w ws ns k (plan.Project i cs) o o2 log (at_window h es out q n) d e lt cl p st = absurd st.runs
operator_passed b w ws ns k (plan.Project i cs) o o2 log (at_unary q t out n) d e lt cl p st = project_passed b w ws ns k o o2 log d e n lt p i cs t out q st
operator_passed b w ws ns k (plan.Project i cs) o o2 log (at_join q r l m out n x y) d e lt cl p st = absurd st.runs
operator_passed b w ws ns k (plan.Group i by items) o o2 log (at_window h es out q n) d e lt cl p st = absurd st.runs
operator_passed b w ws ns k (plan.Group i by items) o o2 log (at_unary q t out n) d e lt cl p st = group_passed b w ws ns k o o2 log d e n lt p i by items t out q st
operator_passed b w ws ns k (plan.Group i by items) o o2 log (at_join q r l m out n x y) d e lt cl p st = absurd st.runs
operator_passed b w ws ns k (plan.Distinct i) o o2 log (at_window h es out q n) d e lt cl p st = absurd st.runs
operator_passed b w ws ns k (plan.Distinct i) o o2 log (at_unary q t out n) d e lt cl p st = distinct_passed b w ws ns k o o2 log d e n lt p i t out q st
operator_passed b w ws ns k (plan.Distinct i) o o2 log (at_join q r l m out n x y) d e lt cl p st = absurd st.runs
operator_passed b w ws ns k (plan.ToStream i op) o o2 log c d e lt cl p st = absurd st.runs

-- WHERE IT READS
reads_on : (place first : ℕ) (log : Closed) (i i2 : Inbox) → ReadsOn log i i2 → Reads place first log i → Reads place first log i2
reads_on place first log (First c) (First d) g r = (g.place ∙ r.0, g.next ∙ r.1)
reads_on place first log (First c) (Between u) g r = absurd g
reads_on place first log (Between u) i2 g r = absurd r

left_inbox : (q : Registered) (log : Closed) (node : plan.Node) (i i2 : Inbox) → ReadsOn log i i2 → is_fed i2 ≡ is_fed i → IsInboxWithin i2 log → IsLeftInbox q log node i → IsLeftInbox q log node i2
left_inbox q log (plan.Window s) i i2 g f within h = (h.0, reads_on (place_of q s).arrivals q.first log i i2 g h.1, within)
left_inbox q log (plan.Select j cs) i i2 g f within h = f ∙ h
left_inbox q log (plan.Join j k ks) i i2 g f within h = f ∙ h
left_inbox q log (plan.Project j cs) i i2 g f within h = f ∙ h
left_inbox q log (plan.Group j by items) i i2 g f within h = f ∙ h
left_inbox q log (plan.Distinct j) i i2 g f within h = f ∙ h
left_inbox q log (plan.ToStream j op) i i2 g f within h = f ∙ h

-- THE QUERY runs on, with the answers that it had given
pub passes_run : (vs ws : List ℕ) (m : Machine) (q : Registered) (rooms : Rattle.laws_queries.specs.Rooms.PlanHasRoom m q) (os os2 : List PlainOperator) (given : List (ℕ × Row)) (b : ℕ) (r : IsRunning vs ws m q os given)
    → length os2 ≡ length os
    → ((k s : ℕ) → k < below_root q.nodes → node_at q k ≡ plan.Window s → b ≤ (world_of m q).closed s)
    → ((k : ℕ) → k < below_root q.nodes → ((b ≤ cell_next (r.cells k)) × (operator_at os2 k ≡ operator_at os k)) ⊎ ((cell_next (r.cells k) < b) × OperatorPasses b (cell_next (r.cells k)) (log_at m q k) (operator_at os k) (operator_at os2 k)))
    → r.good.root.opens < b → RootPasses b r.good.root.opens (log_at m q (below_root q.nodes)) r.held (operator_at os (below_root q.nodes)) (operator_at os2 (below_root q.nodes))
    → IsRunning vs ws m q os2 given
passes_run vs ws m q rooms os os2 given b r many closed each lt root_on = record {
  stands = r.stands;
  many = many ∙ r.many;
  cells = cells2;
  held = held2;
  queue = queue2;
  good = went.0;
  inner = inner2;
  last = last2;
}
  where
    top : ℕ
    top = below_root q.nodes

    held2 : root.State
    held2 = root.ticked r.held (b - 1)

    queue2 : List (Entry Row)
    queue2 = waiting (operator_at os2 top) (log_at m q top) Left

    cells2 : ℕ → Cell
    cells2 k = cond (nat_lt (cell_next (r.cells k)) b) (passed_cell b (operator_at os2 k) (log_at m q k) (r.cells k)) (r.cells k)

    stands_at : (k : ℕ) → k < top → Stands (world_of m q) ws q.nodes k (node_at q k) (operator_at os k) (log_at m q k) (r.cells k) (input_of (value_of m q) r.cells (left_of (net_of q.nodes k))) (input_of (value_of m q) r.cells (right_of (net_of q.nodes k)))
    stands_at k kc = let a : RunsAt ws m q k (operator_at os k) (r.cells k) = r.inner k kc in record { runs = a.runs; wide = a.wide; few = a.few; good = r.good.good k kc; room = rooms r.cells k kc }

    at : (k : ℕ) → k < top → Passes (world_of m q) b (net_of q.nodes k) (r.cells k) (cells2 k) × RunsAt ws m q k (operator_at os2 k) (cells2 k)
    at k kc = ⊎_elim
        (λ h. let e : cells2 k ≡ r.cells k = ap (λ x. cond x (passed_cell b (operator_at os2 k) (log_at m q k) (r.cells k)) (r.cells k)) (le-ltb (cell_next (r.cells k)) b h.0) in (
          subst (λ c. Passes (world_of m q) b (net_of q.nodes k) (r.cells k) c) (sym e) (stays (net_of q.nodes k) (r.cells k) h.0),
          subst₂ (λ o c. RunsAt ws m q k o c) (sym h.1) (sym e) (r.inner k kc),
        ))
        (λ h. let e : cells2 k ≡ passed_cell b (operator_at os2 k) (log_at m q k) (r.cells k) = ap (λ x. cond x (passed_cell b (operator_at os2 k) (log_at m q k) (r.cells k)) (r.cells k)) (lt-ltb (cell_next (r.cells k)) b h.0) in
        let made = operator_passed b (world_of m q) ws q.nodes k (node_at q k) (operator_at os k) (operator_at os2 k) (log_at m q k) (r.cells k) _ _ h.0 (λ s z. closed k s kc z) h.1 (stands_at k kc) in
        let in_was : HasInboxes q (log_at m q k) (node_at q k) (operator_at os k) = (r.inner k kc).inboxes in (
          subst (λ c. Passes (world_of m q) b (net_of q.nodes k) (r.cells k) c) (sym e) made.passes,
          subst (λ c. RunsAt ws m q k (operator_at os2 k) c) (sym e) (record {
            runs = made.runs;
            wide = made.wide;
            few = made.few;
            inboxes = record { left = left_inbox q (log_at m q k) (node_at q k) _ _ h.1.left.reads_on h.1.left.same h.1.left.within in_was.left; right = h.1.right.same ∙ in_was.right };
          }),
        ))
        (each k kc)

    passes : (k : ℕ) → k < top → Passes (world_of m q) b (net_of q.nodes k) (r.cells k) (cells2 k)
    passes k kc = (at k kc).0

    inner2 : (k : ℕ) → k < top → RunsAt ws m q k (operator_at os2 k) (cells2 k)
    inner2 k kc = (at k kc).1

    clears : Clears b r.good.root.opens r.queue queue2
    clears = subst (λ z. Clears b r.good.root.opens z queue2) (sym r.last.runs.queue) root_on.left.clears

    went : (h : IsGood m q cells2 held2 queue2 given) × (h.root.whole ≡ r.good.root.whole)
    went = query_passes (world_of m q) (net_of q.nodes) top (value_of m q) (least_of m q) (query_planned vs m q r.stands.plan r.stands.wide) (query_laid vs m q r.stands.plan r.stands.wide).some q.start q.earlier b r.cells cells2 passes
        r.held held2 r.queue queue2 given r.good lt clears
        (root_silent r.held r.good.root.last r.good.root.whole r.good.root.stands root_on.still root_on.silent)
        (root_moved r.held b r.good.root.last r.good.root.whole r.good.root.stands)

    last2 : RunsAtRoot ws m q (operator_at os2 top) held2 queue2 went.0.root.whole
    last2 = subst (RunsAtRoot ws m q (operator_at os2 top) held2 queue2) (sym went.1) (record {
      runs = record { kind = root_on.kind ∙ r.last.runs.kind; state = root_on.state; queue = refl };
      operator = r.last.operator;
      wide = clears_entries (width_at ws (top - 1)) b r.good.root.opens r.queue queue2 clears r.last.wide;
      few = clears_within (most_rows q.nodes (top - 1)) (count r.good.root.whole) b r.good.root.opens r.queue queue2 clears r.last.few;
      inboxes = record { left = left_inbox q (log_at m q top) (node_at q top) _ _ root_on.left.reads_on root_on.left.same root_on.left.within r.last.inboxes.left; right = root_on.right ∙ r.last.inboxes.right };
    })

-- for a query that is bounded
pub bounded_passes : (vs ws : List ℕ) (m : Machine) (q : Registered) → Rattle.laws_queries.specs.Rooms.IsBounded vs m q → (os os2 : List PlainOperator) (given : List (ℕ × Row)) (b : ℕ) (r : IsRunning vs ws m q os given)
    → CellsPass vs ws m q os os2 given b r → IsRunning vs ws m q os2 given
bounded_passes vs ws m q bounded os os2 given b r p = passes_run vs ws m q (Rattle.laws_queries.proofs.PlanCounts.plan_has_room vs m q bounded) os os2 given b r p.many p.closed p.each p.behind p.root
