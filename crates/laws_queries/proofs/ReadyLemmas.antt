-- Where no operator of a query is ready, the net is idle: the query has given all answers of the instants that are closed.
use Rattle.std.proofs.Common.{◌≡◌, ℕ, ◌-◌, ◌≤◌, ◌++◌, max, subst, Bool, true, false, not, cond, inl, inr, ◌⊎◌, Option, Some, None, List, [], ◌∷◌, length, refl, sym, ap, ◌∙◌, arith}
use Rattle.std.specs.Option.{option_map}
use Rattle.values.specs.Row.{Row}
use Rattle.values.specs.Window.{Element, Window as Told}
use Rattle.column.specs.declared.batch.Side.{Side}
use Rattle.column.specs.declared.batch.Side.TheVariants.{Left, Right}
use Rattle.op_queue.specs.Entries.{Entry, RowAt, TickAt, front_of}
use Rattle.op_queue.specs.Logs.{Closed}
use Rattle.op_queue.specs.Paths.{Leads}
use Rattle.op_queue.proofs.PathLemmas.{Leads-empty}
use Rattle.to_stream.specs.Turns as root
use Rattle.operators.specs.Ready.{PlainOperator, first_ready, front_instant, ready, ready_at, usable, waiting}
use Rattle.operators.specs.declared.states.State.{State}
use Rattle.operators.specs.declared.states.State.TheVariants as state
use Rattle.plan.specs.Nodes as plan
use Rattle.plan.specs.Nodes.{Window, Select, Join, Project, Group, Distinct, ToStream}
use Rattle.reference.specs.Machine.{Machine, Registered, closed_answers, until_for}
use Rattle.laws_dataflow.specs.Nets.{World, Cell, Planned, at_window, at_unary, at_join, IdleCell, cell_next, cell_shown}
use Rattle.laws_dataflow.specs.Operators.{net_of}
use Rattle.laws_dataflow.specs.Plans.{least_of, value_of, world_of}
use Rattle.laws_dataflow.specs.Roots.{below_root}
use Rattle.laws_dataflow.specs.Queries.{Idle}
use Rattle.laws_dataflow.proofs.AnswerLemmas.{machine_begins, machine_complete, query_least, query_planned, shaped}
use Rattle.laws_dataflow.proofs.IdleLemmas.{all_idle}
use Rattle.laws_queries.specs.Runs.{Runs, RunsRoot, WindowStands}
use Rattle.laws_queries.specs.Widths.{width_at}
use Rattle.laws_queries.specs.Queries.{IsRunning, NoneReady}
use Rattle.laws_queries.specs.Plain.{log_at, node_at, operator_at}

-- NOTHING STANDS FIRST in an empty queue alone
front_none : (es : List (Entry Row)) → option_map front_instant (front_of es) ≡ None → es ≡ []
front_none [] e = refl
front_none (RowAt t s ∷ es) e = absurd (cc)
front_none (TickAt t ∷ es) e = absurd (cc)

left_none : (a b : Option ℕ) → first_ready a b ≡ None → a ≡ None
left_none None b e = refl
left_none (Some t) b e = absurd (cc)

right_none : (a b : Option ℕ) → first_ready a b ≡ None → b ≡ None
right_none None None e = refl
right_none None (Some t) e = absurd (cc)
right_none (Some t) b e = absurd (cc)

side_none : (o : PlainOperator) (log : Closed) (side : Side) (b : Bool) → usable o.state side ≡ b → ready_at o log side ≡ None → b ≡ true → waiting o log side ≡ []
side_none o log side b e h t = front_none (waiting o log side) (sym (ap (λ z. cond z (option_map front_instant (front_of (waiting o log side))) None) (e ∙ t)) ∙ h)

-- a side that can be used has nothing
pub unready_side : (o : PlainOperator) (log : Closed) (side : Side) → ready o log ≡ None → usable o.state side ≡ true → waiting o log side ≡ []
unready_side o log Left e u = side_none o log Left (usable o.state Left) refl (left_none (ready_at o log Left) (ready_at o log Right) e) u
unready_side o log Right e u = side_none o log Right (usable o.state Right) refl (right_none (ready_at o log Left) (ready_at o log Right) e) u

left_idle : (o : PlainOperator) (log : Closed) (s : State) (q : List (Entry Row)) → o.state ≡ s → usable s Left ≡ true → q ≡ waiting o log Left → ready o log ≡ None → q ≡ []
left_idle o log s q e u is r = is ∙ unready_side o log Left r (ap (λ z. usable z Left) e ∙ u)

-- a window uses its one side
window_usable : (first : ℕ) (w : Told) (n : ℕ) (s : State) (held : List Element) → WindowStands first w n s held → usable s Left ≡ true
window_usable first w n (state.Window s) held h = refl
window_usable first w n state.Nothing held h = absurd h
window_usable first w n (state.Join s) held h = absurd h
window_usable first w n (state.Groups s) held h = absurd h
window_usable first w n (state.Root s) held h = absurd h

-- a side of a join has ticked, or has nothing
join_idle : (o : PlainOperator) (log : Closed) (side : Side) (a b : Bool) (q : List (Entry Row)) → usable o.state side ≡ not b → b ≡ a → q ≡ waiting o log side → ready o log ≡ None → (a ≡ true) ⊎ (q ≡ [])
join_idle o log side a true q u e is r = inl (sym e)
join_idle o log side a false q u e is r = inr (is ∙ unready_side o log side r u)

-- THE CELL of an operator that is not ready is idle
pub runs_idle : (w : World) (width : ℕ) (node : plan.Node) (o : PlainOperator) (log : Closed) (c : Cell) → Runs w width node o log c → ready o log ≡ None → IdleCell c
runs_idle w width (Window s) o log (at_window h e b q n) r i = r.queue ∙ unready_side o log Left i (window_usable w.first (w.windows s) n o.state h r.stands)
runs_idle w width (Window s) o log (at_unary q t b n) r i = absurd r
runs_idle w width (Window s) o log (at_join q u l m b n x y) r i = absurd r
runs_idle w width (Select j cs) o log (at_window h e b q n) r i = absurd r
runs_idle w width (Select j cs) o log (at_unary q t b n) r i = left_idle o log state.Nothing q r.state refl r.queue i
runs_idle w width (Select j cs) o log (at_join q u l m b n x y) r i = absurd r
runs_idle w width (Join j k ks) o log (at_window h e b q n) r i = absurd r
runs_idle w width (Join j k ks) o log (at_unary q t b n) r i = absurd r
runs_idle w width (Join j k ks) o log (at_join q u l m b n x y) r i = (
  join_idle o log Left x r.held.left.ticked q (ap (λ z. usable z Left) r.state) r.left_ticked r.left_queue i,
  join_idle o log Right y r.held.right.ticked u (ap (λ z. usable z Right) r.state) r.right_ticked r.right_queue i,
)
runs_idle w width (Project j columns) o log (at_window h e b q n) r i = absurd r
runs_idle w width (Project j columns) o log (at_unary q t b n) r i = left_idle o log state.Nothing q r.state refl r.queue i
runs_idle w width (Project j columns) o log (at_join q u l m b n x y) r i = absurd r
runs_idle w width (Group j by items) o log (at_window h e b q n) r i = absurd r
runs_idle w width (Group j by items) o log (at_unary q t b n) r i = left_idle o log (state.Groups r.held) q r.state refl r.queue i
runs_idle w width (Group j by items) o log (at_join q u l m b n x y) r i = absurd r
runs_idle w width (Distinct j) o log (at_window h e b q n) r i = absurd r
runs_idle w width (Distinct j) o log (at_unary q t b n) r i = left_idle o log (state.Groups r.held) q r.state refl r.queue i
runs_idle w width (Distinct j) o log (at_join q u l m b n x y) r i = absurd r
runs_idle w width (ToStream j op) o log c r i = absurd r

root_idle : (o : PlainOperator) (log : Closed) (s : root.State) (q : List (Entry Row)) → RunsRoot o log s q → ready o log ≡ None → q ≡ []
root_idle o log s q r i = left_idle o log (state.Root s) q r.state refl r.queue i

module _ (vs ws : List ℕ) (m : Machine) (q : Registered) (os : List PlainOperator) (given : List (ℕ × Row)) (r : IsRunning vs ws m q os given) where
  -- WHAT WAS GIVEN IS A BEGINNING of the answers of the instants that are closed
  pub running_begins : (rest : List (ℕ × Row)) × (closed_answers m q ≡ given ++ rest)
  running_begins = machine_begins vs m q r.stands.plan r.stands.wide r.cells r.held r.queue given r.last.operator r.good

  two : 2 ≤ length q.nodes
  two = (shaped vs m q r.stands.plan r.stands.wide).two

  -- WHERE NO OPERATOR IS READY nothing is in any queue
  running_idle : NoneReady m q os → Idle (below_root q.nodes) r.cells r.queue
  running_idle none = record {
    inner = λ k kc. runs_idle (world_of m q) (width_at ws k) (node_at q k) (operator_at os k) (log_at m q k) (r.cells k) (r.inner k kc).runs (none k (omega (arith, kc)));
    root = root_idle (operator_at os (below_root q.nodes)) (log_at m q (below_root q.nodes)) r.held r.queue r.last.runs (none (below_root q.nodes) (omega (arith, two)));
  }

  -- so what was given is all of the answers
  pub running_complete : NoneReady m q os → given ≡ closed_answers m q
  running_complete none = machine_complete vs m q r.stands.plan r.stands.wide r.cells r.held r.queue given r.last.operator (running_idle none) r.good

  -- and the root has come to the first instant that is not closed, or to its own first
  pub running_reached : NoneReady m q os → r.good.root.opens ≡ max q.first (until_for m.streams q.places)
  running_reached none =
      let top : ℕ = below_root q.nodes - 1 in
      let idle : Idle (below_root q.nodes) r.cells r.queue = running_idle none in
      let planned : Planned (world_of m q) (net_of q.nodes) (below_root q.nodes) (value_of m q) (least_of m q) = query_planned vs m q r.stands.plan r.stands.wide in
      let least : cell_next (r.cells top) ≡ least_of m q top = all_idle (world_of m q) (net_of q.nodes) (below_root q.nodes) (value_of m q) (least_of m q) r.cells planned r.good.good idle.inner top (omega (arith, two)) in
      let edge : Leads (value_of m q top) r.good.root.whole r.good.root.opens [] (cell_shown (r.cells top)) (cell_next (r.cells top)) =
      subst (λ z. Leads (value_of m q top) r.good.root.whole r.good.root.opens z (cell_shown (r.cells top)) (cell_next (r.cells top))) idle.root r.good.root.edge in
      (Leads-empty edge).0 ∙ (least ∙ query_least vs m q r.stands.plan r.stands.wide)
