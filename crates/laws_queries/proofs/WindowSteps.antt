-- The turns of windows.
use Rattle.std.proofs.Common.{◌≡◌, ℕ, ◌+◌, ◌<◌, ◌≤◌, Bool, true, false, cond, List, ◌∷◌, ◌++◌, length, refl, ap, sym, ◌∙◌, subst, subst₂, arith}
use Rattle.values.specs.Row.{Row}
use Rattle.values.specs.Window.{Element}
use Rattle.column.specs.declared.batch.Side.{Side}
use Rattle.op_queue.specs.Entries.{Entry, TickAt}
use Rattle.op_queue.specs.Items.{entries_of, item_instant}
use Rattle.op_queue.specs.Logs.{Closed}
use Rattle.op_queue.specs.declared.item.Item.{Item}
use Rattle.op_queue.specs.declared.item.Item.TheVariants.{Rows, Tick}
use Rattle.windows.specs.Laws as laws
use Rattle.windows.specs.Laws.{rows_in_order}
use Rattle.windows.specs.Windows as windows
use Rattle.windows.specs.Windows.{WindowState, width_of}
use Rattle.windows.specs.Widths.{IsItemWide}
use Rattle.windows.proofs.OutLemmas.{stands_after}
use Rattle.windows.proofs.WindowLaw.{SameWindow, next_same}
use Rattle.turn.specs.Turns.{Put, change_at, outs_at}
use Rattle.turn.specs.declared.kinds.Kind.{Kind}
use Rattle.turn.specs.declared.kinds.Kind.TheVariants as kind
use Rattle.operators.specs.Operators.{Belongs, HasNamedColumns, IsFinished}
use Rattle.operators.specs.States.{HasColumns, HasStood, IsNext, IsWindowAfter, Takes, near_of}
use Rattle.operators.specs.Ready.{PlainOperator, is_left, usable}
use Rattle.operators.specs.declared.states.State.{State}
use Rattle.operators.specs.declared.states.State.TheVariants as state
use Rattle.plan.specs.Nodes as plan
use Rattle.laws_dataflow.specs.Windows.{GoodWindow}
use Rattle.laws_dataflow.specs.Nets.{World, Cell, Input, at_window, at_unary, at_join, Turn, batch, window}
use Rattle.laws_dataflow.proofs.WindowTurns.{WindowMade, rows_made, tick_made}
use Rattle.laws_queries.specs.Runs.{RunsWindow, WindowStands, shown_by}
use Rattle.laws_queries.specs.Widths.{AreEntries, IsSideWide, IsStateWide, IsWindowWide, width_at}
use Rattle.laws_queries.specs.Counts.{AreWindowRowsFew, StaysWithin, count, source_rows}
use Rattle.laws_queries.specs.Steps.{IsFirst, MayTake, MayLaw, Stands, StepLaw, StepMade, outs_at_first}
use Rattle.laws_queries.proofs.FirstLemmas.{batch_some, first_left, left_after}
use Rattle.laws_queries.proofs.HeldLemmas.{HeldKept, item_now, item_wide, window_few, window_kept, window_wide}

-- THE KIND of an operator that has a window's state
window_kind : (a : Kind) (s : WindowState) → Belongs a (state.Window s) → a ≡ kind.Window
window_kind kind.Window s h = refl
window_kind (kind.Select steps) s h = let e : state.Window s ≡ state.Nothing = h in cc
window_kind (kind.Project columns) s h = let e : state.Window s ≡ state.Nothing = h in cc
window_kind kind.Join s h = let e : state.Window s ≡ state.Join h.0 = h.1 in cc
window_kind (kind.Group g) s h = let e : state.Window s ≡ state.Groups h.0 = h.1 in cc
window_kind kind.ToStream s h = let e : state.Window s ≡ state.Root h.0 = h.1 in cc

-- A WINDOW BEFORE A TURN, which holds the elements h and awaits the elements e
module _ (w : World) (ws : List ℕ) (ns : List plan.Node) (k x : ℕ) (o : PlainOperator) (log : Closed) (h e : List Element) (b : List Row)
    (q : List (Entry Row)) (n : ℕ) (d z : Input) (side : Side) (i : Item)
    (s : Stands w ws ns k (plan.Window x) o log (at_window h e b q n) d z) (f : IsFirst o log side i) where
  runs : RunsWindow w.first (w.windows x) o log h b q n
  runs = s.runs

  wide : IsWindowWide (width_at ws k) o h q
  wide = s.wide

  few : AreWindowRowsFew (source_rows ns) (w.closed x) (w.came x) (w.inputs x) h e
  few = s.few

  good : GoodWindow w.first (w.windows x) (w.inputs x) (w.closed x) h e n q
  good = s.good

  state_may : (r : WindowState) → o.state ≡ state.Window r → WindowStands w.first (w.windows x) n (state.Window r) h → MayTake o side i
  state_may r is st =
      let a : o.kind ≡ kind.Window = window_kind o.kind r (subst (Belongs o.kind) is runs.kind) in
      let used : is_left side ≡ true = subst (λ c. usable c side ≡ true) is f.usable in
      let queue : q ≡ entries_of i ++ f.rest = first_left o log q side i used runs.queue f in
      let now : item_instant i ≡ n =
      item_now i n (w.closed x) f.rest e f.some (subst (λ l. GoodWindow w.first (w.windows x) (w.inputs x) (w.closed x) h e n l) queue good).brings in
      let width : width_of r ≡ width_at ws k = subst (IsStateWide (width_at ws k)) is wide.state in
      let item : IsItemWide (width_of r) i =
      subst (λ m. IsItemWide m i) (sym width) (item_wide (width_at ws k) i f.rest f.some (subst (AreEntries (width_at ws k)) queue wide.side.queue)) in
      let takes : windows.MayTake r i = record { after = subst (λ t. windows.IsAfter t r) (sym now) (stands_after w.first n r h st.1); wide = item } in
      record {
        columns = subst (λ c. HasColumns c side i) (sym is) item;
        named = subst (λ c. HasNamedColumns c i) (sym a) tt;
        takes = subst₂ (λ c j. Takes j side i (change_at c i (near_of j side i))) (sym a) (sym is) takes;
        stood = subst (λ c. HasStood c side i) (sym is) tt;
      }

  may_of : (r : State) → o.state ≡ r → WindowStands w.first (w.windows x) n r h → MayTake o side i
  may_of (state.Window r) is st = state_may r is st
  may_of state.Nothing is st = absurd st
  may_of (state.Join r) is st = absurd st
  may_of (state.Groups r) is st = absurd st
  may_of (state.Root r) is st = absurd st

  may : MayTake o side i
  may = may_of o.state refl runs.stands

pub window_may : (x : ℕ) → MayLaw (plan.Window x)
window_may x w ws ns k o log (at_window h e b q n) d z side i s f = may w ws ns k x o log h e b q n d z side i s f
window_may x w ws ns k o log (at_unary q t b n) d z side i s f = absurd s.runs
window_may x w ws ns k o log (at_join q r l m b n y p) d z side i s f = absurd s.runs

-- A TURN of a window that has put out the bag b, at whatever item: what it holds and
-- awaits then, and that its new state stands for it
record HeldMade (w : World) (k : ℕ) (h e : List Element) (b : List Row) (q : List (Entry Row)) (n : ℕ) (outs rest : List (Entry Row)) (new : WindowState) : Type 0 where
  held : List Element
  waiting : List Element
  opens : ℕ
  turn : Turn w (window k) (at_window h e b q n) outs (at_window held waiting (laws.shown_by new held) rest opens)
  stands : laws.Stands w.first opens new held

held_made : (w : World) (x n c : ℕ) (h e : List Element) (rest : List (Entry Row)) (r new : WindowState) → w.windows x ≡ windows.window_of r → (i : Item) → 0 < length (entries_of i) → laws.Stands w.first n r h
    → GoodWindow w.first (w.windows x) (w.inputs x) c h e n (entries_of i ++ rest) → windows.IsNext r i new
    → HeldMade w x h e (laws.shown_by r h) (entries_of i ++ rest) n (windows.out i (windows.near r i)) rest new
held_made w x n c h e rest r new is (Rows t b) some st g next =
    let a : WindowMade w x (at_window h e (laws.shown_by r h) (batch t b ++ rest) n) (windows.out (Rows t b) (windows.near r (Rows t b))) rest n new =
    rows_made w x r new is t n c h e b rest (batch_some t b some) st g next in
    record { held = a.held; waiting = a.waiting; opens = n; turn = a.turn; stands = a.stands }
held_made w x n c h e rest r new is (Tick t) some st g next =
    let a : WindowMade w x (at_window h e (laws.shown_by r h) (TickAt t ∷ rest) n) (windows.out (Tick t) (windows.near r (Tick t))) rest (n + 1) new =
    tick_made w x r new is t n c h e rest st g next in
    record { held = a.held; waiting = a.waiting; opens = n + 1; turn = a.turn; stands = a.stands }

-- the state after it is a window's
record WindowNext (s : WindowState) (i : Item) (new : State) : Type 0 where
  next : WindowState
  is : new ≡ state.Window next
  after : windows.IsNext s i next

window_next : (s : WindowState) (i : Item) (new : State) → IsWindowAfter s i new → WindowNext s i new
window_next s i (state.Window r) h = record { next = r; is = refl; after = h }
window_next s i state.Nothing h = absurd h
window_next s i (state.Join r) h = absurd h
window_next s i (state.Groups r) h = absurd h
window_next s i (state.Root r) h = absurd h

module _ (w : World) (ws : List ℕ) (ns : List plan.Node) (k x : ℕ) (o o2 : PlainOperator) (log : Closed) (h e : List Element) (b : List Row)
    (q : List (Entry Row)) (n : ℕ) (d z : Input) (side : Side) (i : Item) (outs : List (Entry Row))
    (s : Stands w ws ns k (plan.Window x) o log (at_window h e b q n) d z) (f : IsFirst o log side i) (put : outs_at_first o side i ≡ Put outs)
    (g : IsFinished o log side i (change_at o.kind i (near_of o.state side i)) o2) where
  before : RunsWindow w.first (w.windows x) o log h b q n
  before = s.runs

  state_step : (r : WindowState) → o.state ≡ state.Window r → WindowStands w.first (w.windows x) n (state.Window r) h
      → StepMade w ws ns k (plan.Window x) (at_window h e b q n) outs o2 log
  state_step r is st =
      let a : o.kind ≡ kind.Window = window_kind o.kind r (subst (Belongs o.kind) is before.kind) in
      let used : is_left side ≡ true = subst (λ c. usable c side ≡ true) is f.usable in
      let queue : q ≡ entries_of i ++ f.rest = first_left o log q side i used before.queue f in
      let wide : IsWindowWide (width_at ws k) o h q = s.wide in
      let few : AreWindowRowsFew (source_rows ns) (w.closed x) (w.came x) (w.inputs x) h e = s.few in
      let good : GoodWindow w.first (w.windows x) (w.inputs x) (w.closed x) h e n (entries_of i ++ f.rest) =
      subst (GoodWindow w.first (w.windows x) (w.inputs x) (w.closed x) h e n) queue s.good in
      let width : width_of r ≡ width_at ws k = subst (IsStateWide (width_at ws k)) is wide.state in
      let outs2 : List (Entry Row) = windows.out i (windows.near r i) in
      let put2 : Put outs2 ≡ Put outs = subst₂ (λ c j. outs_at c side i (near_of j side i) ≡ Put outs) a is put in
      let same : outs2 ≡ outs = cc in
      let next : WindowNext r i o2.state = window_next r i o2.state (subst (λ c. IsNext c side i (change_at o.kind i (near_of o.state side i)) o2.state) is g.state) in
      let new : WindowState = next.next in
      let kept_window : SameWindow r new = next_same r new i next.after in
      let b2 : List Row = laws.shown_by r h in
      let bag : b ≡ b2 = before.shows ∙ ap (λ c. shown_by c h) is in
      let made : HeldMade w x h e b2 (entries_of i ++ f.rest) n outs2 f.rest new = held_made w x n (w.closed x) h e f.rest r new st.0 i f.some st.1 good next.after in
      let cell : Cell = at_window made.held made.waiting (laws.shown_by new made.held) f.rest made.opens in
      let kept : HeldKept (width_at ws k) h e (entries_of i ++ f.rest) made.held made.waiting f.rest =
      window_kept w (window x) (at_window h e b2 (entries_of i ++ f.rest) n) cell outs2 made.turn (width_at ws k) in
      let turn : Turn w (window x) (at_window h e b2 q n) outs cell =
      subst₂ (λ l ys. Turn w (window x) (at_window h e b2 l n) ys cell) (sym queue) same made.turn in
      let side_wide : IsSideWide (width_at ws k) (rows_in_order h) (entries_of i ++ f.rest) = subst (IsSideWide (width_at ws k) (rows_in_order h)) queue wide.side in
      let outs_few : StaysWithin (source_rows ns) (count b2) outs2 = window_few r w.first (source_rows ns) n (w.closed x) h e i f.rest st.1 good.brings (omega (arith, few.few, few.stream)) in
      record {
        cell = cell;
        turn = subst (λ l. Turn w (window x) (at_window h e l q n) outs cell) (sym bag) turn;
        runs = record {
          kind = subst₂ Belongs (sym (g.kind ∙ a)) (sym next.is) (new, refl);
          stands = subst (λ c. WindowStands w.first (w.windows x) made.opens c made.held) (sym next.is) (st.0 ∙ sym kept_window.window, made.stands);
          shows = ap (λ c. shown_by c made.held) (sym next.is);
          queue = left_after o o2 log side i _ used f g;
        };
        wide = record { state = subst (IsStateWide (width_at ws k)) (sym next.is) (kept_window.width ∙ width); some = wide.some; side = kept.wide side_wide };
        few = record { few = omega (arith, few.few, kept.few); stream = few.stream };
        outs_wide = subst (AreEntries (width_at ws k)) same (window_wide r w.first (width_at ws k) n h i f.rest st.1 side_wide);
        outs_few = subst₂ (λ m ys. StaysWithin m (count b) ys) (sym s.room.most) same (subst (λ l. StaysWithin (source_rows ns) (count l) outs2) (sym bag) outs_few);
      }

  step_of : (r : State) → o.state ≡ r → WindowStands w.first (w.windows x) n r h → StepMade w ws ns k (plan.Window x) (at_window h e b q n) outs o2 log
  step_of (state.Window r) is st = state_step r is st
  step_of state.Nothing is st = absurd st
  step_of (state.Join r) is st = absurd st
  step_of (state.Groups r) is st = absurd st
  step_of (state.Root r) is st = absurd st

  window_step : StepMade w ws ns k (plan.Window x) (at_window h e b q n) outs o2 log
  window_step = step_of o.state refl before.stands

pub window_steps : (x : ℕ) → StepLaw (plan.Window x)
window_steps x w ws ns k o o2 log (at_window h e b q n) d z side i outs s f put g = window_step w ws ns k x o o2 log h e b q n d z side i outs s f put g
window_steps x w ws ns k o o2 log (at_unary q t b n) d z side i outs s f put g = absurd s.runs
window_steps x w ws ns k o o2 log (at_join q r l m b n y p) d z side i outs s f put g = absurd s.runs
