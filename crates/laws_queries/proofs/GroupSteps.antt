-- The turns of Group By and Distinct.
use Rattle.std.proofs.Common.{◌≡◌, ℕ, ◌+◌, ◌^◌, ◌<◌, ◌≤◌, max, Bool, true, false, List, [], ◌∷◌, ◌++◌, length, refl, sym, ap, ap₂, subst, ◌∙◌, arith, true≢false}
use Rattle.std.specs.List.{All}
use Rattle.std.proofs.lemmas.List.{length-map}
use Rattle.values.specs.Row.{Row, row_cmp}
use Rattle.values.specs.Bag.{distinct}
use Rattle.values.specs.Condition.{SourceColumn}
use Rattle.values.specs.Relation.{ListItem, Grouped}
use Rattle.values.specs.Resolved.{columns_of, items_of}
use Rattle.column.specs.declared.batch.Side.{Side}
use Rattle.column.specs.declared.batch.Side.TheVariants.{Left, Right}
use Rattle.op_queue.specs.Entries.{Entry, RowAt, TickAt}
use Rattle.op_queue.specs.Items.{entries_of}
use Rattle.op_queue.specs.Logs.{Closed}
use Rattle.op_queue.specs.Signed.{Same, Legal}
use Rattle.op_queue.specs.declared.item.Item as queue
use Rattle.op_queue.specs.declared.item.Item.TheVariants.{Rows, Tick}
use Rattle.op_queue.proofs.PathLemmas.{Leads-front_legal, Leads-take_tick}
use Rattle.op_queue.proofs.SignedLemmas.{Same-refl, Turns-none}
use Rattle.group.specs.Groups.{GroupBy, grouped, once_each}
use Rattle.group.specs.Turns as group
use Rattle.group.specs.Turns.{GroupState}
use Rattle.group.specs.Laws as laws
use Rattle.group.proofs.LawLemmas.{rows_law, outputs_turn, tick_stands}
use Rattle.group.proofs.DistinctLemmas.{distinct_law}
use Rattle.turn.specs.Turns.{Outs, Put, Answered, change_at, outs_at}
use Rattle.turn.specs.declared.kinds.Kind.{Kind}
use Rattle.turn.specs.declared.kinds.Kind.TheVariants as kind
use Rattle.turn.specs.declared.outcomes.Change.{Change}
use Rattle.operators.specs.Operators.{HasNamedColumns, IsFinished}
use Rattle.operators.specs.States.{HasColumns, HasStood, IsNext, Takes, near_of}
use Rattle.operators.specs.Ready.{PlainOperator, usable}
use Rattle.operators.specs.declared.states.State.{State}
use Rattle.operators.specs.declared.states.State.TheVariants as state
use Rattle.plan.specs.Nodes as plan
use Rattle.plan.specs.Values as valued
use Rattle.laws_dataflow.specs.Nets.{World, Unary, unary, Cell, at_window, at_unary, at_join, Input, GoodOne, Turn, rows_turn, tick_turn, batch, closing}
use Rattle.laws_dataflow.specs.Operators.{grouping, once}
use Rattle.laws_dataflow.proofs.BagLemmas.{same_of}
use Rattle.laws_dataflow.proofs.FrontLemmas.{front_instant}
use Rattle.laws_dataflow.proofs.RootLemmas.{After, after}
use Rattle.laws_queries.specs.Counts.{StaysWithin, count, most_rows, tick_rows}
use Rattle.laws_queries.specs.Runs.{KeepsFew, RunsGroup, RunsDistinct}
use Rattle.laws_queries.specs.Steps.{IsFirst, MayTake, StepMade, Stands, MayLaw, StepLaw, outs_at_first}
use Rattle.laws_queries.specs.Widths.{AreEntries, AreRows, IsKindWide, IsSideWide, IsGroupWide, IsOnceWide, width_at}
use Rattle.laws_queries.proofs.CountLemmas.{stays_now, stays_after, stays_entering}
use Rattle.laws_queries.proofs.GroupLemmas.{lean_rows, lean_ticked, group_stays, outputs_wide, outputs_few, grouped_wide, distinct_few, grouped_few}
use Rattle.laws_queries.proofs.ItemLemmas.{rest_waits}
use Rattle.laws_queries.proofs.RoomLemmas.{InRange, groups_within}
use Rattle.laws_queries.proofs.WideLemmas.{AreSigned, rows_after, entries_back, entries_batch}

in_range : (w : ℕ) (b : List Row) → AreRows w b → All InRange b
in_range w b a = λ k d l. (a k d l).values

-- what a turn with the item leaves, and puts out
abbrev after_item : GroupState → queue.Item → GroupState
after_item s it = group.next s it (group.change s.group it (group.near s it))

abbrev outs_of : GroupState → queue.Item → List (Entry Row)
outs_of s it = group.out s.group it (group.near s it)

-- A TURN of groups over rows of w columns, whose rows have `out`, and of which there are at most `room` at a tick
pub record GroupMade (wo : World) (f : Unary) (x w out most room : ℕ) (s : GroupState) (it : queue.Item) (cell : Cell) (shown : List Row) (rest : List (Entry Row)) : Type 0 where
  pub opens : ℕ
  pub taken : List Row
  pub puts : List Row
  pub turn : Turn wo (unary f x) cell (outs_of s it) (at_unary rest taken puts opens)
  pub stands : laws.Stands (after_item s it) puts taken
  pub few : KeepsFew (after_item s it)
  pub group : (after_item s it).group ≡ s.group
  pub side : IsSideWide w taken rest
  pub puts_wide : AreRows out puts
  pub stays : StaysWithin most (count taken) rest
  pub puts_few : count puts ≤ room
  pub outs_wide : AreEntries out (outs_of s it)
  pub outs_few : StaysWithin (room + room) (count shown) (outs_of s it)

untrue {ℓ} : {A : Type ℓ} → false ≡ true → A
untrue h = absurd (true≢false (sym h))

module _ (wo : World) (f : Unary) (x w out most room : ℕ) (s : GroupState) (v : ℕ → List Row) (below : List Row) (m : ℕ) where
  rows_made : f.streams ≡ false → (t n : ℕ) (b : List (Bool × Row)) (q : List (Entry Row)) (i o : List Row) → 0 < length b → laws.Stands s o i → KeepsFew s
      → GoodOne f v (batch t b ++ q) i o n below m
      → IsSideWide w i (batch t b ++ q) → AreRows out o → StaysWithin most (count i) (batch t b ++ q) → count o ≤ room
      → GroupMade wo f x w out most room s (Rows t b) (at_unary (batch t b ++ q) i o n) o q
  rows_made quiet t n b q i o l st few g wide puts stays bound =
      let legal : Legal i b = Leads-front_legal t b q g.edge in
      let a : After i b = after b i legal in
      record {
        opens = n;
        taken = a.bag;
        puts = o;
        turn = subst (λ j. Turn wo (unary f x) (at_unary (batch j b ++ q) i o n) [] (at_unary q a.bag o n)) (sym (front_instant t b q l g.edge))
            (rows_turn f x n b [] q i a.bag o o (record { took = λ h. a.adds; puts = λ h k. Turns-none (Same-refl o); shows = λ h r k. untrue (sym quiet ∙ r) }));
        stands = rows_law b s o i a.bag st legal a.adds;
        few = lean_rows b s few;
        group = group_stays b s;
        side = record { taken = rows_after w t b q i a.bag legal a.adds wide.taken wide.queue; queue = entries_back w t b q wide.queue };
        puts_wide = puts;
        stays = stays_after most t b q i a.bag legal a.adds stays;
        puts_few = bound;
        outs_wide = tt;
        outs_few = omega (arith, bound);
      }

  tick_made : out ≡ length s.group.items → (t n : ℕ) (q : List (Entry Row)) (i o : List Row) → laws.Stands s o i → KeepsFew s
      → GoodOne f v (TickAt t ∷ q) i o n below m
      → Same (grouped s.group i) (f.value i) → (Same i (v n) → count (grouped s.group i) ≤ room) → count i ≤ 2 ^ 62
      → IsSideWide w i (TickAt t ∷ q) → AreRows out o → StaysWithin most (count i) (TickAt t ∷ q) → count o ≤ room
      → GroupMade wo f x w out most room s (Tick t) (at_unary (TickAt t ∷ q) i o n) o q
  tick_made e t n q i o st few g value size bound wide puts stays held =
      let taken : (t ≡ n) × (Same i (v n)) × _ = Leads-take_tick g.edge in
      let next : List Row = grouped s.group i in
      let st2 : laws.Stands (after_item s (Tick t)) next i = tick_stands s o i st bound in
      let rows : AreRows (length s.group.items) next = grouped_wide s.group i bound (in_range w i wide.taken) in
      let signed : AreSigned (length s.group.items) (group.outputs s.group (group.near s (Tick t))) =
      outputs_wide s o i st st2 (in_range out o puts) (in_range (length s.group.items) next rows) in
      record {
        opens = n + 1;
        taken = i;
        puts = next;
        turn =
            subst (λ j. Turn wo (unary f x) (at_unary (TickAt j ∷ q) i o n) (closing j (group.outputs s.group (group.near s (Tick t)))) (at_unary q i next (n + 1))) (sym taken.0)
            (tick_turn f x n (group.outputs s.group (group.near s (Tick t))) q i o next (record { puts = λ k. outputs_turn s o i st bound; shows = λ k. value }));
        stands = st2;
        few = lean_ticked s o i st few;
        group = refl;
        side = record { taken = wide.taken; queue = wide.queue };
        puts_wide = subst (λ k. AreRows k next) (sym e) rows;
        stays = stays.1;
        puts_few = size taken.1;
        outs_wide = subst (λ k. AreEntries k (outs_of s (Tick t))) (sym e)
            (entries_batch (length s.group.items) t (group.outputs s.group (group.near s (Tick t))) (TickAt t ∷ []) signed tt);
        outs_few =
            stays_entering (room + room) (count o) t (group.outputs s.group (group.near s (Tick t))) (TickAt t ∷ [])
            (omega (arith, held, outputs_few s o i st st2, size taken.1)) (λ k l. (l, l));
      }

  -- with whatever item stands first
  pub group_made : f.streams ≡ false → out ≡ length s.group.items → (it : queue.Item) (n : ℕ) (q : List (Entry Row)) (i o : List Row)
      → 0 < length (entries_of it) → laws.Stands s o i → KeepsFew s
      → GoodOne f v (entries_of it ++ q) i o n below m → Same (grouped s.group i) (f.value i) → (Same i (v n) → count (grouped s.group i) ≤ room)
      → most ≤ 2 ^ 62
      → IsSideWide w i (entries_of it ++ q) → AreRows out o → StaysWithin most (count i) (entries_of it ++ q) → count o ≤ room
      → GroupMade wo f x w out most room s it (at_unary (entries_of it ++ q) i o n) o q
  group_made quiet e (Rows t b) n q i o l st few g value size bound wide puts stays held =
      rows_made quiet t n b q i o (omega (arith, l, length-map b (RowAt t))) st few g wide puts stays held
  group_made quiet e (Tick t) n q i o l st few g value size bound wide puts stays held =
      tick_made e t n q i o st few g value size (omega (arith, bound, stays_now (TickAt t ∷ q) stays)) wide puts stays held

-- WHAT THE OPERATOR'S TURN SAYS, by its kind and state
abbrev put_in : Outs → List (Entry Row)
put_in (Put q) = q
put_in (Answered answers) = []

module _ (s : GroupState) (o o2 : PlainOperator) (log : Closed) (it : queue.Item) (is_kind : o.kind ≡ kind.Group s.group) (is_state : o.state ≡ state.Groups s) where
  outs_are : (outs : List (Entry Row)) → outs_at_first o Left it ≡ Put outs → outs_of s it ≡ outs
  outs_are outs e = ap put_in (sym (ap₂ (λ (what : Kind) (held : State). outs_at what Left it (near_of held Left it)) is_kind is_state) ∙ e)

  next_is : IsFinished o log Left it (change_at o.kind it (near_of o.state Left it)) o2 → o2.state ≡ state.Groups (after_item s it)
  next_is h =
      subst (λ (held : State). IsNext held Left it (change_at o.kind it (near_of o.state Left it)) o2.state) is_state h.state
      ∙ ap (λ (c : Change). state.Groups (group.next s it c.shown))
      (ap₂ (λ (what : Kind) (held : State). change_at what it (near_of held Left it)) is_kind is_state)

  -- there is room for the item where few rows were taken
  may_take : (side : Side) (shown taken : List Row) → laws.Stands s shown taken → KeepsFew s → count taken ≤ 2 ^ 62 → All InRange taken → MayTake o side it
  may_take side shown taken st few l a = record {
    columns = subst (λ (held : State). HasColumns held side it) (sym is_state) tt;
    named = subst (λ (what : Kind). HasNamedColumns what it) (sym is_kind) tt;
    takes = subst (λ (held : State). Takes held side it (change_at o.kind it (near_of held side it))) (sym is_state)
        (subst (λ (what : Kind). Takes (state.Groups s) side it (change_at what it (near_of (state.Groups s) side it))) (sym is_kind) (room it));
    stood = subst (λ (held : State). HasStood held side it) (sym is_state) tt;
  }
    where
      room : (it : queue.Item) → group.RoomFor s it
      room (Rows t b) = groups_within (2 ^ 62) s shown taken l a few st
      room (Tick t) = tt

-- GROUP BY
group_at : (i : ℕ) (by : List SourceColumn) (items : List ListItem) (w : World) (ws : List ℕ) (ns : List plan.Node) (k : ℕ) (o o2 : PlainOperator) (log : Closed)
    (q : List (Entry Row)) (t b : List Row) (n : ℕ) (d e : Input) (it : queue.Item) (outs : List (Entry Row))
    → Stands w ws ns k (plan.Group i by items) o log (at_unary q t b n) d e → (f : IsFirst o log Left it) → outs_at_first o Left it ≡ Put outs
    → IsFinished o log Left it (change_at o.kind it (near_of o.state Left it)) o2 → StepMade w ws ns k (plan.Group i by items) (at_unary q t b n) outs o2 log
group_at i by items w ws ns k o o2 log q t b n d e it outs s f puts fin =
    let run : RunsGroup by items o log q t b = s.runs in
    let wide : IsGroupWide (width_at ws i) (width_at ws k) o t b q = s.wide in
    let few : StaysWithin (most_rows ns i) (count t) q × (count b ≤ max 1 (tick_rows ns i)) = s.few in
    let good : GoodOne (grouping (Grouped by items)) d.values q t b n d.bag d.opens = s.good in
    let g : GroupState = run.held in
    let front : q ≡ entries_of it ++ f.rest = run.queue ∙ f.is in
    let out : outs_of g it ≡ outs = outs_are g o o2 log it run.kind run.state outs puts in
    let shape : Grouped by items ≡ Grouped (columns_of g.group.by) (items_of g.group.items) = ap₂ Grouped run.keyed run.listed in
    let made : GroupMade w (grouping (Grouped by items)) i (width_at ws i) (width_at ws k) (most_rows ns i) (max 1 (tick_rows ns i)) g it (at_unary (entries_of it ++ f.rest) t b n) b f.rest =
    group_made w (grouping (Grouped by items)) i (width_at ws i) (width_at ws k) (most_rows ns i) (max 1 (tick_rows ns i)) g d.values d.bag d.opens refl
    (subst (IsKindWide (width_at ws i) (width_at ws k)) run.kind wide.one.kind) it n f.rest t b
    f.some run.stands run.few (subst (λ q. GoodOne (grouping (Grouped by items)) d.values q t b n d.bag d.opens) front good)
    (same_of (ap (λ shape. valued.shaped_rows shape t) (sym shape)))
    (λ h. omega (arith, grouped_few g.group t, h.weighs (λ x. 1), s.room.left n)) (omega (arith, s.room.always i))
    (subst (IsSideWide (width_at ws i) t) front wide.one.side) wide.puts (subst (StaysWithin (most_rows ns i) (count t)) front few.0) few.1 in
    subst (λ q. StepMade w ws ns k (plan.Group i by items) (at_unary q t b n) outs o2 log) (sym front) (record {
      cell = at_unary f.rest made.taken made.puts made.opens;
      turn =
          subst (λ outs. Turn w (unary (grouping (Grouped by items)) i) (at_unary (entries_of it ++ f.rest) t b n) outs (at_unary f.rest made.taken made.puts made.opens)) out made.turn;
      runs = record {
        held = after_item g it;
        kind = fin.kind ∙ run.kind ∙ ap kind.Group (sym made.group);
        state = next_is g o o2 log it run.kind run.state fin;
        keyed = run.keyed ∙ ap (λ (h : GroupBy). columns_of h.by) (sym made.group);
        listed = run.listed ∙ ap (λ (h : GroupBy). items_of h.items) (sym made.group);
        stands = made.stands;
        few = made.few;
        queue = rest_waits o o2 log Left it _ f fin;
      };
      wide = record { one = record { kind = subst (IsKindWide (width_at ws i) (width_at ws k)) (sym fin.kind) wide.one.kind; narrow = wide.one.narrow; side = made.side }; puts = made.puts_wide };
      few = (made.stays, made.puts_few);
      outs_wide = subst (AreEntries (width_at ws k)) out made.outs_wide;
      outs_few =
          subst (λ most. StaysWithin most (count b) outs) (sym s.room.most)
          (subst (StaysWithin (max 1 (tick_rows ns i) + max 1 (tick_rows ns i)) (count b)) out made.outs_few);
    })

pub group_steps : (i : ℕ) (by : List SourceColumn) (items : List ListItem) → StepLaw (plan.Group i by items)
group_steps i by items w ws ns k o o2 log (at_window h m b q n) d e side it outs s f puts fin = absurd s.runs
group_steps i by items w ws ns k o o2 log (at_join q r l m b n x y) d e side it outs s f puts fin = absurd s.runs
group_steps i by items w ws ns k o o2 log (at_unary q t b n) d e Left it outs s f puts fin =
    group_at i by items w ws ns k o o2 log q t b n d e it outs s f puts fin
group_steps i by items w ws ns k o o2 log (at_unary q t b n) d e Right it outs s f puts fin =
    untrue (subst (λ (held : State). usable held Right ≡ true) s.runs.state f.usable)

pub group_may : (i : ℕ) (by : List SourceColumn) (items : List ListItem) → MayLaw (plan.Group i by items)
group_may i by items w ws ns k o log (at_window h m b q n) d e side it s f = absurd s.runs
group_may i by items w ws ns k o log (at_join q r l m b n x y) d e side it s f = absurd s.runs
group_may i by items w ws ns k o log (at_unary q t b n) d e side it s f =
    may_take s.runs.held o o log it s.runs.kind s.runs.state side b t s.runs.stands s.runs.few (omega (arith, stays_now q s.few.0, s.room.always i))
    (in_range (width_at ws i) t s.wide.one.side.taken)

-- DISTINCT
once_rows : (width : ℕ) (g : GroupBy) (b : List Row) → g ≡ once_each width → 0 < width → AreRows width b → grouped g b ≡ distinct row_cmp b
once_rows width g b e l a = ap (λ h. grouped h b) e ∙ distinct_law width b l (λ k d lt. (a k d lt).wide)

distinct_at : (i : ℕ) (w : World) (ws : List ℕ) (ns : List plan.Node) (k : ℕ) (o o2 : PlainOperator) (log : Closed) (q : List (Entry Row)) (t b : List Row)
    (n : ℕ) (d e : Input) (it : queue.Item) (outs : List (Entry Row))
    → Stands w ws ns k (plan.Distinct i) o log (at_unary q t b n) d e → (f : IsFirst o log Left it) → outs_at_first o Left it ≡ Put outs
    → IsFinished o log Left it (change_at o.kind it (near_of o.state Left it)) o2 → StepMade w ws ns k (plan.Distinct i) (at_unary q t b n) outs o2 log
distinct_at i w ws ns k o o2 log q t b n d e it outs s f puts fin =
    let run : RunsDistinct (width_at ws k) o log q t b = s.runs in
    let all_wide : IsOnceWide (width_at ws i) (width_at ws k) o t b q = s.wide in
    let wide : IsGroupWide (width_at ws i) (width_at ws k) o t b q = all_wide.group in
    let few : StaysWithin (most_rows ns i) (count t) q × (count b ≤ tick_rows ns i) = s.few in
    let good : GoodOne once d.values q t b n d.bag d.opens = s.good in
    let g : GroupState = run.held in
    let front : q ≡ entries_of it ++ f.rest = run.queue ∙ f.is in
    let out : outs_of g it ≡ outs = outs_are g o o2 log it run.kind run.state outs puts in
    let rows : grouped g.group t ≡ distinct row_cmp t =
    once_rows (width_at ws k) g.group t run.all run.some (subst (λ c. AreRows c t) all_wide.same wide.one.side.taken) in
    let made : GroupMade w once i (width_at ws i) (width_at ws k) (most_rows ns i) (tick_rows ns i) g it (at_unary (entries_of it ++ f.rest) t b n) b f.rest =
    group_made w once i (width_at ws i) (width_at ws k) (most_rows ns i) (tick_rows ns i) g d.values d.bag d.opens refl
    (subst (IsKindWide (width_at ws i) (width_at ws k)) run.kind wide.one.kind) it n f.rest t b
    f.some run.stands run.few (subst (λ q. GoodOne once d.values q t b n d.bag d.opens) front good) (same_of rows)
    (λ h. omega (arith, ap count rows, distinct_few t, h.weighs (λ x. 1), s.room.left n)) (omega (arith, s.room.always i))
    (subst (IsSideWide (width_at ws i) t) front wide.one.side) wide.puts (subst (StaysWithin (most_rows ns i) (count t)) front few.0) few.1 in
    subst (λ q. StepMade w ws ns k (plan.Distinct i) (at_unary q t b n) outs o2 log) (sym front) (record {
      cell = at_unary f.rest made.taken made.puts made.opens;
      turn =
          subst (λ outs. Turn w (unary once i) (at_unary (entries_of it ++ f.rest) t b n) outs (at_unary f.rest made.taken made.puts made.opens)) out made.turn;
      runs = record {
        held = after_item g it;
        kind = fin.kind ∙ run.kind ∙ ap kind.Group (sym made.group);
        state = next_is g o o2 log it run.kind run.state fin;
        all = made.group ∙ run.all;
        some = run.some;
        stands = made.stands;
        few = made.few;
        queue = rest_waits o o2 log Left it _ f fin;
      };
      wide = record {
        group = record { one = record { kind = subst (IsKindWide (width_at ws i) (width_at ws k)) (sym fin.kind) wide.one.kind; narrow = wide.one.narrow; side = made.side }; puts = made.puts_wide };
        same = all_wide.same;
      };
      few = (made.stays, made.puts_few);
      outs_wide = subst (AreEntries (width_at ws k)) out made.outs_wide;
      outs_few =
          subst (λ most. StaysWithin most (count b) outs) (sym s.room.most) (subst (StaysWithin (tick_rows ns i + tick_rows ns i) (count b)) out made.outs_few);
    })

pub distinct_steps : (i : ℕ) → StepLaw (plan.Distinct i)
distinct_steps i w ws ns k o o2 log (at_window h m b q n) d e side it outs s f puts fin = absurd s.runs
distinct_steps i w ws ns k o o2 log (at_join q r l m b n x y) d e side it outs s f puts fin = absurd s.runs
distinct_steps i w ws ns k o o2 log (at_unary q t b n) d e Left it outs s f puts fin = distinct_at i w ws ns k o o2 log q t b n d e it outs s f puts fin
distinct_steps i w ws ns k o o2 log (at_unary q t b n) d e Right it outs s f puts fin =
    untrue (subst (λ (held : State). usable held Right ≡ true) s.runs.state f.usable)

pub distinct_may : (i : ℕ) → MayLaw (plan.Distinct i)
distinct_may i w ws ns k o log (at_window h m b q n) d e side it s f = absurd s.runs
distinct_may i w ws ns k o log (at_join q r l m b n x y) d e side it s f = absurd s.runs
distinct_may i w ws ns k o log (at_unary q t b n) d e side it s f =
    may_take s.runs.held o o log it s.runs.kind s.runs.state side b t s.runs.stands s.runs.few (omega (arith, stays_now q s.few.0, s.room.always i))
    (in_range (width_at ws i) t s.wide.group.one.side.taken)
