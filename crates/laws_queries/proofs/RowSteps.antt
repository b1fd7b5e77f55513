-- The turns of Select and Project.
use Rattle.std.proofs.Common.{◌≡◌, ℕ, ◌+◌, ◌<◌, ◌≤◌, Bool, true, None, List, [], ◌∷◌, ◌++◌, filter, get_or, length, map, refl, sym, ap, ◌∙◌, subst, subst₂, arith}
use Rattle.std.specs.List.{All}
use Rattle.std.proofs.lemmas.List.{length-map}
use Rattle.std.proofs.lemmas.List.Elements.{All-filter, All-map}
use Rattle.values.specs.Row.{Row, value_at}
use Rattle.values.specs.Ranges.{IsAnswerValue}
use Rattle.values.specs.Condition.{SourceColumn, Condition}
use Rattle.values.specs.Relation.{Listed}
use Rattle.lane_kernels.specs.Steps.{StepsFit}
use Rattle.lane_kernels.specs.declared.condition.Step.{Step}
use Rattle.op_queue.specs.Entries.{Entry, TickAt}
use Rattle.op_queue.specs.Items.{entries_of}
use Rattle.op_queue.specs.Signed.{weigh, Legal, Same}
use Rattle.op_queue.specs.declared.item.Item.{Item}
use Rattle.op_queue.specs.declared.item.Item.TheVariants.{Rows, Tick}
use Rattle.op_queue.proofs.PathLemmas.{Leads-front_legal}
use Rattle.row_nodes.specs.Select.{FitItem, is_kept, selected}
use Rattle.row_nodes.specs.Project.{AreColumns, columns_in, projected, projected_row}
use Rattle.row_nodes.proofs.RowLemmas.{filter_by}
use Rattle.turn.specs.Turns.{Put, change_at, outs_at}
use Rattle.operators.specs.Operators.{HasNamedColumns}
use Rattle.operators.specs.States.{HasColumns, HasStood, IsNext, Takes, near_of}
use Rattle.operators.specs.Ready.{is_left, usable}
use Rattle.operators.specs.declared.states.State.TheVariants as state
use Rattle.plan.specs.Nodes as plan
use Rattle.plan.specs.Values.{holds_all, shaped_rows}
use Rattle.plan.specs.Views.{columns_at}
use Rattle.laws_dataflow.specs.Nets.{Unary, World, Cell, at_window, at_unary, at_join, GoodOne, Turn, batch, unary}
use Rattle.laws_dataflow.specs.Operators.{Tell, listing, selecting}
use Rattle.laws_dataflow.proofs.UnaryTurns.{UnaryMade, NoState, project_rows_made, project_tick_made, select_rows_made, select_tick_made}
use Rattle.laws_queries.specs.Runs.{RunsProject, RunsSelect}
use Rattle.laws_queries.specs.Widths.{IsRow, AreEntries, IsKindWide, IsOneWide, IsSideWide, width_at}
use Rattle.laws_queries.specs.Counts.{StaysWithin, count, most_rows}
use Rattle.laws_queries.specs.Steps.{MayLaw, StepLaw}
use Rattle.laws_queries.proofs.FirstLemmas.{AreSigned, batch_entries, batch_some, batch_wide, batch_width, first_left, left_after}
use Rattle.laws_queries.proofs.TakenLemmas.{TakenKept, failing, legal_leaves, one_kept, passing, weigh_parts, weigh_passing, within_filter, within_map}

-- a turn of an operator with one input, at whatever item
pub record OneMade (w : World) (f : Unary) (x : ℕ) (q : List (Entry Row)) (i o : List Row) (n : ℕ) (outs rest : List (Entry Row)) : Type 0 where
  pub taken : List Row
  pub shown : List Row
  pub opens : ℕ
  pub turn : Turn w (unary f x) (at_unary q i o n) outs (at_unary rest taken shown opens)

one_made : (w : World) (f : Unary) (x : ℕ) (q : List (Entry Row)) (i o : List Row) (n m : ℕ) (outs rest : List (Entry Row))
    → UnaryMade w f x (at_unary q i o n) outs rest m NoState → OneMade w f x q i o n outs rest
one_made w f x q i o n m outs rest a = record { taken = a.taken; shown = a.shown; opens = m; turn = a.turn }

-- SELECT

select_fits : (steps : List Step) (w : ℕ) (i : Item) (rest : List (Entry Row)) → 0 < length (entries_of i) → AreEntries w (entries_of i ++ rest)
    → StepsFit w 0 steps → FitItem steps i
select_fits steps w (Rows t b) rest some h k = subst (λ n. StepsFit n 0 steps) (sym (batch_width w t b rest (batch_some t b some) h)) k
select_fits steps w (Tick t) rest some h k = tt

pub select_may : (x : ℕ) (cs : List Condition) → MayLaw (plan.Select x cs)
select_may x cs w ws ns k o log (at_window h e b q n) d z side i s f = absurd s.runs
select_may x cs w ws ns k o log (at_join q r l m b n y p) d z side i s f = absurd s.runs
select_may x cs w ws ns k o log (at_unary q t b n) d z side i s f =
    let r : RunsSelect cs o log q = s.runs in
    let wide : IsOneWide (width_at ws x) (width_at ws k) o t q = s.wide in
    let used : is_left side ≡ true = subst (λ a. usable a side ≡ true) r.state f.usable in
    let queue : q ≡ entries_of i ++ f.rest = first_left o log q side i used r.queue f in
    let fit : StepsFit (width_at ws x) 0 r.steps × (width_at ws k ≡ width_at ws x) = subst (IsKindWide (width_at ws x) (width_at ws k)) r.kind wide.kind in
    record {
      columns = subst (λ a. HasColumns a side i) (sym r.state) tt;
      named = subst (λ a. HasNamedColumns a i) (sym r.kind) (select_fits r.steps (width_at ws x) i f.rest f.some
          (subst (AreEntries (width_at ws x)) queue wide.side.queue) fit.0);
      takes = subst (λ a. Takes a side i (change_at o.kind i (near_of o.state side i))) (sym r.state) tt;
      stood = subst (λ a. HasStood a side i) (sym r.state) tt;
    }

module _ (w : World) (cs : List Condition) (steps : List Step) (tell : Tell steps cs) (x : ℕ) (v : ℕ → List Row) (below : List Row) (m : ℕ) where
  select_made : (i : Item) (n : ℕ) (rest : List (Entry Row)) (t b : List Row) → 0 < length (entries_of i)
      → GoodOne (selecting cs) v (entries_of i ++ rest) t b n below m
      → OneMade w (selecting cs) x (entries_of i ++ rest) t b n (selected steps i) rest
  select_made (Rows u xs) n rest t b some g =
      one_made w (selecting cs) x (batch u xs ++ rest) t b n n (selected steps (Rows u xs)) rest
      (select_rows_made w cs steps tell x v below m u n xs rest t b (batch_some u xs some) g)
  select_made (Tick u) n rest t b some g =
      one_made w (selecting cs) x (TickAt u ∷ rest) t b n (n + 1) (selected steps (Tick u)) rest (select_tick_made w cs steps tell x v below m u n rest t b g)

  select_few : (most : ℕ) (i : Item) (n : ℕ) (rest : List (Entry Row)) (t b : List Row)
      → GoodOne (selecting cs) v (entries_of i ++ rest) t b n below m → StaysWithin most (count t) (entries_of i ++ rest)
      → StaysWithin most (count b) (selected steps i)
  select_few most (Rows u xs) n rest t b g h =
      let p : Row → Bool = λ r. holds_all cs (r ∷ []) in
      let legal : Legal t xs = Leads-front_legal u xs rest g.edge in
      let same : Same b (filter p t) = g.shows refl in
      let few : count b ≡ weigh (passing p) t = same.weighs (λ r. 1) ∙ weigh_passing p t in
      let e : filter (λ s. p s.1) xs ≡ filter (is_kept steps) xs = filter_by (λ s. p s.1) (is_kept steps) (λ s. sym (tell.tells s.1)) xs in
      subst₂ (λ c ys. StaysWithin most c (batch u ys)) (sym few) e
      (within_filter p most u (weigh (passing p) t) (weigh (failing p) t) (count t) xs rest (sym (weigh_parts p t))
      (legal_leaves (passing p) t xs legal) (legal_leaves (failing p) t xs legal) h)
  select_few most (Tick u) n rest t b g h =
      let p : Row → Bool = λ r. holds_all cs (r ∷ []) in
      let same : Same b (filter p t) = g.shows refl in
      let le : count b ≤ most = omega (arith, same.weighs (λ r. 1), weigh_passing p t, weigh_parts p t, h.0) in
      (le, le)

select_wide : (steps : List Step) (w : ℕ) (i : Item) (rest : List (Entry Row)) → AreEntries w (entries_of i ++ rest) → AreEntries w (selected steps i)
select_wide steps w (Rows t b) rest h = batch_entries w t (filter (is_kept steps) b) (All-filter (is_kept steps) (λ s. IsRow w s.1) b (batch_wide w t b rest h))
select_wide steps w (Tick t) rest h = tt

pub select_steps : (x : ℕ) (cs : List Condition) → StepLaw (plan.Select x cs)
select_steps x cs w ws ns k o o2 log (at_window h e b q n) d z side i outs s f put g = absurd s.runs
select_steps x cs w ws ns k o o2 log (at_join q r l m b n y p) d z side i outs s f put g = absurd s.runs
select_steps x cs w ws ns k o o2 log (at_unary q t b n) d z side i outs s f put g =
    let r : RunsSelect cs o log q = s.runs in
    let wide : IsOneWide (width_at ws x) (width_at ws k) o t q = s.wide in
    let used : is_left side ≡ true = subst (λ a. usable a side ≡ true) r.state f.usable in
    let queue : q ≡ entries_of i ++ f.rest = first_left o log q side i used r.queue f in
    let fit : StepsFit (width_at ws x) 0 r.steps × (width_at ws k ≡ width_at ws x) = subst (IsKindWide (width_at ws x) (width_at ws k)) r.kind wide.kind in
    let placed : IsSideWide (width_at ws x) t (entries_of i ++ f.rest) = subst (IsSideWide (width_at ws x) t) queue wide.side in
    let few : StaysWithin (most_rows ns x) (count t) (entries_of i ++ f.rest) = subst (StaysWithin (most_rows ns x) (count t)) queue s.few in
    let good : GoodOne (selecting cs) d.values (entries_of i ++ f.rest) t b n d.bag d.opens =
    subst (λ l. GoodOne (selecting cs) d.values l t b n d.bag d.opens) queue s.good in
    let is : Put (selected r.steps i) ≡ Put outs = subst₂ (λ a c. outs_at a side i (near_of c side i) ≡ Put outs) r.kind r.state put in
    let same : selected r.steps i ≡ outs = cc in
    let next : o2.state ≡ state.Nothing = subst (λ a. IsNext a side i (change_at o.kind i (near_of o.state side i)) o2.state) r.state g.state in
    let made : OneMade w (selecting cs) x (entries_of i ++ f.rest) t b n (selected r.steps i) f.rest =
    select_made w cs r.steps r.tell x d.values d.bag d.opens i n f.rest t b f.some good in
    let cell : Cell = at_unary f.rest made.taken made.shown made.opens in
    let kept : TakenKept (width_at ws x) (most_rows ns x) t (entries_of i ++ f.rest) made.taken f.rest =
    one_kept w (unary (selecting cs) x) (at_unary (entries_of i ++ f.rest) t b n) cell (selected r.steps i)
    made.turn d.values d.bag d.opens good.edge (width_at ws x) (most_rows ns x) in
    record {
      cell = cell;
      turn = subst₂ (λ l ys. Turn w (unary (selecting cs) x) (at_unary l t b n) ys cell) (sym queue) same made.turn;
      runs = record { steps = r.steps; kind = g.kind ∙ r.kind; state = next; tell = r.tell; queue = left_after o o2 log side i _ used f g };
      wide = record { kind = subst (IsKindWide (width_at ws x) (width_at ws k)) (sym g.kind) wide.kind; narrow = wide.narrow; side = kept.wide placed };
      few = kept.few few;
      outs_wide = subst₂ AreEntries (sym fit.1) same (select_wide r.steps (width_at ws x) i f.rest placed.queue);
      outs_few = subst₂ (λ most ys. StaysWithin most (count b) ys) (sym s.room.most) same
          (select_few w cs r.steps r.tell x d.values d.bag d.opens (most_rows ns x) i n f.rest t b good few);
    }

-- PROJECT

project_fits : (places : List ℕ) (w : ℕ) (i : Item) (rest : List (Entry Row)) → 0 < length (entries_of i) → AreEntries w (entries_of i ++ rest)
    → All (λ k. k < w) places → AreColumns places i
project_fits places w (Rows t b) rest some h k = subst (λ n. All (λ j. j < n) places) (sym (batch_width w t b rest (batch_some t b some) h)) k
project_fits places w (Tick t) rest some h k = tt

pub project_may : (x : ℕ) (columns : List SourceColumn) → MayLaw (plan.Project x columns)
project_may x columns w ws ns k o log (at_window h e b q n) d z side i s f = absurd s.runs
project_may x columns w ws ns k o log (at_join q r l m b n y p) d z side i s f = absurd s.runs
project_may x columns w ws ns k o log (at_unary q t b n) d z side i s f =
    let r : RunsProject columns o log q = s.runs in
    let wide : IsOneWide (width_at ws x) (width_at ws k) o t q = s.wide in
    let used : is_left side ≡ true = subst (λ a. usable a side ≡ true) r.state f.usable in
    let queue : q ≡ entries_of i ++ f.rest = first_left o log q side i used r.queue f in
    let fit : All (λ j. j < width_at ws x) r.places × (width_at ws k ≡ length r.places) = subst (IsKindWide (width_at ws x) (width_at ws k)) r.kind wide.kind in
    record {
      columns = subst (λ a. HasColumns a side i) (sym r.state) tt;
      named = subst (λ a. HasNamedColumns a i) (sym r.kind) (project_fits r.places (width_at ws x) i f.rest f.some
          (subst (AreEntries (width_at ws x)) queue wide.side.queue) fit.0);
      takes = subst (λ a. Takes a side i (change_at o.kind i (near_of o.state side i))) (sym r.state) tt;
      stood = subst (λ a. HasStood a side i) (sym r.state) tt;
    }

-- as many rows are listed
listed_count : (columns : List SourceColumn) (rows : List Row) → weigh (λ r. 1) (shaped_rows (Listed columns) rows) ≡ weigh (λ r. 1) rows
unfolding weigh
listed_count columns [] = refl
listed_count columns (r ∷ rows) = ap (λ n. 1 + n) (listed_count columns rows)

-- Project by the places of its columns
abbrev pub listing_at : List ℕ → Unary
listing_at places = listing (Listed (columns_at places))

module _ (w : World) (places : List ℕ) (x : ℕ) (v : ℕ → List Row) (below : List Row) (m : ℕ) where
  project_made : (i : Item) (n : ℕ) (rest : List (Entry Row)) (t b : List Row) → 0 < length (entries_of i)
      → GoodOne (listing_at places) v (entries_of i ++ rest) t b n below m → OneMade w (listing_at places) x (entries_of i ++ rest) t b n (projected places i) rest
  project_made (Rows u xs) n rest t b some g =
      one_made w (listing_at places) x (batch u xs ++ rest) t b n n (projected places (Rows u xs)) rest
      (project_rows_made w places x v below m u n xs rest t b (batch_some u xs some) g)
  project_made (Tick u) n rest t b some g =
      one_made w (listing_at places) x (TickAt u ∷ rest) t b n (n + 1) (projected places (Tick u)) rest (project_tick_made w places x v below m u n rest t b g)

  project_few : (most : ℕ) (i : Item) (n : ℕ) (rest : List (Entry Row)) (t b : List Row) → GoodOne (listing_at places) v (entries_of i ++ rest) t b n below m
      → StaysWithin most (count t) (entries_of i ++ rest) → StaysWithin most (count b) (projected places i)
  project_few most (Rows u xs) n rest t b g h =
      let same : Same b (shaped_rows (Listed (columns_at places)) t) = g.shows refl in
      let few : count b ≡ count t = same.weighs (λ r. 1) ∙ listed_count (columns_at places) t in
      subst (λ c. StaysWithin most c (batch u (map (projected_row places) xs))) (sym few) (within_map (columns_in places) most u (count t) xs rest h)
  project_few most (Tick u) n rest t b g h =
      let same : Same b (shaped_rows (Listed (columns_at places)) t) = g.shows refl in
      let few : count b ≡ count t = same.weighs (λ r. 1) ∙ listed_count (columns_at places) t in
      let le : count b ≤ most = omega (arith, few, h.0) in
      (le, le)

listed_row : (places : List ℕ) (w : ℕ) (r : Row) → All (λ k. k < w) places → IsRow w r → IsRow (length places) (columns_in places r)
listed_row places w r within h = record {
  wide = length-map places (value_at r);
  values = All-map IsAnswerValue (value_at r) places (λ j d lt. h.values (get_or places j d) None (omega (arith, within j d lt, h.wide)));
}

project_wide : (places : List ℕ) (w : ℕ) (i : Item) (rest : List (Entry Row)) → All (λ k. k < w) places → AreEntries w (entries_of i ++ rest)
    → AreEntries (length places) (projected places i)
project_wide places w (Rows t b) rest within h =
    let rows : AreSigned w b = batch_wide w t b rest h in
    batch_entries (length places) t (map (projected_row places) b)
    (All-map (λ s. IsRow (length places) s.1) (projected_row places) b (λ j d lt. listed_row places w (get_or b j d).1 within (rows j d lt)))
project_wide places w (Tick t) rest within h = tt

pub project_steps : (x : ℕ) (columns : List SourceColumn) → StepLaw (plan.Project x columns)
project_steps x columns w ws ns k o o2 log (at_window h e b q n) d z side i outs s f put g = absurd s.runs
project_steps x columns w ws ns k o o2 log (at_join q r l m b n y p) d z side i outs s f put g = absurd s.runs
project_steps x columns w ws ns k o o2 log (at_unary q t b n) d z side i outs s f put g =
    let r : RunsProject columns o log q = s.runs in
    let wide : IsOneWide (width_at ws x) (width_at ws k) o t q = s.wide in
    let used : is_left side ≡ true = subst (λ a. usable a side ≡ true) r.state f.usable in
    let queue : q ≡ entries_of i ++ f.rest = first_left o log q side i used r.queue f in
    let fit : All (λ j. j < width_at ws x) r.places × (width_at ws k ≡ length r.places) = subst (IsKindWide (width_at ws x) (width_at ws k)) r.kind wide.kind in
    let placed : IsSideWide (width_at ws x) t (entries_of i ++ f.rest) = subst (IsSideWide (width_at ws x) t) queue wide.side in
    let few : StaysWithin (most_rows ns x) (count t) (entries_of i ++ f.rest) = subst (StaysWithin (most_rows ns x) (count t)) queue s.few in
    let good : GoodOne (listing_at r.places) d.values (entries_of i ++ f.rest) t b n d.bag d.opens =
    subst₂ (λ cols l. GoodOne (listing (Listed cols)) d.values l t b n d.bag d.opens) r.listed queue s.good in
    let is : Put (projected r.places i) ≡ Put outs = subst₂ (λ a c. outs_at a side i (near_of c side i) ≡ Put outs) r.kind r.state put in
    let same : projected r.places i ≡ outs = cc in
    let next : o2.state ≡ state.Nothing = subst (λ a. IsNext a side i (change_at o.kind i (near_of o.state side i)) o2.state) r.state g.state in
    let made : OneMade w (listing_at r.places) x (entries_of i ++ f.rest) t b n (projected r.places i) f.rest =
    project_made w r.places x d.values d.bag d.opens i n f.rest t b f.some good in
    let cell : Cell = at_unary f.rest made.taken made.shown made.opens in
    let kept : TakenKept (width_at ws x) (most_rows ns x) t (entries_of i ++ f.rest) made.taken f.rest =
    one_kept w (unary (listing_at r.places) x) (at_unary (entries_of i ++ f.rest) t b n) cell (projected r.places i)
    made.turn d.values d.bag d.opens good.edge (width_at ws x) (most_rows ns x) in
    let turn : Turn w (unary (listing_at r.places) x) (at_unary q t b n) outs cell =
    subst₂ (λ l ys. Turn w (unary (listing_at r.places) x) (at_unary l t b n) ys cell) (sym queue) same made.turn in
    record {
      cell = cell;
      turn = subst (λ cols. Turn w (unary (listing (Listed cols)) x) (at_unary q t b n) outs cell) (sym r.listed) turn;
      runs = record { places = r.places; kind = g.kind ∙ r.kind; state = next; listed = r.listed; queue = left_after o o2 log side i _ used f g };
      wide = record { kind = subst (IsKindWide (width_at ws x) (width_at ws k)) (sym g.kind) wide.kind; narrow = wide.narrow; side = kept.wide placed };
      few = kept.few few;
      outs_wide = subst₂ AreEntries (sym fit.1) same (project_wide r.places (width_at ws x) i f.rest fit.0 placed.queue);
      outs_few = subst₂ (λ most ys. StaysWithin most (count b) ys) (sym s.room.most) same
          (project_few w r.places x d.values d.bag d.opens (most_rows ns x) i n f.rest t b good few);
    }
