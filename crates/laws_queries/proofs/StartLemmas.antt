-- A query that is registered runs.
use Rattle.std.proofs.Common.{◌≡◌, ℕ, zero, suc, ◌-◌, ◌<◌, ◌≤◌, max, true, List, [], ◌∷◌, ◌++◌, map, length, get_or, refl, sym, ap, ◌∙◌, subst, subst₂, arith}
use Rattle.std.specs.List.{AllByRecursion}
use Rattle.std.proofs.lemmas.List.{get_or-map, length-map}
use Rattle.std.proofs.lemmas.List.FromFn.{length-map-range_with_len}
use Rattle.values.specs.declared.TheConstants.{MAX_COLUMNS}
use Rattle.values.specs.Resolved.{condition_of, window_of}
use Rattle.values.specs.StreamOperators.{operator_of}
use Rattle.values.specs.declared.resolved.ListItem.TheVariants as listed
use Rattle.values.specs.declared.resolved.StreamOperator.{StreamOperator}
use Rattle.values.specs.declared.resolved.Window.{Window}
use Rattle.values.specs.declared.resolved.Window.TheVariants as window
use Rattle.values.specs.Answers as cql
use Rattle.names.specs.Views.{conditions_of}
use Rattle.column.specs.declared.batch.Side.TheVariants.{Left, Right}
use Rattle.op_queue.specs.Logs.{Closed}
use Rattle.op_queue.proofs.PathLemmas.{Leads-none}
use Rattle.op_queue.proofs.SignedLemmas.{Same-refl}
use Rattle.group.specs.Groups.{GroupBy, once_each}
use Rattle.group.specs.Turns as groups
use Rattle.group.proofs.LawLemmas.{begins}
use Rattle.join.specs.Turns as join
use Rattle.turn.specs.declared.kinds.Kind.TheVariants as kind
use Rattle.operators.specs.Inboxes.{is_fed}
use Rattle.operators.specs.Ready.{PlainOperator, entries_in, waiting}
use Rattle.operators.specs.declared.inboxes.Inbox.{Inbox}
use Rattle.operators.specs.declared.states.State.TheVariants as state
use Rattle.plan.specs.Nodes as plan
use Rattle.plan.specs.Views.{node_of, nodes_of}
use Rattle.plan.specs.declared.node.Node.{Node}
use Rattle.plan.specs.declared.node.Node.TheVariants.{Window as Source, Select, Join, Project, Group, Distinct, ToStream}
use Rattle.plan.proofs.Lists.{each-unmap}
use Rattle.physical_plans.specs.Beginnings as made
use Rattle.windows.specs.Windows.{IsFormed}
use Rattle.physical_plans.specs.Beginnings.{AreMade, HaveNarrowRows, IsMade, IsMakeable, grouping}
use Rattle.physical_plans.specs.Beginnings.{key_pair, width_made, widths_from, window_at}
use Rattle.physical_plans.specs.Nothing.{nothing_waits}
use Rattle.physical_plans.proofs.LawLemmas.{kinds_mean}
use Rattle.reference.specs.Machine.{Machine, Place, Registered, opens}
use Rattle.laws_dataflow.specs.Laws.{IsGood}
use Rattle.laws_dataflow.specs.Laws as nets
use Rattle.laws_dataflow.specs.Nets as net
use Rattle.laws_dataflow.specs.Operators as net_nodes
use Rattle.laws_dataflow.specs.Plans.{world_of}
use Rattle.laws_dataflow.specs.Roots.{below_root}
use Rattle.laws_dataflow.specs.Starts.{fresh_cell, fresh_root}
use Rattle.laws_dataflow.proofs.AnswerLemmas.{shaped}
use Rattle.laws_dataflow.proofs.PlanLemmas.{Shaped}
use Rattle.laws_dataflow.proofs.StartLemmas.{machine_starts}
use Rattle.laws_queries.specs.Counts.{AreFew, count, most_rows}
use Rattle.laws_queries.specs.Queries.{HasInboxes, IsRunning}
use Rattle.laws_queries.specs.Plain.{log_at, no_operator, node_at, operator_at, place_of, stream_log}
use Rattle.laws_queries.specs.Machines.{columns_of, widths_of}
use Rattle.laws_queries.specs.Rows.{AreSourceWidths}
use Rattle.laws_queries.specs.Registrations.{IsCoded, IsFit, IsFresh, IsTextWindow, MayMake, Starts, lengths_of}
use Rattle.laws_queries.specs.Runs.{Runs}
use Rattle.laws_queries.specs.Widths.{IsKindWide, IsWide, width_at}
use Rattle.laws_queries.proofs.BeginLemmas.{SelectFits, WindowBegins, all_none, all_one, by_same, count_none, nothing_closed, places_fit, reads_of, select_fits, window_begins}
use Rattle.laws_queries.proofs.GroupLemmas.{lean_begins}
use Rattle.laws_queries.proofs.HeartbeatLemmas.{closed_at_source}
use Rattle.laws_queries.proofs.PlanWidths.{AllFit, FitsAt, IsInner, NodeFits, all_widths, fit_at, inner_at, narrow_at, plan_fits, width_by}
use Rattle.laws_queries.proofs.QueryLemmas.{same_count}

-- THE CODE'S NODES are as wide as the plan's
width_coded : (vs done : List ℕ) (n : Node) → width_made vs done n ≡ width_by vs done (node_of n)
width_coded vs done (Source s) = refl
width_coded vs done (Select i cs) = refl
width_coded vs done (Join i j keys) = refl
width_coded vs done (Project i places) = sym (length-map places.items _)
width_coded vs done (Group i by items) = sym (length-map items.items _)
width_coded vs done (Distinct i) = refl
width_coded vs done (ToStream i op) = refl

widths_coded : (vs done : List ℕ) (ns : List Node) → widths_from vs done ns ≡ all_widths vs done (nodes_of ns)
widths_coded vs done [] = refl
widths_coded vs done (n ∷ ns) =
    ap (λ w. widths_from vs (done ++ w ∷ []) ns) (width_coded vs done n) ∙ widths_coded vs (done ++ width_by vs done (node_of n) ∷ []) ns

narrow_coded : (vs done : List ℕ) (ns : List Node) → AllFit vs done (nodes_of ns) → HaveNarrowRows vs done ns
narrow_coded vs done [] f = tt
narrow_coded vs done (n ∷ ns) f =
    let e : width_by vs done (node_of n) ≡ width_made vs done n = sym (width_coded vs done n) in
    (subst (λ w. w ≤ MAX_COLUMNS) e f.1, subst (λ w. HaveNarrowRows vs (done ++ w ∷ []) ns) e (narrow_coded vs (done ++ width_by vs done (node_of n) ∷ []) ns f.2))

-- WINDOWS by the numbers of their sources
text_window : (ws : List Window) (s : ℕ) → AllByRecursion IsTextWindow (map window_of ws) → IsTextWindow (window_of (window_at ws s))
text_window [] s h = tt
text_window (w ∷ ws) zero h = h.0
text_window (w ∷ ws) (suc s) h = text_window ws s h.1

window_is : (ws : List Window) (s : ℕ) → get_or (map window_of ws) s Rattle.values.specs.Plain.unbounded ≡ window_of (window_at ws s)
window_is [] s = refl
window_is (w ∷ ws) zero = refl
window_is (w ∷ ws) (suc s) = window_is ws s

makeable_window : (w : Window) → IsTextWindow (window_of w) → IsFormed w
makeable_window (window.Instants r) h = tt
makeable_window (window.LastRows columns n) h = h

-- EACH IS MADE
made_many : (ws : List Window) (vs widths places : List ℕ) (start : ℕ) (ns : List Node) (os : List PlainOperator) → AreMade ws vs widths places start ns os → length os ≡ length ns
made_many ws vs widths places start [] [] h = refl
made_many ws vs widths places start [] (o ∷ os) h = elim h [ ]
made_many ws vs widths places start (n ∷ ns) [] h = elim h [ ]
made_many ws vs widths places start (n ∷ ns) (o ∷ os) h = ap suc (made_many ws vs widths places start ns os h.1)

made_at : (ws : List Window) (vs widths places : List ℕ) (start : ℕ) (ns : List Node) (os : List PlainOperator) (k : ℕ) (d : Node) (e : PlainOperator) → k < length ns → AreMade ws vs widths places start ns os
    → IsMade ws vs widths places start (get_or ns k d) (get_or os k e)
made_at ws vs widths places start [] os k d e l h = absurd (omega (arith, l))
made_at ws vs widths places start (n ∷ ns) [] k d e l h = elim h [ ]
made_at ws vs widths places start (n ∷ ns) (o ∷ os) zero d e l h = h.0
made_at ws vs widths places start (n ∷ ns) (o ∷ os) (suc k) d e l h = made_at ws vs widths places start ns os k d e (omega (arith, l)) h.1

-- THEY MAY BE MADE
makeable : (windows : List Window) (vs ws : List ℕ) (k : ℕ) (n : Node) → AllByRecursion IsTextWindow (map window_of windows) → ((i : ℕ) → get_or ws i 0 ≤ MAX_COLUMNS) → FitsAt vs ws k (node_of n) → IsMakeable windows ws n
makeable windows vs ws k (Source s) t narrow f = makeable_window (window_at windows s) (text_window windows s t)
makeable windows vs ws k (Select i cs) t narrow f = conditions cs.items f.fits
  where
    conditions : (cs : List Rattle.values.specs.declared.resolved.Condition.Condition) → NodeFits vs ws (plan.Select i (conditions_of cs)) → AllByRecursion (λ c. Rattle.row_nodes.specs.Steps.IsOfOneSource (condition_of c)) cs
    conditions [] h = tt
    conditions (c ∷ cs) h = each-unmap Rattle.row_nodes.specs.Steps.IsOfOneSource condition_of (c ∷ cs) (all_one (get_or ws i 0) (conditions_of (c ∷ cs)) h.0)
makeable windows vs ws k (Join i j keys) t narrow f = omega (arith, narrow k, f.width)
makeable windows vs ws k (Project i places) t narrow f = omega (arith, narrow k, f.width, length-map places.items Rattle.plan.specs.Build.at)
makeable windows vs ws k (Group i by items) t narrow f = (omega (arith, f.fits, length-map by.items Rattle.plan.specs.Build.at), omega (arith, narrow k, f.width, length-map items.items Rattle.values.specs.Resolved.item_of))
makeable windows vs ws k (Distinct i) t narrow f = narrow i
makeable windows vs ws k (ToStream i op) t narrow f = tt

-- AN OPERATOR BELOW THE ROOT, with what is known of its streams
record BeginsAt (ws : List ℕ) (m : Machine) (q : Registered) (log : Closed) (k : ℕ) (node : plan.Node) (o : PlainOperator) : Type 0 where
  runs : Runs (world_of m q) (width_at ws k) node o log (fresh_cell q.first (net_nodes.node_of node))
  wide : IsWide ws k node o (fresh_cell q.first (net_nodes.node_of node))
  few : AreFew (world_of m q) q.nodes node (fresh_cell q.first (net_nodes.node_of node))
  inboxes : HasInboxes q log node o

nothing : (o : PlainOperator) (log : Closed) → o.left ≡ nothing_waits → [] ≡ waiting o log Left
nothing o log e = ap (λ (i : Inbox). entries_in i log) (sym e)

nothing_right : (o : PlainOperator) (log : Closed) → o.right ≡ nothing_waits → [] ≡ waiting o log Right
nothing_right o log e = ap (λ (i : Inbox). entries_in i log) (sym e)

fed : (i : Inbox) → i ≡ nothing_waits → is_fed i ≡ true
fed i e = ap is_fed e

module _ (windows : List Window) (vs ws : List ℕ) (m : Machine) (q : Registered) (log : Closed) (k : ℕ) (o : PlainOperator) (narrow : (i : ℕ) → get_or ws i 0 ≤ MAX_COLUMNS) where
  none_few : (most : ℕ) → count [] ≤ most
  none_few most = omega (arith, count_none)

  source_begins : (s : ℕ) → q.meaning.windows ≡ map window_of windows → AllByRecursion IsTextWindow (map window_of windows) → s < length q.places → get_or ws k 0 ≡ get_or vs s 0 → 0 < get_or vs s 0
      → (world_of m q).inputs s ≡ [] → (world_of m q).came s ≡ 0 → log.until ≤ q.first → IsMade windows vs ws (lengths_of q) q.first (Source s) o → BeginsAt ws m q log k (plan.Window s) o
  source_begins s shows text low width some none came until h =
      let place : get_or (lengths_of q) s 0 ≡ (place_of q s).arrivals = get_or-map (λ (p : Place). p.arrivals) q.places s (record { stream = 0; arrivals = 0 }) 0 low in
      let reads : made.ReadsSource (place_of q s).arrivals q.first o.left = subst (λ p. made.ReadsSource p q.first o.left) place h.left in
      let b : WindowBegins q.first (get_or vs s 0) (window_at windows s) o.kind o.state = window_begins q.first (get_or vs s 0) (window_at windows s) o.kind o.state h.kind h.state in
      let is : (world_of m q).windows s ≡ window_of (window_at windows s) = ap (λ l. get_or l s Rattle.values.specs.Plain.unbounded) shows ∙ window_is windows s in
      let empty : length ((world_of m q).inputs s) ≡ 0 = ap length none in
      record {
        runs = record {
          kind = b.belongs;
          stands = subst (λ w. Rattle.laws_queries.specs.Runs.WindowStands q.first w q.first o.state []) (sym is) b.stands;
          shows = b.shows;
          queue = nothing_closed (place_of q s).arrivals q.first log until ∙ sym (reads.entries log);
        };
        wide = record {
          state = subst (λ w. Rattle.laws_queries.specs.Widths.IsStateWide w o.state) (sym width) b.wide;
          some = omega (arith, some, width);
          side = record { taken = all_none (Rattle.laws_queries.specs.Widths.IsRow (width_at ws k)); queue = tt };
        };
        few = subst (λ l. Rattle.laws_queries.specs.Counts.AreWindowRowsFew (Rattle.laws_queries.specs.Counts.source_rows q.nodes) ((world_of m q).closed s) ((world_of m q).came s) l [] []) (sym none) (record { few = omega arith; stream = omega (arith, came) });
        inboxes = record { left = (low, reads_of (place_of q s).arrivals q.first log o.left reads, reads.within log); right = fed o.right h.right };
      }

  inner_begins : (n : Node) → IsInner (node_of n) → IsMade windows vs ws (lengths_of q) q.first n o → FitsAt vs ws k (node_of n)
      → ((s : ℕ) → n ≡ Source s → BeginsAt ws m q log k (plan.Window s) o) → BeginsAt ws m q log k (node_of n) o
  inner_begins (Source s) i h f w = w s refl
  inner_begins (Select i cs) n h f w =
      let sel : SelectFits (get_or ws i 0) (conditions_of cs.items) = select_fits vs ws i (conditions_of cs.items) f.fits in
      record {
        runs = record { steps = Rattle.physical_plans.specs.Conjuncts.all_steps (conditions_of cs.items); kind = h.kind; state = h.state; tell = sel.tell; queue = nothing o log h.left };
        wide = record { kind = subst (IsKindWide (width_at ws i) (width_at ws k)) (sym h.kind) (sel.fit, f.width); narrow = narrow i; side = record { taken = all_none (Rattle.laws_queries.specs.Widths.IsRow (width_at ws i)); queue = tt } };
        few = none_few (most_rows q.nodes i);
        inboxes = record { left = fed o.left h.left; right = fed o.right h.right };
      }
  inner_begins (Join i j keys) n h f w = record {
    runs = record {
      held = join.beginning (map key_pair keys.items) (get_or ws i 0) (get_or ws j 0);
      kind = h.kind;
      state = h.state;
      meets = λ ls rs. kinds_mean.joins keys.items ls rs;
      stands = record { left = record { rows = refl; wide = all_none _ }; right = record { rows = refl; wide = all_none _ } };
      left_ticked = refl;
      right_ticked = refl;
      left_queue = nothing o log h.left;
      right_queue = nothing_right o log h.right;
    };
    wide = record {
      state = subst (Rattle.laws_queries.specs.Widths.IsJoinWide (width_at ws i) (width_at ws j)) (sym h.state) (refl, refl);
      sum = f.width;
      narrow = narrow k;
      left = record { taken = all_none (Rattle.laws_queries.specs.Widths.IsRow (width_at ws i)); queue = tt };
      right = record { taken = all_none (Rattle.laws_queries.specs.Widths.IsRow (width_at ws j)); queue = tt };
    };
    few = (none_few (most_rows q.nodes i), none_few (most_rows q.nodes j));
    inboxes = record { left = fed o.left h.left; right = fed o.right h.right };
  }
  inner_begins (Project i places) n h f w = record {
    runs = record { places = places.items; kind = h.kind; state = h.state; listed = refl; queue = nothing o log h.left };
    wide = record {
      kind = subst (IsKindWide (width_at ws i) (width_at ws k)) (sym h.kind) (places_fit (width_at ws i) places.items f.fits, f.width ∙ length-map places.items Rattle.plan.specs.Build.at);
      narrow = narrow i;
      side = record { taken = all_none (Rattle.laws_queries.specs.Widths.IsRow (width_at ws i)); queue = tt };
    };
    few = none_few (most_rows q.nodes i);
    inboxes = record { left = fed o.left h.left; right = fed o.right h.right };
  }
  inner_begins (Group i by items) n h f w =
      let g : GroupBy = grouping by.items items.items in
      record {
        runs = record { held = groups.beginning g; kind = h.kind; state = h.state; keyed = by_same by.items; listed = refl; stands = begins g; few = lean_begins g; queue = nothing o log h.left };
        wide = record {
          one = record {
            kind = subst (IsKindWide (width_at ws i) (width_at ws k)) (sym h.kind) (f.width ∙ length-map items.items Rattle.values.specs.Resolved.item_of);
            narrow = narrow i;
            side = record { taken = all_none (Rattle.laws_queries.specs.Widths.IsRow (width_at ws i)); queue = tt };
          };
          puts = all_none (Rattle.laws_queries.specs.Widths.IsRow (width_at ws k));
        };
        few = (none_few (most_rows q.nodes i), none_few _);
        inboxes = record { left = fed o.left h.left; right = fed o.right h.right };
      }
  inner_begins (Distinct i) n h f w =
      let g : GroupBy = once_each (get_or ws i 0) in
      record {
        runs = record {
          held = groups.beginning g;
          kind = h.kind;
          state = h.state;
          all = ap once_each (sym f.width);
          some = omega (arith, f.fits, f.width);
          stands = begins g;
          few = lean_begins g;
          queue = nothing o log h.left;
        };
        wide = record {
          group = record {
            one = record {
              kind = subst (IsKindWide (width_at ws i) (width_at ws k)) (sym h.kind) (f.width ∙ sym (length-map-range_with_len listed.Key 0 (get_or ws i 0)));
              narrow = narrow i;
              side = record { taken = all_none (Rattle.laws_queries.specs.Widths.IsRow (width_at ws i)); queue = tt };
            };
            puts = all_none (Rattle.laws_queries.specs.Widths.IsRow (width_at ws k));
          };
          same = sym f.width;
        };
        few = (none_few (most_rows q.nodes i), none_few _);
        inboxes = record { left = fed o.left h.left; right = fed o.right h.right };
      }
  inner_begins (ToStream i op) n h f w = elim n [ ]

-- THE ROOT
record RootBegins (op : cql.StreamOperator) (o : PlainOperator) : Type 0 where
  told : StreamOperator
  is : operator_of told ≡ op
  kind : o.kind ≡ kind.ToStream
  state : o.state ≡ state.Root (fresh_root told)
  left : o.left ≡ nothing_waits
  right : o.right ≡ nothing_waits

root_begins : (windows : List Window) (vs ws places : List ℕ) (first i : ℕ) (op : cql.StreamOperator) (n : Node) (o : PlainOperator) → node_of n ≡ plan.ToStream i op → IsMade windows vs ws places first n o → RootBegins op o
root_begins windows vs ws places first i op (Source s) o e h = absurd (cc)
root_begins windows vs ws places first i op (Select j cs) o e h = absurd (cc)
root_begins windows vs ws places first i op (Join j k keys) o e h = absurd (cc)
root_begins windows vs ws places first i op (Project j columns) o e h = absurd (cc)
root_begins windows vs ws places first i op (Group j by items) o e h = absurd (cc)
root_begins windows vs ws places first i op (Distinct j) o e h = absurd (cc)
root_begins windows vs ws places first i op (ToStream j told) o e h =
    let is : operator_of told ≡ op = cc in
    record { told = told; is = is; kind = h.kind; state = h.state; left = h.left; right = h.right }

fresh_shown : (n : ℕ) (x : net.Node) → net.cell_shown (fresh_cell n x) ≡ []
fresh_shown n (net.window k) = refl
fresh_shown n (net.unary f x) = refl
fresh_shown n (net.join f x y) = refl

some_of : (vs : List ℕ) (s : ℕ) → AllByRecursion (λ v. 0 < v) vs → s < length vs → 0 < get_or vs s 0
some_of [] s h l = absurd (omega (arith, l))
some_of (v ∷ vs) zero h l = h.0
some_of (v ∷ vs) (suc s) h l = some_of vs s h.1 (omega (arith, l))

fed_root : (q : Registered) (log : Closed) (i : ℕ) (op : cql.StreamOperator) (o : PlainOperator) → o.left ≡ nothing_waits → o.right ≡ nothing_waits → HasInboxes q log (plan.ToStream i op) o
fed_root q log i op o l r = record { left = fed o.left l; right = fed o.right r }

-- ALL OF THEM
module _ (vs : List ℕ) (m : Machine) (q : Registered) (fit : IsFit vs q.meaning) (stands : nets.Stands vs m q) (windows : List Window) (nodes : List Node) (coded : IsCoded windows nodes q) where
  plan_fit : AllFit vs [] (nodes_of nodes)
  plan_fit = subst (AllFit vs []) (sym stands.plan.is ∙ coded.runs) (plan_fits vs q.meaning stands.plan.some stands.plan.scoped fit)

  abbrev ws : List ℕ
  ws = made.widths_of vs nodes

  widths_are : all_widths vs [] (nodes_of nodes) ≡ ws
  widths_are = sym (widths_coded vs [] nodes)

  narrow_ws : (i : ℕ) → get_or ws i 0 ≤ MAX_COLUMNS
  narrow_ws i = subst (λ l. get_or l i 0 ≤ MAX_COLUMNS) widths_are (narrow_at vs (nodes_of nodes) plan_fit i)

  text : AllByRecursion IsTextWindow (map window_of windows)
  text = subst (AllByRecursion IsTextWindow) coded.shows fit.windows

  shape : Shaped (world_of m q).closed q.meaning q.nodes
  shape = shaped vs m q stands.plan stands.wide

  many : length q.nodes ≡ length nodes
  many = ap length coded.runs ∙ length-map nodes node_of

  node_is : (d : Node) (k : ℕ) → k < length nodes → node_at q k ≡ node_of (get_or nodes k d)
  node_is d k l = ap (λ ns. get_or ns k (plan.Window 0)) coded.runs ∙ get_or-map node_of nodes k d (plan.Window 0) l

  fits_at : (d : Node) (k : ℕ) → k < length nodes → FitsAt vs ws k (node_of (get_or nodes k d))
  fits_at d k l =
      subst₂ (λ z x. FitsAt vs z k x) widths_are (get_or-map node_of nodes k d (plan.Window 0) l)
      (fit_at vs (nodes_of nodes) k (plan.Window 0) (subst (Rattle.plan.proofs.Numbers.Rises 0) coded.runs shape.rises) plan_fit (omega (arith, l, length-map nodes node_of)))

  may_make : MayMake windows vs nodes
  may_make = record {
    narrow = narrow_coded vs [] nodes plan_fit;
    makeable = λ k d l. makeable windows vs ws k (get_or nodes k d) text narrow_ws (fits_at d k l);
  }

  source_widths : vs ≡ widths_of m.streams q → AreSourceWidths ws m q
  source_widths e k s kc is =
      let l : k < length nodes = omega (arith, kc, many) in
      let f : FitsAt vs ws k (plan.Window s) = subst (FitsAt vs ws k) (sym (node_is (Source 0) k l) ∙ is) (fits_at (Source 0) k l) in
      let low : s < length q.places = omega (arith, f.fits, stands.wide.places) in
      f.width ∙ ap (λ l. get_or l s 0) e ∙ get_or-map (λ (p : Place). columns_of m.streams p.stream) q.places s (record { stream = 0; arrivals = 0 }) 0 low

  -- as they are made
  module _ (os : List PlainOperator) (fresh : IsFresh m q) (h : AreMade windows vs ws (lengths_of q) q.first nodes os) where
    abbrev any_node : Node
    any_node = Source 0

    abbrev rootn : ℕ
    rootn = below_root q.nodes

    made_here : (k : ℕ) → k < length nodes → IsMade windows vs ws (lengths_of q) q.first (get_or nodes k any_node) (operator_at os k)
    made_here k l = made_at windows vs ws (lengths_of q) q.first nodes os k any_node no_operator l h

    until_low : (s : ℕ) → s < length q.places → (stream_log m.streams (place_of q s).stream).until ≤ q.first
    until_low s l =
        let c : max q.first (get_or (opens m.streams q.places) s 0) ≡ max q.first (stream_log m.streams (place_of q s).stream).until = closed_at_source m q s l in
        omega (arith, c, fresh.opens s)

    source_here : (k s : ℕ) (l : k < length nodes) → get_or nodes k any_node ≡ Source s → BeginsAt ws m q (log_at m q k) k (plan.Window s) (operator_at os k)
    source_here k s l e =
        let f : FitsAt vs ws k (plan.Window s) = subst (λ n. FitsAt vs ws k (node_of n)) e (fits_at any_node k l) in
        let low : s < length q.places = omega (arith, f.fits, stands.wide.places) in
        let is : node_at q k ≡ plan.Window s = node_is any_node k l ∙ ap node_of e in
        let until : (log_at m q k).until ≤ q.first = subst (λ x. (stream_log m.streams (Rattle.laws_queries.specs.Plain.source_of q x)).until ≤ q.first) (sym is) (until_low s low) in
        source_begins windows vs ws m q (log_at m q k) k (operator_at os k) narrow_ws s coded.shows text low f.width (some_of vs s fit.some f.fits) (fresh.inputs s) (fresh.came s) until
        (subst (λ n. IsMade windows vs ws (lengths_of q) q.first n (operator_at os k)) e (made_here k l))

    inner_here : (k : ℕ) → k < rootn → BeginsAt ws m q (log_at m q k) k (node_at q k) (operator_at os k)
    inner_here k kc =
        let l : k < length nodes = omega (arith, kc, many) in
        let below : IsInner (node_at q k) = subst (λ ns. IsInner (get_or ns k (plan.Window 0))) (sym stands.plan.is) (inner_at vs q.meaning k (subst (λ ns. k < length ns - 1) stands.plan.is kc)) in
        subst (λ x. BeginsAt ws m q (log_at m q k) k x (operator_at os k)) (sym (node_is any_node k l))
        (inner_begins windows vs ws m q (log_at m q k) k (operator_at os k) narrow_ws (get_or nodes k any_node) (subst IsInner (node_is any_node k l) below) (made_here k l) (fits_at any_node k l)
        (λ s e. source_here k s l e))

    root_low : rootn < length nodes
    root_low = omega (arith, shape.two, many)

    root_here : RootBegins q.meaning.operator (operator_at os rootn)
    root_here = root_begins windows vs ws (lengths_of q) q.first (length q.nodes - 2) q.meaning.operator (get_or nodes rootn any_node) (operator_at os rootn) (sym (node_is any_node rootn root_low) ∙ shape.root) (made_here rootn root_low)

    good_here : IsGood m q (λ k. fresh_cell q.first (net_nodes.net_of q.nodes k)) (fresh_root root_here.told) [] []
    good_here = machine_starts m q root_here.told fresh.starts fresh.early fresh.inputs fresh.opens

    whole_none : count good_here.root.whole ≡ count []
    whole_none = same_count _ _ _ [] _ [] _ 0 _ 0 [] good_here.root.edge (Leads-none (λ t. []) 0 (Same-refl [])) (sym (fresh_shown q.first (net_nodes.net_of q.nodes (rootn - 1))))

    runs_made : IsRunning vs ws m q os []
    runs_made = record {
      stands = stands;
      many = made_many windows vs ws (lengths_of q) q.first nodes os h ∙ sym many;
      cells = λ k. fresh_cell q.first (net_nodes.net_of q.nodes k);
      held = fresh_root root_here.told;
      queue = [];
      good = good_here;
      inner = λ k kc. (let b = inner_here k kc in record { runs = b.runs; wide = b.wide; few = b.few; inboxes = b.inboxes });
      last = record {
        runs = record { kind = root_here.kind; state = root_here.state; queue = nothing (operator_at os rootn) (log_at m q rootn) root_here.left };
        operator = root_here.is;
        wide = tt;
        few = omega (arith, whole_none, count_none);
        inboxes = subst (λ x. HasInboxes q (log_at m q rootn) x (operator_at os rootn)) (sym shape.root) (fed_root q (log_at m q rootn) (length q.nodes - 2) q.meaning.operator (operator_at os rootn) root_here.left root_here.right);
      };
    }

pub queries_start : (vs : List ℕ) (m : Machine) (q : Registered) → IsFit vs q.meaning → nets.Stands vs m q → Starts vs m q
queries_start vs m q f s = record { may = λ windows nodes c. may_make vs m q f s windows nodes c; runs = λ windows nodes os c fr h. runs_made vs m q f s windows nodes c os fr h; reads = λ windows nodes c e. source_widths vs m q f s windows nodes c e }
