-- A running query after an append: what is closed stays, so nothing of it changes.
use Rattle.std.proofs.Common.{◌≡◌, ℕ, ℤ, pos, negsuc, zero, suc, nat_abs, ◌+◌, ◌-◌, ◌<◌, ◌≤◌, ◌==◌, ◌&&◌, ◌||◌, nat_le, nat_lt, int_lt, int_le, ◌+ℤ◌, not, Bool, true, false, cond, max, ⊎_elim, Option, Some, None, List, [], ◌∷◌, ◌++◌, filter, map, length, get_or, refl, sym, ap, ap₂, ◌∙◌, subst, subst₂, arith, append-nil, length-append, le_trans, eqb-true}
use Rattle.std.specs.List.{AllByRecursion, list_all, list_any}
use Rattle.std.specs.Prelude.{slice_get}
use Rattle.std.specs.Option.{option_map, option_map_or}
use Rattle.std.proofs.lemmas.Bool.{eqb-false, leb-true, ltb-false, ne_eqb}
use Rattle.std.proofs.lemmas.List.Elements.{filter-append}
use Rattle.values.specs.Row.{Row}
use Rattle.values.specs.Window.{Element, input_of}
use Rattle.op_queue.specs.Logs.{Closed}
use Rattle.windows.specs.Laws.{Each}
use Rattle.plan.specs.Nodes as plan
use Rattle.plan.specs.Nodes.{Window, Select, Join, Project, Group, Distinct, ToStream}
use Rattle.names.specs.Faults.{first_of}
use Rattle.reference.specs.Commands.{Append, Heartbeat, after, append_tests, appended, change, elements_from, first_fault, heartbeat_tests, is_instant, is_stream_value, of_stream}
use Rattle.reference.specs.Machine.{Machine, Place, Registered, Stream, input_at}
use Rattle.reference.specs.declared.fault.Fault.{Fault}
use Rattle.reference.specs.declared.fault.Fault.TheVariants.{BadWidth, TooMany, ValueRange, InstantRange, Late, Backward, Leap, StreamFull}
use Rattle.reference.specs.declared.limits.TheConstants.{MAX_APPENDED, MAX_LEAP, MAX_STREAM_ROWS}
use Rattle.reference.proofs.StreamLemmas.{alone, none_first, none_later}
use Rattle.stream_store.specs.Closing.{by_key, closed_of}
use Rattle.laws_dataflow.specs.Laws as nets
use Rattle.laws_dataflow.specs.Laws.{IsGood}
use Rattle.laws_dataflow.specs.Windows.{AreFrom, opened}
use Rattle.laws_dataflow.specs.Nets.{World, Cell, at_window, at_unary, at_join}
use Rattle.laws_dataflow.specs.Plans.{arrivals_at, world_of}
use Rattle.laws_dataflow.specs.Roots.{below_root}
use Rattle.laws_dataflow.proofs.MachineLemmas.{append_inputs, append_opens, arriving, machine_appends}
use Rattle.operators.specs.Ready.{PlainOperator}
use Rattle.laws_queries.specs.Runs.{Runs, RunsRoot, RunsWindow}
use Rattle.laws_queries.specs.Counts.{AreFew, StaysWithin, most_rows, source_rows}
use Rattle.laws_queries.specs.Widths.{width_at}
use Rattle.laws_queries.specs.Rooms.{HasShortInputs}
use Rattle.laws_queries.specs.Queries.{HasInboxes, IsRunning, RunsAt}
use Rattle.laws_queries.specs.Plain.{log_at, no_log, node_at, operator_at, source_of, stream_log}
use Rattle.laws_queries.proofs.BeatLemmas.{IsLaterIn, change_here, change_there, same_number}
use Rattle.laws_queries.proofs.QueryLemmas.{same_count}
use Rattle.laws_queries.proofs.MachineCounts.{since_now}
use Rattle.laws_queries.proofs.PlanCounts.{both_kept}

-- AN ACCEPTED CALL
not_late : (u : ℕ) (z : ℤ) → int_lt z (pos u) ≡ false → u ≤ nat_abs z
not_late u (pos m) g = ltb-false m u g
not_late u (negsuc m) g = cc

-- a heartbeat closes no instant anew
later_in : (at : ℤ) (o : Option Stream) → ((s : Stream) → o ≡ Some s → int_lt at (pos s.first_open) ≡ false) → IsLaterIn o at
later_in at None h = tt
later_in at (Some s) h = let l : s.first_open ≤ nat_abs at = not_late s.first_open at (h s refl) in omega (arith, l)

later_option : (at : ℤ) (o : Option Stream) → of_stream (λ s. heartbeat_tests s at) o ≡ None → IsLaterIn o at
later_option at None h = tt
later_option at (Some s) h =
    let leap : List (Bool × Fault) = (int_le (pos s.first_open +ℤ MAX_LEAP) at, Leap) ∷ [] in
    let rest = none_later (not (is_instant at)) InstantRange ((int_lt at (pos s.first_open), Backward) ∷ leap) h in
    let l : s.first_open ≤ nat_abs at = not_late s.first_open at (none_first (int_lt at (pos s.first_open)) Backward leap rest) in
    omega (arith, l)

pub accepted_later : (m : Machine) (n : ℕ) (at : ℤ) → first_fault m (Heartbeat n at) ≡ None → IsLaterIn (slice_get m.streams n) at
accepted_later m n at h = later_option at (slice_get m.streams n) h

or_rest : (a b : Bool) → (a || b) ≡ false → b ≡ false
or_rest true b h = absurd (cc)
or_rest false b h = h

late_elements : (u n : ℕ) (rows : List (ℤ × List (Option ℤ))) → list_any (λ r. int_lt r.0 (pos u)) rows ≡ false → AllByRecursion (λ e. u ≤ e.instant) (elements_from n rows)
late_elements u n [] h = tt
late_elements u n (r ∷ rows) h = (not_late u r.0 (first_none (int_lt r.0 (pos u)) refl), late_elements u (suc n) rows (or_rest (int_lt r.0 (pos u)) (list_any (λ r. int_lt r.0 (pos u)) rows) h))
  where
    first_none : (b : Bool) → int_lt r.0 (pos u) ≡ b → int_lt r.0 (pos u) ≡ false
    first_none true e = let g : true ≡ false = sym (ap (λ b. b || list_any (λ r. int_lt r.0 (pos u)) rows) e) ∙ h in absurd (cc)
    first_none false e = e

-- rows come at instants that are not closed
come_late : (s : Stream) (rows : List (ℤ × List (Option ℤ))) → first_of (append_tests s rows) ≡ None → AllByRecursion (λ e. s.first_open ≤ e.instant) (elements_from s.arrivals rows)
come_late s rows h =
    let many : Bool = nat_lt MAX_APPENDED (length rows) in
    let width : Bool = list_any (λ r. not (length r.1 == length s.columns)) rows in
    let value : Bool = list_any (λ r. not (list_all is_stream_value r.1)) rows in
    let instant : Bool = list_any (λ r. not (is_instant r.0)) rows in
    let late : Bool = list_any (λ r. int_lt r.0 (pos s.first_open)) rows in
    let full : Bool = nat_lt MAX_STREAM_ROWS (s.arrivals + length rows) in
    let t1 = none_later many TooMany ((width, BadWidth) ∷ (value, ValueRange) ∷ (instant, InstantRange) ∷ (late, Late) ∷ (full, StreamFull) ∷ []) h in
    let t2 = none_later width BadWidth ((value, ValueRange) ∷ (instant, InstantRange) ∷ (late, Late) ∷ (full, StreamFull) ∷ []) t1 in
    let t3 = none_later value ValueRange ((instant, InstantRange) ∷ (late, Late) ∷ (full, StreamFull) ∷ []) t2 in
    let t4 = none_later instant InstantRange ((late, Late) ∷ (full, StreamFull) ∷ []) t3 in
    late_elements s.first_open s.arrivals rows (none_first late Late ((full, StreamFull) ∷ []) t4)

abbrev pub ComeLate : Option Stream → List (ℤ × List (Option ℤ)) → Type 0
ComeLate None rows = Unit {0}
ComeLate (Some s) rows = AllByRecursion (λ e. s.first_open ≤ e.instant) (elements_from s.arrivals rows)

pub come_option : (rows : List (ℤ × List (Option ℤ))) (o : Option Stream) → of_stream (λ s. append_tests s rows) o ≡ None → ComeLate o rows
come_option rows None h = tt
come_option rows (Some s) h = come_late s rows h

-- WHAT IS CLOSED STAYS
none_at : (t u : ℕ) (es : List Element) → t < u → AllByRecursion (λ e. u ≤ e.instant) es → filter (λ e. e.instant == t) es ≡ []
none_at t u [] lt h = refl
none_at t u (e ∷ es) lt h = let d : (e.instant == t) ≡ false = ne_eqb e.instant t (λ i. omega (arith, i, lt, h.0)) in rw d (none_at t u es lt h.1)

listed_same : (u a n : ℕ) (es news : List Element) → a + n ≤ u → AllByRecursion (λ e. u ≤ e.instant) news → by_key (λ e. e.instant) a n (es ++ news) ≡ by_key (λ e. e.instant) a n es
listed_same u a zero es news le h = refl
listed_same u a (suc n) es news le h =
    ap₂ (λ x y. x ++ y)
    (filter-append (λ e. e.instant == a) es news ∙ ap (λ l. filter (λ e. e.instant == a) es ++ l) (none_at a u news (omega (arith, le)) h) ∙ append-nil (filter (λ e. e.instant == a) es))
    (listed_same u (a + 1) n es news (omega (arith, le)) h)

closed_same : (s : Stream) (rows : List (ℤ × List (Option ℤ))) → AllByRecursion (λ e. s.first_open ≤ e.instant) (elements_from s.arrivals rows) → closed_of (appended rows s) ≡ closed_of s
closed_same s rows h = ap (λ l. record { width = length s.columns; elements = l; until = s.first_open }) (listed_same s.first_open 0 (s.first_open - 0) s.elements (elements_from s.arrivals rows) (omega arith) h)

log_option : (rows : List (ℤ × List (Option ℤ))) (o : Option Stream) → ComeLate o rows → option_map_or closed_of (option_map (appended rows) o) no_log ≡ option_map_or closed_of o no_log
log_option rows None h = refl
log_option rows (Some s) h = closed_same s rows h

log_same : (streams : List Stream) (n : ℕ) (rows : List (ℤ × List (Option ℤ))) → ComeLate (slice_get streams n) rows → (i : ℕ) → stream_log (change n (appended rows) streams) i ≡ stream_log streams i
log_same streams n rows h i = ⊎_elim
    (λ e. subst (λ j. stream_log (change n (appended rows) streams) j ≡ stream_log streams j) (sym e)
    (ap (λ o. option_map_or closed_of o no_log) (change_here (appended rows) n streams) ∙ log_option rows (slice_get streams n) h))
    (λ ne. ap (λ o. option_map_or closed_of o no_log) (change_there (appended rows) n i streams ne))
    (same_number i n)

-- what the streams have closed is as before an append
pub append_logs : (m : Machine) (n : ℕ) (rows : List (ℤ × List (Option ℤ))) → first_fault m (Append n rows) ≡ None → (i : ℕ) → stream_log (after m (Append n rows) 0).streams i ≡ stream_log m.streams i
append_logs m n rows accepted i = log_same m.streams n rows (come_option rows (slice_get m.streams n) (alone m.queries n rows (slice_get m.streams n) accepted)) i

-- WHAT COMES to each source
map_more : (f g h : Place → List Element) → ((p : Place) → f p ≡ g p ++ h p) → (ps : List Place) (k : ℕ) → get_or (map f ps) k [] ≡ get_or (map g ps) k [] ++ get_or (map h ps) k []
map_more f g h e [] k = refl
map_more f g h e (p ∷ ps) zero = e p
map_more f g h e (p ∷ ps) (suc k) = map_more f g h e ps k

past_all : (place first u : ℕ) (es : List Element) → AllByRecursion (λ e. u ≤ e.instant) es → Each (λ e. max first u ≤ e.instant) (input_of place first es)
past_all place first u [] h = tt
past_all place first u (e ∷ es) h = here (nat_le place e.arrival) (nat_le first e.instant) refl (past_all place first u es h.1)
  where
    here : (a b : Bool) → nat_le first e.instant ≡ b → Each (λ e. max first u ≤ e.instant) (input_of place first es) → Each (λ e. max first u ≤ e.instant) (cond (a && b) (e ∷ input_of place first es) (input_of place first es))
    here true true i r = let l : first ≤ e.instant = leb-true first e.instant i in (omega (arith, l, h.0), r)
    here true false i r = r
    here false b i r = r

from_option : (rows : List (ℤ × List (Option ℤ))) (first place : ℕ) (o : Option Stream) → ComeLate o rows → Each (λ e. max first (option_map_or (λ s. s.first_open) o 0) ≤ e.instant) (option_map_or (λ s. input_of place first (elements_from s.arrivals rows)) o [])
from_option rows first place None h = tt
from_option rows first place (Some s) h = past_all place first s.first_open (elements_from s.arrivals rows) h

pub from_place : (ss : List Stream) (n : ℕ) (rows : List (ℤ × List (Option ℤ))) (first : ℕ) → ComeLate (slice_get ss n) rows → (p : Place) → Each (λ e. max first (option_map_or (λ s. s.first_open) (slice_get ss p.stream) 0) ≤ e.instant) (arriving ss n rows first p)
from_place ss n rows first h p = here (p.stream == n) refl
  where
    here : (b : Bool) → (p.stream == n) ≡ b → Each (λ e. max first (option_map_or (λ s. s.first_open) (slice_get ss p.stream) 0) ≤ e.instant) (cond b (option_map_or (λ s. input_of p.arrivals first (elements_from s.arrivals rows)) (slice_get ss n) []) [])
    here true e = let i : p.stream ≡ n = eqb-true p.stream n e in
        subst (λ j. Each (λ e. max first (option_map_or (λ s. s.first_open) (slice_get ss j) 0) ≤ e.instant) (option_map_or (λ s. input_of p.arrivals first (elements_from s.arrivals rows)) (slice_get ss n) [])) (sym i) (from_option rows first p.arrivals (slice_get ss n) h)
    here false e = tt

from_all : (first : ℕ) (f : Place → ℕ) (g : Place → List Element) → ((p : Place) → Each (λ e. max first (f p) ≤ e.instant) (g p)) → (ps : List Place) (k : ℕ) → Each (λ e. max first (get_or (map f ps) k 0) ≤ e.instant) (get_or (map g ps) k [])
from_all first f g h [] k = tt
from_all first f g h (p ∷ ps) zero = h p
from_all first f g h (p ∷ ps) (suc k) = from_all first f g h ps k

-- FEW ROWS
filter_few : (p : Element → Bool) (es : List Element) → length (filter p es) ≤ length es
filter_few p [] = omega arith
filter_few p (e ∷ es) = here (p e) (filter_few p es)
  where
    here : (b : Bool) → length (filter p es) ≤ length es → length (cond b (e ∷ filter p es) (filter p es)) ≤ suc (length es)
    here true h = omega (arith, h)
    here false h = omega (arith, h)

-- as many rows came since as count, or more
come_few : (place first n : ℕ) (rows : List (ℤ × List (Option ℤ))) → length (input_of place first (elements_from n rows)) ≤ (n + length rows) - max place n
come_few place first n rows = le_trans (both_kept place first (elements_from n rows)) (since_now place n rows)

came_here : (place first : ℕ) (rows : List (ℤ × List (Option ℤ))) (o : Option Stream)
    → (option_map_or (λ (s : Stream). s.arrivals) o 0 - place) + length (option_map_or (λ (s : Stream). input_of place first (elements_from s.arrivals rows)) o []) ≤ option_map_or (λ (s : Stream). s.arrivals) (option_map (appended rows) o) 0 - place
came_here place first rows None = omega arith
came_here place first rows (Some s) = omega (arith, come_few place first s.arrivals rows)

came_place : (ss : List Stream) (n : ℕ) (rows : List (ℤ × List (Option ℤ))) (first : ℕ) (p : Place)
    → (arrivals_at ss p - p.arrivals) + length (arriving ss n rows first p) ≤ arrivals_at (change n (appended rows) ss) p - p.arrivals
came_place ss n rows first p = here (p.stream == n) refl
  where
    came_in : Option Stream → ℕ
    came_in o = option_map_or (λ (s : Stream). s.arrivals) o 0 - p.arrivals

    coming : List Element
    coming = option_map_or (λ (s : Stream). input_of p.arrivals first (elements_from s.arrivals rows)) (slice_get ss n) []

    here : (b : Bool) → (p.stream == n) ≡ b → came_in (slice_get ss p.stream) + length (cond b coming []) ≤ came_in (slice_get (change n (appended rows) ss) p.stream)
    here true e = let i : p.stream ≡ n = eqb-true p.stream n e in
        subst (λ j. came_in (slice_get ss j) + length coming ≤ came_in (slice_get (change n (appended rows) ss) j)) (sym i)
        (subst (λ o. came_in (slice_get ss n) + length coming ≤ came_in o) (sym (change_here (appended rows) n ss))
        (came_here p.arrivals first rows (slice_get ss n)))
    here false e = let ne = eqb-false p.stream n e in
        subst (λ o. came_in (slice_get ss p.stream) + 0 ≤ came_in o) (sym (change_there (appended rows) n p.stream ss ne)) (omega arith)

came_places : (f g : Place → ℕ) (a : Place → List Element) → ((p : Place) → f p + length (a p) ≤ g p) → (ps : List Place) (k : ℕ) → get_or (map f ps) k 0 + length (get_or (map a ps) k []) ≤ get_or (map g ps) k 0
came_places f g a h [] k = omega arith
came_places f g a h (p ∷ ps) zero = h p
came_places f g a h (p ∷ ps) (suc k) = came_places f g a h ps k

-- THE OPERATORS
module _ (w w2 : World) where
  pub runs_world : (width : ℕ) (node : plan.Node) (o : PlainOperator) (log : Closed) (c : Cell) → w2.first ≡ w.first → ((s : ℕ) → w2.windows s ≡ w.windows s) → Runs w width node o log c → Runs w2 width node o log c
  runs_world width (Window s) o log (at_window h e b q n) first windows r = subst₂ (λ f t. RunsWindow f t o log h b q n) (sym first) (sym (windows s)) r
  runs_world width (Window s) o log (at_unary q t b n) first windows r = r
  runs_world width (Window s) o log (at_join q u l m b n x y) first windows r = r
  runs_world width (Select j cs) o log c first windows r = r
  runs_world width (Join j k ks) o log c first windows r = r
  runs_world width (Project j columns) o log c first windows r = r
  runs_world width (Group j by items) o log c first windows r = r
  runs_world width (Distinct j) o log c first windows r = r
  runs_world width (ToStream j op) o log c first windows r = r

  few_world : (ns : List plan.Node) (node : plan.Node) (c : Cell) (es : ℕ → List Element) → ((s : ℕ) → w2.closed s ≡ w.closed s) → ((s : ℕ) → w2.inputs s ≡ w.inputs s ++ es s) → ((s : ℕ) → w.came s + length (es s) ≤ w2.came s) → ((s : ℕ) → w2.came s ≤ source_rows ns) → AreFew w ns node c → AreFew w2 ns node c
  few_world ns (Window s) (at_window h e b q n) es closed inputs came short r =
      let more : length (opened (w2.closed s) (w2.inputs s)) ≤ length (opened (w.closed s) (w.inputs s)) + length (es s) =
      let x : opened (w2.closed s) (w2.inputs s) ≡ opened (w.closed s) (w.inputs s) ++ opened (w.closed s) (es s) = ap₂ opened (closed s) (inputs s) ∙ filter-append (λ e. nat_le (w.closed s) e.instant) (w.inputs s) (es s) in
      omega (arith, ap length x, length-append (opened (w.closed s) (w.inputs s)) (opened (w.closed s) (es s)), filter_few (λ e. nat_le (w.closed s) e.instant) (es s)) in
      record { few = omega (arith, r.few, more, came s); stream = short s }
  few_world ns (Window s) (at_unary q t b n) es closed inputs came short r = r
  few_world ns (Window s) (at_join q u l m b n x y) es closed inputs came short r = r
  few_world ns (Select j cs) (at_window h e b q n) es closed inputs came short r = r
  few_world ns (Select j cs) (at_unary q t b n) es closed inputs came short r = r
  few_world ns (Select j cs) (at_join q u l m b n x y) es closed inputs came short r = r
  few_world ns (Project j columns) (at_window h e b q n) es closed inputs came short r = r
  few_world ns (Project j columns) (at_unary q t b n) es closed inputs came short r = r
  few_world ns (Project j columns) (at_join q u l m b n x y) es closed inputs came short r = r
  few_world ns (Group j by items) (at_window h e b q n) es closed inputs came short r = r
  few_world ns (Group j by items) (at_unary q t b n) es closed inputs came short r = r
  few_world ns (Group j by items) (at_join q u l m b n x y) es closed inputs came short r = r
  few_world ns (Distinct j) (at_window h e b q n) es closed inputs came short r = r
  few_world ns (Distinct j) (at_unary q t b n) es closed inputs came short r = r
  few_world ns (Distinct j) (at_join q u l m b n x y) es closed inputs came short r = r
  few_world ns (Join j k ks) (at_window h e b q n) es closed inputs came short r = r
  few_world ns (Join j k ks) (at_unary q t b n) es closed inputs came short r = r
  few_world ns (Join j k ks) (at_join q u l m b n x y) es closed inputs came short r = r
  few_world ns (ToStream j op) c es closed inputs came short r = r

-- AN ACCEPTED APPEND
module _ (vs ws : List ℕ) (m : Machine) (q : Registered) (n : ℕ) (rows : List (ℤ × List (Option ℤ))) (accepted : first_fault m (Append n rows) ≡ None) (short : HasShortInputs (after m (Append n rows) 0) q) where
  m2 : Machine
  m2 = after m (Append n rows) 0

  come : ComeLate (slice_get m.streams n) rows
  come = come_option rows (slice_get m.streams n) (alone m.queries n rows (slice_get m.streams n) accepted)

  coming_to : ℕ → List Element
  coming_to k = get_or (map (arriving m.streams n rows q.first) q.places) k []

  inputs2 : (k : ℕ) → (world_of m2 q).inputs k ≡ (world_of m q).inputs k ++ coming_to k
  unfolding m2 coming_to
  inputs2 k = map_more (input_at (after m (Append n rows) 0).streams q.first) (input_at m.streams q.first) (arriving m.streams n rows q.first) (append_inputs m q n rows) q.places k

  from_closed : (k : ℕ) → AreFrom ((world_of m q).closed k) (coming_to k)
  unfolding coming_to
  from_closed k = from_all q.first (λ (p : Place). option_map_or (λ s. s.first_open) (slice_get m.streams p.stream) 0) (arriving m.streams n rows q.first) (from_place m.streams n rows q.first come) q.places k

  logs : (k : ℕ) → log_at m q k ≡ log_at m2 q k
  unfolding m2
  logs k = sym (log_same m.streams n rows come (source_of q (node_at q k)))

  closed2 : (k : ℕ) → (world_of m2 q).closed k ≡ (world_of m q).closed k
  unfolding m2
  closed2 k = ap (λ os. max q.first (get_or os k 0)) (append_opens m q n rows)

  came2 : (k : ℕ) → (world_of m q).came k + length (coming_to k) ≤ (world_of m2 q).came k
  unfolding m2 coming_to
  came2 k = came_places (λ (p : Place). arrivals_at m.streams p - p.arrivals) (λ (p : Place). arrivals_at (change n (appended rows) m.streams) p - p.arrivals)
      (arriving m.streams n rows q.first) (came_place m.streams n rows q.first) q.places k

  inner_same : (k : ℕ) (o : PlainOperator) (c : Cell) → RunsAt ws m q k o c → RunsAt ws m2 q k o c
  unfolding m2
  inner_same k o c r = record {
    runs = subst (λ l. Runs (world_of (after m (Append n rows) 0) q) (width_at ws k) (node_at q k) o l c) (logs k) (runs_world (world_of m q) (world_of (after m (Append n rows) 0) q) (width_at ws k) (node_at q k) o (log_at m q k) c refl (λ s. refl) r.runs);
    wide = r.wide;
    few = few_world (world_of m q) (world_of (after m (Append n rows) 0) q) q.nodes (node_at q k) c coming_to closed2 inputs2 came2 short r.few;
    inboxes = subst (λ l. HasInboxes q l (node_at q k) o) (logs k) r.inboxes;
  }

  pub append_runs : (os : List PlainOperator) (given : List (ℕ × Row)) → nets.Stands vs (after m (Append n rows) 0) q → IsRunning vs ws m q os given → IsRunning vs ws (after m (Append n rows) 0) q os given
  unfolding m2
  append_runs os given stands2 r =
      let good2 : IsGood (after m (Append n rows) 0) q r.cells r.held r.queue given =
      machine_appends vs m (after m (Append n rows) 0) q r.stands.plan r.stands.wide stands2.wide (append_opens m q n rows) coming_to inputs2 from_closed r.cells r.held r.queue given r.good in
      let rootn : ℕ = below_root q.nodes in
      record {
        stands = stands2;
        many = r.many;
        cells = r.cells;
        held = r.held;
        queue = r.queue;
        good = good2;
        inner = λ k kc. inner_same k (operator_at os k) (r.cells k) (r.inner k kc);
        last = record {
          runs = subst (λ l. RunsRoot (operator_at os rootn) l r.held r.queue) (logs rootn) r.last.runs;
          operator = r.last.operator;
          wide = r.last.wide;
          few = subst (λ x. StaysWithin (most_rows q.nodes (rootn - 1)) x r.queue) (same_count _ _ _ _ _ _ _ _ _ _ r.queue r.good.root.edge good2.root.edge refl) r.last.few;
          inboxes = subst (λ l. HasInboxes q l (node_at q rootn) (operator_at os rootn)) (logs rootn) r.last.inboxes;
        };
      }
