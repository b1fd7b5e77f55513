-- A running query over what an opening keeps of the machine's streams: its operators and queues are as they were.
use Rattle.std.proofs.Common.{◌≡◌, ℕ, zero, suc, ◌+◌, ◌-◌, ◌<◌, ◌≤◌, ◌==◌, ◌&&◌, Bool, true, false, cond, nat_le, nat_lt, max, inr, ⊎_elim, Option, Some, None, List, [], ◌∷◌, ◌++◌, filter, map, drop, length, get_or, refl, sym, ap, ap₂, ◌∙◌, subst, subst₂, arith, append-nil, le-leb, true≢false}
use Rattle.std.specs.Prelude.{slice_get}
use Rattle.std.specs.List.{range_with_len}
use Rattle.std.specs.Option.{option_map, option_map_or}
use Rattle.std.proofs.lemmas.Bool.{cases_lt, eqb-true, ltb-false}
use Rattle.std.proofs.lemmas.List.{get_or_past, get_or-map, length-map}
use Rattle.values.specs.Row.{Row}
use Rattle.values.specs.Window.{Element, input_of}
use Rattle.values.specs.Needs.{is_needed}
use Rattle.values.specs.Enough.{Each, HasNeeded}
use Rattle.op_queue.specs.Entries.{Entry, TickAt}
use Rattle.op_queue.specs.Cursors.{IsWithin}
use Rattle.op_queue.specs.Logs.{Closed, is_shown, row_entries, shown, instant_entries, cursor_entries}
use Rattle.op_queue.specs.declared.cursor.Cursor.{Cursor}
use Rattle.plan.specs.Nodes as plan
use Rattle.plan.specs.Nodes.{Window, Select, Join, Project, Group, Distinct, ToStream}
use Rattle.reference.specs.Machine.{Machine, Place, Registered, Stream, input_at, opens}
use Rattle.reference.specs.Opening.{restarted, with_kept}
use Rattle.stream_store.specs.Closing.{by_instant, closed_of}
use Rattle.operators.specs.Inboxes.{IsInboxWithin, is_fed}
use Rattle.operators.specs.Ready.{PlainOperator, entries_in, waiting as waiting_at}
use Rattle.column.specs.declared.batch.Side.{Side}
use Rattle.column.specs.declared.batch.Side.TheVariants.{Left, Right}
use Rattle.operators.specs.declared.inboxes.Inbox.{Inbox}
use Rattle.operators.specs.declared.inboxes.Inbox.TheVariants.{First, Between}
use Rattle.laws_dataflow.specs.Laws as nets
use Rattle.laws_dataflow.specs.Laws.{IsGood}
use Rattle.laws_dataflow.specs.Windows.{Brings, opened}
use Rattle.laws_dataflow.specs.Nets.{Cell, Node, at_window, at_unary, at_join, cell_next, window, unary, join, GoodCell}
use Rattle.laws_dataflow.specs.Operators.{net_of, node_of}
use Rattle.laws_dataflow.specs.Plans.{comes, consumer_of, inputs_of, least_of, value_of, world_of}
use Rattle.laws_dataflow.specs.Roots.{below_root}
use Rattle.laws_dataflow.specs.Worlds.{fed_cell}
use Rattle.laws_dataflow.proofs.AnswerLemmas.{query_laid, query_planned}
use Rattle.laws_dataflow.proofs.ForgetLemmas.{opens_ahead}
use Rattle.laws_dataflow.proofs.OpeningLemmas.{machine_forgets, open_kept}
use Rattle.laws_queries.specs.Forgetting.{KeepsFor}
use Rattle.laws_queries.specs.Runs.{Runs}
use Rattle.laws_queries.specs.Counts.{AreFew, AreWindowRowsFew, StaysWithin, most_rows, source_rows}
use Rattle.laws_queries.specs.Widths.{width_at}
use Rattle.laws_queries.specs.Queries.{HasInboxes, IsLeftInbox, IsRunning, Reads}
use Rattle.laws_queries.specs.Plain.{log_at, no_log, node_at, operator_at, place_of, source_of, stream_log}
use Rattle.laws_queries.proofs.ClosingLemmas.{by_instants, shown_now, shown_out}
use Rattle.laws_queries.proofs.HeartbeatLemmas.{Gains, closed_at_source, relog, runs_beat}
use Rattle.laws_queries.proofs.QueryLemmas.{same_count}

-- LISTS
filter_swap : (p r : Element → Bool) (es : List Element) → filter p (filter r es) ≡ filter r (filter p es)
filter_swap p r [] = refl
filter_swap p r (e ∷ es) = here (p e) refl (r e) refl (filter_swap p r es)
  where
    here : (b : Bool) → p e ≡ b → (c : Bool) → r e ≡ c → filter p (filter r es) ≡ filter r (filter p es) → filter p (cond c (e ∷ filter r es) (filter r es)) ≡ filter r (cond b (e ∷ filter p es) (filter p es))
    here true i true j k = ap (λ x. cond x (e ∷ filter p (filter r es)) (filter p (filter r es))) i ∙ ap (λ l. e ∷ l) k ∙ sym (ap (λ x. cond x (e ∷ filter r (filter p es)) (filter r (filter p es))) j)
    here true i false j k = k ∙ sym (ap (λ x. cond x (e ∷ filter r (filter p es)) (filter r (filter p es))) j)
    here false i true j k = ap (λ x. cond x (e ∷ filter p (filter r es)) (filter p (filter r es))) i ∙ k
    here false i false j k = k

filter_within : (p r : Element → Bool) (es : List Element) → ((e : Element) → p e ≡ true → r e ≡ true) → filter p (filter r es) ≡ filter p es
filter_within p r [] h = refl
filter_within p r (e ∷ es) h = here (r e) refl (p e) refl (filter_within p r es h)
  where
    here : (b : Bool) → r e ≡ b → (c : Bool) → p e ≡ c → filter p (filter r es) ≡ filter p es → filter p (cond b (e ∷ filter r es) (filter r es)) ≡ cond c (e ∷ filter p es) (filter p es)
    here true i true j k = ap (λ x. cond x (e ∷ filter p (filter r es)) (filter p (filter r es))) j ∙ ap (λ l. e ∷ l) k
    here true i false j k = ap (λ x. cond x (e ∷ filter p (filter r es)) (filter p (filter r es))) j ∙ k
    here false i true j k = absurd (true≢false (sym (h e j) ∙ i))
    here false i false j k = k

each_filtered : (P : Element → Type 0) (p : Element → Bool) (es : List Element) → ((e : Element) → p e ≡ true → P e) → Each P (filter p es)
each_filtered P p [] h = tt
each_filtered P p (e ∷ es) h = here (p e) refl (each_filtered P p es h)
  where
    here : (b : Bool) → p e ≡ b → Each P (filter p es) → Each P (cond b (e ∷ filter p es) (filter p es))
    here true i k = (h e i, k)
    here false i k = k

and_true : (a b : Bool) → (a && b) ≡ true → (a ≡ true) × (b ≡ true)
and_true true true h = (refl, refl)
and_true true false h = cc
and_true false b h = cc

-- STREAMS
abbrev pub kept_stream : (Element → Bool) → Stream → Stream
kept_stream keep s = record s { elements = filter keep s.elements }

stream_from : (keep : ℕ → Element → Bool) (n i : ℕ) (ss : List Stream) → slice_get (with_kept keep n ss) i ≡ option_map (kept_stream (keep (n + i))) (slice_get ss i)
stream_from keep n i [] = refl
stream_from keep n zero (s ∷ ss) = let e : n ≡ n + 0 = omega arith in ap (λ j. Some (kept_stream (keep j) s)) e
stream_from keep n (suc i) (s ∷ ss) = let e : suc n + i ≡ n + suc i = omega arith in stream_from keep (suc n) i ss ∙ ap (λ j. option_map (kept_stream (keep j)) (slice_get ss i)) e

pub stream_kept : (keep : ℕ → Element → Bool) (i : ℕ) (ss : List Stream) → slice_get (with_kept keep 0 ss) i ≡ option_map (kept_stream (keep i)) (slice_get ss i)
stream_kept keep i ss = let e : 0 + i ≡ i = omega arith in stream_from keep 0 i ss ∙ ap (λ j. option_map (kept_stream (keep j)) (slice_get ss i)) e

input_option : (keep : Element → Bool) (place first : ℕ) (o : Option Stream)
    → option_map_or (λ s. input_of place first s.elements) (option_map (kept_stream keep) o) [] ≡ filter keep (option_map_or (λ s. input_of place first s.elements) o [])
input_option keep place first None = refl
input_option keep place first (Some s) = filter_swap (λ e. nat_le place e.arrival && nat_le first e.instant) keep s.elements

input_kept : (keep : ℕ → Element → Bool) (first : ℕ) (ss : List Stream) (p : Place) → input_at (with_kept keep 0 ss) first p ≡ filter (keep p.stream) (input_at ss first p)
input_kept keep first ss p = ap (λ o. option_map_or (λ s. input_of p.arrivals first s.elements) o []) (stream_kept keep p.stream ss) ∙ input_option (keep p.stream) p.arrivals first (slice_get ss p.stream)

open_option : (keep : Element → Bool) (o : Option Stream) → option_map_or (λ s. s.first_open) (option_map (kept_stream keep) o) 0 ≡ option_map_or (λ s. s.first_open) o 0
open_option keep None = refl
open_option keep (Some s) = refl

pub opens_kept : (keep : ℕ → Element → Bool) (ss : List Stream) (ps : List Place) → opens (with_kept keep 0 ss) ps ≡ opens ss ps
opens_kept keep ss [] = refl
opens_kept keep ss (p ∷ ps) = ap₂ (λ x xs. x ∷ xs) (ap (λ o. option_map_or (λ s. s.first_open) o 0) (stream_kept keep p.stream ss) ∙ open_option (keep p.stream) (slice_get ss p.stream)) (opens_kept keep ss ps)

came_option : (keep : Element → Bool) (o : Option Stream) → option_map_or (λ (s : Stream). s.arrivals) (option_map (kept_stream keep) o) 0 ≡ option_map_or (λ (s : Stream). s.arrivals) o 0
came_option keep None = refl
came_option keep (Some s) = refl

pub comes_kept : (keep : ℕ → Element → Bool) (ss : List Stream) (ps : List Place) → comes (with_kept keep 0 ss) ps ≡ comes ss ps
comes_kept keep ss [] = refl
comes_kept keep ss (p ∷ ps) = ap₂ (λ x xs. (x - p.arrivals) ∷ xs) (ap (λ o. option_map_or (λ (s : Stream). s.arrivals) o 0) (stream_kept keep p.stream ss) ∙ came_option (keep p.stream) (slice_get ss p.stream)) (comes_kept keep ss ps)

-- CURSORS over logs of which rows went that they have passed
module _ (keep : Element → Bool) (place next : ℕ) (keeps : (e : Element) → nat_le place e.arrival ≡ true → next ≤ e.instant → keep e ≡ true) (s : Stream) where
  shown_kept : (t : ℕ) → next ≤ t → shown place t (by_instant 0 s.first_open (filter keep s.elements)) ≡ shown place t (by_instant 0 s.first_open s.elements)
  unfolding by_instants
  shown_kept t l = ⊎_elim
      (λ lt. shown_now place t 0 s.first_open (filter keep s.elements) (omega arith) lt
      ∙ filter_within (is_shown place t) keep s.elements
      (λ e h. let a = and_true (e.instant == t) (nat_le place e.arrival) h in keeps e a.1 (omega (arith, l, eqb-true e.instant t a.0)))
      ∙ sym (shown_now place t 0 s.first_open s.elements (omega arith) lt))
      (λ ge. shown_out place t 0 (s.first_open - 0) (filter keep s.elements) (inr (omega (arith, ge))) ∙ sym (shown_out place t 0 (s.first_open - 0) s.elements (inr (omega (arith, ge)))))
      (cases_lt t s.first_open)

  span_kept : (start n : ℕ) → next ≤ start → ◌≡◌ {A = List (Entry Row)}
      (Rattle.std.specs.List.flat_map (instant_entries place (by_instant 0 s.first_open (filter keep s.elements))) (range_with_len start n))
      (Rattle.std.specs.List.flat_map (instant_entries place (by_instant 0 s.first_open s.elements)) (range_with_len start n))
  span_kept start zero l = refl
  span_kept start (suc n) l = ap₂ (λ x y. x ++ y) (ap (λ es. row_entries start es ++ TickAt start ∷ []) (shown_kept start l)) (span_kept (start + 1) n (omega (arith, l)))

  cursor_kept : (c : Cursor) → c.place ≡ place → next ≤ c.at → cursor_entries c (closed_of (kept_stream keep s)) ≡ cursor_entries c (closed_of s)
  cursor_kept c e l = subst (λ p. cursor_entries (record { place = p; at = c.at; passed = c.passed; hint = c.hint }) (closed_of (kept_stream keep s)) ≡ cursor_entries (record { place = p; at = c.at; passed = c.passed; hint = c.hint }) (closed_of s)) (sym e)
      (ap₂ (λ xs ys. cond (nat_lt c.at s.first_open) (row_entries c.at (drop c.passed xs) ++ TickAt c.at ∷ ys) []) (shown_kept c.at l) (span_kept (c.at + 1) (s.first_open - (c.at + 1)) (omega (arith, l))))

  within_kept : (c : Cursor) → c.place ≡ place → next ≤ c.at → IsWithin c (closed_of s) → IsWithin c (closed_of (kept_stream keep s))
  within_kept c e l h = subst (λ p. c.passed ≤ length (shown p c.at (by_instant 0 s.first_open (filter keep s.elements)))) (sym e)
      (subst (λ es. c.passed ≤ length es) (sym (shown_kept c.at l)) (subst (λ p. c.passed ≤ length (shown p c.at (by_instant 0 s.first_open s.elements))) e h))

-- of a stream that may not be there
module _ (keep : Element → Bool) (place next : ℕ) (keeps : (e : Element) → nat_le place e.arrival ≡ true → next ≤ e.instant → keep e ≡ true) where
  log_kept : (o : Option Stream) (c : Cursor) → c.place ≡ place → next ≤ c.at
      → (cursor_entries c (option_map_or closed_of (option_map (kept_stream keep) o) no_log) ≡ cursor_entries c (option_map_or closed_of o no_log))
      × (IsWithin c (option_map_or closed_of o no_log) → IsWithin c (option_map_or closed_of (option_map (kept_stream keep) o) no_log))
  log_kept None c e l = (refl, λ h. h)
  log_kept (Some s) c e l = (cursor_kept keep place next keeps s c e l, within_kept keep place next keeps s c e l)

until_kept : (keep : Element → Bool) (o : Option Stream) → (option_map_or closed_of (option_map (kept_stream keep) o) no_log).until ≡ (option_map_or closed_of o no_log).until
until_kept keep None = refl
until_kept keep (Some s) = refl

-- THE FRONT of a first queue is at its window's open instant
front_at : (n t c : ℕ) (es : List Element) (xs : List Element) (rest : List (Entry Row)) → Brings n (row_entries t xs ++ TickAt t ∷ rest) es c → t ≡ n
front_at n t c es [] rest b = b.0
front_at n t c [] (x ∷ xs) rest b = absurd b
front_at n t c (e ∷ es) (x ∷ xs) rest b = b.0

cursor_at : (n c first : ℕ) (es : List Element) (u : Cursor) (log : Closed) → Brings n (cursor_entries u log) es c → max u.at log.until ≡ max first log.until → c ≡ max first log.until → u.at ≡ n
cursor_at n c first es u log b reads closed = here (nat_lt u.at log.until) refl
  where
    none : (fs : List Element) → Brings n [] fs c → n ≡ c
    none [] h = h
    none (f ∷ fs) h = absurd h

    here : (d : Bool) → nat_lt u.at log.until ≡ d → u.at ≡ n
    here true e = front_at n u.at c es (drop u.passed (shown u.place u.at log.elements)) (Rattle.op_queue.specs.Logs.log_entries u.place (u.at + 1) log)
        (subst (λ z. Brings n (cond z (row_entries u.at (drop u.passed (shown u.place u.at log.elements)) ++ TickAt u.at ∷ Rattle.op_queue.specs.Logs.log_entries u.place (u.at + 1) log) []) es c) e b)
    here false e =
        let k : n ≡ c = none es (subst (λ z. Brings n (cond z (row_entries u.at (drop u.passed (shown u.place u.at log.elements)) ++ TickAt u.at ∷ Rattle.op_queue.specs.Logs.log_entries u.place (u.at + 1) log) []) es c) e b) in
        omega (arith, k, reads, closed, ltb-false u.at log.until e)

-- nothing is fed
fed_nothing : (node : Node) (c : Cell) → fed_cell (λ s. []) (λ s. []) node c ≡ c
fed_nothing (window x) (at_window h e o q n) = ap₂ (λ f r. at_window h f o r n) (append-nil e) (append-nil q)
fed_nothing (window x) (at_unary q i o n) = refl
fed_nothing (window x) (at_join q r l m o n a b) = refl
fed_nothing (unary f x) c = refl
fed_nothing (join f x y) c = refl

-- what waits does not go by its answers
left_again : (q : Registered) (next : ℕ) (answers : List (ℕ × Row)) (log : Closed) (node : plan.Node) (i : Inbox) → IsLeftInbox q log node i → IsLeftInbox (restarted q next answers) log node i
left_again q next answers log (Window s) i h = h
left_again q next answers log (Select j cs) i h = h
left_again q next answers log (Join j k ks) i h = h
left_again q next answers log (Project j columns) i h = h
left_again q next answers log (Group j by items) i h = h
left_again q next answers log (Distinct j) i h = h
left_again q next answers log (ToStream j op) i h = h

inboxes_again : (q : Registered) (next : ℕ) (answers : List (ℕ × Row)) (log : Closed) (node : plan.Node) (o : PlainOperator) → HasInboxes q log node o → HasInboxes (restarted q next answers) log node o
inboxes_again q next answers log node o h = record { left = left_again q next answers log node o.left h.left; right = h.right }

-- THE QUERY
module _ (vs ws : List ℕ) (m : Machine) (q : Registered) (qs : List Registered) (next : ℕ) (keep : ℕ → Element → Bool) (k : KeepsFor m q next keep) (waiting : List (ℕ × Row)) where
  m2 : Machine
  m2 = record { streams = with_kept keep 0 m.streams; queries = qs }

  any_place : Place
  any_place = record { stream = 0; arrivals = 0 }

  part : (j : ℕ) → get_or (inputs_of m2 q) j [] ≡ filter (keep (place_of q j).stream) (get_or (inputs_of m q) j [])
  unfolding m2
  part j = ⊎_elim
      (λ l. get_or-map (input_at (with_kept keep 0 m.streams) q.first) q.places j (record { stream = 0; arrivals = 0 }) [] l
      ∙ input_kept keep q.first m.streams (place_of q j)
      ∙ sym (ap (filter (keep (place_of q j).stream)) (get_or-map (input_at m.streams q.first) q.places j (record { stream = 0; arrivals = 0 }) [] l)))
      (λ l. get_or_past (map (input_at (with_kept keep 0 m.streams) q.first) q.places) j [] (omega (arith, l, length-map q.places (input_at (with_kept keep 0 m.streams) q.first)))
      ∙ sym (ap (filter (keep (place_of q j).stream)) (get_or_past (inputs_of m q) j [] (omega (arith, l, length-map q.places (input_at m.streams q.first))))))
      (cases_lt j (length q.places))

  needed_in : (o : Option Stream) (j : ℕ) → j < length q.places → option_map_or (λ s. input_of (place_of q j).arrivals q.first s.elements) o [] ≡ (world_of m q).inputs j
      → Each (λ e. is_needed q.first ((world_of m q).windows j) next ((world_of m q).inputs j) e ≡ true → keep (place_of q j).stream e ≡ true) (option_map_or (λ s. input_of (place_of q j).arrivals q.first s.elements) o [])
  needed_in None j l e = tt
  needed_in (Some s) j l e = each_filtered _ (λ f. nat_le (place_of q j).arrivals f.arrival && nat_le q.first f.instant) s.elements (λ f h n. k.keeps j f l h n)

  needed : (j : ℕ) → HasNeeded q.first ((world_of m q).windows j) next (get_or (inputs_of m q) j []) (keep (place_of q j).stream)
  needed j = ⊎_elim
      (λ l. let e : get_or (inputs_of m q) j [] ≡ input_at m.streams q.first (place_of q j) = get_or-map (input_at m.streams q.first) q.places j (record { stream = 0; arrivals = 0 }) [] l in
      subst (λ es. Each (λ f. is_needed q.first ((world_of m q).windows j) next (get_or (inputs_of m q) j []) f ≡ true → keep (place_of q j).stream f ≡ true) es) (sym e)
      (needed_in (slice_get m.streams (place_of q j).stream) j l (sym e)))
      (λ l. let e : get_or (inputs_of m q) j [] ≡ [] = get_or_past (inputs_of m q) j [] (omega (arith, l, length-map q.places (input_at m.streams q.first))) in
      subst (λ es. Each (λ f. is_needed q.first ((world_of m q).windows j) next (get_or (inputs_of m q) j []) f ≡ true → keep (place_of q j).stream f ≡ true) es) (sym e) tt)
      (cases_lt j (length q.places))

  -- from the mark on all of a source's input stays
  above : (j : ℕ) → j < length q.places → q.first ≤ next → (e : Element) → nat_le (place_of q j).arrivals e.arrival ≡ true → next ≤ e.instant → keep (place_of q j).stream e ≡ true
  above j l began e a h =
      let i : nat_le next e.instant ≡ true = le-leb next e.instant h in
      let f : nat_le q.first e.instant ≡ true = le-leb q.first e.instant (omega (arith, began, h)) in
      k.keeps j e l (rw a f) (rw i refl)

  opens_same : opens m2.streams q.places ≡ opens m.streams q.places
  unfolding m2
  opens_same = opens_kept keep m.streams q.places

  comes_same : comes m2.streams q.places ≡ comes m.streams q.places
  unfolding m2
  comes_same = comes_kept keep m.streams q.places

  -- what windows hold is few still
  few_by : (node : plan.Node) (c : Cell) → ((s : ℕ) → opened ((world_of m q).closed s) (get_or (inputs_of m2 q) s []) ≡ opened ((world_of m q).closed s) (get_or (inputs_of m q) s [])) → AreFew (world_of m q) q.nodes node c → AreFew (world_of m2 q) q.nodes node c
  unfolding m2
  few_by (Window s) (at_window h e b z n) same r =
      let closed2 : (world_of (record { streams = with_kept keep 0 m.streams; queries = qs }) q).closed s ≡ (world_of m q).closed s = ap (λ os. max q.first (get_or os s 0)) opens_same in
      let came2 : (world_of (record { streams = with_kept keep 0 m.streams; queries = qs }) q).came s ≡ (world_of m q).came s = ap (λ cs. get_or cs s 0) comes_same in
      subst₂ (λ c t. AreWindowRowsFew (source_rows q.nodes) c t (get_or (inputs_of (record { streams = with_kept keep 0 m.streams; queries = qs }) q) s []) h e) (sym closed2) (sym came2) (record { few = omega (arith, r.few, ap length (same s)); stream = r.stream })
  few_by (Window s) (at_unary z t b n) same r = r
  few_by (Window s) (at_join z u l y b n a d) same r = r
  few_by (Select j cs) c same r = r
  few_by (Join j z ks) c same r = r
  few_by (Project j columns) c same r = r
  few_by (Group j by items) c same r = r
  few_by (Distinct j) c same r = r
  few_by (ToStream j op) c same r = r

  -- WHAT WAITS for an operator is as it was
  module _ (began : q.first ≤ next) where
    left_kept : (node : plan.Node) (n c : ℕ) (es : List Element) (i : Inbox) → (s : ℕ) → node ≡ Window s → s < length q.places → c ≡ max q.first (stream_log m.streams (place_of q s).stream).until → next ≤ n
        → Brings n (entries_in i (stream_log m.streams (place_of q s).stream)) es c → Reads (place_of q s).arrivals q.first (stream_log m.streams (place_of q s).stream) i → IsInboxWithin i (stream_log m.streams (place_of q s).stream)
        → (entries_in i (stream_log m2.streams (place_of q s).stream) ≡ entries_in i (stream_log m.streams (place_of q s).stream))
        × Reads (place_of q s).arrivals q.first (stream_log m2.streams (place_of q s).stream) i × IsInboxWithin i (stream_log m2.streams (place_of q s).stream)
    unfolding m2
    left_kept node n c es (First u) s is l closed ahead b r w =
        let at : u.at ≡ n = cursor_at n c q.first es u (stream_log m.streams (place_of q s).stream) b r.1 closed in
        let same : stream_log (with_kept keep 0 m.streams) (place_of q s).stream ≡ option_map_or closed_of (option_map (kept_stream (keep (place_of q s).stream)) (slice_get m.streams (place_of q s).stream)) no_log =
        ap (λ o. option_map_or closed_of o no_log) (stream_kept keep (place_of q s).stream m.streams) in
        let kept = log_kept (keep (place_of q s).stream) (place_of q s).arrivals next (above s l began) (slice_get m.streams (place_of q s).stream) u r.0 (omega (arith, at, ahead)) in
        let until : (option_map_or closed_of (option_map (kept_stream (keep (place_of q s).stream)) (slice_get m.streams (place_of q s).stream)) no_log).until ≡ (stream_log m.streams (place_of q s).stream).until = until_kept (keep (place_of q s).stream) (slice_get m.streams (place_of q s).stream) in
        subst (λ log. (cursor_entries u log ≡ cursor_entries u (stream_log m.streams (place_of q s).stream)) × Reads (place_of q s).arrivals q.first log (First u) × IsWithin u log) (sym same)
        (kept.0, (r.0, ap (max u.at) until ∙ r.1 ∙ sym (ap (max q.first) until)), kept.1 w)
    left_kept node n c es (Between u) s is l closed ahead b r w = absurd r

    -- of an operator below the root
    record Kept (o : PlainOperator) (node : plan.Node) (log log2 : Closed) : Type 0 where
      gains : Gains (λ s. []) node o log log2
      inboxes : HasInboxes q log2 node o

    inner_kept : (width : ℕ) (node : plan.Node) (o : PlainOperator) (c : Cell) (d e : Rattle.laws_dataflow.specs.Nets.Input) → next ≤ cell_next c → Runs (world_of m q) width node o (stream_log m.streams (source_of q node)) c → GoodCell (world_of m q) (node_of node) c d e
        → HasInboxes q (stream_log m.streams (source_of q node)) node o → Kept o node (stream_log m.streams (source_of q node)) (stream_log m2.streams (source_of q node))
    unfolding m2
    inner_kept width (Window s) o (at_window h es b queue n) d e ahead r g i =
        let l = left_kept (Window s) n ((world_of m q).closed s) es o.left s refl i.left.0 (closed_at_source m q s i.left.0) ahead (subst (λ z. Brings n z es ((world_of m q).closed s)) r.queue g.brings) i.left.1 i.left.2 in
        record { gains = l.0 ∙ sym (append-nil _); inboxes = record { left = (i.left.0, l.1, l.2); right = i.right } }
    inner_kept width (Window s) o (at_unary q2 t b n) d e ahead r g i = absurd r
    inner_kept width (Window s) o (at_join q2 u l z b n x y) d e ahead r g i = absurd r
    inner_kept width (Select j cs) o c d e ahead r g i = record { gains = i.left; inboxes = record { left = i.left; right = i.right } }
    inner_kept width (Join j z ks) o c d e ahead r g i = record { gains = (i.left, i.right); inboxes = record { left = i.left; right = i.right } }
    inner_kept width (Project j columns) o c d e ahead r g i = record { gains = i.left; inboxes = record { left = i.left; right = i.right } }
    inner_kept width (Group j by items) o c d e ahead r g i = record { gains = i.left; inboxes = record { left = i.left; right = i.right } }
    inner_kept width (Distinct j) o c d e ahead r g i = record { gains = i.left; inboxes = record { left = i.left; right = i.right } }
    inner_kept width (ToStream j op) o c d e ahead r g i = record { gains = i.left; inboxes = record { left = i.left; right = i.right } }

    -- the root is fed
    root_left : (node : plan.Node) (log : Closed) (o : PlainOperator) → node ≡ ToStream (length q.nodes - 2) q.meaning.operator → HasInboxes q log node o → is_fed o.left ≡ true
    root_left node log o e h = subst (λ x. IsLeftInbox q log x o.left) e h.left

    root_inboxes : (node : plan.Node) (log log2 : Closed) (o : PlainOperator) → node ≡ ToStream (length q.nodes - 2) q.meaning.operator → HasInboxes q log node o → HasInboxes q log2 node o
    root_inboxes node log log2 o e h = subst (λ x. HasInboxes q log2 x o) (sym e) (record { left = root_left node log o e h; right = h.right })

  -- WHAT WAITS for each operator is as it was
  waits_by : (node : plan.Node) (o : PlainOperator) (log log2 : Closed) → Gains (λ s. []) node o log log2 → is_fed o.right ≡ true → (side : Side) → waiting_at o log2 side ≡ waiting_at o log side
  waits_by (Window s) o log log2 g f Left = g ∙ append-nil _
  waits_by (Select j cs) o log log2 g f Left = sym (relog o.left log log2 g)
  waits_by (Join j z ks) o log log2 g f Left = sym (relog o.left log log2 g.0)
  waits_by (Project j columns) o log log2 g f Left = sym (relog o.left log log2 g)
  waits_by (Group j by items) o log log2 g f Left = sym (relog o.left log log2 g)
  waits_by (Distinct j) o log log2 g f Left = sym (relog o.left log log2 g)
  waits_by (ToStream j op) o log log2 g f Left = sym (relog o.left log log2 g)
  waits_by node o log log2 g f Right = sym (relog o.right log log2 f)

  -- of a running query
  module _ (os : List PlainOperator) (given : List (ℕ × Row)) (r : IsRunning vs ws m q os given) (at : r.good.root.opens ≡ next) where
    began_at : q.first ≤ next
    began_at = omega (arith, at, r.good.root.began, r.good.root.going)

    ahead_at : (j : ℕ) → j < below_root q.nodes → next ≤ cell_next (r.cells j)
    ahead_at j jc = omega (arith, at, opens_ahead (world_of m q) (net_of q.nodes) (below_root q.nodes) (value_of m q) (least_of m q) (query_planned vs m q r.stands.plan r.stands.wide) (consumer_of q.nodes) (query_laid vs m q r.stands.plan r.stands.wide) q.start q.earlier r.cells r.held r.queue given r.good j jc)

    pub waits_kept : (j : ℕ) → j ≤ below_root q.nodes → (side : Side) → waiting_at (operator_at os j) (log_at (record { streams = with_kept keep 0 m.streams; queries = qs }) q j) side ≡ waiting_at (operator_at os j) (log_at m q j) side
    unfolding m2
    waits_kept j l side = ⊎_elim
        (λ jc. let a = r.inner j jc in
        waits_by (node_at q j) (operator_at os j) (log_at m q j) (log_at (record { streams = with_kept keep 0 m.streams; queries = qs }) q j) (inner_kept began_at (width_at ws j) (node_at q j) (operator_at os j) (r.cells j) _ _ (ahead_at j jc) a.runs (r.good.good j jc) a.inboxes).gains a.inboxes.right side)
        (λ ge. let e : j ≡ below_root q.nodes = omega (arith, l, ge) in
        let sh = Rattle.laws_dataflow.proofs.AnswerLemmas.shaped vs m q r.stands.plan r.stands.wide in
        let fed : is_fed (operator_at os (below_root q.nodes)).left ≡ true = root_left began_at (node_at q (below_root q.nodes)) (log_at m q (below_root q.nodes)) (operator_at os (below_root q.nodes)) sh.root r.last.inboxes in
        subst (λ z. waiting_at (operator_at os z) (log_at (record { streams = with_kept keep 0 m.streams; queries = qs }) q z) side ≡ waiting_at (operator_at os z) (log_at m q z) side) (sym e) (root_waits fed side))
        (cases_lt j (below_root q.nodes))
      where
        root_waits : is_fed (operator_at os (below_root q.nodes)).left ≡ true → (side : Side) → waiting_at (operator_at os (below_root q.nodes)) (log_at (record { streams = with_kept keep 0 m.streams; queries = qs }) q (below_root q.nodes)) side ≡ waiting_at (operator_at os (below_root q.nodes)) (log_at m q (below_root q.nodes)) side
        root_waits fed Left = sym (relog (operator_at os (below_root q.nodes)).left (log_at m q (below_root q.nodes)) (log_at (record { streams = with_kept keep 0 m.streams; queries = qs }) q (below_root q.nodes)) fed)
        root_waits fed Right = sym (relog (operator_at os (below_root q.nodes)).right (log_at m q (below_root q.nodes)) (log_at (record { streams = with_kept keep 0 m.streams; queries = qs }) q (below_root q.nodes)) r.last.inboxes.right)

  -- IT RUNS ON
  pub forgetting_runs : (os : List PlainOperator) (given : List (ℕ × Row)) → nets.Stands vs (record { streams = with_kept keep 0 m.streams; queries = qs }) q → (r : IsRunning vs ws m q os given) → r.good.root.opens ≡ next
      → IsRunning vs ws (record { streams = with_kept keep 0 m.streams; queries = qs }) (restarted q next waiting) os waiting
  unfolding m2
  forgetting_runs os given stands2 r at =
      let n2 : Machine = record { streams = with_kept keep 0 m.streams; queries = qs } in
      let began : q.first ≤ next = omega (arith, at, r.good.root.began, r.good.root.going) in
      let good2 : IsGood n2 (restarted q next waiting) r.cells r.held r.queue waiting =
      machine_forgets vs m n2 q r.stands.plan r.stands.wide stands2.wide opens_same comes_same next (λ j. keep (place_of q j).stream) part needed r.cells r.held r.queue given r.good at waiting in
      let rootn : ℕ = below_root q.nodes in
      let sh = Rattle.laws_dataflow.proofs.AnswerLemmas.shaped vs m q r.stands.plan r.stands.wide in
      let fed : is_fed (operator_at os rootn).left ≡ true = root_left began (node_at q rootn) (log_at m q rootn) (operator_at os rootn) sh.root r.last.inboxes in
      let ahead : (j : ℕ) → j < rootn → next ≤ cell_next (r.cells j) = λ j jc. omega (arith, at, opens_ahead (world_of m q) (net_of q.nodes) rootn (value_of m q) (least_of m q) (query_planned vs m q r.stands.plan r.stands.wide) (consumer_of q.nodes) (query_laid vs m q r.stands.plan r.stands.wide) q.start q.earlier r.cells r.held r.queue given r.good j jc) in
      record {
        stands = record { plan = stands2.plan; wide = record { places = stands2.wide.places; tables = stands2.wide.tables } };
        many = r.many;
        cells = r.cells;
        held = r.held;
        queue = r.queue;
        good = good2;
        inner = λ j jc.
            let a = r.inner j jc in
            let kept = inner_kept began (width_at ws j) (node_at q j) (operator_at os j) (r.cells j) _ _ (ahead j jc) a.runs (r.good.good j jc) a.inboxes in
            record {
              runs = subst (λ c. Runs (world_of n2 q) (width_at ws j) (node_at q j) (operator_at os j) (log_at n2 q j) c) (fed_nothing (node_of (node_at q j)) (r.cells j))
                  (runs_beat (world_of m q) (world_of n2 q) refl (λ s. refl) (λ s. []) (λ s. []) (width_at ws j) (node_at q j) (operator_at os j) (log_at m q j) (log_at n2 q j) (r.cells j) kept.gains a.runs);
              wide = a.wide;
              few = few_by (node_at q j) (r.cells j) (open_kept vs m n2 q r.stands.plan r.stands.wide stands2.wide opens_same comes_same next (λ z. keep (place_of q z).stream) part needed r.cells r.held r.queue given r.good at) a.few;
              inboxes = inboxes_again q next waiting (log_at n2 q j) (node_at q j) (operator_at os j) kept.inboxes;
            };
        last = record {
          runs = record { kind = r.last.runs.kind; state = r.last.runs.state; queue = r.last.runs.queue ∙ relog (operator_at os rootn).left (log_at m q rootn) (log_at n2 q rootn) fed };
          operator = r.last.operator;
          wide = r.last.wide;
          few = subst (λ x. StaysWithin (most_rows q.nodes (rootn - 1)) x r.queue) (same_count _ _ _ _ _ _ _ _ _ _ r.queue r.good.root.edge good2.root.edge refl) r.last.few;
          inboxes = inboxes_again q next waiting (log_at n2 q rootn) (node_at q rootn) (operator_at os rootn) (root_inboxes began (node_at q rootn) (log_at m q rootn) (log_at n2 q rootn) (operator_at os rootn) sh.root r.last.inboxes);
        };
      }
