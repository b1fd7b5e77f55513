-- A stored stream as the machine knows it: what is closed of it, what a heartbeat closes, and what rows make of it.
use Rattle.std.proofs.Common.{◌≡◌, ◌<◌, ◌≤◌, ◌+◌, ◌-◌, ◌==◌, ℕ, ℤ, pos, negsuc, suc, Bool, true, false, not, ◌||◌, nat_lt, nat_le, int_lt, nat_abs, Option, None, Result, Ok, Err, IfOk, List, [], ◌∷◌, ◌++◌, length, refl, sym, ap, subst, ◌∙◌, arith, append-nil, append_assoc, length-append}
use Rattle.std.specs.List.{AllByRecursion, All, filter, list_any, list_all}
use Rattle.std.proofs.lemmas.Bool.{lt-leb, le-leb, lt-ltb, le-ltb, ltb-true, ltb-false, leb-true, leb-false, eqb-true}
use Rattle.std.proofs.lemmas.List.{length-map}
use Rattle.std.proofs.lemmas.List.Elements.{filter-append}
use Rattle.values.specs.Row.{Row}
use Rattle.values.specs.Window.{Element}
use Rattle.op_queue.specs.Logs.{Closed}
use Rattle.op_queue.specs.Closings.{IsInOrder, IsClosing}
use Rattle.cql_reader.specs.declared.name.Name.{Name}
use Rattle.cql_reader.specs.Names.{name_of}
use Rattle.names.specs.Names.{names_of}
use Rattle.reference.specs.Machine.{Stream}
use Rattle.names.specs.Faults.{first_of}
use Rattle.reference.specs.Commands.{appended, closed_to, append_tests, is_instant, is_stream_value}
use Rattle.reference.specs.declared.limits.TheConstants.{MAX_APPENDED, MAX_STREAM_ROWS}
use Rattle.reference.specs.declared.fault.Fault.TheVariants.{TooMany, BadWidth, ValueRange, InstantRange, Late, StreamFull}
use Rattle.reference.proofs.StreamLemmas.{none_first, none_later, or_right}
use Rattle.reference.specs.Appended.{kept_of}
use Rattle.stream_store.specs.Open.{after_put, up_to, past}
use Rattle.stream_store.specs.Closing.{by_instant, by_key, closed_of}
use Rattle.stream_store.specs.Gains.{closing_of}
use Rattle.stream_store.specs.Stored.{stream_in, IsStored}
use Rattle.stream_store.proofs.KeyLemmas.{filter_none, filter_all, each_from, each-append, each-kept, each_passes}
use Rattle.stream_store.proofs.OrderLemmas.{filter_same_each, within, Ordered, by_instant_ordered, rising_instants, ordered-append, ordered-filter, each_from_all, all_from_each, ordered_from, in_order}
use Rattle.stream_store.proofs.LateLemmas.{up_past}
use Rattle.stream_store.proofs.KeepLemmas.{length-put}
use Rattle.stream_store.proofs.PlacedLemmas.{came_after, ordered-put, each-put, each-numbered, numbered_below}

module _ (columns arrivals : ℕ) (closed : Closed) (es : List Element) (stored : IsStored columns arrivals closed es) (order : IsInOrder closed.elements) (done : All (λ e. e.instant < closed.until) closed.elements) where
  abbrev all_rows : List Element
  all_rows = closed.elements ++ es

  early : AllByRecursion (λ e. e.instant < closed.until) closed.elements
  early = each_from_all (λ e. e.instant < closed.until) closed.elements done

  late : AllByRecursion (λ e. closed.until ≤ e.instant) es
  late = stored.opened

  all_ordered : Ordered all_rows
  all_ordered = ordered-append closed.until closed.elements es (ordered_from closed.elements order) (ordered_from es stored.ordered) early late

  all_came : AllByRecursion (λ e. e.arrival < arrivals) all_rows
  all_came = each-append (λ e. e.arrival < arrivals) closed.elements es stored.came stored.numbered

  inside : (a n m : ℕ) → a ≤ m → m < a + n → within a n m ≡ true
  inside a n m le lt = rw (le-leb a m le, lt-ltb m (a + n) lt) refl

  under : (a n m : ℕ) → m < a → within a n m ≡ false
  under a n m lt = rw (lt-leb a m lt) refl

  over : (a n m : ℕ) → a ≤ m → a + n ≤ m → within a n m ≡ false
  over a n m le h = rw (le-leb a m le, le-ltb m (a + n) h) refl

  -- the log has what the machine's stream has closed
  pub closed_rows : by_key (λ e. e.instant) 0 (closed.until - 0) (by_key (λ e. e.arrival) 0 arrivals all_rows) ≡ closed.elements
  closed_rows =
      let u : ℕ = closed.until - 0 in
      let p : Element → Bool = λ e. within 0 u e.instant in
      by_instant_ordered 0 u arrivals all_rows all_ordered all_came
      ∙ filter-append p closed.elements es
      ∙ ap (λ xs. xs ++ filter p es) (filter_all p closed.elements (each_from (λ e. e.instant < closed.until) (λ e. p e ≡ true) (λ e lt. inside 0 u e.instant (omega arith) (omega (arith, lt))) closed.elements early))
      ∙ ap (λ xs. closed.elements ++ xs) (filter_none p es (each_from (λ e. closed.until ≤ e.instant) (λ e. p e ≡ false) (λ e le. over 0 u e.instant (omega arith) (omega (arith, le))) es late))
      ∙ append-nil closed.elements

  -- the first open rows are what a heartbeat closes
  pub closing_rows : (at : ℕ) → by_key (λ e. e.instant) closed.until (suc at - closed.until) (by_key (λ e. e.arrival) 0 arrivals all_rows) ≡ up_to at es
  closing_rows at =
      let u : ℕ = closed.until in
      let n : ℕ = suc at - u in
      let p : Element → Bool = λ e. within u n e.instant in
      by_instant_ordered u n arrivals all_rows all_ordered all_came
      ∙ filter-append p closed.elements es
      ∙ ap (λ xs. xs ++ filter p es) (filter_none p closed.elements (each_from (λ e. e.instant < u) (λ e. p e ≡ false) (λ e lt. under u n e.instant lt) closed.elements early))
      ∙ filter_same_each (λ (e : Element). u ≤ e.instant) (λ (e : Element). within u n e.instant) (λ (e : Element). nat_le e.instant at) (λ e le. here e.instant le (nat_le e.instant at) refl) es stored.opened
    where
      here : (m : ℕ) → closed.until ≤ m → (b : Bool) → nat_le m at ≡ b → within closed.until (suc at - closed.until) m ≡ b
      here m le true h = let i : m ≤ at = leb-true m at h in inside closed.until (suc at - closed.until) m le (omega (arith, le, i))
      here m le false h = let i : at < m = leb-false m at h in over closed.until (suc at - closed.until) m le (omega (arith, le, i))

  -- what a heartbeat closes may go behind the log
  pub is_closing : (at : ℕ) → closed.until ≤ at → IsClosing closed (up_to at es) (at + 1)
  is_closing at le =
      let p : Element → Bool = λ e. nat_le e.instant at in
      let rows : List Element = up_to at es in
      record {
        later = omega (arith, le);
        wide = all_from_each (λ e. length e.row ≡ closed.width) rows (each_from (λ (e : Element). length e.row ≡ columns) (λ (e : Element). length e.row ≡ closed.width) (λ e h. h ∙ sym stored.width) rows
            (each-kept (λ (e : Element). length e.row ≡ columns) p es stored.wide));
        ordered = in_order rows (ordered-filter p es (ordered_from es stored.ordered));
        opened = all_from_each (λ e. closed.until ≤ e.instant) rows (each-kept (λ (e : Element). closed.until ≤ e.instant) p es stored.opened);
        closed = all_from_each (λ e. e.instant < at + 1) rows (each_from (λ e. p e ≡ true) (λ (e : Element). e.instant < at + 1) (λ e h. let i : e.instant ≤ at = leb-true e.instant at h in omega (arith, i)) rows (each_passes p es));
      }

-- ---- an append
pub put_stream : (name : List ℕ) (columns : List (List ℕ)) (n : ℕ) (closed : Closed) (es : List Element) (rows : List (ℤ × List (Option ℤ)))
    → AllByRecursion (λ (e : Element). e.arrival < n) es → AllByRecursion (λ (e : Element). e.arrival < n) closed.elements
    → stream_in name columns (n + length rows) closed (after_put n (kept_of rows) es) ≡ appended rows (stream_in name columns n closed es)
put_stream name columns n closed es rows given came =
    let long : length (kept_of rows) ≡ length rows = length-map rows (λ r. (nat_abs r.0, r.1)) in
    let e = sym (ap (λ k. by_key (λ e. e.arrival) 0 (n + k) (closed.elements ++ after_put n (kept_of rows) es)) long) ∙ came_after n (kept_of rows) es closed.elements given came in
    rw e refl

-- what is closed of a stored stream is its log
pub closed_stream : (name : List ℕ) (columns : List Name) (n : ℕ) (closed : Closed) (es : List Element) → IsStored (length columns) n closed es → IsInOrder closed.elements
    → All (λ e. e.instant < closed.until) closed.elements → closed_of (stream_in name (names_of columns) n closed es) ≡ closed
closed_stream name columns n closed es stored order done =
    rw (closed_rows (length columns) n closed es stored order done, length-map columns name_of, stored.width) refl

pub closing_stream : (name : List ℕ) (columns : List Name) (n : ℕ) (closed : Closed) (es : List Element) (at : ℤ) → IsStored (length columns) n closed es → IsInOrder closed.elements
    → All (λ e. e.instant < closed.until) closed.elements → closing_of at (stream_in name (names_of columns) n closed es) ≡ up_to (nat_abs at) es
closing_stream name columns n closed es at stored order done = closing_rows (length columns) n closed es stored order done (nat_abs at)

pub open_stream : (name : List ℕ) (columns : List Name) (n : ℕ) (closed : Closed) (es : List Element) (at : ℕ) → IsStored (length columns) n closed es → IsInOrder closed.elements
    → All (λ e. e.instant < closed.until) closed.elements → by_instant closed.until (suc at) (stream_in name (names_of columns) n closed es).elements ≡ up_to at es
open_stream name columns n closed es at stored order done = closing_rows (length columns) n closed es stored order done at

-- ---- after a heartbeat
module _ (columns n m : ℕ) (closed next : Closed) (es : List Element) (stored : IsStored columns n closed es) (more : next.elements ≡ closed.elements ++ up_to m es) (until : next.until ≡ m + 1) where
  abbrev later : Element → Bool
  later e = nat_lt m e.instant

  pub stored_closed : next.width ≡ closed.width → m ≤ 1099511627776 → IsStored columns n next (past m es)
  stored_closed width few = record {
    few = stored.few;
    width = width ∙ stored.width;
    counted = stored.counted;
    held = omega (arith, stored.held, ap length more, length-append closed.elements (up_to m es), ap length (up_past m es (rising_instants es (ordered_from es stored.ordered))), length-append (up_to m es) (past m es));
    range = omega (arith, until, few);
    ordered = in_order (past m es) (ordered-filter later es (ordered_from es stored.ordered));
    opened = each_from (λ e. later e ≡ true) (λ (e : Element). next.until ≤ e.instant) (λ e h. let lt : m < e.instant = ltb-true m e.instant h in omega (arith, lt, until)) (past m es) (each_passes later es);
    wide = each-kept (λ (e : Element). length e.row ≡ columns) later es stored.wide;
    numbered = each-kept (λ (e : Element). e.arrival < n) later es stored.numbered;
    full = subst (λ (xs : List Element). AllByRecursion (λ e. length e.row ≡ columns) xs) (sym more) (each-append (λ e. length e.row ≡ columns) closed.elements (up_to m es) stored.full
        (each-kept (λ (e : Element). length e.row ≡ columns) (λ (e : Element). nat_le e.instant m) es stored.wide));
    came = subst (λ (xs : List Element). AllByRecursion (λ e. e.arrival < n) xs) (sym more) (each-append (λ e. e.arrival < n) closed.elements (up_to m es) stored.came
        (each-kept (λ (e : Element). e.arrival < n) (λ (e : Element). nat_le e.instant m) es stored.numbered));
  }

  same_rows : next.elements ++ past m es ≡ closed.elements ++ es
  same_rows =
      ap (λ xs. xs ++ past m es) more ∙ append_assoc closed.elements (up_to m es) (past m es)
      ∙ ap (λ xs. closed.elements ++ xs) (sym (up_past m es (rising_instants es (ordered_from es stored.ordered))))

  pub closed_stream_to : (name : List ℕ) (names : List (List ℕ)) (at : ℤ) → m ≡ nat_abs at → stream_in name names n next (past m es) ≡ closed_to at (stream_in name names n closed es)
  closed_stream_to name names at same = rw (same_rows, until) (ap (λ k. record (stream_in name names n closed es) { first_open = k }) (omega (arith, same)))

-- ---- the rows of an append
each_late : (u : ℕ) (rows : List (ℤ × List (Option ℤ))) → list_any (λ r. int_lt r.0 (pos u)) rows ≡ false → AllByRecursion (λ (r : ℕ × Row). u ≤ r.0) (kept_of rows)
each_late u [] h = tt
each_late u (r ∷ rows) h = (here (int_lt r.0 (pos u)) refl, each_late u rows (or_right (int_lt r.0 (pos u)) (list_any (λ r. int_lt r.0 (pos u)) rows) h))
  where
    not_late : (z : ℤ) → int_lt z (pos u) ≡ false → u ≤ nat_abs z
    not_late (pos m) g = ltb-false m u g
    not_late (negsuc m) g = cc

    here : (b : Bool) → int_lt r.0 (pos u) ≡ b → u ≤ nat_abs r.0
    here true i = let g : true ≡ false = sym (ap (λ b. b || list_any (λ r. int_lt r.0 (pos u)) rows) i) ∙ h in cc
    here false i = not_late r.0 i

each_wide : (columns : ℕ) (rows : List (ℤ × List (Option ℤ))) → list_any (λ r. not (length r.1 == columns)) rows ≡ false → AllByRecursion (λ (r : ℕ × Row). length r.1 ≡ columns) (kept_of rows)
each_wide columns [] h = tt
each_wide columns (r ∷ rows) h = (here (length r.1 == columns) refl, each_wide columns rows (or_right (not (length r.1 == columns)) (list_any (λ r. not (length r.1 == columns)) rows) h))
  where
    here : (b : Bool) → (length r.1 == columns) ≡ b → length r.1 ≡ columns
    here true i = eqb-true (length r.1) columns i
    here false i = let g : true ≡ false = sym (ap (λ b. not b || list_any (λ r. not (length r.1 == columns)) rows) i) ∙ h in cc

-- the tests that an accepted append passes
record Passed (s : Stream) (rows : List (ℤ × List (Option ℤ))) : Type 0 where
  pub width : list_any (λ r. not (length r.1 == length s.columns)) rows ≡ false
  pub late : list_any (λ r. int_lt r.0 (pos s.first_open)) rows ≡ false
  pub room : s.arrivals + length rows ≤ 1073741824

passed : (s : Stream) (rows : List (ℤ × List (Option ℤ))) → first_of (append_tests s rows) ≡ None → Passed s rows
passed s rows h =
    let many : Bool = nat_lt MAX_APPENDED (length rows) in
    let width : Bool = list_any (λ r. not (length r.1 == length s.columns)) rows in
    let value : Bool = list_any (λ r. not (list_all is_stream_value r.1)) rows in
    let instant : Bool = list_any (λ r. not (is_instant r.0)) rows in
    let late : Bool = list_any (λ r. int_lt r.0 (pos s.first_open)) rows in
    let full : Bool = nat_lt MAX_STREAM_ROWS (s.arrivals + length rows) in
    let t1 = none_later many TooMany ((width, BadWidth) ∷ (value, ValueRange) ∷ (instant, InstantRange) ∷ (late, Late) ∷ (full, StreamFull) ∷ []) h in
    let t2 = none_later width BadWidth ((value, ValueRange) ∷ (instant, InstantRange) ∷ (late, Late) ∷ (full, StreamFull) ∷ []) t1 in
    let t3 = none_later value ValueRange ((instant, InstantRange) ∷ (late, Late) ∷ (full, StreamFull) ∷ []) t2 in
    let t4 = none_later instant InstantRange ((late, Late) ∷ (full, StreamFull) ∷ []) t3 in
    let t5 = none_later late Late ((full, StreamFull) ∷ []) t4 in
    record {
      width = none_first width BadWidth ((value, ValueRange) ∷ (instant, InstantRange) ∷ (late, Late) ∷ (full, StreamFull) ∷ []) t1;
      late = none_first late Late ((full, StreamFull) ∷ []) t4;
      room = ltb-false MAX_STREAM_ROWS (s.arrivals + length rows) (none_first full StreamFull [] t5);
    }

module _ (name : List ℕ) (columns : List Name) (n : ℕ) (closed : Closed) (es : List Element) (rows : List (ℤ × List (Option ℤ))) (accepted : first_of (append_tests (stream_in name (names_of columns) n closed es) rows) ≡ None) where
  -- the stream has room for the rows
  pub rows_room : n + length rows ≤ 1073741824
  rows_room = (passed (stream_in name (names_of columns) n closed es) rows accepted).room

  -- the rows have the stream's columns
  rows_wide : AllByRecursion (λ (r : ℕ × Row). length r.1 ≡ length columns) (kept_of rows)
  rows_wide =
      let p = passed (stream_in name (names_of columns) n closed es) rows accepted in
      each_wide (length columns) rows (subst (λ k. list_any (λ r. not (length r.1 == k)) rows ≡ false) (length-map columns name_of) p.width)

  pub stored_put : IsStored (length columns) n closed es → IsStored (length columns) (n + length rows) closed (after_put n (kept_of rows) es)
  stored_put stored =
      let p = passed (stream_in name (names_of columns) n closed es) rows accepted in
      let new : List (ℕ × Row) = kept_of rows in
      let long : length new ≡ length rows = length-map rows (λ r. (nat_abs r.0, r.1)) in
      let more = λ (e : Element) (h : e.arrival < n). let lt : e.arrival < n + length rows = omega (arith, h) in lt in
      record {
        few = stored.few;
        width = stored.width;
        counted = p.room;
        held = omega (arith, stored.held, length-put n new es, long);
        range = stored.range;
        ordered = in_order (after_put n new es) (ordered-put n new es (ordered_from es stored.ordered) stored.numbered);
        opened = each-put (λ e. closed.until ≤ e.instant) n new es (each-numbered (λ r. closed.until ≤ r.0) (λ e. closed.until ≤ e.instant) (λ k r h. h) n new (each_late closed.until rows p.late)) stored.opened;
        wide = each-put (λ e. length e.row ≡ length columns) n new es (each-numbered (λ r. length r.1 ≡ length columns) (λ e. length e.row ≡ length columns) (λ k r h. h) n new rows_wide) stored.wide;
        numbered = each-put (λ e. e.arrival < n + length rows) n new es (numbered_below n (n + length rows) new (omega (arith, long)))
            (each_from (λ (e : Element). e.arrival < n) (λ (e : Element). e.arrival < n + length rows) more es stored.numbered);
        full = stored.full;
        came = each_from (λ (e : Element). e.arrival < n) (λ (e : Element). e.arrival < n + length rows) more closed.elements stored.came;
      }

pub if_ok : {T E : Type 0} {P Q : T → Type 0} → ((v : T) → P v → Q v) → (r : Result T E) → IfOk r P → IfOk r Q
if_ok f (Ok v) h = f v h
if_ok f (Err e) h = tt
