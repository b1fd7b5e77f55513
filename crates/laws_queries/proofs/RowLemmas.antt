-- The rows of the machine's streams stay in the order of their arrival, and of the values' range, whatever it was told.
use Rattle.std.proofs.Common.{◌≡◌, ℕ, ℤ, pos, negsuc, zero, suc, ◌+◌, ◌<◌, ◌≤◌, ◌==◌, ◌&&◌, ◌||◌, nat_lt, int_lt, int_le, not, Bool, true, false, Option, Some, None, List, [], ◌∷◌, ◌++◌, length, refl, sym, ap, ◌∙◌, subst, arith}
use Rattle.std.specs.Prelude.{Result, Ok, Err, neg_ℤ, slice_get}
use Rattle.std.specs.List.{All, AllByRecursion, list_all, list_any}
use Rattle.std.proofs.lemmas.Bool.{leb-true}
use Rattle.std.proofs.lemmas.Int.{ints}
use Rattle.std.proofs.lemmas.List.Elements.{All-cons, All-nil}
use Rattle.values.specs.Row.{Row}
use Rattle.values.specs.Value.{stream_max}
use Rattle.values.specs.Ranges.{IsAnswerNumber, IsAnswerValue}
use Rattle.values.specs.Window.{Element}
use Rattle.names.specs.Faults.{first_of}
use Rattle.plan.proofs.Lists.{each-append}
use Rattle.reference.specs.Commands.{Append, Command, Declare, Drop, Found, Heartbeat, Register, Take, after, append_tests, appended, change, closed_to, elements_from, first_fault, found, is_instant, is_stream_value, of_stream, registered}
use Rattle.reference.specs.Machine.{Machine, Registered, Stream}
use Rattle.reference.specs.declared.fault.Fault.{Fault}
use Rattle.reference.specs.declared.fault.Fault.TheVariants.{BadWidth, InstantRange, Late, StreamFull, TooMany, ValueRange}
use Rattle.reference.specs.declared.fault.QueryFault.{QueryFault}
use Rattle.reference.specs.declared.limits.TheConstants.{MAX_APPENDED, MAX_STREAM_ROWS}
use Rattle.reference.proofs.StreamLemmas.{alone, none_first, none_later}
use Rattle.laws_queries.specs.Widths.{IsRow}
use Rattle.laws_queries.specs.Machines.{IsMachine, IsStream, columns_of}
use Rattle.stream_store.specs.Stored.{IsByArrival}
use Rattle.laws_queries.specs.Queries.{ReadsRows, elements_at}
use Rattle.laws_queries.specs.Plain.{place_of}
use Rattle.laws_queries.specs.Rows.{AreSourceWidths, HasRows, HaveRows, RowsStand}

-- ARRIVALS
each_more : (P Q : Element → Type 0) → ((e : Element) → P e → Q e) → (es : List Element) → AllByRecursion P es → AllByRecursion Q es
each_more P Q f [] h = tt
each_more P Q f (e ∷ es) h = (f e h.0, each_more P Q f es h.1)

each_both : (P : Element → Type 0) (es fs : List Element) → AllByRecursion P es → AllByRecursion P fs → AllByRecursion P (es ++ fs)
each_both P [] fs h k = k
each_both P (e ∷ es) fs h k = (h.0, each_both P es fs h.1 k)

new_from : (n : ℕ) (rows : List (ℤ × List (Option ℤ))) → AllByRecursion (λ e. n ≤ e.arrival) (elements_from n rows)
new_from n [] = tt
new_from n (r ∷ rows) = (omega arith, each_more (λ e. suc n ≤ e.arrival) (λ e. n ≤ e.arrival) (λ e h. omega (arith, h)) (elements_from (suc n) rows) (new_from (suc n) rows))

new_below : (n : ℕ) (rows : List (ℤ × List (Option ℤ))) → AllByRecursion (λ e. e.arrival < n + length rows) (elements_from n rows)
new_below n [] = tt
new_below n (r ∷ rows) = (omega arith, each_more (λ e. e.arrival < suc n + length rows) (λ e. e.arrival < n + suc (length rows)) (λ e h. omega (arith, h)) (elements_from (suc n) rows) (new_below (suc n) rows))

new_arrival : (n : ℕ) (rows : List (ℤ × List (Option ℤ))) → IsByArrival (elements_from n rows)
new_arrival n [] = tt
new_arrival n (r ∷ rows) = (each_more (λ e. suc n ≤ e.arrival) (λ e. n < e.arrival) (λ e h. omega (arith, h)) (elements_from (suc n) rows) (new_from (suc n) rows), new_arrival (suc n) rows)

both_arrival : (n : ℕ) (es fs : List Element) → AllByRecursion (λ e. e.arrival < n) es → AllByRecursion (λ e. n ≤ e.arrival) fs → IsByArrival es → IsByArrival fs → IsByArrival (es ++ fs)
both_arrival n [] fs h k a b = b
both_arrival n (e ∷ es) fs h k a b =
    (each_both (λ f. e.arrival < f.arrival) es fs a.0 (each_more (λ f. n ≤ f.arrival) (λ f. e.arrival < f.arrival) (λ f l. omega (arith, l, h.0)) fs k), both_arrival n es fs h.1 k a.1 b)

-- VALUES
in_range : (z : ℤ) → int_le (neg_ℤ stream_max) z ≡ true → int_le z stream_max ≡ true → IsAnswerNumber z
in_range (pos n) l u = let v : n ≤ 1099511627775 = leb-true n 1099511627775 u in (omega (arith, ints), omega (arith, ints, v))
in_range (negsuc n) l u = let v : n ≤ 1099511627774 = leb-true n 1099511627774 l in (omega (arith, ints, v), omega (arith, ints))

and_left : (a b : Bool) → (a && b) ≡ true → a ≡ true
and_left true b h = refl
and_left false b h = absurd (cc)

and_right : (a b : Bool) → (a && b) ≡ true → b ≡ true
and_right true b h = h
and_right false b h = absurd (cc)

value_in : (v : Option ℤ) → is_stream_value v ≡ true → IsAnswerValue v
value_in None h = tt
value_in (Some z) h = in_range z (and_left (int_le (neg_ℤ stream_max) z) (int_le z stream_max) h) (and_right (int_le (neg_ℤ stream_max) z) (int_le z stream_max) h)

values_in : (vs : Row) → list_all is_stream_value vs ≡ true → All IsAnswerValue vs
values_in [] h = All-nil IsAnswerValue
values_in (v ∷ vs) h = All-cons IsAnswerValue v vs (value_in v (and_left (is_stream_value v) (list_all is_stream_value vs) h)) (values_in vs (and_right (is_stream_value v) (list_all is_stream_value vs) h))

or_left : (a b : Bool) → (a || b) ≡ false → a ≡ false
or_left true b h = absurd (cc)
or_left false b h = refl

or_rest : (a b : Bool) → (a || b) ≡ false → b ≡ false
or_rest true b h = absurd (cc)
or_rest false b h = h

not_not : (b : Bool) → not b ≡ false → b ≡ true
not_not true h = refl
not_not false h = absurd (cc)

new_values : (n : ℕ) (rows : List (ℤ × List (Option ℤ))) → list_any (λ r. not (list_all is_stream_value r.1)) rows ≡ false → AllByRecursion (λ e. All IsAnswerValue e.row) (elements_from n rows)
new_values n [] h = tt
new_values n (r ∷ rows) h = (
  values_in r.1 (not_not (list_all is_stream_value r.1) (or_left (not (list_all is_stream_value r.1)) (list_any (λ r. not (list_all is_stream_value r.1)) rows) h)),
  new_values (suc n) rows (or_rest (not (list_all is_stream_value r.1)) (list_any (λ r. not (list_all is_stream_value r.1)) rows) h),
)

in_test : (s : Stream) (rows : List (ℤ × List (Option ℤ))) → first_of (append_tests s rows) ≡ None → list_any (λ r. not (list_all is_stream_value r.1)) rows ≡ false
in_test s rows h =
    let width : Bool = list_any (λ r. not (length r.1 == length s.columns)) rows in
    let value : Bool = list_any (λ r. not (list_all is_stream_value r.1)) rows in
    let rest : List (Bool × Fault) = (list_any (λ r. not (is_instant r.0)) rows, InstantRange) ∷ (list_any (λ r. int_lt r.0 (pos s.first_open)) rows, Late) ∷ (nat_lt MAX_STREAM_ROWS (s.arrivals + length rows), StreamFull) ∷ [] in
    none_first value ValueRange rest (none_later width BadWidth ((value, ValueRange) ∷ rest) (none_later (nat_lt MAX_APPENDED (length rows)) TooMany ((width, BadWidth) ∷ (value, ValueRange) ∷ rest) h))

-- ALL STREAMS
rows_appended : (s : Stream) (rows : List (ℤ × List (Option ℤ))) → first_of (append_tests s rows) ≡ None → HasRows s → HasRows (appended rows s)
rows_appended s rows h r = record {
  arrival = both_arrival s.arrivals s.elements (elements_from s.arrivals rows) r.below (new_from s.arrivals rows) r.arrival (new_arrival s.arrivals rows);
  below = each_both (λ e. e.arrival < s.arrivals + length rows) s.elements (elements_from s.arrivals rows) (each_more (λ e. e.arrival < s.arrivals) (λ e. e.arrival < s.arrivals + length rows) (λ e l. omega (arith, l)) s.elements r.below) (new_below s.arrivals rows);
  values = each_both (λ e. All IsAnswerValue e.row) s.elements (elements_from s.arrivals rows) r.values (new_values s.arrivals rows (in_test s rows h));
}

rows_changed : (f : Stream → Stream) (n : ℕ) (ss : List Stream) → ((s : Stream) → slice_get ss n ≡ Some s → HasRows s → HasRows (f s)) → AllByRecursion HasRows ss → AllByRecursion HasRows (change n f ss)
rows_changed f n [] g h = tt
rows_changed f zero (s ∷ ss) g h = (g s refl h.0, h.1)
rows_changed f (suc n) (s ∷ ss) g h = (h.0, rows_changed f n ss g h.1)

rows_registered : (m : Machine) (name : List ℕ) (r : Result Found QueryFault) → HaveRows m → HaveRows (registered m name r)
rows_registered m name (Ok f) h = h
rows_registered m name (Err fault) h = h

rows_after : (m : Machine) (c : Command) (count : ℕ) → first_fault m c ≡ None → HaveRows m → HaveRows (after m c count)
rows_after m (Declare name columns start) count a h = each-append HasRows m.streams _ h (record { arrival = tt; below = tt; values = tt }, tt)
rows_after m (Register name source given) count a h = rows_registered m name (found m source given) h
rows_after m (Append n rows) count a h = rows_changed (appended rows) n m.streams (λ s is r. rows_appended s rows (sym (ap (of_stream (λ s. append_tests s rows)) is) ∙ alone m.queries n rows (slice_get m.streams n) a) r) h
rows_after m (Heartbeat n at) count a h = rows_changed (closed_to at) n m.streams (λ s is r. record { arrival = r.arrival; below = r.below; values = r.values }) h
rows_after m (Take n limit) count a h = h
rows_after m (Drop n) count a h = h

-- A QUERY READS THEM
arrival_at : (ss : List Stream) (n : ℕ) → AllByRecursion HasRows ss → IsByArrival (elements_at ss n)
arrival_at [] n h = tt
arrival_at (s ∷ ss) zero h = h.0.arrival
arrival_at (s ∷ ss) (suc n) h = arrival_at ss n h.1

each_row : (w : ℕ) (es : List Element) → AllByRecursion (λ e. length e.row ≡ w) es → AllByRecursion (λ e. All IsAnswerValue e.row) es → AllByRecursion (λ e. IsRow w e.row) es
each_row w [] h k = tt
each_row w (e ∷ es) h k = (record { wide = h.0; values = k.0 }, each_row w es h.1 k.1)

rows_at : (ss : List Stream) (n : ℕ) → AllByRecursion HasRows ss → AllByRecursion IsStream ss → AllByRecursion (λ e. IsRow (columns_of ss n) e.row) (elements_at ss n)
rows_at [] n h k = tt
rows_at (s ∷ ss) zero h k = each_row (length s.columns) s.elements k.0.wide h.0.values
rows_at (s ∷ ss) (suc n) h k = rows_at ss n h.1 k.1

reads_rows : (ws : List ℕ) (m : Machine) (q : Registered) → HaveRows m → IsMachine m → AreSourceWidths ws m q → ReadsRows ws m q
reads_rows ws m q h k w = record {
  arrival = λ n. arrival_at m.streams n h;
  wide = λ i s ic e. subst (λ x. AllByRecursion (λ f. IsRow x f.row) (elements_at m.streams (place_of q s).stream)) (sym (w i s ic e)) (rows_at m.streams (place_of q s).stream h k.streams);
}

pub rows_stand : RowsStand
rows_stand = record { start = tt; goes_on = rows_after; reads = reads_rows }
