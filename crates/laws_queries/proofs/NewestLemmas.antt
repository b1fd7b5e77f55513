-- The newest query: nothing of its streams counts for it yet.
use Rattle.std.proofs.Common.{◌≡◌, ℕ, zero, suc, ◌+◌, ◌*◌, ◌<◌, ◌≤◌, ◌&&◌, sum, cond, Bool, true, false, nat_le, max, not, Option, None, List, [], ◌∷◌, ◌++◌, map, length, get_or, refl, ap, ◌∙◌, arith}
use Rattle.std.specs.Prelude.{ℤ, Result, Ok, Err, slice_get, unwrap_or, nat_lt, ◌||◌, nat_abs}
use Rattle.std.specs.List.{AllByRecursion, reduce, list_all, fold}
use Rattle.std.specs.Option.{is_some, option_map_or}
use Rattle.std.proofs.lemmas.Bool.{lt-leb, leb-true, ltb-true}
use Rattle.values.specs.declared.TheConstants.{MAX_COLUMNS}
use Rattle.values.specs.Window.{Element, input_of}
use Rattle.cql_reader.specs.Lexis.{is_name}
use Rattle.names.specs.Faults.{first_of, has_repeat}
use Rattle.reference.specs.Commands.{Append, Command, Declare, Drop, Found, Heartbeat, Register, Take, after, appended, are_columns, closed_to, count_undropped, first_fault, found, is_instant, place_at, query_tests, registered, registered_as}
use Rattle.reference.specs.Machine.{Machine, Place, Stream, first_for, input_at, opens, query_named, stream_named}
use Rattle.reference.specs.declared.fault.Fault.{Fault}
use Rattle.reference.specs.declared.fault.Fault.TheVariants.{BadColumns, BadName, InstantRange, NameTaken, TooMany}
use Rattle.reference.specs.declared.fault.QueryFault.{QueryFault}
use Rattle.reference.specs.declared.limits.TheConstants.{MAX_QUERIES, MAX_REGISTRATIONS, MAX_STREAMS, MAX_STREAM_COLUMNS}
use Rattle.reference.proofs.StreamLemmas.{none_first, none_later}
use Rattle.std.proofs.lemmas.List.Sums.{sum_by-cons}
use Rattle.laws_queries.specs.Machines.{IsMachine, columns_of, widths_of}
use Rattle.cql_reader.specs.declared.TheConstants.{MAX_SOURCES}
use Rattle.laws_dataflow.specs.Plans.{comes}
use Rattle.laws_queries.specs.Registrations.{HasColumnNames, HaveColumnNames, IsFresh, IsNewest, RegistrationsStand}
use Rattle.laws_queries.specs.Rows.{HasRows, HaveRows}
use Rattle.laws_queries.proofs.MachineCounts.{each_changed, text_query}

-- NOTHING COUNTS
none_waits : (n first : ℕ) (es : List Element) → AllByRecursion (λ e. e.arrival < n) es → input_of n first es ≡ []
none_waits n first [] h = refl
none_waits n first (e ∷ es) h =
    let early : nat_le n e.arrival ≡ false = lt-leb n e.arrival h.0 in
    ap (λ b. cond (b && nat_le first e.instant) (e ∷ input_of n first es) (input_of n first es)) early ∙ none_waits n first es h.1

none_at : (ss : List Stream) (first n : ℕ) → AllByRecursion HasRows ss
    → option_map_or (λ s. input_of (option_map_or (λ s. s.arrivals) (slice_get ss n) 0) first s.elements) (slice_get ss n) [] ≡ []
none_at [] first n h = refl
none_at (s ∷ ss) first zero h = none_waits s.arrivals first s.elements h.0.below
none_at (s ∷ ss) first (suc n) h = none_at ss first n h.1

none_of : (m : Machine) (first : ℕ) → HaveRows m → (ns : List ℕ) (k : ℕ) → get_or (map (input_at m.streams first) (map (place_at m) ns)) k [] ≡ []
none_of m first h [] k = refl
none_of m first h (n ∷ ns) zero = none_at m.streams first n h
none_of m first h (n ∷ ns) (suc k) = none_of m first h ns k

-- THE FIRST INSTANT is the greatest
fold_above : (xs : List ℕ) (x : ℕ) → x ≤ fold max x xs
fold_above [] x = omega arith
fold_above (y ∷ xs) x = let l : max x y ≤ fold max (max x y) xs = fold_above xs (max x y) in omega (arith, l)

fold_each : (xs : List ℕ) (x k : ℕ) → get_or xs k 0 ≤ fold max x xs
fold_each [] x k = omega arith
fold_each (y ∷ xs) x zero = let l : max x y ≤ fold max (max x y) xs = fold_above xs (max x y) in omega (arith, l)
fold_each (y ∷ xs) x (suc k) = fold_each xs (max x y) k

greatest : (xs : List ℕ) (k : ℕ) → get_or xs k 0 ≤ unwrap_or (reduce max xs) 0
greatest [] k = omega arith
greatest (x ∷ xs) zero = fold_above xs x
greatest (x ∷ xs) (suc k) = fold_each xs x k

-- no row came since
none_came : (m : Machine) (ns : List ℕ) (k : ℕ) → get_or (comes m.streams (map (place_at m) ns)) k 0 ≡ 0
none_came m [] k = refl
none_came m (n ∷ ns) zero = omega arith
none_came m (n ∷ ns) (suc k) = none_came m ns k

pub fresh_query : (m : Machine) (name : List ℕ) (f : Found) → IsMachine m → HaveRows m → IsFresh m (registered_as m name f)
fresh_query m name f is h = record {
  came = none_came m f.streams;
  inputs = none_of m (first_for m.streams (map (place_at m) f.streams)) h f.streams;
  opens = greatest (opens m.streams (map (place_at m) f.streams));
  starts = refl;
  early = refl;
}

-- WHAT WAS FOUND
record IsFound (r : Result Found QueryFault) : Type 0 where
  f : Found
  is : r ≡ Ok f

found_ok : (r : Result Found QueryFault) → first_of (query_tests r) ≡ None → IsFound r
found_ok (Ok f) h = record { f = f; is = refl }
found_ok (Err fault) h = absurd (cc)

newest : (m : Machine) (name source : List ℕ) (given : Option (List (ℤ × ℤ))) → first_fault m (Register name source given) ≡ None → IsMachine m → HaveRows m → IsNewest m name source given
newest m name source given e h rows =
    let tests : List (Bool × Fault) = query_tests (found m source given) in
    let many : Bool = nat_le MAX_QUERIES (count_undropped m) || nat_le MAX_REGISTRATIONS (length m.queries) in
    let one = none_later (not (is_name name)) BadName ((is_some (query_named m name), NameTaken) ∷ (many, TooMany) ∷ tests) e in
    let two = none_later (is_some (query_named m name)) NameTaken ((many, TooMany) ∷ tests) one in
    let ok : IsFound (found m source given) = found_ok (found m source given) (none_later many TooMany tests two) in
    record {
      found_as = ok.f;
      is = ok.is;
      query = text_query m given name source (Rattle.cql_reader.specs.Judging.reading source) refl ok.f ok.is;
      fresh = fresh_query m name ok.f h rows;
    }

-- NAMES OF COLUMNS
and_left : (a b : Bool) → (a && b) ≡ true → a ≡ true
and_left true b h = refl
and_left false b h = absurd (cc)

and_right : (a b : Bool) → (a && b) ≡ true → b ≡ true
and_right true b h = h
and_right false b h = absurd (cc)

was_true : (b : Bool) → not b ≡ false → b ≡ true
was_true true h = refl
was_true false h = absurd (cc)

good_columns : (columns : List (List ℕ)) → are_columns columns ≡ true → (0 < length columns) × (length columns ≤ 8)
good_columns columns h =
    let some : Bool = nat_lt 0 (length columns) in
    let few : Bool = nat_le (length columns) MAX_STREAM_COLUMNS in
    let named : Bool = list_all is_name columns in
    let both : (some && few) ≡ true = and_left (some && few) named (and_left ((some && few) && named) (not (has_repeat columns)) h) in
    (ltb-true 0 (length columns) (and_left some few both), leb-true (length columns) 8 (and_right some few both))

declared_columns : (m : Machine) (name : List ℕ) (columns : List (List ℕ)) (start : ℤ) → first_fault m (Declare name columns start) ≡ None → (0 < length columns) × (length columns ≤ 8)
declared_columns m name columns start e =
    let last : List (Bool × Fault) = (not (is_instant start), InstantRange) ∷ (nat_le MAX_STREAMS (length m.streams), TooMany) ∷ [] in
    let one = none_later (not (is_name name)) BadName ((is_some (stream_named m name), NameTaken) ∷ (not (are_columns columns), BadColumns) ∷ last) e in
    let two = none_later (is_some (stream_named m name)) NameTaken ((not (are_columns columns), BadColumns) ∷ last) one in
    good_columns columns (was_true (are_columns columns) (none_first (not (are_columns columns)) BadColumns last two))

named_append : (ss ts : List Stream) → AllByRecursion HasColumnNames ss → AllByRecursion HasColumnNames ts → AllByRecursion HasColumnNames (ss ++ ts)
named_append [] ts h k = k
named_append (s ∷ ss) ts h k = (h.0, named_append ss ts h.1 k)

named_registered : (m : Machine) (name : List ℕ) (r : Result Found QueryFault) → HaveColumnNames m → HaveColumnNames (registered m name r)
named_registered m name (Ok f) h = h
named_registered m name (Err fault) h = h

columns_stand : (m : Machine) (c : Command) (count : ℕ) → first_fault m c ≡ None → HaveColumnNames m → HaveColumnNames (after m c count)
columns_stand m (Declare name columns start) count e h =
    let good : (0 < length columns) × (length columns ≤ 8) = declared_columns m name columns start e in
    named_append m.streams (record { name = name; columns = columns; elements = []; arrivals = 0; first_open = nat_abs start } ∷ []) h (record { some = good.0; few = good.1 }, tt)
columns_stand m (Register name source given) count e h = named_registered m name (found m source given) h
columns_stand m (Append n rows) count e h = each_changed HasColumnNames (appended rows) n m.streams (λ s is i. record { some = i.some; few = i.few }) h
columns_stand m (Heartbeat n at) count e h = each_changed HasColumnNames (closed_to at) n m.streams (λ s is i. record { some = i.some; few = i.few }) h
columns_stand m (Take n limit) count e h = h
columns_stand m (Drop n) count e h = h

-- THE SOURCES of a query
columns_here : (ss : List Stream) (n : ℕ) → AllByRecursion HasColumnNames ss → n < length ss → (0 < columns_of ss n) × (columns_of ss n ≤ 8)
columns_here [] n h l = absurd (omega (arith, l))
columns_here (s ∷ ss) zero h l = (h.0.some, h.0.few)
columns_here (s ∷ ss) (suc n) h l = columns_here ss n h.1 (omega (arith, l))

each_some : (ss : List Stream) (ps : List Place) → AllByRecursion HasColumnNames ss → AllByRecursion (λ p. p.stream < length ss) ps → AllByRecursion (λ v. 0 < v) (map (λ p. columns_of ss p.stream) ps)
each_some ss [] h k = tt
each_some ss (p ∷ ps) h k = ((columns_here ss p.stream h k.0).0, each_some ss ps h k.1)

each_few : (ss : List Stream) (ps : List Place) → AllByRecursion HasColumnNames ss → AllByRecursion (λ p. p.stream < length ss) ps → AllByRecursion (λ v. v ≤ 8) (map (λ p. columns_of ss p.stream) ps)
each_few ss [] h k = tt
each_few ss (p ∷ ps) h k = ((columns_here ss p.stream h k.0).1, each_few ss ps h k.1)

sum_each : (vs : List ℕ) → AllByRecursion (λ v. v ≤ 8) vs → sum vs ≤ 8 * length vs
sum_each [] h = omega arith
sum_each (v ∷ vs) h =
    let e : sum (v ∷ vs) ≡ v + sum vs = sum_by-cons (λ x. x) v vs in
    omega (arith, e, h.0, sum_each vs h.1)

-- the sources that a text may name have no more columns together than a row
sum_few : (vs : List ℕ) → AllByRecursion (λ v. v ≤ 8) vs → length vs ≤ MAX_SOURCES → sum vs ≤ MAX_COLUMNS
sum_few vs h l = omega (arith, sum_each vs h, l)

pub registrations_stand : RegistrationsStand
registrations_stand = record {
  newest = newest;
  start = tt;
  goes_on = columns_stand;
  some = λ m q h i. each_some m.streams q.places h i.known;
  together = λ m q h i. sum_few (widths_of m.streams q) (each_few m.streams q.places h i.known) i.few;
}
