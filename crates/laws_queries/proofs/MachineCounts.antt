-- The machine's streams have few rows, and its queries run plans over them, whatever it was told.
use Rattle.std.proofs.Common.{◌≡◌, ℕ, zero, suc, ◌+◌, ◌-◌, ◌<◌, ◌≤◌, ◌==◌, Bool, true, false, cond, max, not, ◌||◌, ◌&&◌, nat_le, nat_lt, Option, None, Some, ℤ, List, [], ◌∷◌, ◌++◌, map, filter, length, refl, sym, ap, ap₂, ◌∙◌, subst, arith, length-append, eqb-true, eq-eqb}
use Rattle.std.specs.Prelude.{Result, Ok, Err, slice_get, nat_abs, int_lt, pos, unwrap_or, option_and_then}
use Rattle.std.specs.List.{AllByRecursion, list_all, list_any}
use Rattle.std.specs.Option.{is_none, option_map_or}
use Rattle.std.proofs.lemmas.Bool.{ltb-false, lt-ltb, leb-true, leb-false, eqb-false, ne_eqb}
use Rattle.std.proofs.lemmas.List.{length-map}
use Rattle.std.proofs.lemmas.Option.{get_or_from_slice_get, slice_get_within}
use Rattle.std.proofs.lemmas.List.Elements.{filter-append}
use Rattle.values.specs.Row.{Row}
use Rattle.values.specs.Window.{Element, Window, input_of, shows}
use Rattle.values.specs.Answers.{shown_at}
use Rattle.cql_reader.specs.Query as syntax
use Rattle.cql_reader.specs.Fault as text
use Rattle.cql_reader.specs.Judging.{reading}
use Rattle.cql_reader.specs.WellFormed.{IsWellFormed}
use Rattle.cql_reader.proofs.WellFormed.{well_formed}
use Rattle.names.specs.Catalog as catalogs
use Rattle.names.specs.Catalog.{number_in}
use Rattle.names.specs.Matches.{table_of, tables}
use Rattle.names.specs.Resolved.{resolved, streams, widths}
use Rattle.names.specs.Faults as naming
use Rattle.names.specs.declared.fault.ResolveFault.{ResolveFault}
use Rattle.names.proofs.Accepted.{accepted, known}
use Rattle.plan.specs.Build.{plan_of}
use Rattle.plan.specs.Chart.{is_bad_chart, measures_of}
use Rattle.plan.specs.Faults as planning
use Rattle.plan.specs.Nodes.{Node}
use Rattle.plan.specs.Scope.{Tables}
use Rattle.plan.specs.declared.fault.PlanFault.{PlanFault}
use Rattle.plan.proofs.Accepted.{accepted-scoped}
use Rattle.plan.proofs.Lists.{by_test, each-append, each-filter, each-map, each-weaken, each_at}
use Rattle.reference.specs.Machine.{Machine, Place, Registered, Stream, input_at}
use Rattle.reference.specs.Commands.{Append, Command, Declare, Drop, Found, Heartbeat, Register, Take, after, append_tests, appended, catalog_of, change, closed_to, crowd_tests, dropped, elements_from, first_fault, found, found_by, found_of, is_crowded, is_instant, is_past, is_stream_value, of_stream, place_at, registered, registered_as, rows_of_each, rows_tests, took, unless_faulty}
use Rattle.reference.specs.declared.fault.Fault.{Fault}
use Rattle.reference.specs.declared.fault.Fault.TheVariants.{BadWidth, InstantRange, Late, StreamFull, TooMany, ValueRange}
use Rattle.reference.specs.declared.fault.QueryFault.{QueryFault}
use Rattle.reference.specs.declared.limits.TheConstants.{MAX_APPENDED, MAX_ROWS_OF_FOUR, MAX_ROWS_OF_THREE, MAX_STREAM_ROWS}
use Rattle.cql_reader.specs.declared.TheConstants.{MAX_SOURCES}
use Rattle.reference.proofs.StreamLemmas.{accepted_each, alone, first_part, none_first, none_later, uncrowded}
use Rattle.laws_dataflow.specs.Plans.{IsPlanOf, arrivals_at}
use Rattle.laws_queries.specs.Machines.{IsMachine, IsQuery, IsStream, KeepsItsLimit, MachinesStand, QueriesStand, columns_of, widths_of}
use Rattle.laws_queries.specs.Rooms.{CountsArrivals, HasFewSince}

-- STREAMS after a command

-- one of the list is changed
pub each_changed : {X : Type 0} (P : X → Type 0) (f : X → X) (n : ℕ) (xs : List X) → ((x : X) → slice_get xs n ≡ Some x → P x → P (f x)) → AllByRecursion P xs
    → AllByRecursion P (change n f xs)
each_changed P f n [] g h = tt
each_changed P f zero (x ∷ xs) g h = (g x refl h.0, h.1)
each_changed P f (suc n) (x ∷ xs) g h = (h.0, each_changed P f n xs g h.1)

many_changed : {X : Type 0} (f : X → X) (n : ℕ) (xs : List X) → length (change n f xs) ≡ length xs
many_changed f n [] = refl
many_changed f zero (x ∷ xs) = refl
many_changed f (suc n) (x ∷ xs) = ap suc (many_changed f n xs)

columns_changed : (f : Stream → Stream) → ((s : Stream) → length (f s).columns ≡ length s.columns) → (n i : ℕ) (ss : List Stream)
    → columns_of (change n f ss) i ≡ columns_of ss i
columns_changed f h n i [] = refl
columns_changed f h zero zero (s ∷ ss) = h s
columns_changed f h zero (suc i) (s ∷ ss) = refl
columns_changed f h (suc n) zero (s ∷ ss) = refl
columns_changed f h (suc n) (suc i) (s ∷ ss) = columns_changed f h n i ss

columns_left : (ss ts : List Stream) (i : ℕ) → i < length ss → columns_of (ss ++ ts) i ≡ columns_of ss i
columns_left [] ts i h = absurd (omega (arith, h))
columns_left (s ∷ ss) ts zero h = refl
columns_left (s ∷ ss) ts (suc i) h = columns_left ss ts i (omega (arith, h))

-- how many columns each of the places has
abbrev columns_at : List Stream → List Place → List ℕ
columns_at ss ps = map (λ p. columns_of ss p.stream) ps

-- streams that come behind, and changes that leave the columns, leave the sources
record Keeps (ss ts : List Stream) : Type 0 where
  pub many : length ss ≤ length ts
  pub columns : (i : ℕ) → i < length ss → columns_of ts i ≡ columns_of ss i

keeps_more : (ss ts : List Stream) → Keeps ss (ss ++ ts)
keeps_more ss ts = record { many = omega (arith, length-append ss ts); columns = columns_left ss ts }

keeps_changed : (f : Stream → Stream) → ((s : Stream) → length (f s).columns ≡ length s.columns) → (n : ℕ) (ss : List Stream) → Keeps ss (change n f ss)
keeps_changed f h n ss = record { many = omega (arith, many_changed f n ss); columns = λ i l. columns_changed f h n i ss }

keeps_same : (ss : List Stream) → Keeps ss ss
keeps_same ss = record { many = omega arith; columns = λ i l. refl }

registered_streams : (m : Machine) (name : List ℕ) (r : Result Found QueryFault) → Keeps m.streams (registered m name r).streams
registered_streams m name (Ok f) = keeps_same m.streams
registered_streams m name (Err fault) = keeps_same m.streams

kept_widths : (ss ts : List Stream) → Keeps ss ts → (ps : List Place) → AllByRecursion (λ p. p.stream < length ss) ps → columns_at ts ps ≡ columns_at ss ps
kept_widths ss ts k [] h = refl
kept_widths ss ts k (p ∷ ps) h = ap₂ (λ v vs. v ∷ vs) (k.columns p.stream h.0) (kept_widths ss ts k ps h.1)

kept_query : (ss ts : List Stream) → Keeps ss ts → (q : Registered) → IsQuery ss q → IsQuery ts q
kept_query ss ts k q h =
    let e : widths_of ss q ≡ widths_of ts q = sym (kept_widths ss ts k q.places h.known) in
    record {
      plan = subst (λ vs. IsPlanOf vs q.meaning q.nodes) e h.plan;
      few = subst (λ vs. length vs ≤ MAX_SOURCES) e h.few;
      known = each-weaken (λ (p : Place). p.stream < length ss) (λ (p : Place). p.stream < length ts) (λ p l. omega (arith, l, k.many)) q.places h.known;
    }

kept_queries : (ss ts : List Stream) → Keeps ss ts → (qs : List Registered) → AllByRecursion (IsQuery ss) qs → AllByRecursion (IsQuery ts) qs
kept_queries ss ts k qs h = each-weaken (IsQuery ss) (IsQuery ts) (kept_query ss ts k) qs h

-- an append
same_width : (b : Bool) (n m : ℕ) → (n == m) ≡ b → not b ≡ false → n ≡ m
same_width true n m e h = eqb-true n m e
same_width false n m e h = cc

either_none : (a b : Bool) → (a || b) ≡ false → (a ≡ false) × (b ≡ false)
either_none true b h = cc
either_none false b h = (refl, h)

and_rest : (a b : Bool) → a ≡ true → (a && b) ≡ false → b ≡ false
and_rest true b e h = h
and_rest false b e h = cc

suc_same : (i n : ℕ) → (suc i == suc n) ≡ (i == n)
suc_same i n = by_test (i == n) (λ t. eq-eqb (suc i) (suc n) (ap suc (eqb-true i n t)) ∙ sym t) (λ f. ne_eqb (suc i) (suc n) (λ p. eqb-false i n f (omega (arith, p))) ∙ sym f)

rows_wide : (w n : ℕ) (rows : List (ℤ × List (Option ℤ))) → list_any (λ r. not (length r.1 == w)) rows ≡ false
    → AllByRecursion (λ (e : Element). length e.row ≡ w) (elements_from n rows)
rows_wide w n [] h = tt
rows_wide w n (r ∷ rows) h =
    let t : (not (length r.1 == w) ≡ false) × (list_any (λ r. not (length r.1 == w)) rows ≡ false) = either_none (not (length r.1 == w)) (list_any (λ r. not (length r.1 == w)) rows) h in
    (same_width (length r.1 == w) (length r.1) w refl t.0, rows_wide w (suc n) rows t.1)

-- of rows that come now, those that come behind the first ones
pub since_now : (place n : ℕ) (rows : List (ℤ × List (Option ℤ))) → length (filter (λ (e : Element). nat_le place e.arrival) (elements_from n rows)) ≤ (n + length rows) - max place n
since_now place n [] = omega arith
since_now place n (r ∷ rows) = here (record { arrival = n; instant = nat_abs r.0; row = r.1 }) (nat_le place n) refl (since_now place (suc n) rows)
  where
    behind : List Element
    behind = filter (λ (e : Element). nat_le place e.arrival) (elements_from (suc n) rows)

    here : (x : Element) (b : Bool) → nat_le place n ≡ b → length behind ≤ (suc n + length rows) - max place (suc n) → length (cond b (x ∷ behind) behind) ≤ (n + suc (length rows)) - max place n
    here x true e h = omega (arith, leb-true place n e, h)
    here x false e h = omega (arith, h)

counts_appended : (rows : List (ℤ × List (Option ℤ))) (s : Stream) → CountsArrivals s → CountsArrivals (appended rows s)
counts_appended rows s h = record {
  since = λ place.
      let e : filter (λ (f : Element). nat_le place f.arrival) (s.elements ++ elements_from s.arrivals rows) ≡ filter (λ (f : Element). nat_le place f.arrival) s.elements ++ filter (λ (f : Element). nat_le place f.arrival) (elements_from s.arrivals rows) =
      filter-append (λ (f : Element). nat_le place f.arrival) s.elements (elements_from s.arrivals rows) in
      let few : length (filter (λ (f : Element). nat_le place f.arrival) (s.elements ++ elements_from s.arrivals rows)) ≤ (s.arrivals + length rows) - place =
      omega (arith, ap length e, length-append (filter (λ (f : Element). nat_le place f.arrival) s.elements) (filter (λ (f : Element). nat_le place f.arrival) (elements_from s.arrivals rows)), h.since place, since_now place s.arrivals rows) in
      few;
}

appended_stream : (rows : List (ℤ × List (Option ℤ))) (s : Stream) → naming.first_of (append_tests s rows) ≡ None → IsStream s → IsStream (appended rows s)
appended_stream rows s h i =
    let many : Bool = nat_lt MAX_APPENDED (length rows) in
    let width : Bool = list_any (λ r. not (length r.1 == length s.columns)) rows in
    let value : Bool = list_any (λ r. not (list_all is_stream_value r.1)) rows in
    let instant : Bool = list_any (λ r. not (is_instant r.0)) rows in
    let late : Bool = list_any (λ r. int_lt r.0 (pos s.first_open)) rows in
    let full : Bool = nat_lt MAX_STREAM_ROWS (s.arrivals + length rows) in
    let t1 = none_later many TooMany ((width, BadWidth) ∷ (value, ValueRange) ∷ (instant, InstantRange) ∷ (late, Late) ∷ (full, StreamFull) ∷ []) h in
    let t2 = none_later width BadWidth ((value, ValueRange) ∷ (instant, InstantRange) ∷ (late, Late) ∷ (full, StreamFull) ∷ []) t1 in
    let t3 = none_later value ValueRange ((instant, InstantRange) ∷ (late, Late) ∷ (full, StreamFull) ∷ []) t2 in
    let t4 = none_later instant InstantRange ((late, Late) ∷ (full, StreamFull) ∷ []) t3 in
    let t5 = none_later late Late ((full, StreamFull) ∷ []) t4 in
    record {
      wide = each-append (λ (e : Element). length e.row ≡ length s.columns) s.elements (elements_from s.arrivals rows) i.wide
          (rows_wide (length s.columns) s.arrivals rows (none_first width BadWidth ((value, ValueRange) ∷ (instant, InstantRange) ∷ (late, Late) ∷ (full, StreamFull) ∷ []) t1));
      counted = counts_appended rows s i.counted;
      few = ltb-false MAX_STREAM_ROWS (s.arrivals + length rows) (none_first full StreamFull [] t5);
    }

found_stream : (tests : Stream → List (Bool × Fault)) (o : Option Stream) (s : Stream) → of_stream tests o ≡ None → o ≡ Some s → naming.first_of (tests s) ≡ None
found_stream tests o s h e = subst (λ z. of_stream tests z ≡ None) e h

-- A REGISTRATION

-- a source names no stream
abbrev has_unknown : Machine → List syntax.WrittenSource → Bool
has_unknown m sources = list_any (λ s. is_none (number_in (catalog_of m.streams) s.stream)) sources

abbrev numbers : Machine → List syntax.WrittenSource → List ℕ
numbers m sources = map (λ s. unwrap_or (number_in (catalog_of m.streams) s.stream) 0) sources

-- the columns of a source are those of its stream
columns_by : (ss : List Stream) (n : ℕ) → length (option_map_or (λ s. s.columns) (slice_get (catalog_of ss) n) []) ≡ columns_of ss n
columns_by [] n = refl
columns_by (s ∷ ss) zero = refl
columns_by (s ∷ ss) (suc n) = columns_by ss n

source_here : (m : Machine) (o : Option ℕ) → is_none o ≡ false
    → columns_of m.streams (unwrap_or o 0) ≡ length (option_map_or (λ s. s.columns) (option_and_then (slice_get (catalog_of m.streams)) o) [])
source_here m None h = cc
source_here m (Some n) h = sym (columns_by m.streams n)

sources_here : (m : Machine) (sources : List syntax.WrittenSource) → has_unknown m sources ≡ false
    → columns_at m.streams (map (place_at m) (numbers m sources)) ≡ map (λ t. length t.columns) (tables (catalog_of m.streams) sources)
sources_here m [] h = refl
sources_here m (s ∷ sources) h =
    let here : Bool = is_none (number_in (catalog_of m.streams) s.stream) in
    let t : (here ≡ false) × (has_unknown m sources ≡ false) = either_none here (has_unknown m sources) h in
    ap₂ (λ v vs. v ∷ vs) (source_here m (number_in (catalog_of m.streams) s.stream) t.0) (sources_here m sources t.1)

abbrev in_catalog : Stream → catalogs.Stream
in_catalog s = record { name = s.name; columns = s.columns }

places_known : (m : Machine) (ns : List ℕ) → AllByRecursion (λ n. n < length (catalog_of m.streams)) ns
    → AllByRecursion (λ p. p.stream < length m.streams) (map (place_at m) ns)
places_known m [] h = tt
places_known m (n ∷ ns) h = (subst (λ k. n < k) (length-map m.streams in_catalog) h.0, places_known m ns h.1)

-- what a query means over the machine's streams
abbrev meant : Machine → Option (List (ℤ × ℤ)) → syntax.Query → Found
meant m given q =
    let catalog : List catalogs.Stream = catalog_of m.streams in
    let nodes : List Node = plan_of (widths q catalog) (resolved q catalog) in
    record { streams = streams q catalog; meaning = resolved q catalog; nodes = nodes; measures = measures_of nodes given }

-- what was found without a fault is a query
read_query : (m : Machine) (given : Option (List (ℤ × ℤ))) (name : List ℕ) (q : syntax.Query) → IsWellFormed q → naming.first_fault q (catalog_of m.streams) ≡ None
    → IsQuery m.streams (registered_as m name (meant m given q))
read_query m given name q good none =
    let catalog : List catalogs.Stream = catalog_of m.streams in
    let long : length (widths q catalog) ≡ length q.sources = length-map (tables catalog q.sources) _ ∙ length-map q.sources (table_of catalog) in
    let known_streams : has_unknown m q.sources ≡ false = (accepted q catalog none).streams in
    let e : widths q catalog ≡ columns_at m.streams (map (place_at m) (streams q catalog)) = sym (sources_here m q.sources known_streams) in
    record {
      plan = subst (λ vs. IsPlanOf vs (resolved q catalog) (plan_of (widths q catalog) (resolved q catalog))) e
          (record { some = omega (arith, long, good.some_source); scoped = accepted-scoped q catalog none; is = refl });
      few = subst (λ vs. length vs ≤ MAX_SOURCES) e (omega (arith, long, good.few_sources));
      known = places_known m (streams q catalog) (known catalog q.sources known_streams);
    }

no_name_fault : (f : Option ResolveFault) (bad : Bool) → planning.after_names f bad ≡ None → f ≡ None
no_name_fault (Some fault) bad h = cc
no_name_fault None bad h = refl

found_query : (m : Machine) (given : Option (List (ℤ × ℤ))) (name : List ℕ) (q : syntax.Query) → IsWellFormed q → (o : Option PlanFault)
    → planning.first_fault q (catalog_of m.streams) given ≡ o → (f : Found)
    → unless_faulty o (meant m given q) ≡ Ok f
    → IsQuery m.streams (registered_as m name f)
found_query m given name q good (Some fault) e f h = cc
found_query m given name q good None e f h =
    let catalog : List catalogs.Stream = catalog_of m.streams in
    let none : naming.first_fault q catalog ≡ None =
    no_name_fault (naming.first_fault q catalog) (is_bad_chart (length (plan_of (widths q catalog) (resolved q catalog))) given) e in
    subst (λ z. IsQuery m.streams (registered_as m name z)) (ok_same _ f h) (read_query m given name q good none)
  where
    ok_same : (g f : Found) → ◌≡◌ {A = Result Found QueryFault} (Ok g) (Ok f) → g ≡ f
    ok_same g f h = cc

pub text_query : (m : Machine) (given : Option (List (ℤ × ℤ))) (name source : List ℕ) (r : Result syntax.Query text.Fault) → reading source ≡ r → (f : Found)
    → found_of (catalog_of m.streams) given r ≡ Ok f → IsQuery m.streams (registered_as m name f)
unfolding found_by
text_query m given name source (Err fault) e f h = cc
text_query m given name source (Ok q) e f h = found_query m given name q (well_formed source q e) (planning.first_fault q (catalog_of m.streams) given) refl f h

-- THE ROW LIMIT
-- where no more rows came, or as many, it is kept
limit_of : (ss ts : List Stream) (most : ℕ) (ps : List Place) → AllByRecursion (λ p. arrivals_at ts p ≤ arrivals_at ss p) ps → AllByRecursion (λ p. arrivals_at ss p - p.arrivals ≤ most) ps
    → AllByRecursion (λ p. arrivals_at ts p - p.arrivals ≤ most) ps
limit_of ss ts most [] h k = tt
limit_of ss ts most (p ∷ ps) h k = (omega (arith, h.0, k.0), limit_of ss ts most ps h.1 k.1)

limits_of : (ss ts : List Stream) → ((q : Registered) → IsQuery ss q → AllByRecursion (λ p. arrivals_at ts p ≤ arrivals_at ss p) q.places) → (qs : List Registered) → AllByRecursion (IsQuery ss) qs
    → AllByRecursion (KeepsItsLimit ss) qs → AllByRecursion (KeepsItsLimit ts) qs
limits_of ss ts h [] i k = tt
limits_of ss ts h (q ∷ qs) i k = ((λ live. limit_of ss ts (rows_of_each (length q.places)) q.places (h q i.0) (k.0 live)), limits_of ss ts h qs i.1 k.1)

-- a stream that is changed, and not lengthened
arrivals_changed : (f : Stream → Stream) → ((s : Stream) → (f s).arrivals ≡ s.arrivals) → (n i : ℕ) (ss : List Stream)
    → option_map_or (λ (s : Stream). s.arrivals) (slice_get (change n f ss) i) 0 ≡ option_map_or (λ (s : Stream). s.arrivals) (slice_get ss i) 0
arrivals_changed f h n i [] = refl
arrivals_changed f h zero zero (s ∷ ss) = h s
arrivals_changed f h zero (suc i) (s ∷ ss) = refl
arrivals_changed f h (suc n) zero (s ∷ ss) = refl
arrivals_changed f h (suc n) (suc i) (s ∷ ss) = arrivals_changed f h n i ss

all_changed : (f : Stream → Stream) → ((s : Stream) → (f s).arrivals ≡ s.arrivals) → (n : ℕ) (ss : List Stream) (ps : List Place) → AllByRecursion (λ p. arrivals_at (change n f ss) p ≤ arrivals_at ss p) ps
all_changed f h n ss [] = tt
all_changed f h n ss (p ∷ ps) = (omega (arith, arrivals_changed f h n p.stream ss), all_changed f h n ss ps)

-- streams behind the others
arrivals_left : (ss ts : List Stream) (i : ℕ) → i < length ss → option_map_or (λ (s : Stream). s.arrivals) (slice_get (ss ++ ts) i) 0 ≡ option_map_or (λ (s : Stream). s.arrivals) (slice_get ss i) 0
arrivals_left [] ts i h = absurd (omega (arith, h))
arrivals_left (s ∷ ss) ts zero h = refl
arrivals_left (s ∷ ss) ts (suc i) h = arrivals_left ss ts i (omega (arith, h))

all_left : (ss ts : List Stream) (ps : List Place) → AllByRecursion (λ p. p.stream < length ss) ps → AllByRecursion (λ p. arrivals_at (ss ++ ts) p ≤ arrivals_at ss p) ps
all_left ss ts [] h = tt
all_left ss ts (p ∷ ps) h = (omega (arith, arrivals_left ss ts p.stream h.0), all_left ss ts ps h.1)

-- to the streams of a query that is registered now none came since
none_since : (m : Machine) (most : ℕ) (ns : List ℕ) → AllByRecursion (λ p. arrivals_at m.streams p - p.arrivals ≤ most) (map (place_at m) ns)
none_since m most [] = tt
none_since m most (n ∷ ns) = (omega arith, none_since m most ns)

-- AN APPEND: where the stream's own limit is that of the query, and where no query is crowded
changed_arrivals : (rows : List (ℤ × List (Option ℤ))) (n i : ℕ) (ss : List Stream) (s : Stream) → slice_get ss n ≡ Some s → (b : Bool) → (i == n) ≡ b
    → option_map_or (λ (t : Stream). t.arrivals) (slice_get (change n (appended rows) ss) i) 0 ≡ cond b (s.arrivals + length rows) (option_map_or (λ (t : Stream). t.arrivals) (slice_get ss i) 0)
changed_arrivals rows n i [] s is b e = cc
changed_arrivals rows zero zero (t ∷ ss) s is true e = let same : t ≡ s = cc in ap (λ (z : Stream). z.arrivals + length rows) same
changed_arrivals rows zero zero (t ∷ ss) s is false e = let bad : true ≡ false = e in cc
changed_arrivals rows zero (suc i) (t ∷ ss) s is b e = let d : (suc i == 0) ≡ false = ne_eqb (suc i) 0 (λ p. omega (arith, p)) in rw (sym e ∙ d) refl
changed_arrivals rows (suc n) zero (t ∷ ss) s is b e = let d : (0 == suc n) ≡ false = ne_eqb 0 (suc n) (λ p. omega (arith, p)) in rw (sym e ∙ d) refl
changed_arrivals rows (suc n) (suc i) (t ∷ ss) s is b e = changed_arrivals rows n i ss s is b (sym (suc_same i n) ∙ e)

module _ (m : Machine) (n : ℕ) (rows : List (ℤ × List (Option ℤ))) (s : Stream) (is : slice_get m.streams n ≡ Some s) (room : s.arrivals + length rows ≤ MAX_STREAM_ROWS) where
  abbrev ts : List Stream
  ts = change n (appended rows) m.streams

  -- of one or two sources
  wide_at : (p : Place) → arrivals_at m.streams p - p.arrivals ≤ MAX_STREAM_ROWS → arrivals_at ts p - p.arrivals ≤ MAX_STREAM_ROWS
  wide_at p h = here (p.stream == n) (changed_arrivals rows n p.stream m.streams s is (p.stream == n) refl)
    where
      here : (b : Bool) → arrivals_at ts p ≡ cond b (s.arrivals + length rows) (arrivals_at m.streams p) → arrivals_at ts p - p.arrivals ≤ MAX_STREAM_ROWS
      here true e = let f : arrivals_at ts p ≡ s.arrivals + length rows = e in omega (arith, f, room)
      here false e = let f : arrivals_at ts p ≡ arrivals_at m.streams p = e in omega (arith, f, h)

  wide_all : (ps : List Place) → AllByRecursion (λ p. arrivals_at m.streams p - p.arrivals ≤ MAX_STREAM_ROWS) ps → AllByRecursion (λ p. arrivals_at ts p - p.arrivals ≤ MAX_STREAM_ROWS) ps
  wide_all [] h = tt
  wide_all (p ∷ ps) h = (wide_at p h.0, wide_all ps h.1)

  -- of more
  tight_at : (most : ℕ) (p : Place) → is_past n (s.arrivals + length rows) most p ≡ false → arrivals_at m.streams p - p.arrivals ≤ most → arrivals_at ts p - p.arrivals ≤ most
  tight_at most p none h = here (p.stream == n) refl (changed_arrivals rows n p.stream m.streams s is (p.stream == n) refl)
    where
      here : (b : Bool) → (p.stream == n) ≡ b → arrivals_at ts p ≡ cond b (s.arrivals + length rows) (arrivals_at m.streams p) → arrivals_at ts p - p.arrivals ≤ most
      here true d e =
          let f : nat_lt most ((s.arrivals + length rows) - p.arrivals) ≡ false = and_rest (p.stream == n) (nat_lt most ((s.arrivals + length rows) - p.arrivals)) d none in
          let g : arrivals_at ts p ≡ s.arrivals + length rows = e in
          omega (arith, g, ltb-false most ((s.arrivals + length rows) - p.arrivals) f)
      here false d e = let g : arrivals_at ts p ≡ arrivals_at m.streams p = e in omega (arith, g, h)

  tight_all : (most : ℕ) (ps : List Place) → list_any (is_past n (s.arrivals + length rows) most) ps ≡ false → AllByRecursion (λ p. arrivals_at m.streams p - p.arrivals ≤ most) ps
      → AllByRecursion (λ p. arrivals_at ts p - p.arrivals ≤ most) ps
  tight_all most [] none h = tt
  tight_all most (p ∷ ps) none h =
      let t = either_none (is_past n (s.arrivals + length rows) most p) (list_any (is_past n (s.arrivals + length rows) most) ps) none in
      (tight_at most p t.0 h.0, tight_all most ps t.1 h.1)

  limit_appended : (q : Registered) → is_crowded n (s.arrivals + length rows) q ≡ false → KeepsItsLimit m.streams q → KeepsItsLimit ts q
  limit_appended q none h live = here (nat_le (length q.places) 2) refl
    where
      past : Bool
      past = list_any (is_past n (s.arrivals + length rows) (rows_of_each (length q.places))) q.places

      here : (b : Bool) → nat_le (length q.places) 2 ≡ b → HasFewSince ts q
      here true e =
          let same : rows_of_each (length q.places) ≡ MAX_STREAM_ROWS = ap (λ c. cond c MAX_STREAM_ROWS (cond (length q.places == 3) MAX_ROWS_OF_THREE MAX_ROWS_OF_FOUR)) e in
          subst (λ most. AllByRecursion (λ p. arrivals_at ts p - p.arrivals ≤ most) q.places) (sym same)
          (wide_all q.places (subst (λ most. AllByRecursion (λ p. arrivals_at m.streams p - p.arrivals ≤ most) q.places) same (h live)))
      here false e =
          let many : nat_lt 2 (length q.places) ≡ true = lt-ltb 2 (length q.places) (leb-false (length q.places) 2 e) in
          let some : (nat_lt 2 (length q.places) && past) ≡ false = and_rest (not q.is_dropped) (nat_lt 2 (length q.places) && past) (ap not live) none in
          tight_all (rows_of_each (length q.places)) q.places (and_rest (nat_lt 2 (length q.places)) past many some) (h live)

  limits_appended : (qs : List Registered) → list_any (is_crowded n (s.arrivals + length rows)) qs ≡ false → AllByRecursion (KeepsItsLimit m.streams) qs → AllByRecursion (KeepsItsLimit ts) qs
  limits_appended [] none h = tt
  limits_appended (q ∷ qs) none h =
      let t = either_none (is_crowded n (s.arrivals + length rows) q) (list_any (is_crowded n (s.arrivals + length rows)) qs) none in
      (limit_appended q t.0 h.0, limits_appended qs t.1 h.1)

append_limits : (m : Machine) (n : ℕ) (rows : List (ℤ × List (Option ℤ))) → IsMachine m → (o : Option Stream) → slice_get m.streams n ≡ o → of_stream (rows_tests m.queries n rows) o ≡ None
    → AllByRecursion (KeepsItsLimit (change n (appended rows) m.streams)) m.queries
append_limits m n rows h None is none = cc
append_limits m n rows h (Some s) is none =
    limits_appended m n rows s is (accepted_each s rows (first_part (append_tests s rows) (crowd_tests m.queries n (s.arrivals + length rows)) none)).3 m.queries
    (uncrowded m.queries n rows s none) h.limits

registers : (m : Machine) (given : Option (List (ℤ × ℤ))) (name source : List ℕ) (r : Result Found QueryFault) → found m source given ≡ r → IsMachine m
    → IsMachine (registered m name r)
registers m given name source (Err fault) e h = h
registers m given name source (Ok f) e h = record {
  streams = h.streams;
  queries = each-append (IsQuery m.streams) m.queries (registered_as m name f ∷ []) h.queries (text_query m given name source (reading source) refl f e, tt);
  limits = each-append (KeepsItsLimit m.streams) m.queries (registered_as m name f ∷ []) h.limits ((λ live. none_since m (rows_of_each (length (map (place_at m) f.streams))) f.streams), tt);
}

-- ANY COMMAND that is accepted
machine_after : (m : Machine) (c : Command) (count : ℕ) → first_fault m c ≡ None → IsMachine m → IsMachine (after m c count)
machine_after m (Declare name columns start) count e h =
    let s : Stream = record { name = name; columns = columns; elements = []; arrivals = 0; first_open = nat_abs start } in
    record {
      streams = each-append IsStream m.streams (s ∷ []) h.streams (record { wide = tt; counted = record { since = λ place. omega arith }; few = omega arith }, tt);
      queries = kept_queries m.streams (m.streams ++ s ∷ []) (keeps_more m.streams (s ∷ [])) m.queries h.queries;
      limits = limits_of m.streams (m.streams ++ s ∷ []) (λ q i. all_left m.streams (s ∷ []) q.places i.known) m.queries h.queries h.limits;
    }
machine_after m (Register name source given) count e h = registers m given name source (found m source given) refl h
machine_after m (Append n rows) count e h = record {
  streams = each_changed IsStream (appended rows) n m.streams
      (λ s is i. appended_stream rows s (found_stream (λ s. append_tests s rows) (slice_get m.streams n) s (alone m.queries n rows (slice_get m.streams n) e) is) i) h.streams;
  queries = kept_queries m.streams (change n (appended rows) m.streams) (keeps_changed (appended rows) (λ s. refl) n m.streams) m.queries h.queries;
  limits = append_limits m n rows h (slice_get m.streams n) refl e;
}
machine_after m (Heartbeat n at) count e h = record {
  streams = each_changed IsStream (closed_to at) n m.streams (λ s is i. record { wide = i.wide; counted = record { since = i.counted.since }; few = i.few }) h.streams;
  queries = kept_queries m.streams (change n (closed_to at) m.streams) (keeps_changed (closed_to at) (λ s. refl) n m.streams) m.queries h.queries;
  limits = limits_of m.streams (change n (closed_to at) m.streams) (λ q i. all_changed (closed_to at) (λ s. refl) n m.streams q.places) m.queries h.queries h.limits;
}
machine_after m (Take n limit) count e h = record {
  streams = h.streams;
  queries = each_changed (IsQuery m.streams) (took count) n m.queries (λ q is i. record { plan = i.plan; few = i.few; known = i.known }) h.queries;
  limits = each_changed (KeepsItsLimit m.streams) (took count) n m.queries (λ q is i. i) h.limits;
}
machine_after m (Drop n) count e h = record {
  streams = h.streams;
  queries = each_changed (IsQuery m.streams) dropped n m.queries (λ q is i. record { plan = i.plan; few = i.few; known = i.known }) h.queries;
  limits = each_changed (KeepsItsLimit m.streams) dropped n m.queries (λ q is i live. cc) h.limits;
}

pub machines_stand : MachinesStand
machines_stand = record { start = record { streams = tt; queries = tt; limits = tt }; goes_on = machine_after }

-- ITS QUERIES

wide_input : (place first v : ℕ) (ss : List Stream) (i : ℕ) → AllByRecursion IsStream ss → columns_of ss i ≡ v
    → AllByRecursion (λ (e : Element). length e.row ≡ v) (option_map_or (λ s. input_of place first s.elements) (slice_get ss i) [])
wide_input place first v [] i h e = tt
wide_input place first v (s ∷ ss) zero h e =
    each-filter (λ (e : Element). length e.row ≡ v) _ s.elements (subst (λ n. AllByRecursion (λ (e : Element). length e.row ≡ n) s.elements) e h.0.wide)
wide_input place first v (s ∷ ss) (suc i) h e = wide_input place first v ss i h.1 e

tables_shown : (ss : List Stream) (first t : ℕ) → AllByRecursion IsStream ss → (ws : List Window) (ps : List Place) → length ws ≡ length (columns_at ss ps)
    → Tables (columns_at ss ps) (shown_at first ws t (map (input_at ss first) ps))
tables_shown ss first t h [] [] l = tt
tables_shown ss first t h [] (p ∷ ps) l = absurd (omega (arith, l))
tables_shown ss first t h (w ∷ ws) [] l = absurd (omega (arith, l))
tables_shown ss first t h (w ∷ ws) (p ∷ ps) l =
    let v : ℕ = columns_of ss p.stream in
    let input : List Element = input_at ss first p in (
      each-map (λ (r : Row). length r ≡ v) (λ (e : Element). e.row) (filter (shows first w t input) input)
          (each-filter (λ (e : Element). length e.row ≡ v) (shows first w t input) input (wide_input p.arrivals first v ss p.stream h refl)),
      tables_shown ss first t h ws ps (omega (arith, l)),
    )

-- a command keeps the streams' columns
keeps_after : (m : Machine) (c : Command) (count : ℕ) → Keeps m.streams (after m c count).streams
keeps_after m (Declare name columns start) count = keeps_more m.streams (record { name = name; columns = columns; elements = []; arrivals = 0; first_open = nat_abs start } ∷ [])
keeps_after m (Register name source given) count = registered_streams m name (found m source given)
keeps_after m (Append n rows) count = keeps_changed (appended rows) (λ s. refl) n m.streams
keeps_after m (Heartbeat n at) count = keeps_changed (closed_to at) (λ s. refl) n m.streams
keeps_after m (Take n limit) count = keeps_same m.streams
keeps_after m (Drop n) count = keeps_same m.streams

pub queries_stand : (m : Machine) → IsMachine m → QueriesStand m
queries_stand m h = record {
  each = λ k d l. each_at (IsQuery m.streams) m.queries k d l h.queries;
  keep_limits = λ k d l. each_at (KeepsItsLimit m.streams) m.queries k d l h.limits;
  stands = λ q i. record {
    plan = i.plan;
    wide = record { places = sym (length-map q.places _); tables = λ t. tables_shown m.streams q.first t h.streams q.meaning.windows q.places i.plan.scoped.sources };
  };
  bounded = λ q i since. record {
    plan = i.plan;
    places = sym (length-map q.places (λ (p : Place). columns_of m.streams p.stream));
    few = omega (arith, i.few);
    counted = each-weaken IsStream CountsArrivals (λ s h. h.counted) m.streams h.streams;
    since = since;
  };
  keeps = λ c count q i. record {
    widths = kept_widths m.streams (after m c count).streams (keeps_after m c count) q.places i.known;
    query = kept_query m.streams (after m c count).streams (keeps_after m c count) q i;
  };
}

-- the query of a number keeps its limit
pub keeps_limit : (m : Machine) → IsMachine m → (n : ℕ) (q : Registered) → slice_get m.queries n ≡ Some q → KeepsItsLimit m.streams q
keeps_limit m h n q r = subst (KeepsItsLimit m.streams) (get_or_from_slice_get m.queries n q q r) (each_at (KeepsItsLimit m.streams) m.queries n q (slice_get_within m.queries n q r) h.limits)
