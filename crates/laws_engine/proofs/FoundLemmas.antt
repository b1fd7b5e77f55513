-- What was found of an accepted text fits the machine's streams.
use Rattle.std.proofs.Common.{◌≡◌, ℕ, zero, suc, ◌<◌, ◌≤◌, Bool, false, Option, Some, None, List, [], ◌∷◌, map, length, refl, sym, ap, ap₂, ◌∙◌, subst}
use Rattle.std.specs.Prelude.{ℤ, Result, Ok, Err, slice_get, option_and_then}
use Rattle.std.specs.List.{AllByRecursion, list_any}
use Rattle.std.specs.Option.{is_none, option_map_or, unwrap_or}
use Rattle.cql_reader.specs.Fault as text
use Rattle.cql_reader.specs.Query as syntax
use Rattle.cql_reader.specs.Judging.{reading}
use Rattle.cql_reader.proofs.WellFormed.{well_formed}
use Rattle.names.specs.Catalog as catalogs
use Rattle.names.specs.Catalog.{number_in}
use Rattle.names.specs.Faults as naming
use Rattle.names.specs.Matches.{tables}
use Rattle.names.specs.Resolved.{resolved, streams, widths}
use Rattle.names.specs.declared.fault.ResolveFault.{ResolveFault}
use Rattle.names.proofs.Accepted.{accepted}
use Rattle.plan.specs.Build.{plan_of}
use Rattle.plan.specs.Chart.{is_bad_chart, measures_of}
use Rattle.plan.specs.Faults as planning
use Rattle.plan.specs.declared.fault.PlanFault.{PlanFault}
use Rattle.plan.specs.declared.operators.Plan.{Plan}
use Rattle.reference.specs.Commands.{Found, catalog_of, found, found_by, found_of, nodes_by, place_at, unless_faulty}
use Rattle.reference.specs.Finds.{Finds}
use Rattle.reference.specs.Machine.{Machine, Stream}
use Rattle.reference.specs.Standing as standing
use Rattle.laws_queries.specs.Machines.{columns_of}
use Rattle.laws_queries.specs.Registrations.{HasColumnNames}
use Rattle.laws_engine.specs.Accepted.{IsPlanOfText}
use Rattle.laws_engine.proofs.ConditionLemmas.{read_few}
use Rattle.laws_engine.proofs.NameLemmas.{MeansFit, or_none, resolved_fits}

-- THE QUERY of a text, of which nothing is at fault
abbrev meant : List catalogs.Stream → Option (List (ℤ × ℤ)) → syntax.Query → Found
meant catalog given q = record { streams = streams q catalog; meaning = resolved q catalog; nodes = nodes_by catalog q; measures = measures_of (nodes_by catalog q) given }

pub record IsFoundOf (catalog : List catalogs.Stream) (source : List ℕ) (f : Found) : Type 0 where
  pub query : syntax.Query
  pub read : reading source ≡ Ok query
  pub none : naming.first_fault query catalog ≡ None
  pub meaning : f.meaning ≡ resolved query catalog
  pub streams : f.streams ≡ streams query catalog

no_name_fault : (f : Option ResolveFault) (bad : Bool) → planning.after_names f bad ≡ None → f ≡ None
no_name_fault (Some fault) bad h = absurd (cc)
no_name_fault None bad h = refl

unless_none : (catalog : List catalogs.Stream) (given : Option (List (ℤ × ℤ))) (source : List ℕ) (q : syntax.Query) → reading source ≡ Ok q → (o : Option PlanFault)
    → planning.first_fault q catalog given ≡ o → (f : Found) → unless_faulty o (meant catalog given q) ≡ Ok f → IsFoundOf catalog source f
unless_none catalog given source q e (Some fault) none f h = absurd (cc)
unless_none catalog given source q e None none f h =
    let same : meant catalog given q ≡ f = cc in
    record {
      query = q;
      read = e;
      none = no_name_fault (naming.first_fault q catalog) (is_bad_chart (length (plan_of (widths q catalog) (resolved q catalog))) given) none;
      meaning = sym (ap (λ (z : Found). z.meaning) same);
      streams = sym (ap (λ (z : Found). z.streams) same);
    }

found_read : (catalog : List catalogs.Stream) (given : Option (List (ℤ × ℤ))) (source : List ℕ) (r : Result syntax.Query text.Fault) → reading source ≡ r → (f : Found)
    → found_of catalog given r ≡ Ok f → IsFoundOf catalog source f
unfolding found_by
found_read catalog given source (Err fault) e f h = absurd (cc)
found_read catalog given source (Ok q) e f h = unless_none catalog given source q e (planning.first_fault q catalog given) refl f h

pub is_found : (catalog : List catalogs.Stream) (given : Option (List (ℤ × ℤ))) (source : List ℕ) (f : Found) → found_of catalog given (reading source) ≡ Ok f → IsFoundOf catalog source f
is_found catalog given source f h = found_read catalog given source (reading source) refl f h

-- IT FITS, over streams of 1 to 8 columns
named_some : (ss : List Stream) → AllByRecursion HasColumnNames ss → AllByRecursion (λ s. 0 < length s.columns) (catalog_of ss)
named_some [] h = tt
named_some (s ∷ ss) h = (h.0.some, named_some ss h.1)

named_few : (ss : List Stream) → AllByRecursion HasColumnNames ss → AllByRecursion (λ s. length s.columns ≤ 8) (catalog_of ss)
named_few [] h = tt
named_few (s ∷ ss) h = (h.0.few, named_few ss h.1)

pub found_fits : (m : Machine) (source : List ℕ) (f : Found) → AllByRecursion HasColumnNames m.streams → IsFoundOf (catalog_of m.streams) source f → MeansFit f.meaning
found_fits m source f h is =
    subst MeansFit (sym is.meaning)
    (resolved_fits is.query (catalog_of m.streams) (named_some m.streams h) (named_few m.streams h) (well_formed source is.query is.read) (read_few source is.query is.read) is.none)

-- THE WIDTHS of its sources
columns_by : (ss : List Stream) (n : ℕ) → length (option_map_or (λ s. s.columns) (slice_get (catalog_of ss) n) []) ≡ columns_of ss n
columns_by [] n = refl
columns_by (s ∷ ss) zero = refl
columns_by (s ∷ ss) (suc n) = columns_by ss n

source_width : (ss : List Stream) (o : Option ℕ) → is_none o ≡ false → length (option_map_or (λ s. s.columns) (option_and_then (slice_get (catalog_of ss)) o) []) ≡ columns_of ss (unwrap_or o 0)
source_width ss None h = absurd (cc)
source_width ss (Some n) h = columns_by ss n

source_widths : (ss : List Stream) (sources : List syntax.WrittenSource) → list_any (λ s. is_none (number_in (catalog_of ss) s.stream)) sources ≡ false
    → map (λ t. length t.columns) (tables (catalog_of ss) sources) ≡ map (columns_of ss) (map (λ s. unwrap_or (number_in (catalog_of ss) s.stream) 0) sources)
source_widths ss [] h = refl
source_widths ss (s ∷ sources) h =
    let both = or_none (is_none (number_in (catalog_of ss) s.stream)) (list_any (λ s. is_none (number_in (catalog_of ss) s.stream)) sources) h in
    ap₂ (λ v vs. v ∷ vs) (source_width ss (number_in (catalog_of ss) s.stream) both.0) (source_widths ss sources both.1)

same_query : (q r : syntax.Query) → ◌≡◌ {A = Result syntax.Query text.Fault} (Ok q) (Ok r) → q ≡ r
same_query q r h = cc

pub found_widths : (m : Machine) (source : List ℕ) (chart : Option (List (ℤ × ℤ))) (query : syntax.Query) (f : Found) → reading source ≡ Ok query
    → found_of (catalog_of m.streams) chart (reading source) ≡ Ok f → widths query (catalog_of m.streams) ≡ map (columns_of m.streams) f.streams
found_widths m source chart query f e h =
    let catalog : List catalogs.Stream = catalog_of m.streams in
    let is : IsFoundOf catalog source f = is_found catalog chart source f h in
    let same : is.query ≡ query = same_query is.query query (sym is.read ∙ e) in
    ap (λ (q : syntax.Query). widths q catalog) (sym same) ∙ source_widths m.streams is.query.sources (accepted is.query catalog is.none).streams ∙ ap (map (columns_of m.streams)) (sym is.streams)

-- those of the machine's query
pub place_widths : (m : Machine) (ns : List ℕ) → map (λ p. columns_of m.streams p.stream) (map (place_at m) ns) ≡ map (columns_of m.streams) ns
place_widths m [] = refl
place_widths m (n ∷ ns) = ap (λ vs. columns_of m.streams n ∷ vs) (place_widths m ns)

-- the plan of the text
pub plan_of_text : (m : Machine) (source : List ℕ) (chart : Option (List (ℤ × ℤ))) (p : Plan) → Finds (found m source chart) (Ok p)
    → ((query : syntax.Query) → reading source ≡ Ok query → p.widths.items ≡ widths query (catalog_of m.streams)) → IsPlanOfText m source chart p
plan_of_text m source chart p is wide =
    let read : IsFoundOf (catalog_of m.streams) source (standing.found_of p) = is_found (catalog_of m.streams) chart source (standing.found_of p) is in
    record { finds = is; widths = wide read.query read.read ∙ found_widths m source chart read.query (standing.found_of p) read.read is }
