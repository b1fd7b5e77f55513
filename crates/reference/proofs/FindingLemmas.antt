-- A query that was planned.
use Rattle.std.proofs.Common.{◌≡◌, ◌≤◌, ◌*◌, ℕ, zero, suc, ℤ, Option, Some, None, Result, Ok, List, [], ◌∷◌, length, map, sum, slice_get, option_and_then, unwrap_or, sym, ap, ◌∙◌, arith}
use Rattle.std.specs.List.{AllByRecursion}
use Rattle.std.specs.Option.{option_map_or}
use Rattle.std.proofs.lemmas.List.{length-map}
use Rattle.std.proofs.lemmas.List.Sums.{sum_by-cons}
use Rattle.values.specs.declared.TheConstants.{MAX_COLUMNS}
use Rattle.values.specs.Answers.{Resolved}
use Rattle.values.specs.Resolved.{resolved_of}
use Rattle.cql_reader.specs.Query as syntax
use Rattle.cql_reader.specs.Views.{query_of, source_of}
use Rattle.cql_reader.specs.WellFormed.{IsWellFormed}
use Rattle.cql_reader.specs.declared.query.Query.{Query}
use Rattle.names.specs.Catalog as catalogs
use Rattle.names.specs.Catalog.{number_in, columns_in}
use Rattle.names.specs.Matches.{tables}
use Rattle.names.specs.Resolved.{resolved, streams, widths}
use Rattle.plan.specs.Chart.{measures_of}
use Rattle.plan.specs.Faults as planning
use Rattle.plan.specs.Nodes.{Node}
use Rattle.plan.specs.Views.{nodes_of}
use Rattle.plan.specs.declared.chart.Measure.{Measure}
use Rattle.plan.specs.declared.fault.PlanFault.{PlanFault}
use Rattle.plan.specs.declared.operators.Plan.{Plan}
use Rattle.reference.specs.Commands.{Found, found_by, nodes_by, unless_faulty}
use Rattle.reference.specs.Standing.{found_of}
use Rattle.reference.specs.declared.fault.QueryFault.{QueryFault}

abbrev found : List ℕ → Resolved → List Node → List Measure → Result Found QueryFault
found ss r ns ms = Ok (record { streams = ss; meaning = r; nodes = ns; measures = ms })

pub found-ok : (catalog : List catalogs.Stream) (given : Option (List (ℤ × ℤ))) (q : syntax.Query) (p : Plan) → planning.first_fault q catalog given ≡ None
    → p.streams.items ≡ streams q catalog → resolved_of p.meaning ≡ resolved q catalog → nodes_of p.nodes.items ≡ nodes_by catalog q
    → p.measures.items ≡ measures_of (nodes_of p.nodes.items) given → found_by catalog given q ≡ Ok (found_of p)
unfolding found_by
found-ok catalog given q p accepted numbers meaning nodes measures =
    let f : Found = record { streams = streams q catalog; meaning = resolved q catalog; nodes = nodes_by catalog q; measures = measures_of (nodes_by catalog q) given } in
    let unless : Option PlanFault → Result Found QueryFault = λ o. unless_faulty o f in
    ap unless accepted
    ∙ sym (ap (λ (ss : List ℕ). found ss (resolved_of p.meaning) (nodes_of p.nodes.items) p.measures.items) numbers
    ∙ ap (λ (r : Resolved). found (streams q catalog) r (nodes_of p.nodes.items) p.measures.items) meaning
    ∙ ap (found (streams q catalog) (resolved q catalog) (nodes_of p.nodes.items)) measures
    ∙ ap (λ (ns : List Node). found (streams q catalog) (resolved q catalog) ns (measures_of ns given)) nodes)

-- streams of at most 8 columns each
abbrev pub AreNarrow : List catalogs.Stream → Type 0
AreNarrow catalog = AllByRecursion (λ s. length s.columns ≤ 8) catalog

columns_at : List catalogs.Stream → Option ℕ → List (List ℕ)
columns_at catalog o = option_map_or (λ s. s.columns) (option_and_then (slice_get catalog) o) []

few_at : (catalog : List catalogs.Stream) (n : ℕ) → AreNarrow catalog → length (option_map_or (λ s. s.columns) (slice_get catalog n) []) ≤ 8
few_at [] n h = omega arith
few_at (s ∷ ss) zero h = h.0
few_at (s ∷ ss) (suc n) h = few_at ss n h.1

few_columns : (catalog : List catalogs.Stream) (o : Option ℕ) → AreNarrow catalog → length (columns_at catalog o) ≤ 8
unfolding columns_at
few_columns catalog None h = omega arith
few_columns catalog (Some n) h = few_at catalog n h

few_widths : (catalog : List catalogs.Stream) (sources : List syntax.WrittenSource) → AreNarrow catalog
    → sum (map (λ t. length t.columns) (tables catalog sources)) ≤ 8 * length sources
unfolding columns_at
few_widths catalog [] h = omega arith
few_widths catalog (s ∷ sources) h =
    let more = few_widths catalog sources h in
    let one = few_columns catalog (number_in catalog s.stream) h in
    let both = sum_by-cons (λ (n : ℕ). n) (length (columns_in catalog s.stream)) (map (λ t. length t.columns) (tables catalog sources)) in
    omega (arith, more, one, both)

-- the rows of all sources of a query over them have together at most MAX_COLUMNS values
pub narrow : (catalog : List catalogs.Stream) (query : Query) → IsWellFormed (query_of query) → AreNarrow catalog
    → sum (widths (query_of query) catalog) ≤ MAX_COLUMNS
narrow catalog query good h =
    let few = few_widths catalog (map source_of query.sources.items) h in
    omega (arith, few, good.few_sources, length-map query.sources.items source_of)

pub few_sources : (query : Query) → IsWellFormed (query_of query) → length query.sources.items ≤ MAX_COLUMNS
few_sources query good = omega (arith, good.few_sources, length-map query.sources.items source_of)

-- one stream for each source
pub streams_count : (catalog : List catalogs.Stream) (query : Query) (found : List ℕ) → found ≡ streams (query_of query) catalog
    → length found ≡ length query.sources.items
streams_count catalog query found is =
    ap length is
    ∙ length-map (map source_of query.sources.items) (λ s. unwrap_or (number_in catalog s.stream) 0)
    ∙ length-map query.sources.items source_of
