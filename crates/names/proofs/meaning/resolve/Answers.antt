use Rattle.std.proofs.Common.{◌≡◌, ◌∙◌, ◌≤◌, ◌<◌, ◌*◌, ℕ, None, List, map, length, sum, sym, ap, subst}
use Rattle.std.specs.List.{AllByRecursion}
use Rattle.std.proofs.lemmas.List.{length-map}
use Rattle.values.specs.declared.TheConstants.{MAX_COLUMNS}
use Rattle.values.specs.Answers as answers
use Rattle.values.specs.Resolved.{resolved_of, window_of}
use Rattle.cql_reader.specs.Views.{query_of, source_of, sources_of}
use Rattle.cql_reader.specs.declared.query.WrittenSource.{WrittenSource}
use Rattle.names.specs.declared.matching.Table as code
use Rattle.names.specs.Matches.{Table, tables}
use Rattle.names.specs.Faults.{first_fault}
use Rattle.names.specs.Resolved as spec
use Rattle.names.specs.Views as views
use Rattle.names.proofs.Tables.{meaning_is, count_is, windows_count}
use Rattle.names.proofs.Accepted.{Accepted, accepted, narrow, within, known, few}
use Rattle.names.proofs.meaning.resolve.Goals as goal

pub named_of-requires-clause-sources : goal.named_of-requires-clause-sources
named_of-requires-clause-sources c =
    let t : views.tables_of c.in_ok-tables.tables.items ≡ tables c.args.catalog.now (query_of c.args.query.now).sources =
    c.in_ok-tables.ensures ∙ ap (λ (ss : List WrittenSource). tables c.args.catalog.now (sources_of ss)) c.deref.ensures.value in
    ap length c.deref-7.ensures.value ∙ count_is c.in_ok-tables.tables.items c.args.catalog.now c.args.query.now.sources.items t

no_fault : (c : goal.After-drop-tables-2) → Accepted (query_of c.args.query.now) c.args.catalog.now
no_fault c =
    let none : first_fault (query_of c.args.query.now) c.args.catalog.now ≡ None = c.in_ok-test.ensures in
    accepted (query_of c.args.query.now) c.args.catalog.now none

pub returns-clause-meaning : goal.returns-clause-meaning
returns-clause-meaning c =
    let q = query_of c.args.query.now in
    let t : views.tables_of c.in_ok-tables.tables.items ≡ tables c.args.catalog.now q.sources =
    c.in_ok-tables.ensures ∙ ap (λ (ss : List WrittenSource). tables c.args.catalog.now (sources_of ss)) c.deref.ensures.value in
    meaning_is (views.tables_of c.in_ok-tables.tables.items) q c.args.catalog.now (resolved_of c.in_ok-named_of.field-0.meaning) t
    (c.in_ok-named_of.ensures.meaning ∙ ap (λ (ts : List code.Table). views.resolved_in (views.tables_of ts) q) c.deref-7.ensures.value)

windows_are : (c : goal.After-drop-tables-2) → map window_of c.in_ok-named_of.field-0.meaning.windows.items ≡ spec.windows_of c.args.catalog.now (query_of c.args.query.now).sources
windows_are c = ap (λ (r : answers.Resolved). r.windows) (returns-clause-meaning c)

widths_are : (c : goal.After-drop-tables-2) → c.in_ok-named_of.field-0.widths.items ≡ spec.widths (query_of c.args.query.now) c.args.catalog.now
widths_are c =
    c.in_ok-named_of.ensures.widths ∙ ap (λ (ts : List code.Table). map (λ t. length t.columns) (views.tables_of ts)) c.deref-7.ensures.value
    ∙ ap (λ (ts : List Table). map (λ t. length t.columns) ts)
    (c.in_ok-tables.ensures ∙ ap (λ (ss : List WrittenSource). tables c.args.catalog.now (sources_of ss)) c.deref.ensures.value)

pub returns-clause-counts : goal.returns-clause-counts
returns-clause-counts c =
    windows_count c.in_ok-named_of.field-0.meaning.windows.items c.args.catalog.now c.args.query.now.sources.items (windows_are c)

pub returns-clause-narrow : goal.returns-clause-narrow
returns-clause-narrow c few =
    let q = query_of c.args.query.now in
    let none = no_fault c in
    narrow c.in_ok-named_of.field-0.meaning.shape (tables c.args.catalog.now q.sources) q (ap (λ (r : answers.Resolved). r.shape) (returns-clause-meaning c)) none.items none.group
    (subst (λ (vs : List ℕ). sum vs ≤ MAX_COLUMNS) (widths_are c) few)

pub returns-clause-few : goal.returns-clause-few
returns-clause-few c most each =
    let q = query_of c.args.query.now in
    subst (λ (vs : List ℕ). sum vs ≤ most * length c.args.query.now.sources.items) (sym (widths_are c))
    (subst (λ (n : ℕ). sum (spec.widths q c.args.catalog.now) ≤ most * n) (length-map c.args.query.now.sources.items source_of) (few most c.args.catalog.now each q.sources))

pub returns-clause-within : goal.returns-clause-within
returns-clause-within c =
    let none = no_fault c in
    within c.in_ok-named_of.field-0.meaning.windows.items c.in_ok-named_of.field-0.widths.items c.args.catalog.now (query_of c.args.query.now).sources
    (windows_are c) (widths_are c) none.partitions none.windows

pub returns-clause-known : goal.returns-clause-known
returns-clause-known c =
    let none = no_fault c in
    subst (λ (ns : List ℕ). AllByRecursion (λ n. n < length c.args.catalog.now) ns) (sym c.in_ok-named_of.ensures.streams)
    (known c.args.catalog.now (query_of c.args.query.now).sources none.streams)
