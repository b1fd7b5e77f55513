use Rattle.std.proofs.Common.{◌≡◌, ◌∙◌, List, Option, ℕ, length, map, sym, ap, subst, arith}
use Rattle.std.specs.List.{list_any}
use Rattle.std.specs.Option.{is_none}
use Rattle.std.proofs.lemmas.List.{length-map}
use Rattle.values.specs.Resolved.{where_of}
use Rattle.cql_reader.specs.Views.{query_of, source_of, sources_of}
use Rattle.cql_reader.specs.declared.query.WrittenSource.{WrittenSource}
use Rattle.names.specs.Catalog.{number_in}
use Rattle.names.specs.Matches.{Table, name_of, tables}
use Rattle.names.specs.Resolved.{resolved}
use Rattle.names.specs.Faults as faults
use Rattle.names.specs.Split.{all_conjuncts}
use Rattle.names.specs.Told.{Refuses}
use Rattle.names.specs.Views.{tables_of, verdict_of}
use Rattle.names.specs.declared.fault.ResolveFault.{ResolveFault}
use Rattle.names.specs.declared.verdict.Verdict.{Verdict}
use Rattle.names.proofs.Lists.{any_map}
use Rattle.names.proofs.Tables.{verdict_is, conjuncts_are, same_first}
use Rattle.names.proofs.meaning.test.Goals as goal

pub returns : goal.returns
returns c =
    let q = query_of c.args.query.now in
    let catalog = c.args.catalog.now in
    let items = c.args.query.now.sources.items in
    let ts = tables_of c.args.tables.now in
    let unknown : c.has_unknown_stream.result ≡ list_any (λ s. is_none (number_in catalog s.stream)) q.sources =
    c.has_unknown_stream.ensures ∙ ap (λ (ss : List WrittenSource). list_any (λ s. is_none (number_in catalog (source_of s).stream)) ss) c.deref.ensures.value
    ∙ sym (any_map (λ s. is_none (number_in catalog s.stream)) source_of items) in
    let verdict : c.judge_query-verdict.result ≡ verdict_of (faults.all_matches q catalog) =
    verdict_is ts q catalog c.judge_query-verdict.result c.requires.tables c.judge_query-verdict.ensures in
    let repeat : c.has_repeat.result ≡ faults.has_repeat (map name_of q.sources) =
    c.has_repeat.ensures ∙ ap (λ (ss : List WrittenSource). faults.has_repeat (map name_of (sources_of ss))) c.deref-2.ensures.value in
    let count : c.len.result ≡ length q.sources = omega (arith, c.len.ensures, length-map items source_of) in
    let key : c.lacks_key.result ≡ faults.lacks_key (length q.sources) (all_conjuncts (resolved q catalog).condition) =
    c.lacks_key.ensures ∙ ap (λ (n : ℕ). faults.lacks_key n (all_conjuncts (where_of c.args.condition.now))) count
    ∙ ap (faults.lacks_key (length q.sources)) (conjuncts_are ts q catalog (where_of c.args.condition.now) c.requires.tables c.requires.condition) in
    let ungrouped : c.is_ungrouped.result ≡ faults.is_ungrouped (tables catalog q.sources) q =
    c.is_ungrouped.ensures ∙ ap (λ (ts : List Table). faults.is_ungrouped ts q) c.requires.tables in
    subst (λ (o : Option ResolveFault). Refuses c.refuse.result o)
    (same_first _ _ _ _ _ _ _ _ _ _ _ _ _ _ unknown (ap (λ (v : Verdict). v.is_missing) verdict) (ap (λ (v : Verdict). v.is_many) verdict) repeat key ungrouped c.is_wide.ensures)
    c.refuse.ensures
