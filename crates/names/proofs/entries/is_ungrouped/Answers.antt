use Rattle.std.proofs.Common.{◌≡◌, ◌∙◌, ◌&&◌, Bool, List, map, true, sym, ap}
use Rattle.values.specs.Condition.{SourceColumn}
use Rattle.cql_reader.specs.Views as syntax
use Rattle.names.specs.Matches.{column_of}
use Rattle.names.specs.Resolved as spec
use Rattle.names.specs.Faults as faults
use Rattle.names.specs.Views.{tables_of}
use Rattle.names.proofs.entries.is_ungrouped.Goals as goal

pub returns-then-is_grouped : goal.returns-then-is_grouped
returns-then-is_grouped c =
    let ts = tables_of c.args.tables.now in
    let q = syntax.query_of c.args.query.now in
    let grouped : true ≡ spec.is_grouped q = sym c.if-is_grouped.true ∙ c.is_grouped.ensures in
    c.has_outside.ensures ∙ ap (λ (by : List SourceColumn). faults.has_outside ts by q.entries) c.requires
    ∙ ap (λ (b : Bool). b && faults.has_outside ts (map (column_of ts) q.group) q.entries) grouped
