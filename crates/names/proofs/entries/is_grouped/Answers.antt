use Rattle.std.proofs.Common.{◌≡◌, ◌∙◌, ◌||◌, Bool, List, false, sym, ap}
use Rattle.std.specs.List.{list_any}
use Rattle.cql_reader.specs.Query as syntax
use Rattle.cql_reader.specs.Views.{query_of, references_of, entry_of}
use Rattle.cql_reader.specs.declared.query.Reference.{Reference}
use Rattle.names.specs.Resolved.{is_aggregate, is_some_reference, entry_list}
use Rattle.names.proofs.Lists.{any_map}
use Rattle.names.proofs.entries.is_grouped.Goals as goal

pub returns-else-is_some_reference : goal.returns-else-is_some_reference
returns-else-is_some_reference c =
    let q = query_of c.args.query.now in
    let group : false ≡ is_some_reference q.group =
    sym c.if-is_some_reference.false ∙ c.is_some_reference.ensures ∙ ap (λ (rs : List Reference). is_some_reference (references_of rs)) c.deref.ensures.value in
    c.has_aggregate.ensures ∙ sym (any_map is_aggregate entry_of c.entry_list.result.now) ∙ ap (λ (es : List syntax.WrittenEntry). list_any is_aggregate es) c.entry_list.ensures
    ∙ ap (λ (b : Bool). b || list_any is_aggregate (entry_list q.entries)) group
