use Rattle.std.proofs.Common.{◌∙◌, ◌≤◌, List, nat_lt, length, sym, ap, arith}
use Rattle.std.specs.List.{list_any}
use Rattle.std.proofs.lemmas.List.{length-map}
use Rattle.cql_reader.specs.Views.{query_of, source_of, reference_of}
use Rattle.cql_reader.specs.declared.query.WrittenSource.{WrittenSource}
use Rattle.names.specs.Resolved.{entry_list}
use Rattle.names.specs.Faults.{partition_of}
use Rattle.names.proofs.Lists.{any_map, none_over}
use Rattle.names.proofs.entries.is_wide.Goals as goal
use Rattle.values.specs.declared.TheConstants.{MAX_COLUMNS}

pub returns : goal.returns
returns c =
    let q = query_of c.args.query.now in
    let sources = c.args.query.now.sources.items in
    let items : length (entry_list q.entries) ≤ MAX_COLUMNS = omega (arith, c.if-item_count-gt-MAX_COLUMNS.false, c.item_count.ensures) in
    let group : length q.group ≤ MAX_COLUMNS = omega (arith, c.if-len-gt-MAX_COLUMNS.false, c.len.ensures, length-map c.args.query.now.group.items reference_of) in
    c.has_wide_source.ensures
    ∙ ap (λ (ss : List WrittenSource). list_any (λ s. nat_lt MAX_COLUMNS (length (partition_of (source_of s).window))) ss) c.deref.ensures.value
    ∙ sym (any_map (λ s. nat_lt MAX_COLUMNS (length (partition_of s.window))) source_of sources)
    ∙ none_over (length (entry_list q.entries)) (length q.group) (list_any (λ s. nat_lt MAX_COLUMNS (length (partition_of s.window))) q.sources) items group
