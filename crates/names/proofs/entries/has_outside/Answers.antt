use Rattle.std.proofs.Common.{◌∙◌, List, sym, ap}
use Rattle.std.specs.List.{list_any}
use Rattle.values.specs.Resolved.{columns_of}
use Rattle.cql_reader.specs.Views.{entry_of}
use Rattle.cql_reader.specs.declared.query.WrittenEntry.{WrittenEntry}
use Rattle.names.specs.Faults as faults
use Rattle.names.specs.Views.{tables_of}
use Rattle.names.proofs.Lists.{any_map}
use Rattle.names.proofs.entries.has_outside.Goals as goal

pub returns-in-Each : goal.returns-in-Each
returns-in-Each c =
    rw c.in-Each.is (c.is_some_outside.ensures
    ∙ ap (λ (es : List WrittenEntry). list_any (λ e. faults.is_outside (tables_of c.args.tables.now) (columns_of c.args.by.now) (entry_of e)) es) c.deref.ensures.value
    ∙ sym (any_map (faults.is_outside (tables_of c.args.tables.now) (columns_of c.args.by.now)) entry_of c.in-Each.entries.items))
