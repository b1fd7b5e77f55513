-- What the values of the program say.
use Rattle.std.specs.Prelude.{ℕ, List, map, Option, Some, None}
use Rattle.values.specs.StreamOperators.{operator_of}
use Rattle.cql_reader.specs.declared.name.Name.{Name}
use Rattle.cql_reader.specs.declared.query.Reference.{Reference}
use Rattle.cql_reader.specs.declared.query.WrittenEntry.{WrittenEntry}
use Rattle.cql_reader.specs.declared.query.WrittenEntry.TheVariants as entries
use Rattle.cql_reader.specs.declared.query.Entries.{Entries}
use Rattle.cql_reader.specs.declared.query.Entries.TheVariants.{All, Each}
use Rattle.cql_reader.specs.declared.query.WrittenWindow.{WrittenWindow}
use Rattle.cql_reader.specs.declared.query.WrittenWindow.TheVariants as windows
use Rattle.cql_reader.specs.declared.query.WrittenSource.{WrittenSource}
use Rattle.cql_reader.specs.declared.query.WrittenOperand.{WrittenOperand}
use Rattle.cql_reader.specs.declared.query.WrittenOperand.TheVariants as operands
use Rattle.cql_reader.specs.declared.query.WrittenCondition.{WrittenCondition, Compared, Not', And'}
use Rattle.cql_reader.specs.declared.query.WrittenCondition.{Or'}
use Rattle.cql_reader.specs.declared.query.Query.{Query}
use Rattle.cql_reader.specs.Query as syntax
use Rattle.cql_reader.specs.Names.{name_of}

abbrev pub alias_of : Option Name → Option (List ℕ)
alias_of None = None
alias_of (Some name) = Some (name_of name)

abbrev pub reference_of : Reference → syntax.Reference
reference_of r = record { qualifier = alias_of r.qualifier; name = name_of r.name }

abbrev pub references_of : List Reference → List syntax.Reference
references_of rs = map reference_of rs

abbrev pub entry_of : WrittenEntry → syntax.WrittenEntry
entry_of (entries.Column r) = syntax.Column (reference_of r)
entry_of entries.CountAll = syntax.CountAll
entry_of (entries.Of a r) = syntax.Of a (reference_of r)

abbrev pub entries_of : Entries → syntax.Entries
entries_of All = syntax.All
entries_of (Each es) = syntax.Each (map entry_of es.items)

abbrev pub window_of : WrittenWindow → syntax.WrittenWindow
window_of (windows.Instants reach) = syntax.Instants reach
window_of (windows.Rows rows) = syntax.Rows rows
window_of (windows.Partition by rows) = syntax.Partition (references_of by.items) rows

abbrev pub source_of : WrittenSource → syntax.WrittenSource
source_of s = record {
  stream = name_of s.stream;
  window = window_of s.window;
  alias = alias_of s.alias;
}

abbrev pub sources_of : List WrittenSource → List syntax.WrittenSource
sources_of ss = map source_of ss

abbrev pub operand_of : WrittenOperand → syntax.WrittenOperand
operand_of (operands.Column r) = syntax.Named (reference_of r)
operand_of (operands.Number z) = syntax.Number z

abbrev pub condition_of : WrittenCondition → syntax.WrittenCondition
condition_of (Compared a how b) = syntax.Compared (operand_of a) how (operand_of b)
condition_of (Not' p c) = syntax.Not (condition_of c)
condition_of (And' p c q d) = syntax.And (condition_of c) (condition_of d)
condition_of (Or' p c q d) = syntax.Or (condition_of c) (condition_of d)

abbrev pub where_of : Option WrittenCondition → Option syntax.WrittenCondition
where_of None = None
where_of (Some c) = Some (condition_of c)

abbrev pub query_of : Query → syntax.Query
query_of q = record {
  operator = operator_of q.operator;
  is_distinct = q.is_distinct;
  entries = entries_of q.entries;
  sources = sources_of q.sources.items;
  condition = where_of q.condition;
  group = references_of q.group.items;
}
