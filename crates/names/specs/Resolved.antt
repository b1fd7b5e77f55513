-- TO BELIEVE: the theorem rests on these definitions, and no proof can check them.
-- The query that a text means over declared streams, for texts without a fault.
use Rattle.std.specs.Prelude.{ℕ, suc, Bool, true, false, cond, ◌&&◌, ◌||◌, ◌==◌, List, [], ◌∷◌}
use Rattle.std.specs.Prelude.{◌++◌, map, length, position, unwrap_or}
use Rattle.std.specs.List.{list_any, flat_map, range_with_len}
use Rattle.std.specs.Option.{option_map}
use Rattle.values.specs.Window.{Window, Instants, LastRows}
use Rattle.values.specs.Condition.{SourceColumn, Operand, Field, Number, Condition, Compared, Not}
use Rattle.values.specs.Condition.{And}
use Rattle.values.specs.Condition.{Or}
use Rattle.values.specs.Relation.{Shape, ListItem, Listed, Grouped, Key, CountAll, Of}
use Rattle.values.specs.Answers.{Resolved}
use Rattle.cql_reader.specs.Query as syntax
use Rattle.names.specs.Catalog.{Stream, number_in}
use Rattle.names.specs.Matches.{Table, table_of, tables, column_of, place_in}

-- the columns of Partition By are those of the window's own source
abbrev pub window_of : Table → syntax.WrittenWindow → Window
window_of t (syntax.Instants reach) = Instants reach
window_of t (syntax.Rows rows) = LastRows [] rows
window_of t (syntax.Partition by rows) = LastRows (map (place_in t) by) rows

abbrev pub windows_of : List Stream → List syntax.WrittenSource → List Window
windows_of catalog sources = map (λ s. window_of (table_of catalog s) s.window) sources

abbrev pub operand_of : List Table → syntax.WrittenOperand → Operand
operand_of ts (syntax.Named r) = Field (column_of ts r)
operand_of ts (syntax.Number z) = Number z

abbrev pub condition_of : List Table → syntax.WrittenCondition → Condition
condition_of ts (syntax.Compared a how b) = Compared (operand_of ts a) how (operand_of ts b)
condition_of ts (syntax.Not c) = Not (condition_of ts c)
condition_of ts (syntax.And c d) = And (condition_of ts c) (condition_of ts d)
condition_of ts (syntax.Or c d) = Or (condition_of ts c) (condition_of ts d)

abbrev pub same_column : SourceColumn → SourceColumn → Bool
same_column a b = (a.source == b.source) && (a.column == b.column)

-- the place of a column in Group By, which has it
abbrev pub key_place : SourceColumn → List SourceColumn → ℕ
key_place c by = unwrap_or (position (λ k. same_column k c) by) 0

-- an item of the list of a grouped query
abbrev pub item_of : List Table → List SourceColumn → syntax.WrittenEntry → ListItem
item_of ts by (syntax.Column r) = Key (key_place (column_of ts r) by)
item_of ts by syntax.CountAll = CountAll
item_of ts by (syntax.Of a r) = Of a (column_of ts r)

-- the reference of an item, where it has one
abbrev pub named_by : syntax.WrittenEntry → List syntax.Reference
named_by (syntax.Column r) = r ∷ []
named_by syntax.CountAll = []
named_by (syntax.Of a r) = r ∷ []

abbrev pub is_aggregate : syntax.WrittenEntry → Bool
is_aggregate (syntax.Column r) = false
is_aggregate syntax.CountAll = true
is_aggregate (syntax.Of a r) = true

-- `*` is all columns of the first source, then those of
-- the next; the first of these sources has the number s
abbrev pub all_columns : ℕ → List Table → List SourceColumn
all_columns s [] = []
all_columns s (t ∷ ts) = map (λ k. record { source = s; column = k })
    (range_with_len 0 (length t.columns)) ++ all_columns (suc s) ts

-- the items of a list; `*` has none of its own
abbrev pub entry_list : syntax.Entries → List syntax.WrittenEntry
entry_list syntax.All = []
entry_list (syntax.Each entries) = entries

abbrev pub is_some_reference : List syntax.Reference → Bool
is_some_reference [] = false
is_some_reference (r ∷ rs) = true

-- a query is grouped where it has Group By or an aggregate
abbrev pub is_grouped : syntax.Query → Bool
is_grouped q = is_some_reference q.group || list_any is_aggregate (entry_list q.entries)

abbrev pub listed_columns : List Table → syntax.Entries → List SourceColumn
listed_columns ts syntax.All = all_columns 0 ts
listed_columns ts (syntax.Each entries) = map (column_of ts) (flat_map named_by entries)

abbrev pub shape_of : List Table → syntax.Query → Shape
shape_of ts q =
    let by : List SourceColumn = map (column_of ts) q.group in
    cond (is_grouped q) (Grouped by (map (item_of ts by) (entry_list q.entries)))
    (Listed (listed_columns ts q.entries))

abbrev pub resolved : syntax.Query → List Stream → Resolved
resolved q catalog =
    let ts : List Table = tables catalog q.sources in
    record {
      windows = windows_of catalog q.sources;
      condition = option_map (condition_of ts) q.condition;
      shape = shape_of ts q;
      is_distinct = q.is_distinct;
      operator = q.operator;
    }

-- the number of each source's stream
abbrev pub streams : syntax.Query → List Stream → List ℕ
streams q catalog = map (λ s. unwrap_or (number_in catalog s.stream) 0) q.sources

-- how many columns each source has
abbrev pub widths : syntax.Query → List Stream → List ℕ
widths q catalog = map (λ t. length t.columns) (tables catalog q.sources)
