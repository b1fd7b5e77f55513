-- TO BELIEVE: the theorem rests on these definitions, and no proof can check them.
-- The faults of a query's names, and the first of them.
use Rattle.std.specs.Prelude.{ℕ, ◌-◌, ◌==◌, Bool, true, false, not, ◌&&◌, ◌||◌, nat_lt, Option}
use Rattle.std.specs.Prelude.{Some, None, List, [], ◌∷◌, ◌++◌, map, length}
use Rattle.std.specs.List.{list_any, flat_map, range_with_len}
use Rattle.std.specs.Option.{is_none}
use Rattle.std.specs.Str.{bytes_eq}
use Rattle.values.specs.declared.TheConstants.{MAX_COLUMNS}
use Rattle.values.specs.Condition.{SourceColumn, Condition}
use Rattle.cql_reader.specs.Query as syntax
use Rattle.names.specs.Catalog.{Stream, number_in}
use Rattle.names.specs.Matches.{Table, name_of, table_of, tables, matches_in, matches, column_of}
use Rattle.names.specs.Split.{all_conjuncts, is_key}
use Rattle.names.specs.Resolved.{same_column, named_by, entry_list, is_grouped, resolved}
use Rattle.names.specs.declared.fault.ResolveFault.{ResolveFault}
use Rattle.names.specs.declared.fault.ResolveFault.TheVariants.{UnknownStream, UnknownColumn}
use Rattle.names.specs.declared.fault.ResolveFault.TheVariants.{AmbiguousColumn, DuplicateAlias}
use Rattle.names.specs.declared.fault.ResolveFault.TheVariants.{NoJoinKey, NotGrouped, TooWide}

-- the references of a condition
abbrev pub references_of_operand : syntax.WrittenOperand → List syntax.Reference
references_of_operand (syntax.Named r) = r ∷ []
references_of_operand (syntax.Number z) = []

abbrev pub references_of_condition : syntax.WrittenCondition → List syntax.Reference
references_of_condition (syntax.Compared a how b) =
    references_of_operand a ++ references_of_operand b
references_of_condition (syntax.Not c) = references_of_condition c
references_of_condition (syntax.And c d) = references_of_condition c ++ references_of_condition d
references_of_condition (syntax.Or c d) = references_of_condition c ++ references_of_condition d

abbrev pub references_of_where : Option syntax.WrittenCondition → List syntax.Reference
references_of_where None = []
references_of_where (Some c) = references_of_condition c

-- the columns of Partition By
abbrev pub partition_of : syntax.WrittenWindow → List syntax.Reference
partition_of (syntax.Instants reach) = []
partition_of (syntax.Rows rows) = []
partition_of (syntax.Partition by rows) = by

-- what each reference of the query matches; in
-- Partition By only the columns of its own source count
abbrev pub partition_matches : syntax.Query → List Stream → List (List SourceColumn)
partition_matches q catalog = flat_map
    (λ s. map (λ r. matches_in 0 r (table_of catalog s)) (partition_of s.window)) q.sources

abbrev pub all_matches : syntax.Query → List Stream → List (List SourceColumn)
all_matches q catalog =
    partition_matches q catalog
    ++ map (matches 0 (tables catalog q.sources))
    (flat_map named_by (entry_list q.entries) ++ (references_of_where q.condition ++ q.group))

abbrev pub is_missing : List SourceColumn → Bool
is_missing found = length found == 0

abbrev pub is_many : List SourceColumn → Bool
is_many found = nat_lt 1 (length found)

abbrev pub has_repeat : List (List ℕ) → Bool
has_repeat [] = false
has_repeat (x ∷ xs) = list_any (bytes_eq x) xs || has_repeat xs

-- a source after the first that no conjunct ties to one before it
abbrev pub lacks_key : ℕ → List Condition → Bool
lacks_key sources conjuncts = list_any (λ s. not (list_any (is_key s) conjuncts))
    (range_with_len 1 (sources - 1))

abbrev pub is_all : syntax.Entries → Bool
is_all syntax.All = true
is_all (syntax.Each entries) = false

-- an item is a column that Group By does not have
abbrev pub is_outside : List Table → List SourceColumn → syntax.WrittenEntry → Bool
is_outside ts by (syntax.Column r) = not (list_any (λ k. same_column k (column_of ts r)) by)
is_outside ts by syntax.CountAll = false
is_outside ts by (syntax.Of a r) = false

-- a list is `*`, or has a column that is none of these of Group By
abbrev pub has_outside : List Table → List SourceColumn → syntax.Entries → Bool
has_outside ts by entries = is_all entries || list_any (is_outside ts by) (entry_list entries)

-- a grouped query lists `*`, or a column that Group By does not have
abbrev pub is_ungrouped : List Table → syntax.Query → Bool
is_ungrouped ts q = is_grouped q && has_outside ts (map (column_of ts) q.group) q.entries

-- there are more items, Group By columns or Partition By columns than a row may have
abbrev pub is_wide : syntax.Query → Bool
is_wide q =
    nat_lt MAX_COLUMNS (length (entry_list q.entries))
    || (nat_lt MAX_COLUMNS (length q.group)
    || list_any (λ s. nat_lt MAX_COLUMNS (length (partition_of s.window))) q.sources)

-- the tests, in their order
abbrev pub fault_tests : syntax.Query → List Stream → List (Bool × ResolveFault)
fault_tests q catalog =
    (list_any (λ s. is_none (number_in catalog s.stream)) q.sources, UnknownStream)
    ∷ (list_any is_missing (all_matches q catalog), UnknownColumn)
    ∷ (list_any is_many (all_matches q catalog), AmbiguousColumn)
    ∷ (has_repeat (map name_of q.sources), DuplicateAlias)
    ∷ (lacks_key (length q.sources) (all_conjuncts (resolved q catalog).condition), NoJoinKey)
    ∷ (is_ungrouped (tables catalog q.sources) q, NotGrouped)
    ∷ (is_wide q, TooWide) ∷ []

-- of tests with their faults, the fault of the first that is met
abbrev pub first_of : {F : Type 0} → List (Bool × F) → Option F
first_of [] = None
first_of ((true, fault) ∷ tests) = Some fault
first_of ((false, fault) ∷ tests) = first_of tests

-- the first fault of a query over a catalog, each test being over the whole query
abbrev pub first_fault : syntax.Query → List Stream → Option ResolveFault
first_fault q catalog = first_of (fault_tests q catalog)
