-- What the definitions see of the values of the code.
use Rattle.std.specs.Prelude.{ℕ, Bool, true, false, ◌==◌, ◌||◌, Option, Some, None, List, [], ◌∷◌}
use Rattle.std.specs.Prelude.{◌++◌, map, Vec}
use Rattle.std.specs.List.{list_all, list_any}
use Rattle.std.specs.declared.alloc.Global.{Global}
use Rattle.values.specs.Condition as conditions
use Rattle.std.specs.Option.{option_map}
use Rattle.values.specs.Window as windows
use Rattle.values.specs.Answers as answers
use Rattle.values.specs.declared.resolved.SourceColumn.{SourceColumn}
use Rattle.values.specs.declared.resolved.Condition.{Condition}
use Rattle.values.specs.Resolved.{column_of, condition_of}
use Rattle.cql_reader.specs.Query as syntax
use Rattle.cql_reader.specs.Names.{name_of}
use Rattle.names.specs.Catalog.{Stream}
use Rattle.names.specs.Matches as spec
use Rattle.names.specs.Resolved as meaning
use Rattle.names.specs.Split as split
use Rattle.names.specs.Faults as faults
use Rattle.names.specs.declared.streams.Declared.{Declared}
use Rattle.names.specs.declared.matching.Table.{Table}
use Rattle.names.specs.declared.matching.Found.{Found}
use Rattle.names.specs.declared.matching.Found.TheVariants.{Missing, One, Many}
use Rattle.names.specs.declared.split.SourceKey.{SourceKey}
use Rattle.names.specs.declared.verdict.Verdict.{Verdict}
use Rattle.names.specs.Names.{names_of}

abbrev pub stream_of : Declared → Stream
stream_of d = record { name = name_of d.name; columns = names_of d.columns.items }

abbrev pub streams_of : List Declared → List Stream
streams_of ds = map stream_of ds

abbrev pub table_of : Table → spec.Table
table_of t = record { name = name_of t.name; columns = names_of t.columns.now }

abbrev pub tables_of : List Table → List spec.Table
tables_of ts = map table_of ts

abbrev pub code_column : conditions.SourceColumn → SourceColumn
code_column c = record { source = c.source; column = c.column }

-- what a list of matches amounts to
abbrev pub found_of : List conditions.SourceColumn → Found
found_of [] = Missing
found_of (c ∷ []) = One (code_column c)
found_of (c ∷ d ∷ cs) = Many (code_column c)

abbrev pub merged : Found → Found → Found
merged Missing f = f
merged (One c) Missing = One c
merged (One c) (One d) = Many c
merged (One c) (Many d) = Many c
merged (Many c) f = Many c

-- the first column that was found
abbrev pub first_found : Found → conditions.SourceColumn
first_found Missing = record { source = 0; column = 0 }
first_found (One c) = column_of c
first_found (Many c) = column_of c

-- what the two tests on matches say of them
abbrev pub verdict_of : List (List conditions.SourceColumn) → Verdict
verdict_of found = record {
  is_missing = list_any faults.is_missing found;
  is_many = list_any faults.is_many found;
}

abbrev pub verdict_on : List spec.Table → List syntax.Reference → Verdict
verdict_on ts rs = verdict_of (map (spec.matches 0 ts) rs)

abbrev pub both_verdicts : Verdict → Verdict → Verdict
both_verdicts a b = record {
  is_missing = a.is_missing || b.is_missing;
  is_many = a.is_many || b.is_many;
}

abbrev pub judged : Found → Verdict
judged Missing = record { is_missing = true; is_many = false }
judged (One c) = record { is_missing = false; is_many = false }
judged (Many c) = record { is_missing = false; is_many = true }

-- what is said of sources, of which each has its table
abbrev pub windows_in : List spec.Table → List syntax.WrittenSource → List windows.Window
windows_in [] ss = []
windows_in (t ∷ ts) [] = []
windows_in (t ∷ ts) (s ∷ ss) = meaning.window_of t s.window ∷ windows_in ts ss

abbrev pub partitions_in : List spec.Table → List syntax.WrittenSource
    → List (List conditions.SourceColumn)
partitions_in [] ss = []
partitions_in (t ∷ ts) [] = []
partitions_in (t ∷ ts) (s ∷ ss) =
    map (λ r. spec.matches_in 0 r t) (faults.partition_of s.window) ++ partitions_in ts ss

abbrev pub conditions_of : List Condition → List conditions.Condition
conditions_of cs = map condition_of cs

abbrev pub owns_of : List (Vec Condition Global) → List (List conditions.Condition)
owns_of owns = map (λ own. conditions_of own.items) owns

abbrev pub key_of : SourceKey → split.JoinKey
key_of k = record { earlier = column_of k.earlier; column = k.column }

abbrev pub keys_of : List SourceKey → List split.JoinKey
keys_of ks = map key_of ks

abbrev pub join_keys_of : List (Vec SourceKey Global) → List (List split.JoinKey)
join_keys_of keys = map (λ ks. keys_of ks.items) keys

abbrev pub key_view : Option SourceKey → Option split.JoinKey
key_view None = None
key_view (Some k) = Some (key_of k)

abbrev pub some_of : List conditions.SourceColumn → Bool
some_of cs = split.is_some_column cs

abbrev pub all_of : ℕ → List conditions.SourceColumn → Bool
all_of s cs = list_all (λ k. k.source == s) cs

-- what a query means whose sources are the tables
abbrev pub resolved_in : List spec.Table → syntax.Query → answers.Resolved
resolved_in ts q = record {
  windows = windows_in ts q.sources;
  condition = option_map (meaning.condition_of ts) q.condition;
  shape = meaning.shape_of ts q;
  is_distinct = q.is_distinct;
  operator = q.operator;
}
