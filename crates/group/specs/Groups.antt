-- Group By with its list, over the rows that go between
-- operators: each counts as the one row of a combination.
use Rattle.std.specs.Prelude.{ℕ, Bool, true, false, List, [], ◌∷◌, map}
use Rattle.std.specs.List.{range_with_len}
use Rattle.values.specs.Row.{Row}
use Rattle.values.specs.Condition.{field}
use Rattle.values.specs.Relation.{Grouped, shaped}
use Rattle.values.specs.Resolved.{column_of, columns_of, items_of}
use Rattle.values.specs.declared.resolved.SourceColumn.{SourceColumn}
use Rattle.values.specs.declared.resolved.ListItem.{ListItem}
use Rattle.values.specs.declared.resolved.ListItem.TheVariants.{Key}

-- Group By's columns, none where it is missing, and the list
pub record GroupBy : Type 0 where
  pub by : List SourceColumn
  pub items : List ListItem

-- the relation of the groups of a bag
abbrev pub grouped : GroupBy → List Row → List Row
grouped g b = shaped (Grouped (columns_of g.by) (items_of g.items)) (map (λ r. r ∷ []) b)

-- the key of a row's group
abbrev pub key_in : List SourceColumn → Row → Row
key_in by r = map (λ c. field (r ∷ []) (column_of c)) by

abbrev pub no_columns : List SourceColumn → Bool
no_columns [] = true
no_columns (c ∷ by) = false

abbrev pub column_at : ℕ → SourceColumn
column_at k = record { source = 0; column = k }

-- the groups of all columns, which list their keys: each row once
abbrev pub once_each : ℕ → GroupBy
once_each width = record {
  by = map column_at (range_with_len 0 width);
  items = map Key (range_with_len 0 width);
}
