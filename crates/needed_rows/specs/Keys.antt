-- The keys of partitions, and how often each came.
use Rattle.std.specs.Prelude.{ℕ, ℤ, Bool, Option, List, ◌&&◌, map, unwrap_or}
use Rattle.std.specs.declared.cmp.Ordering.{Ordering}
use Rattle.std.specs.Map.{lookup}
use Rattle.std.specs.BTreeMap.{is_at}
use Rattle.arrayvec.specs.ArrayVec.{ArrayVec}
use Rattle.column.specs.Rows.{row_at}
use Rattle.values.specs.Row.{Row, row_cmp, same_row, value_at}
use Rattle.values.specs.Window.{same_in}

-- the values in the columns of a partition
abbrev pub key_in : List ℕ → Row → Row
key_in columns row = map (value_at row) columns

abbrev pub Key : Type 0
Key = ArrayVec (Option ℤ)

abbrev pub key_cmp : Key → Key → Ordering
key_cmp r s = row_cmp r.items s.items

-- how often a key was counted
abbrev pub count_of : List (Key × ℕ) → Key → ℕ
count_of es k = unwrap_or (lookup (is_at (key_cmp k)) es) 0

-- the rows at two places are in one partition
abbrev pub are_alike : List ℕ → List (List (Option ℤ)) → ℕ → ℕ → Bool
are_alike chosen columns i j = same_in chosen (row_at columns i) (row_at columns j)

-- the row at the place passes, and is of the key
abbrev pub is_of_key : (ℕ → Bool) → List ℕ → List (List (Option ℤ)) → Row → ℕ → Bool
is_of_key passes chosen columns k j = passes j && same_row (key_in chosen (row_at columns j)) k
