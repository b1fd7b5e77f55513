-- How rows are taken back out of their partitions.
use Rattle.std.specs.Prelude.{ℕ, zero, suc, ◌-◌, ◌<◌, ◌≤◌, Bool, true, Option, Some, None, List, []}
use Rattle.std.specs.Prelude.{◌∷◌, length, take, get_or}
use Rattle.std.specs.Map.{remove_entry, set_value}
use Rattle.std.specs.BTreeMap.{is_at}
use Rattle.values.specs.Row.{Row}
use Rattle.values.specs.declared.TheConstants.{MAX_COLUMNS}
use Rattle.windows.specs.Latest.{key_cmp, key_in, part}
use Rattle.windows.specs.Widths.{OneRow}

-- every partition has a row
abbrev pub AreSome : List (OneRow × List Row) → Type 0
AreSome [] = Unit {0}
AreSome (e ∷ es) = (0 < length e.1) × AreSome es

-- partitions whose keys have at most n values
pub record IsKeyed (n : ℕ) (es : List (OneRow × List Row)) : Type 0 where
  pub narrow : n ≤ MAX_COLUMNS
  pub some : AreSome es

-- without the newest row, and with the one that it made fall out in front again
abbrev pub rows_back : Option Row → List Row → List Row
rows_back None rows = take (length rows - 1) rows
rows_back (Some r) rows = r ∷ take (length rows - 1) rows

-- the partition of the key leaves if it has no rows
abbrev pub left_some : OneRow → List Row → List (OneRow × List Row) → List (OneRow × List Row)
left_some key [] es = remove_entry (is_at (key_cmp key)) es
left_some key (r ∷ rows) es = es

-- the same of the partition of a key
abbrev pub part_back : OneRow → Option Row → List (OneRow × List Row) → List (OneRow × List Row)
part_back key fallen es =
    left_some key (rows_back fallen (part key es))
    (set_value (is_at (key_cmp key)) es (rows_back fallen (part key es)))

-- the first n rows of a batch are taken back, the last of them first
abbrev pub all_back : List ℕ → List (Bool × Row) → List (Option Row) → ℕ → List (OneRow × List Row)
    → List (OneRow × List Row)
all_back columns b fallen zero es = es
all_back columns b fallen (suc n) es =
    all_back columns b fallen n
    (part_back (record { items = key_in columns (get_or b n (true, [])).1 }) (get_or fallen n None)
    es)
