-- Batches: signed rows laid out in columns.
use Rattle.std.specs.Prelude.{ℕ, ℤ, Bool, false, not, Option, None, List, [], ◌∷◌, ◌++◌, ◌≡◌, ◌≤◌}
use Rattle.std.specs.Prelude.{◌<◌, map, length, get_or, take, drop, All}
use Rattle.std.specs.List.{range_with_len}
use Rattle.values.specs.declared.TheConstants.{MAX_COLUMNS}
use Rattle.values.specs.Row.{Row, value_at}
use Rattle.column.specs.declared.batch.SignedRow.{SignedRow}
use Rattle.column.specs.declared.batch.Side.{Side}
use Rattle.column.specs.Sides.{of_side}

-- a signed row: true where it enters, and its values
abbrev pub signed : SignedRow → Bool × Row
signed s = (s.enters, s.row.items)

-- row i of some columns
abbrev pub row_at : List (List (Option ℤ)) → ℕ → Row
row_at columns i = map (λ c. get_or c i None) columns

-- the signed rows of some columns, and of the truths that say which rows leave
abbrev pub signed_rows : List (List (Option ℤ)) → List Bool → List (Bool × Row)
signed_rows columns leaving = map (λ i. (not (get_or leaving i false), row_at columns i))
    (range_with_len 0 (length leaving))

-- how many columns the rows have
abbrev pub width : List (Bool × Row) → ℕ
width [] = 0
width (r ∷ rs) = length r.1

-- a column of the rows
abbrev pub column_of : List (Bool × Row) → ℕ → List (Option ℤ)
column_of rows k = map (λ r. value_at r.1 k) rows

-- every row has this many values
abbrev pub IsTable : ℕ → List (Bool × Row) → Type 0
IsTable n rows = All (λ r. length r.1 ≡ n) rows

-- each place is below those that follow it
abbrev pub AreRising : List ℕ → Type 0
AreRising places = (i j : ℕ) → i < j → j < length places → get_or places i 0 < get_or places j 0

-- rows whose values stand one behind the other: each takes
-- the next w of them, and leaves where its truth says so
abbrev pub flat_rows : ℕ → List Bool → List (Option ℤ) → List (Bool × Row)
flat_rows w [] values = []
flat_rows w (l ∷ ls) values = (not l, take w values) ∷ flat_rows w ls (drop w values)

-- 1 to 1,024 rows of one width, which is at most MAX_COLUMNS
pub record IsBatch (rows : List (Bool × Row)) : Type 0 where
  pub some : 1 ≤ length rows
  pub few : length rows ≤ 1024
  pub narrow : width rows ≤ MAX_COLUMNS
  pub one_width : IsTable (width rows) rows

-- the same of columns
pub record IsLaidOut (columns : List (List (Option ℤ))) (leaving : List Bool) : Type 0 where
  pub some : 1 ≤ length leaving
  pub few : length leaving ≤ 1024
  pub narrow : length columns ≤ MAX_COLUMNS
  pub same : All (λ c. length c ≡ length leaving) columns

-- each row of the left side beside the row at its place of the right side
abbrev pub beside : Side → List (Bool × Row) → List (Bool × Row) → List (Bool × Row)
beside side [] rs = []
beside side (l ∷ ls) [] = []
beside side (l ∷ ls) (r ∷ rs) = (of_side side l.0 r.0, l.1 ++ r.1) ∷ beside side ls rs
