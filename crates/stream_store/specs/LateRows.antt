-- How open rows are kept: their heads, and their values one row after another.
use Rattle.std.specs.Prelude.{◌≡◌, ℕ, suc, ℤ, ◌*◌, ◌≤◌, ◌++◌, Option, Bool, nat_abs, nat_lt, List}
use Rattle.std.specs.Prelude.{[], ◌∷◌, length, map, take}
use Rattle.std.specs.List.{filter}
use Rattle.values.specs.declared.TheConstants.{MAX_COLUMNS}
use Rattle.values.specs.Row.{Row}
pub use Rattle.op_queue.specs.Flat.{rows_in}

-- the open rows of an instant: how many columns they
-- have, and each with its number in the order of arrival
pub record RowsAt : Type 0 where
  pub width : ℕ
  pub rows : List (ℕ × Row)

-- rows that are lent: their instants, none below 0, and their values, one row's behind another's
abbrev pub lent_rows : ℕ → List ℤ → List (Option ℤ) → List (ℕ × Row)
lent_rows width instants values = rows_in width (map nat_abs instants) values

-- as many values as the rows have
pub record IsFlat {K : Type 0} (width : ℕ) (heads : List K)
    (values : List (Option ℤ)) : Type 0 where
  pub few : width ≤ MAX_COLUMNS
  pub full : length values ≡ length heads * width

-- no rows of so many columns
abbrev pub none_at : ℕ → RowsAt
none_at width = record { width = width; rows = [] }

-- rows that came one after another, each with its number in place of its instant
abbrev pub numbered_rows : ℕ → List (ℕ × Row) → List (ℕ × Row)
numbered_rows n [] = []
numbered_rows n (r ∷ rows) = (n, r.1) ∷ numbered_rows (suc n) rows

-- more rows behind the others, with numbers from n on
abbrev pub with_rows : ℕ → List (ℕ × Row) → RowsAt → RowsAt
with_rows n rows late_rows = record {
  width = late_rows.width;
  rows = late_rows.rows ++ numbered_rows n rows;
}

-- the first rows, as many as have numbers below n
abbrev pub first_below : ℕ → RowsAt → RowsAt
first_below n late_rows = record {
  width = late_rows.width;
  rows = take (length (filter (λ r. nat_lt r.0 n) late_rows.rows)) late_rows.rows;
}

abbrev pub has_rows : RowsAt → Bool
has_rows late_rows = nat_lt 0 (length late_rows.rows)
