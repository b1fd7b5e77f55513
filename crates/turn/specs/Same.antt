-- What batches are compared by.
use Rattle.std.specs.Prelude.{ℕ, ◌≡◌, ◌<◌, Bool, not, List, map}
use Rattle.values.specs.Row.{Row}
use Rattle.column.specs.Rows.{column_of, width}

-- which rows leave
abbrev pub leaving : List (Bool × Row) → List Bool
leaving rows = map (λ r. not r.0) rows

abbrev pub HaveSameColumns : List (Bool × Row) → List (Bool × Row) → Type 0
HaveSameColumns a b = (k : ℕ) → k < width a → column_of a k ≡ column_of b k
