-- Which rows the readers of a stream have in their inputs.
use Rattle.std.specs.Prelude.{ℕ, Bool, ◌&&◌, nat_le, List, [], ◌∷◌, ◌++◌, map}
use Rattle.std.specs.List.{filter, list_any}
use Rattle.values.specs.Row.{Row}
use Rattle.values.specs.Window.{Element}
use Rattle.stream_store.specs.declared.starts.Start.{Start}
use Rattle.stream_store.specs.LateRows.{RowsAt, has_rows}
use Rattle.stream_store.specs.Open.{Entry}

-- the reader has the row of a number and an instant in its input
abbrev pub has_row : ℕ → ℕ → Start → Bool
has_row number instant start = nat_le start.place number && nat_le start.first instant

-- one of the readers has it
abbrev pub is_read : List Start → ℕ → ℕ → Bool
is_read starts number instant = list_any (has_row number instant) starts

-- one of the readers has the element
abbrev pub has_reader : List Start → Element → Bool
has_reader starts e = is_read starts e.arrival e.instant

-- the same of a row with its number, at an instant
abbrev pub row_read : List Start → ℕ → ℕ × Row → Bool
row_read starts instant r = is_read starts r.0 instant

-- of the open rows of an instant those that have a reader
abbrev pub rows_read : List Start → ℕ → RowsAt → RowsAt
rows_read starts instant late_rows =
    record { width = late_rows.width; rows = filter (row_read starts instant) late_rows.rows }

-- of all instants those rows, without instants that have none
abbrev pub entries_read : List Start → List Entry → List Entry
entries_read starts entries = filter (λ e. has_rows e.1)
    (map (λ e. (e.0, rows_read starts e.0 e.1)) entries)

-- the first element behind the others, if it passes; else it leaves
abbrev pub turned : (Element → Bool) → List Element → List Element
turned p [] = []
turned p (e ∷ es) = es ++ filter p (e ∷ [])
