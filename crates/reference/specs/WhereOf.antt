-- Where a refused call is at fault: the first row of an append, byte of a name or column of a
-- stream that fails the fault's own test.
use Rattle.std.specs.Prelude.{ℕ, ◌+◌, ◌==◌, Bool, not, ◌&&◌, ◌||◌, nat_le, nat_lt, cond, List, []}
use Rattle.std.specs.Prelude.{◌∷◌, take, drop, length, position, Option, Some, None, ℤ, int_le}
use Rattle.std.specs.List.{list_any, list_all, enumerate_from}
use Rattle.std.specs.Str.{bytes_eq}
use Rattle.cql_reader.specs.Lexis.{is_name, is_letter, is_word}
use Rattle.reference.specs.Commands.{is_instant, is_stream_value}
use Rattle.reference.specs.declared.fault.Fault.{Fault}
use Rattle.reference.specs.declared.fault.Fault.TheVariants.{BadName, BadColumns, BadWidth}
use Rattle.reference.specs.declared.fault.Fault.TheVariants.{ValueRange, InstantRange, Late}
use Rattle.reference.specs.declared.limits.TheConstants.{MAX_STREAM_COLUMNS}

-- the row has another number of values than the stream has columns
abbrev pub has_other_width : ℕ → ℤ × List (Option ℤ) → Bool
has_other_width width row = not (length row.1 == width)

-- a value of the row is outside the range of streams
abbrev pub has_other_value : ℤ × List (Option ℤ) → Bool
has_other_value row = not (list_all is_stream_value row.1)

-- the first row that has such a value, of rows whose values come one row after the other: how many
-- rows come before these, how many values each of these has, and the values
unfoldable pub first_other_in : ℕ → List ℕ → List (Option ℤ) → Option ℕ
first_other_in row [] values = None
first_other_in row (width ∷ widths) values =
    cond (not (list_all is_stream_value (take width values))) (Some row)
    (first_other_in (row + 1) widths (drop width values))

-- the row's instant is outside the range of instants
abbrev pub has_other_instant : ℤ × List (Option ℤ) → Bool
has_other_instant row = not (is_instant row.0)

-- the row is at or below the last closed instant
abbrev pub is_late : ℤ → ℤ × List (Option ℤ) → Bool
is_late closed row = int_le row.0 closed

-- THE ROW of a fault: the first that fails its test, of
-- rows for a stream of so many columns, closed up to an instant
abbrev pub row_at_fault : Fault → ℕ → ℤ → List (ℤ × List (Option ℤ)) → Option ℕ
row_at_fault BadWidth width closed rows = position (has_other_width width) rows
row_at_fault ValueRange width closed rows = position has_other_value rows
row_at_fault InstantRange width closed rows = position has_other_instant rows
row_at_fault Late width closed rows = position (is_late closed) rows
row_at_fault _ width closed rows = None

-- no name has the byte at this place: a name starts with a letter or
-- an underscore, goes on with digits too, and has 32 bytes at most
abbrev pub breaks_name : ℕ × ℕ → Bool
breaks_name (place, byte) =
    not (nat_lt place 32 && cond (place == 0) (is_letter byte) (is_word byte))

-- the first byte that no name has at its place
unfoldable pub first_break : List ℕ → Option ℕ
first_break name = position breaks_name (enumerate_from 0 name)

-- THE BYTE of a fault
abbrev pub byte_at_fault : Fault → List ℕ → Option ℕ
byte_at_fault BadName name = first_break name
byte_at_fault _ name = None

-- the column at this place is one too many, its name
-- is no name, or a column before it has the same name
abbrev pub breaks_columns : List (List ℕ) → ℕ × List ℕ → Bool
breaks_columns columns (place, name) = nat_le MAX_STREAM_COLUMNS place
    || (not (is_name name) || list_any (bytes_eq name) (take place columns))

-- the first column that no stream has at its place
unfoldable pub first_bad_column : List (List ℕ) → Option ℕ
first_bad_column columns = position (breaks_columns columns) (enumerate_from 0 columns)

-- THE COLUMN of a fault
abbrev pub column_at_fault : Fault → List (List ℕ) → Option ℕ
column_at_fault BadColumns columns = first_bad_column columns
column_at_fault _ columns = None
