-- How many values the keys of partitions may have where these are held.
use Rattle.std.specs.Prelude.{ℕ, List}
use Rattle.values.specs.declared.TheConstants.{MAX_COLUMNS}
use Rattle.values.specs.Row.{Row}
use Rattle.windows.specs.Widths.{OneRow}
use Rattle.windows.specs.declared.parts.Partitions.TheVariants as code
use Rattle.windows.specs.declared.parts.Partitions.{Partitions}

-- what is held, by key
abbrev pub entries_in : Partitions → List (OneRow × List Row)
entries_in (code.Two es) = es
entries_in (code.Four es) = es
entries_in (code.Eight es) = es
entries_in (code.Sixteen es) = es
entries_in (code.Widest es) = es

-- how many values the keys may have
abbrev pub room_of : Partitions → ℕ
room_of (code.Two es) = 2
room_of (code.Four es) = 4
room_of (code.Eight es) = 8
room_of (code.Sixteen es) = 16
room_of (code.Widest es) = MAX_COLUMNS
