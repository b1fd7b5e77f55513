-- How many values the keys of groups may have where they are kept.
use Rattle.std.specs.Prelude.{ℕ, List}
use Rattle.group.specs.Cells.{Held, CellState}
use Rattle.group.specs.Keys.{KeyedState}
use Rattle.group.specs.declared.held_cells.HeldCells.TheVariants as code
use Rattle.group.specs.declared.held_cells.HeldCells.{HeldCells}
use Rattle.values.specs.declared.TheConstants.{MAX_COLUMNS}

-- what is kept of the groups
abbrev pub kept_in : HeldCells → KeyedState
kept_in (code.One s) = s
kept_in (code.Two s) = s
kept_in (code.Four s) = s
kept_in (code.Eight s) = s
kept_in (code.Sixteen s) = s
kept_in (code.Widest s) = s

-- what is kept of each group
abbrev pub cells_in : HeldCells → List (Held × CellState)
cells_in h = (kept_in h).cells

-- the keys that were touched since the last tick
abbrev pub touched_in : HeldCells → List Held
touched_in h = (kept_in h).touched

-- how many values a key may have
abbrev pub room_of : HeldCells → ℕ
room_of (code.One s) = 1
room_of (code.Two s) = 2
room_of (code.Four s) = 4
room_of (code.Eight s) = 8
room_of (code.Sixteen s) = 16
room_of (code.Widest s) = MAX_COLUMNS
