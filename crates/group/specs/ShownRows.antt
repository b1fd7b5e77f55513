-- The row that a group showed last, as it is kept.
use Rattle.std.specs.Prelude.{Option, Some, None}
use Rattle.group.specs.Cells.{Held, held}
use Rattle.group.specs.declared.shown_row.RowPlace.{RowPlace}
use Rattle.group.specs.declared.shown_row.RowPlace.TheVariants as code

-- the row that stands in a place, if there is one
abbrev pub row_in_place : RowPlace → Option Held
row_in_place code.None = None
row_in_place (code.Few values) = Some (held values.items)
row_in_place (code.Many values) = Some (held values.items)
