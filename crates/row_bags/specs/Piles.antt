-- Rows as they came.
use Rattle.std.specs.Prelude.{ℕ, ◌<◌, List}
use Rattle.values.specs.declared.TheConstants.{MAX_COLUMNS}
use Rattle.values.specs.Row.{Row}
use Rattle.row_bags.specs.Bags.{rows_of}
use Rattle.row_bags.specs.declared.pile.Pile.TheVariants as code
use Rattle.row_bags.specs.declared.pile.Pile.{Pile}

-- the rows that are held, in the order in which they came
abbrev pub pile_in : Pile → List Row
pile_in (code.Two rows) = rows_of rows.items
pile_in (code.Four rows) = rows_of rows.items
pile_in (code.Eight rows) = rows_of rows.items
pile_in (code.Sixteen rows) = rows_of rows.items
pile_in (code.Widest rows) = rows_of rows.items

-- how many values its rows may have
abbrev pub pile_room : Pile → ℕ
pile_room (code.Two rows) = 2
pile_room (code.Four rows) = 4
pile_room (code.Eight rows) = 8
pile_room (code.Sixteen rows) = 16
pile_room (code.Widest rows) = MAX_COLUMNS

-- the second has more room, where there is more
abbrev pub IsWiderPile : Pile → Pile → Type 0
IsWiderPile p w = pile_room p < MAX_COLUMNS → pile_room p < pile_room w
