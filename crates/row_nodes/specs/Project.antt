-- What Project puts out.
use Rattle.std.specs.Prelude.{ℕ, ◌<◌, Bool, List, [], ◌∷◌, map, All}
use Rattle.values.specs.Row.{Row, value_at}
use Rattle.column.specs.Rows.{width}
use Rattle.op_queue.specs.Entries.{Entry, RowAt, TickAt}
use Rattle.op_queue.specs.declared.item.Item.{Item}
use Rattle.op_queue.specs.declared.item.Item.TheVariants.{Rows, Tick}

-- the row of these columns
abbrev pub columns_in : List ℕ → Row → Row
columns_in columns row = map (value_at row) columns

abbrev pub projected_row : List ℕ → Bool × Row → Bool × Row
projected_row columns s = (s.0, columns_in columns s.1)

abbrev pub projected : List ℕ → Item → List (Entry Row)
projected columns (Rows t b) = map (RowAt t) (map (projected_row columns) b)
projected columns (Tick t) = TickAt t ∷ []

-- the rows have these columns
abbrev pub AreColumns : List ℕ → Item → Type 0
AreColumns columns (Rows t b) = All (λ k. k < width b) columns
AreColumns columns (Tick t) = Unit {0}
