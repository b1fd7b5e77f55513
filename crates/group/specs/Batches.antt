-- A batch of rows of one group, column by column.
use Rattle.std.specs.Prelude.{ℕ, ◌<◌, ℤ, pos, ◌+ℤ◌, Bool, not, Option, List, [], ◌∷◌, map, length}
use Rattle.std.specs.Prelude.{get_or, slice_index_or, true, All, fold}
use Rattle.values.specs.Row.{Row}
use Rattle.values.specs.Ranges.{IsAnswerValue}
use Rattle.values.specs.Condition.{field}
use Rattle.values.specs.Resolved.{column_of}
use Rattle.values.specs.declared.resolved.SourceColumn.{SourceColumn}
use Rattle.values.specs.declared.resolved.ListItem.{ListItem}
use Rattle.values.specs.declared.resolved.ListItem.TheVariants.{Key}
use Rattle.lane_kernels.specs.Truth.{signed_count, signed_total}
use Rattle.group.specs.Cells.{Held, TallyState, number_of, signed_by, tally_by, tally_after}
use Rattle.group.specs.Cells.{CellState, cell_zero, cell_after}
use Rattle.group.specs.Turns.{cell_of, with_cell}

-- the row at a place of a batch
abbrev pub row_in : List (Bool × Row) → ℕ → Bool × Row
row_in rs k = slice_index_or rs k (true, [])

-- how many rows enter, those that leave taken away
abbrev pub rows_counted : List (Bool × Row) → ℤ
rows_counted [] = pos 0
rows_counted (s ∷ rs) = signed_by s.0 (pos 1) +ℤ rows_counted rs

-- which of the rows leave
abbrev pub leaving : List (Bool × Row) → List Bool
leaving rs = map (λ s. not s.0) rs

-- the values of the rows in a column
abbrev pub fields : SourceColumn → List (Bool × Row) → List (Option ℤ)
fields c rs = map (λ s. field (s.1 ∷ []) (column_of c)) rs

-- the numbers that an item reads in the rows
abbrev pub numbers_read : ListItem → List (Bool × Row) → List (Option ℤ)
numbers_read i rs = map (λ s. number_of i s.1) rs

-- a tally after these values, those with a true sign leaving
abbrev pub tally_values : Bool → List Bool → List (Option ℤ) → TallyState → TallyState
tally_values kept [] vs t = t
tally_values kept (m ∷ ms) [] t = t
tally_values kept (m ∷ ms) (v ∷ vs) t = tally_values kept ms vs (tally_by (not m) kept v t)

-- the same where no value is kept: counted and summed at once
abbrev pub tally_sums : List Bool → List (Option ℤ) → TallyState → TallyState
tally_sums ms vs t = record {
  numbers = t.numbers +ℤ signed_count ms vs;
  total = t.total +ℤ signed_total ms vs;
  values = t.values;
}

-- a tally after the rows
abbrev pub tally_rows : List (Bool × Row) → ListItem → TallyState → TallyState
tally_rows [] i t = t
tally_rows (s ∷ rs) i t = tally_rows rs i (tally_after s i t)

-- the numbers that the items read in the rows are of the answer range
abbrev pub AllInRange : List ListItem → List (Bool × Row) → Type 0
AllInRange is rs = (k : ℕ) → k < length is
    → All IsAnswerValue (numbers_read (get_or is k (Key 0)) rs)

-- the groups after a batch of rows of the group k
abbrev pub batch_in : List ListItem → Held → List (Bool × Row) → List (Held × CellState)
    → List (Held × CellState)
batch_in is k rs es = with_cell k (fold (cell_after is) (cell_of (length is) k es) rs)
    (fold (cell_after is) (cell_zero (length is)) rs) es
