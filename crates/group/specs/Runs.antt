-- The turn of a tick in place, group by group.
use Rattle.std.specs.Prelude.{◌≡◌, Option, Some, List, map, length}
use Rattle.op_queue.specs.Flat.{FlatState, with_signed}
use Rattle.group.specs.Groups.{GroupBy}
use Rattle.group.specs.Cells.{Held, CellState}
use Rattle.group.specs.Keys.{KeyedState}
use Rattle.group.specs.Turns.{GroupState, ShownState, cell_of, excerpt, near_at, row_now}
use Rattle.group.specs.Turns.{shown_at, shown_now, swap_of}

-- the row that the group k shows from this tick on
abbrev pub row_at_tick : GroupBy → Held → CellState → Option Held
row_at_tick g k c = row_now g (excerpt g.items k c)

-- with what the group k puts out
abbrev pub put_out : GroupBy → Held → CellState → FlatState → FlatState
put_out g k c o = with_signed o (swap_of o.width c.shown (row_at_tick g k c))

-- the group k shows its key, which is the row that it has to show
pub record ShowsKey (g : GroupBy) (k : Held) (c : CellState) : Type 0 where
  pub row : row_at_tick g k c ≡ Some k
  pub shown : c.shown ≡ Some k

-- the groups after the group k shows its row
abbrev pub swapped : GroupBy → Held → List (Held × CellState) → List (Held × CellState)
swapped g k es = shown_at (length g.items) k (row_at_tick g k (cell_of (length g.items) k es)) es

-- what the groups of these keys show from this tick on
abbrev pub changes_at : GroupBy → List (Held × CellState) → List Held → List ShownState
changes_at g es ks = map (shown_now g) (near_at g.items es ks)

-- the state of what is kept of the groups
abbrev pub state_with : GroupBy → KeyedState → GroupState
state_with g k = record { group = g; cells = k.cells; touched = k.touched }
