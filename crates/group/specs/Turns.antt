-- The turns of a group on plain states: its excerpt, outputs, change and next state.
use Rattle.std.specs.Prelude.{ℕ, ◌+◌, ◌^◌, ℤ, pos, Option, Some, None, unwrap_or, List, [], ◌∷◌}
use Rattle.std.specs.Prelude.{◌++◌, map, length, fold, Bool, true, false, cond, ◌||◌}
use Rattle.std.specs.Option.{is_some}
use Rattle.std.specs.Ordering.{int_cmp, is_lt}
use Rattle.std.specs.Map.{lookup, set_value, remove_entry, values_of}
use Rattle.std.specs.BTreeMap.{is_at, insert_entry}
use Rattle.std.specs.BTreeSet.{insert_key}
use Rattle.std.specs.List.{All, range_with_len}
use Rattle.values.specs.Row.{Row, same_row, value_at}
use Rattle.values.specs.declared.resolved.SourceColumn.{SourceColumn}
use Rattle.values.specs.declared.resolved.ListItem.{ListItem}
use Rattle.op_queue.specs.Entries.{Entry, RowAt, TickAt}
use Rattle.op_queue.specs.declared.item.Item as queue
use Rattle.op_queue.specs.declared.item.Item.TheVariants.{Rows, Tick}
use Rattle.group.specs.declared.cells.Figure.{Figure}
use Rattle.group.specs.Groups.{GroupBy, key_in, no_columns}
use Rattle.group.specs.Cells.{Held, held, held_cmp, CellState, cell_zero, cell_after, showing}
use Rattle.group.specs.Cells.{figures, shown_figure, CellRoom}

-- the groups by key, and the keys of the groups that rows touched since the last tick
pub record GroupState : Type 0 where
  pub group : GroupBy
  pub cells : List (Held × CellState)
  pub touched : List Held

abbrev pub has_key : Held → List (Held × CellState) → Bool
has_key k es = is_some (lookup (is_at (held_cmp k)) es)

-- what is kept of the group k, in a list of n items
abbrev pub cell_of : ℕ → Held → List (Held × CellState) → CellState
cell_of n k es = unwrap_or (lookup (is_at (held_cmp k)) es) (cell_zero n)

-- the group k with c kept of it
abbrev pub with_cell : Held → CellState → CellState → List (Held × CellState)
    → List (Held × CellState)
with_cell k there fresh es = cond (has_key k es) (set_value (is_at (held_cmp k)) es there)
    (insert_entry held_cmp es k fresh)

-- after a row of the group k
abbrev pub taken_in : List ListItem → Held → Bool × Row → List (Held × CellState)
    → List (Held × CellState)
taken_in is k r es = with_cell k (cell_after is (cell_of (length is) k es) r)
    (cell_after is (cell_zero (length is)) r) es

-- after the row r of the group k was shown
abbrev pub shown_in : ℕ → Held → Held → List (Held × CellState) → List (Held × CellState)
shown_in n k r es = with_cell k (showing (cell_of n k es) (Some r))
    (showing (cell_zero n) (Some r)) es

-- without Group By the one group is touched from the start: it is shown at its first tick
abbrev pub first_touched : List SourceColumn → List Held
first_touched by = cond (no_columns by) (held [] ∷ []) []

abbrev pub beginning : GroupBy → GroupState
beginning g = record { group = g; cells = []; touched = first_touched g.by }

-- ROWS

abbrev pub row_key : GroupBy → Bool × Row → Held
row_key g r = held (key_in g.by r.1)

abbrev pub row_after : GroupState → Bool × Row → GroupState
row_after s r = record {
  group = s.group;
  cells = taken_in s.group.items (row_key s.group r) r s.cells;
  touched = insert_key held_cmp s.touched (row_key s.group r);
}

abbrev pub rows_after : GroupState → List (Bool × Row) → GroupState
rows_after s rs = fold row_after s rs

-- THE EXCERPT: of each touched group its key, the row that
-- was shown, how many rows it has, and its exact figures
pub record TouchedState : Type 0 where
  pub key : Held
  pub shown : Option Held
  pub rows : ℤ
  pub figures : List Figure

abbrev pub excerpt : List ListItem → Held → CellState → TouchedState
excerpt is k c = record {
  key = k;
  shown = c.shown;
  rows = c.rows;
  figures = figures k.items c.rows is c.tallies;
}

abbrev pub near_at : List ListItem → List (Held × CellState) → List Held → List TouchedState
near_at is es ks = map (λ k. excerpt is k (cell_of (length is) k es)) ks

abbrev pub near : GroupState → queue.Item → List TouchedState
near s (Rows t b) = []
near s (Tick t) = near_at s.group.items s.cells s.touched

-- THE OUTPUTS

-- the row that is shown from this tick on: none where
-- the group has no rows, but without Group By always one
abbrev pub row_now : GroupBy → TouchedState → Option Held
row_now g t = cond (no_columns g.by || is_lt (int_cmp (pos 0) t.rows))
    (Some (held (map shown_figure t.figures))) None

-- a row of this many columns
abbrev pub fitted : ℕ → Held → Row
fitted n r = map (value_at r.items) (range_with_len 0 n)

abbrev pub same_shown : Option Held → Option Held → Bool
same_shown None None = true
same_shown None (Some r) = false
same_shown (Some r) None = false
same_shown (Some r) (Some q) = same_row r.items q.items

-- a row with its sign, if there is one
abbrev pub signed_row : Bool → ℕ → Option Held → List (Bool × Row)
signed_row enters n None = []
signed_row enters n (Some r) = (enters, fitted n r) ∷ []

-- the row that was shown leaves, the other enters, unless they are equal
abbrev pub swap_of : ℕ → Option Held → Option Held → List (Bool × Row)
swap_of n old now = cond (same_shown old now) [] (signed_row false n old ++ signed_row true n now)

abbrev pub outputs : GroupBy → List TouchedState → List (Bool × Row)
outputs g [] = []
outputs g (t ∷ ts) = swap_of (length g.items) t.shown (row_now g t) ++ outputs g ts

abbrev pub out : GroupBy → queue.Item → List TouchedState → List (Entry Row)
out g (Rows t b) ts = []
out g (Tick t) ts = map (RowAt t) (outputs g ts) ++ TickAt t ∷ []

-- THE CHANGE: the row that each touched group shows from this tick on
pub record ShownState : Type 0 where
  pub key : Held
  pub row : Option Held

abbrev pub shown_now : GroupBy → TouchedState → ShownState
shown_now g t = record { key = t.key; row = row_now g t }

abbrev pub change : GroupBy → queue.Item → List TouchedState → List ShownState
change g (Rows t b) ts = []
change g (Tick t) ts = map (shown_now g) ts

-- THE NEXT STATE

-- a group that shows nothing is no longer kept
abbrev pub shown_at : ℕ → Held → Option Held → List (Held × CellState) → List (Held × CellState)
shown_at n k None es = remove_entry (is_at (held_cmp k)) es
shown_at n k (Some r) es = shown_in n k r es

abbrev pub shown_after : ℕ → List (Held × CellState) → ShownState → List (Held × CellState)
shown_after n es c = shown_at n c.key c.row es

-- the groups show these rows, and none is touched
abbrev pub closed_state : GroupState → List ShownState → GroupState
closed_state s cs = record {
  group = s.group;
  cells = fold (shown_after (length s.group.items)) s.cells cs;
  touched = [];
}

abbrev pub next : GroupState → queue.Item → List ShownState → GroupState
next s (Rows t b) cs = rows_after s b
next s (Tick t) cs = closed_state s cs

-- ROOM
-- no group has counts of more than n rows
abbrev pub CountsUpTo : ℕ → GroupState → Type 0
CountsUpTo n s = All (CellRoom n s.group.items) (values_of s.cells)

-- at rows the groups count at most 2^62: so there is room for the batch
abbrev pub RoomFor : GroupState → queue.Item → Type 0
RoomFor s (Rows t b) = CountsUpTo (2 ^ 62) s
RoomFor s (Tick t) = Unit {0}

-- after a turn no group counts more than a batch beyond what it did
abbrev pub KeepsRoom : GroupState → GroupState → Type 0
KeepsRoom old new = (n : ℕ) → CountsUpTo n old → CountsUpTo (n + 1024) new
