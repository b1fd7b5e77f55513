-- TO BELIEVE: the theorem rests on these definitions, and no proof can check them.
-- What a stream has closed, and the entries that it is for a query.
use Rattle.std.specs.Prelude.{ℕ, ◌-◌, ◌&&◌, ◌==◌, nat_le, Bool, true, List, [], ◌∷◌, ◌++◌, map, ◌+◌}
use Rattle.std.specs.Prelude.{cond, nat_lt, drop}
use Rattle.std.specs.List.{filter, flat_map, range_with_len}
use Rattle.values.specs.Row.{Row}
use Rattle.values.specs.Window.{Element}
use Rattle.op_queue.specs.Entries.{Entry, RowAt, TickAt}
use Rattle.op_queue.specs.declared.cursor.Cursor.{Cursor}

-- how many columns the stream has, its closed elements, and its first open instant
pub record Closed : Type 0 where
  pub width : ℕ
  pub elements : List Element
  pub until : ℕ

-- the elements of the instant t that arrived at the place or later
abbrev pub is_shown : ℕ → ℕ → Element → Bool
is_shown place t e = (e.instant == t) && nat_le place e.arrival

abbrev pub shown : ℕ → ℕ → List Element → List Element
shown place t es = filter (is_shown place t) es

-- an element's row enters
abbrev pub entering : Element → Bool × Row
entering e = (true, e.row)

abbrev pub row_entries : ℕ → List Element → List (Entry Row)
row_entries t es = map (λ e. RowAt t (entering e)) es

-- an instant of a query's input: its rows by arrival, then its tick
abbrev pub instant_entries : ℕ → List Element → ℕ → List (Entry Row)
instant_entries place es t = row_entries t (shown place t es) ++ TickAt t ∷ []

-- the instants from `start` to below `until`
abbrev pub span_entries : ℕ → List Element → ℕ → ℕ → List (Entry Row)
span_entries place es start until =
    flat_map (instant_entries place es) (range_with_len start (until - start))

-- the queue of a query that was registered at this place, from the instant `start` on
abbrev pub log_entries : ℕ → ℕ → Closed → List (Entry Row)
log_entries place start log = span_entries place log.elements start log.until

-- what is left of the cursor's instant, and then the later instants
abbrev pub cursor_entries : Cursor → Closed → List (Entry Row)
cursor_entries c log =
    cond (nat_lt c.at log.until) (row_entries c.at (drop c.passed (shown c.place c.at log.elements))
    ++ TickAt c.at ∷ log_entries c.place (c.at + 1) log) []
