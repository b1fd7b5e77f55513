-- The definitions at worked examples.
use Rattle.std.specs.Prelude.{◌≡◌, ℕ, Bool, true, false, Some, pos, List, [], ◌∷◌, ◌++◌, drop, refl}
use Rattle.values.specs.Row.{Row}
use Rattle.values.specs.Window.{Element}
use Rattle.op_queue.specs.Entries.{RowAt, TickAt, front_of}
use Rattle.op_queue.specs.Items.{entries_of, ticks}
use Rattle.op_queue.specs.Logs.{Closed, cursor_entries, log_entries}
use Rattle.op_queue.specs.Queues.{at_once, each_begins, first_begins, last_entry, pieces_of}
use Rattle.op_queue.specs.Queues.{run_pieces}
use Rattle.op_queue.specs.declared.item.Item.TheVariants.{Rows}
use Rattle.op_queue.specs.declared.queue.Front.TheVariants as front

-- a row of one number
abbrev row : ℕ → Row
row n = Some (pos n) ∷ []

abbrev element : ℕ → ℕ → ℕ → Element
element arrival instant n = record { arrival = arrival; instant = instant; row = row n }

run_of_ticks : ticks 3 5 ≡ TickAt 3 ∷ TickAt 4 ∷ TickAt 5 ∷ []
run_of_ticks = refl

row_in_front : front_of (RowAt 2 (true, row 7) ∷ TickAt 2 ∷ []) ≡ Some (front.Row 2)
row_in_front = refl

-- the instants 0 to 3 are closed; the third row came last, at an instant in between
abbrev log : Closed
log = record { width = 1; elements = element 0 1 5 ∷ element 2 1 6 ∷ element 1 3 7 ∷ []; until = 4 }

-- a query that was registered before all of them, at the base -1
first_query : log_entries 0 0 log
    ≡ TickAt 0 ∷ RowAt 1 (true, row 5) ∷ RowAt 1 (true, row 6) ∷ TickAt 1 ∷ TickAt 2
    ∷ RowAt 3 (true, row 7) ∷ TickAt 3 ∷ []
first_query = refl

-- one that was registered after the first row, at the base 0
after_the_first_row : log_entries 1 1 log
    ≡ RowAt 1 (true, row 6) ∷ TickAt 1 ∷ TickAt 2 ∷ RowAt 3 (true, row 7) ∷ TickAt 3 ∷ []
after_the_first_row = refl

-- a row at the base does not show
above_the_base : log_entries 0 2 log ≡ TickAt 2 ∷ RowAt 3 (true, row 7) ∷ TickAt 3 ∷ []
above_the_base = refl

-- one row of the first query's second instant has left
a_row_has_left : cursor_entries (record { place = 0; at = 1; passed = 1; hint = 0 }) log
    ≡ RowAt 1 (true, row 6) ∷ TickAt 1 ∷ TickAt 2 ∷ RowAt 3 (true, row 7) ∷ TickAt 3 ∷ []
a_row_has_left = refl

-- a tick, three rows of a batch, and two rows of another
abbrev marks : List Bool
marks = true ∷ true ∷ false ∷ false ∷ true ∷ false ∷ []

a_tick_comes_out : at_once marks ≡ 1
a_tick_comes_out = refl

a_batch_comes_out : at_once (drop 1 marks) ≡ 3
a_batch_comes_out = refl

the_rest_of_a_batch_comes_out : at_once (drop 3 marks) ≡ 1
the_rest_of_a_batch_comes_out = refl

a_batch_and_two_ticks : first_begins (entries_of (Rows 2 ((true, row 5) ∷ (false, row 6) ∷ [])))
    ++ each_begins (ticks 2 3) ≡ true ∷ false ∷ true ∷ true ∷ []
a_batch_and_two_ticks = refl

-- two batches, a run of two ticks, and a tick that does not follow them
two_batches_and_two_runs : pieces_of
    (RowAt 2 (true, row 5) ∷ RowAt 2 (false, row 6) ∷ RowAt 2 (true, row 7) ∷ TickAt 2 ∷ TickAt 3
    ∷ TickAt 5 ∷ []) (true ∷ false ∷ true ∷ true ∷ true ∷ true ∷ []) ≡ 4
two_batches_and_two_runs = refl

the_rest_of_a_batch_is_a_piece :
    pieces_of (RowAt 2 (false, row 6) ∷ TickAt 2 ∷ []) (false ∷ true ∷ []) ≡ 2
the_rest_of_a_batch_is_a_piece = refl

a_run_goes_on : run_pieces (last_entry (ticks 3 5)) 6 ≡ 0
a_run_goes_on = refl

a_run_of_its_own : run_pieces (last_entry (ticks 3 5)) 7 ≡ 1
a_run_of_its_own = refl
