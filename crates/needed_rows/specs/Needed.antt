-- Which elements of a stream the sources of running queries need.
use Rattle.std.specs.Prelude.{◌≡◌, ℕ, ℤ, ◌<◌, Bool, ◌&&◌, nat_le, Option, List, length, map, get_or}
use Rattle.std.specs.Borrow.{Bor}
use Rattle.std.specs.List.{list_any}
use Rattle.values.specs.Window.{Element, Window, input_of}
use Rattle.values.specs.Needs.{is_needed}
use Rattle.values.specs.Resolved.{window_of}
use Rattle.op_queue.specs.Tables.{IsRising, element_at, elements_in}
use Rattle.needed_rows.specs.declared.reader.Reader.{Reader}
use Rattle.needed_rows.specs.declared.reader.ClosedRows.{ClosedRows}

-- a source of a running query: the number in the order of arrival from which on elements are
-- in its input, the first instant of that, the instant after the query's mark, and its window
pub record PlainReader : Type 0 where
  pub place : ℕ
  pub first : ℕ
  pub next : ℕ
  pub window : Window

-- the element is in its input
abbrev pub is_in_input : PlainReader → Element → Bool
is_in_input r e = nat_le r.place e.arrival && nat_le r.first e.instant

-- THE RULE: of the elements es of the stream, e is in its input, and above the mark or still shown
abbrev pub is_needed_by : List Element → PlainReader → Element → Bool
is_needed_by es r e = is_in_input r e
    && is_needed r.first r.window r.next (input_of r.place r.first es) e

-- some source needs it
abbrev pub is_needed_by_some : List Element → List PlainReader → Element → Bool
is_needed_by_some es readers e = list_any (λ r. is_needed_by es r e) readers

-- WHAT THE CODE HAS
abbrev pub reader_in : Reader → PlainReader
reader_in r = record {
  place = r.place;
  first = r.first;
  next = r.next;
  window = window_of r.window.now;
}

abbrev pub readers_in : List Reader → List PlainReader
readers_in readers = map reader_in readers

-- the reader with this window
abbrev pub with_window : Reader → Window → PlainReader
with_window r w = record { place = r.place; first = r.first; next = r.next; window = w }

abbrev pub lists : List (Bor (List (Option ℤ))) → List (List (Option ℤ))
lists columns = map (λ c. c.now) columns

-- the closed elements
abbrev pub element_in : ClosedRows → ℕ → Element
element_in rows i = element_at rows.instants.now rows.numbers.now (lists rows.columns.now) i

abbrev pub elements_of : ClosedRows → List Element
elements_of rows = elements_in (length rows.instants.now) rows.instants.now rows.numbers.now
    (lists rows.columns.now)

-- the reader needs the element at the place
abbrev pub needs_at : ClosedRows → PlainReader → ℕ → Bool
needs_at rows r i = is_needed_by (elements_of rows) r (element_in rows i)

-- they stand by instant, then by number, of which no two are one in an instant
pub record AreInOrder (rows : ClosedRows) : Type 0 where
  pub numbers : length rows.numbers.now ≡ length rows.instants.now
  pub rising : IsRising rows.instants.now 0 (length rows.instants.now)
  pub apart : (i j : ℕ) → i < j → j < length rows.instants.now
      → get_or rows.instants.now i 0 ≡ get_or rows.instants.now j 0
      → get_or rows.numbers.now i 0 < get_or rows.numbers.now j 0
