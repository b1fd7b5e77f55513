-- Closed rows as columns of what a stream of the machine has closed.
use Rattle.std.specs.Prelude.{◌≡◌, ℕ, List, length, map}
use Rattle.std.specs.List.{AllByRecursion, range_with_len}
use Rattle.values.specs.Row.{value_at}
use Rattle.values.specs.Window.{Element}
use Rattle.reference.specs.Machine.{Stream}
use Rattle.stream_store.specs.Closing.{closed_of}
use Rattle.stream_store.specs.Stored.{IsByArrival}
use Rattle.needed_rows.specs.declared.reader.ClosedRows.{ClosedRows}
use Rattle.needed_rows.specs.Needed.{AreInOrder, elements_of, lists}

-- the elements of the stream came one after the other, and are as wide as its columns
pub record IsRegular (s : Stream) : Type 0 where
  pub arrival : IsByArrival s.elements
  pub wide : AllByRecursion (λ e. length e.row ≡ length s.columns) s.elements

-- the instants, numbers and columns of these elements
pub record AreColumns (width : ℕ) (es : List Element) (rows : ClosedRows) : Type 0 where
  pub instants : rows.instants.now ≡ map (λ e. e.instant) es
  pub numbers : rows.numbers.now ≡ map (λ e. e.arrival) es
  pub columns : lists rows.columns.now
      ≡ map (λ k. map (λ e. value_at e.row k) es) (range_with_len 0 width)

-- such rows stand in order, and are what the stream has closed
pub record StandFor (s : Stream) (rows : ClosedRows) : Type 0 where
  pub order : AreInOrder rows
  pub elements : elements_of rows ≡ (closed_of s).elements
