-- How a stream is stored: a log of what is closed, the open rows, and how many rows came.
use Rattle.std.specs.Prelude.{◌≡◌, ℕ, ◌<◌, ◌≤◌, ◌+◌, List, [], ◌∷◌, ◌++◌, length}
use Rattle.std.specs.List.{AllByRecursion}
use Rattle.values.specs.Window.{Element}
use Rattle.op_queue.specs.Logs.{Closed}
use Rattle.op_queue.specs.Closings.{IsInOrder}
use Rattle.reference.specs.Machine.{Stream}
use Rattle.stream_store.specs.Closing.{by_key}

-- the elements came one after the other: their numbers of arrival rise
abbrev pub IsByArrival : List Element → Type 0
IsByArrival [] = Unit {0}
IsByArrival (e ∷ es) = AllByRecursion (λ f. e.arrival < f.arrival) es × IsByArrival es

-- the stream as the machine knows it: its elements by arrival
abbrev pub stream_in : List ℕ → List (List ℕ) → ℕ → Closed → List Element → Stream
stream_in name columns arrivals closed rows = record {
  name = name;
  columns = columns;
  elements = by_key (λ e. e.arrival) 0 arrivals (closed.elements ++ rows);
  arrivals = arrivals;
  first_open = closed.until;
}

pub record IsStored (columns arrivals : ℕ) (closed : Closed) (rows : List Element) : Type 0 where
  pub few : columns ≤ 8
  pub width : closed.width ≡ columns
  pub counted : arrivals ≤ 1073741824
  pub held : length closed.elements + length rows ≤ arrivals
  pub range : closed.until ≤ 1099511627777
  pub ordered : IsInOrder rows
  pub opened : AllByRecursion (λ (e : Element). closed.until ≤ e.instant) rows
  pub wide : AllByRecursion (λ (e : Element). length e.row ≡ columns) rows
  pub numbered : AllByRecursion (λ (e : Element). e.arrival < arrivals) rows
  pub full : AllByRecursion (λ (e : Element). length e.row ≡ columns) closed.elements
  pub came : AllByRecursion (λ (e : Element). e.arrival < arrivals) closed.elements
