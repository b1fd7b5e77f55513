-- Rows on their way into a log, kept flat.
use Rattle.std.specs.Prelude.{◌≡◌, ℕ, ℤ, ◌*◌, Option, List, length}
use Rattle.values.specs.Window.{Element}
use Rattle.op_queue.specs.Tables.{arrived}

-- how many columns the rows have, and the rows
pub record Arrived : Type 0 where
  pub width : ℕ
  pub elements : List Element

abbrev pub arrivals_in : ℕ → List ℕ → List ℕ → List (Option ℤ) → Arrived
arrivals_in width instants numbers values =
    record { width = width; elements = arrived width instants numbers values }

-- as many numbers and values as there are rows
pub record IsArrived (width : ℕ) (instants numbers : List ℕ)
    (values : List (Option ℤ)) : Type 0 where
  pub counted : length numbers ≡ length instants
  pub full : length values ≡ length instants * width
