-- How a log is kept: lists of instants and arrival numbers, and a list of values for each column.
use Rattle.std.specs.Prelude.{◌≡◌, ℕ, ℤ, ◌<◌, ◌≤◌, ◌+◌, ◌*◌, Option, None, List, [], ◌∷◌, ◌++◌}
use Rattle.std.specs.Prelude.{length, map, take, drop, get_or}
use Rattle.std.specs.Global.{Vec}
use Rattle.std.specs.List.{All, range_with_len}
use Rattle.column.specs.Rows.{row_at}
use Rattle.values.specs.declared.TheConstants.{MAX_COLUMNS}
use Rattle.values.specs.Window.{Element}
use Rattle.op_queue.specs.Logs.{Closed}
use Rattle.op_queue.specs.Closings.{IsInOrder}

-- rows as they are handed to the log: the instants, the
-- numbers, and the values, one row's behind another's
abbrev pub arrived : ℕ → List ℕ → List ℕ → List (Option ℤ) → List Element
arrived width [] numbers values = []
arrived width (t ∷ instants) [] values = []
arrived width (t ∷ instants) (n ∷ numbers) values =
    record { arrival = n; instant = t; row = take width values }
    ∷ arrived width instants numbers (drop width values)

-- of so many rows that are given one behind another, the values of column k
abbrev pub column_of : ℕ → ℕ → ℕ → List (Option ℤ) → List (Option ℤ)
column_of width k count values =
    map (λ i. get_or values (i * width + k) None) (range_with_len 0 count)

abbrev pub lists : List (Vec (Option ℤ)) → List (List (Option ℤ))
lists columns = map (λ c. c.items) columns

abbrev pub element_at : List ℕ → List ℕ → List (List (Option ℤ)) → ℕ → Element
element_at instants numbers columns i =
    record { arrival = get_or numbers i 0; instant = get_or instants i 0; row = row_at columns i }

-- the first n elements
abbrev pub elements_in : ℕ → List ℕ → List ℕ → List (List (Option ℤ)) → List Element
elements_in n instants numbers columns =
    map (element_at instants numbers columns) (range_with_len 0 n)

-- each list has at least n items
pub record IsTableOf (n : ℕ) (instants numbers : List ℕ)
    (columns : List (List (Option ℤ))) : Type 0 where
  pub has_instants : n ≤ length instants
  pub has_numbers : n ≤ length numbers
  pub has_values : All (λ c. n ≤ length c) columns
  pub narrow : length columns ≤ MAX_COLUMNS

pub record IsLog (n : ℕ) (instants numbers : List ℕ) (columns : List (List (Option ℤ)))
    (until : ℕ) : Type 0 where
  pub table : IsTableOf n instants numbers columns
  pub ordered : IsInOrder (elements_in n instants numbers columns)
  pub closed : All (λ e. e.instant < until) (elements_in n instants numbers columns)

-- the first n values of each column stay
pub record KeepsFirst (n : ℕ) (old new : List (List (Option ℤ))) : Type 0 where
  pub width : length new ≡ length old
  pub same : (k : ℕ) → take n (get_or new k []) ≡ take n (get_or old k [])

-- behind the first n of each column stand these values
pub record IsLonger (n : ℕ) (more_of : ℕ → List (Option ℤ))
    (old new : List (List (Option ℤ))) : Type 0 where
  pub more : (k : ℕ) → k < length old → get_or new k [] ≡ take n (get_or old k []) ++ more_of k

-- the numbers from the place `start` to below the place `end` never fall
abbrev pub IsRising : List ℕ → ℕ → ℕ → Type 0
IsRising ns start end = (i j : ℕ) → start ≤ i → i ≤ j → j < end → get_or ns i 0 ≤ get_or ns j 0

abbrev pub closed_in : ℕ → List ℕ → List ℕ → List (List (Option ℤ)) → ℕ → Closed
closed_in n instants numbers columns until =
    record {
      width = length columns;
      elements = elements_in n instants numbers columns;
      until = until;
    }
