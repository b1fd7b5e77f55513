-- How a window keeps what it holds: the values of its
-- rows one behind the other, and their instants as runs.
use Rattle.std.specs.Prelude.{ℕ, zero, suc, ◌*◌, ◌<◌, ◌≤◌, ◌≡◌, ℤ, Option, List, [], ◌∷◌, length}
use Rattle.std.specs.Prelude.{take, drop, replicate}
use Rattle.std.specs.List.{All, flat_map, zip}
use Rattle.values.specs.declared.TheConstants.{MAX_COLUMNS}
use Rattle.values.specs.Row.{Row}
use Rattle.windows.specs.declared.runs.Run.{Run}

-- rows, and how many columns each of them has
pub record WideRows : Type 0 where
  pub width : ℕ
  pub rows : List Row

-- the same with the instant of each row
pub record HeldState : Type 0 where
  pub width : ℕ
  pub held : List (ℕ × Row)

-- the first w values are the first row, the next w the second, and so on to the row n
abbrev pub cut_rows : ℕ → ℕ → List (Option ℤ) → List Row
cut_rows w zero values = []
cut_rows w (suc n) values = take w values ∷ cut_rows w n (drop w values)

-- there are as many values as n rows of w columns have, and a row has at most MAX_COLUMNS
pub record IsFlat (w n : ℕ) (values : List (Option ℤ)) : Type 0 where
  pub size : length values ≡ n * w
  pub narrow : 0 < n → w ≤ MAX_COLUMNS

-- the instant of each run as often as the run counts
abbrev pub instants_in : List Run → List ℕ
instants_in runs = flat_map (λ r. replicate r.count r.instant) runs

-- every run counts something
abbrev pub AreRuns : List Run → Type 0
AreRuns runs = All (λ r. 0 < r.count) runs

-- each row has its instant
pub record IsHeld (runs : List Run) (rows : List Row) : Type 0 where
  pub counted : AreRuns runs
  pub same : length (instants_in runs) ≡ length rows

-- each row beside its instant
abbrev pub held_in : WideRows → List Run → HeldState
held_in r runs = record { width = r.width; held = zip (instants_in runs) r.rows }
