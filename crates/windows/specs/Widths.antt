-- How many columns rows have.
use Rattle.std.specs.Prelude.{ℕ, ◌≡◌, ℤ, Option, Bool, List, length}
use Rattle.std.specs.List.{All}
use Rattle.arrayvec.specs.ArrayVec.{ArrayVec}
use Rattle.values.specs.Row.{Row}
use Rattle.column.specs.Rows.{width}
use Rattle.op_queue.specs.declared.item.Item.{Item}
use Rattle.op_queue.specs.declared.item.Item.TheVariants.{Rows, Tick}

-- a row of the code, and its values
abbrev pub OneRow : Type 0
OneRow = ArrayVec (Option ℤ)

abbrev pub AreWide : ℕ → List Row → Type 0
AreWide w rows = All (λ r. length r ≡ w) rows

-- all rows have as many columns, whatever their number
abbrev pub HaveOneWidth : List (Bool × Row) → Type 0
HaveOneWidth rows = (w : ℕ) × All (λ r. length r.1 ≡ w) rows

-- the item's rows have this many columns
abbrev pub IsItemWide : ℕ → Item → Type 0
IsItemWide w (Rows t b) = width b ≡ w
IsItemWide w (Tick t) = Unit {0}
