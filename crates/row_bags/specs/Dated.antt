-- Rows with their instants, one behind the other.
use Rattle.std.specs.Prelude.{◌≡◌, ℕ, ℤ, ◌≤◌, ◌+◌, Option, List, [], ◌∷◌, length, take, drop}
use Rattle.values.specs.declared.TheConstants.{MAX_COLUMNS}
use Rattle.values.specs.Row.{Row}
use Rattle.row_bags.specs.declared.dated_rows.DatedHead.{DatedHead}

-- the row of each head, with its instant
abbrev pub dated_by : List DatedHead → List (Option ℤ) → List (ℕ × Row)
dated_by [] values = []
dated_by (h ∷ hs) values = (h.instant, take h.width values) ∷ dated_by hs (drop h.width values)

-- each row has its values, and no more than a row may have; none are left over
abbrev pub AreHeaded : List DatedHead → List (Option ℤ) → Type 0
AreHeaded [] values = values ≡ []
AreHeaded (h ∷ hs) values = (h.width ≤ MAX_COLUMNS) × (h.width ≤ length values)
    × AreHeaded hs (drop h.width values)

-- how many values the rows have together
abbrev pub count_values : List DatedHead → ℕ
count_values [] = 0
count_values (h ∷ hs) = h.width + count_values hs
