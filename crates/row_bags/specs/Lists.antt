-- Rows in a list, and what it becomes when rows leave and enter.
use Rattle.std.specs.Prelude.{◌≡◌, ℕ, ℤ, ◌≤◌, Bool, false, cond, Option, List, [], ◌∷◌, ◌++◌}
use Rattle.std.specs.Prelude.{length, take, drop}
use Rattle.values.specs.declared.TheConstants.{MAX_COLUMNS}
use Rattle.values.specs.Row.{Row, row_cmp}
use Rattle.values.specs.Bag.{is_same, is_above}
use Rattle.row_bags.specs.Deltas.{PlainDelta}

-- rows of these widths, their values one behind the other
abbrev pub rows_by : List ℕ → List (Option ℤ) → List Row
rows_by [] values = []
rows_by (w ∷ ws) values = take w values ∷ rows_by ws (drop w values)

-- each row has its values, and no more than a row may have; none are left over
abbrev pub AreCut : List ℕ → List (Option ℤ) → Type 0
AreCut [] values = values ≡ []
AreCut (w ∷ ws) values = (w ≤ MAX_COLUMNS) × (w ≤ length values) × AreCut ws (drop w values)

-- whether the row stands first in the list
abbrev pub is_first : Row → List Row → Bool
is_first x [] = false
is_first x (y ∷ ys) = is_same row_cmp x y

-- rows without those that left, each of which is found where it stands in order
abbrev pub staying : List Row → List Row → List Row
staying [] left = []
staying (x ∷ xs) left = cond (is_first x left) (staying xs (drop 1 left)) (x ∷ staying xs left)

-- from the front on, the rows that are not above x, and those behind them
abbrev pub up_to : Row → List Row → List Row
up_to x [] = []
up_to x (y ∷ ys) = cond (is_above row_cmp y x) [] (y ∷ up_to x ys)

abbrev pub past : Row → List Row → List Row
past x [] = []
past x (y ∷ ys) = cond (is_above row_cmp y x) (y ∷ ys) (past x ys)

-- two lists in order as one
abbrev pub merged : List Row → List Row → List Row
merged [] ys = ys
merged (x ∷ xs) ys = up_to x ys ++ x ∷ merged xs (past x ys)

-- the rows that stay and those that entered
abbrev pub renewed : List Row → PlainDelta → List Row
renewed rows n = merged (staying rows n.left) n.entered

-- the rows behind those that are below x
abbrev pub not_below : Row → List Row → List Row
not_below x [] = []
not_below x (y ∷ ys) = cond (is_above row_cmp x y) (not_below x ys) (y ∷ ys)

-- of two lists in order, the rows of the first beyond those of the second
abbrev pub beyond : List Row → List Row → List Row
beyond [] ys = []
beyond (x ∷ xs) ys = cond (is_first x (not_below x ys)) (beyond xs (drop 1 (not_below x ys)))
    (x ∷ beyond xs (not_below x ys))

-- the same, where the walk stands at a row of the first that is beyond
abbrev pub beyond_at : List Row → List Row → List Row
beyond_at [] ys = []
beyond_at (x ∷ xs) ys = x ∷ beyond xs ys

-- the same from these places on
abbrev pub beyond_from : ℕ × ℕ → List Row → List Row → List Row
beyond_from p xs ys = beyond_at (drop p.0 xs) (drop p.1 ys)

-- neither place is past its list
abbrev pub AreWithin : ℕ × ℕ → List Row → List Row → Type 0
AreWithin p xs ys = (p.0 ≤ length xs) × (p.1 ≤ length ys)
