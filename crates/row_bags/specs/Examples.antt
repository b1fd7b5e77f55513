-- The definitions at worked examples.
use Rattle.std.specs.Prelude.{◌≡◌, ℕ, true, false, Some, None, pos, [], ◌∷◌, refl, filter}
use Rattle.values.specs.Row.{Row}
use Rattle.row_bags.specs.Bags.{bag_after, is_front}
use Rattle.row_bags.specs.Deltas.{deltas_after}

-- a row of one number
abbrev row : ℕ → Row
row n = Some (pos n) ∷ []

abbrev pair : ℕ → ℕ → Row
pair m n = Some (pos m) ∷ Some (pos n) ∷ []

-- 5 comes twice and leaves once; 9 leaves and was not there
in_order_with_repeats : bag_after []
    ((true, row 7) ∷ (true, row 5) ∷ (true, row 5) ∷ (true, None ∷ []) ∷ (false, row 5)
    ∷ (false, row 9) ∷ []) ≡ (None ∷ []) ∷ row 5 ∷ row 7 ∷ []
in_order_with_repeats = refl

-- 5 leaves and comes again, 6 comes, 7 leaves
cut_by_each_other : deltas_after (record { entered = []; left = [] })
    ((false, row 5) ∷ (true, row 6) ∷ (true, row 5) ∷ (false, row 7) ∷ [])
    ≡ record { entered = row 6 ∷ []; left = row 7 ∷ [] }
cut_by_each_other = refl

rows_of_a_key : filter (is_front (row 2)) (pair 1 2 ∷ pair 2 1 ∷ pair 2 2 ∷ pair 3 2 ∷ [])
    ≡ pair 2 1 ∷ pair 2 2 ∷ []
rows_of_a_key = refl
